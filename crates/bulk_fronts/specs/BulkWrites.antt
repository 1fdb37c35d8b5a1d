-- The bulkWrite command that the driver builds: its body, the namespaces, and the ops.
use Rattle.std.specs.Prelude.{◌≡◌, ℕ, ◌<◌, ◌≤◌, pos, Bool, true, not, List, [], ◌∷◌, ◌++◌, length, map, take, unwrap_or}
use Rattle.bson_lite.specs.declared.bson.Bson.{Bson}
use Rattle.bson_lite.specs.declared.bson.Bson as bson
use Rattle.bson_lite.specs.declared.document.Pair.{Pair}
use Rattle.bson_lite.specs.Spelling.{HasSpelling, spelling}
use Rattle.driver_options.specs.declared.write_options.BulkWriteOptions.{BulkWriteOptions}
use Rattle.driver_link.specs.declared.frame.Sequence.{Sequence}
use Rattle.wire_keys.specs.declared.keys.TheConstants.{ADMIN, BULK_WRITE, NAMESPACES, OPS, ORDERED}
use Rattle.driver_link.specs.Numbers.{field}
use Rattle.driver_ops.specs.declared.command.Command.{Command}
use Rattle.driver_ops.specs.declared.keys.TheConstants.{BYPASS_DOCUMENT_VALIDATION, COMMENT, ERRORS_ONLY, LET}
use Rattle.driver_ops.specs.OptionFields.{document_in, flag_of, option_field}
use Rattle.bulk_fronts.specs.declared.own_op.OwnOp.{OwnOp}
use Rattle.bulk_fronts.specs.BulkOps.{namespace_document, numbered}
use Rattle.bulk_fronts.specs.Distinct.{distinct, number_of}

-- a bulk write stops at the first write that fails, unless its options say that it goes on
abbrev pub bulk_is_ordered : BulkWriteOptions → Bool
bulk_is_ordered options = unwrap_or options.ordered true

-- the body, without the executor's fields: it asks for the results of the ops that failed alone, unless that of each op is wanted
unfoldable pub bulk_command : BulkWriteOptions → Bool → List (Pair Bson)
bulk_command options verbose =
    ((((field BULK_WRITE.now (bson.Int32 (pos 1)) ∷ field ORDERED.now (bson.Boolean (bulk_is_ordered options)) ∷ [])
    ++ option_field BYPASS_DOCUMENT_VALIDATION.now (flag_of options.bypass_document_validation))
    ++ option_field COMMENT.now options.comment)
    ++ option_field LET.now (document_in options.let_vars))
    ++ field ERRORS_ONLY.now (bson.Boolean (not verbose)) ∷ []

-- the texts of the namespaces of ops, each once, in the order of the first op on each
abbrev pub op_namespaces : List OwnOp → List (List ℕ)
op_namespaces ops = distinct (map (λ (own : OwnOp). own.namespace) ops)

-- the documents that describe namespaces, in bytes
abbrev pub described : List (List ℕ) → List (List ℕ)
described texts = map (λ text. spelling (namespace_document text)) texts

-- each of these texts can be described
abbrev pub AreDescribed : List (List ℕ) → Type 0
AreDescribed [] = Unit {0}
AreDescribed (text ∷ texts) = HasSpelling (namespace_document text) × AreDescribed texts

-- ops in bytes, each with the number of its namespace among these
abbrev pub numbered_ops : List (List ℕ) → List OwnOp → List (List ℕ)
numbered_ops texts ops = map (λ (own : OwnOp). numbered (number_of texts own.namespace) own.bytes) ops

-- the sequences: the namespaces of the ops, then the ops
abbrev pub AreBulkSequences : List Sequence → List OwnOp → Type 0
AreBulkSequences sequences ops =
    sequences ≡ record { name = NAMESPACES.now; documents = described (op_namespaces ops) }
    ∷ record { name = OPS.now; documents = numbered_ops (op_namespaces ops) ops } ∷ []

-- the command of a bulk write of so many of these ops: on the database of commands that name none of their own, with its options
-- and the front of the ops
pub record IsBulkCommand (own : List OwnOp) (options : BulkWriteOptions) (verbose : Bool) (statements : ℕ) (made : Command) : Type 0 where
  pub some : 0 < statements
  pub within : statements ≤ length own
  pub database : made.database ≡ ADMIN.now
  pub body : made.body ≡ bulk_command options verbose
  pub sequences : AreBulkSequences made.sequences (take statements own)
  pub spelled : AreDescribed (op_namespaces (take statements own))
