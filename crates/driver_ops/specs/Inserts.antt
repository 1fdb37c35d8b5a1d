-- The insert command that the driver builds.
use Rattle.std.specs.Prelude.{◌≡◌, ℕ, ℤ, pos, Bool, true, false, List, [], ◌∷◌, ◌++◌, Option, None, Some, unwrap_or}
use Rattle.std.specs.Option.{option_and_then}
use Rattle.std.specs.Ordering.{int_eq}
use Rattle.bson_lite.specs.declared.bson.Bson.{Bson}
use Rattle.bson_lite.specs.declared.bson.Bson as bson
use Rattle.bson_lite.specs.declared.document.Pair.{Pair}
use Rattle.bson_lite.specs.declared.namespace.Namespace.{Namespace}
use Rattle.bson_lite.specs.Fields.{value_of, int_of}
use Rattle.bson_lite.specs.declared.fault.EncodeFault.{EncodeFault}
use Rattle.bson_lite.specs.Spelling.{refusal}
use Rattle.driver_options.specs.declared.write_options.InsertManyOptions.{InsertManyOptions}
use Rattle.driver_link.specs.declared.frame.Sequence.{Sequence}
use Rattle.wire_keys.specs.declared.keys.TheConstants.{INSERT, ORDERED, DOCUMENTS}
use Rattle.driver_link.specs.declared.machine.Place.{Place}
use Rattle.driver_link.specs.declared.machine.PlacedWrite.{PlacedWrite}
use Rattle.driver_link.specs.declared.machine.WriteKind.TheVariants as write_kind
use Rattle.driver_link.specs.Numbers.{field}
use Rattle.driver_link.specs.Writes.{write_on}
use Rattle.driver_ops.specs.declared.keys.TheConstants.{BYPASS_DOCUMENT_VALIDATION, COMMENT}
use Rattle.driver_ops.specs.Fields.{IsSixteen, SendContext, executor_fields}
use Rattle.driver_ops.specs.OptionFields.{flag_of, option_field}

-- an insert stops at the first document that fails, unless its options say that it goes on
abbrev pub insert_is_ordered : InsertManyOptions → Bool
insert_is_ordered options = unwrap_or options.ordered true

-- the body of the insert command, without the executor's fields
unfoldable pub insert_command : Namespace → InsertManyOptions → List (Pair Bson)
insert_command namespace options =
    (((field INSERT.now (bson.String namespace.coll) ∷ [])
    ++ option_field BYPASS_DOCUMENT_VALIDATION.now (flag_of options.bypass_document_validation))
    ++ field ORDERED.now (bson.Boolean (insert_is_ordered options)) ∷ [])
    ++ option_field COMMENT.now options.comment

-- the body of the insert command, with the executor's fields
unfoldable pub insert_body : Namespace → InsertManyOptions → SendContext → List (Pair Bson)
insert_body namespace options context = insert_command namespace options ++ executor_fields context namespace.db

-- the write that inserts a document
abbrev pub insert_write : Namespace → List (Pair Bson) → Place → PlacedWrite
insert_write namespace document place = record { place = place; written = write_on write_kind.Insert namespace document }

-- the writes that insert documents, each under the place beside it
abbrev pub insert_writes : Namespace → List (List (Pair Bson)) → List Place → List PlacedWrite
insert_writes namespace [] places = []
insert_writes namespace (document ∷ documents) [] = []
insert_writes namespace (document ∷ documents) (place ∷ places) = insert_write namespace document place ∷ insert_writes namespace documents places

-- the one sequence of documents, as their bytes
abbrev pub IsOneSequence : List Sequence → List (List ℕ) → Type 0
IsOneSequence sequences documents = sequences ≡ record { name = DOCUMENTS.now; documents = documents } ∷ []

-- the number is one
abbrev pub is_one : Option ℤ → Bool
is_one None = false
is_one (Some number) = int_eq number (pos 1)

-- the whole number at a key
abbrev pub int_at : List ℕ → List (Pair Bson) → Option ℤ
int_at key document = option_and_then int_of (value_of key document)

-- the body of an insert into this namespace, with the executor's fields, has no spelling
pub record BodyRefused (namespace : Namespace) (options : InsertManyOptions) (context : SendContext) (fault : EncodeFault) : Type 0 where
  pub sixteen : IsSixteen context.session
  pub is : refusal (insert_body namespace options context) ≡ Some fault
