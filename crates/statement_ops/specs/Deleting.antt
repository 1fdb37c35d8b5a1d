-- The delete command that the driver builds: its one statement, and its body.
use Rattle.std.specs.Prelude.{ℤ, pos, Bool, true, false, List, [], ◌∷◌, ◌++◌}
use Rattle.bson_lite.specs.declared.bson.Bson.{Bson}
use Rattle.bson_lite.specs.declared.bson.Bson as bson
use Rattle.bson_lite.specs.declared.document.Pair.{Pair}
use Rattle.bson_lite.specs.declared.namespace.Namespace.{Namespace}
use Rattle.driver_options.specs.declared.write_options.DeleteOptions.{DeleteOptions}
use Rattle.wire_keys.specs.declared.keys.TheConstants.{DELETE, DELETES, ORDERED}
use Rattle.driver_link.specs.Numbers.{field}
use Rattle.driver_ops.specs.declared.keys.TheConstants.{COLLATION, COMMENT, HINT, LET, LIMIT, QUERY}
use Rattle.driver_ops.specs.OptionFields.{document_in, hint_of, option_field}

-- how many of the documents found are taken out: all at 0
abbrev pub limit_of : Bool → ℤ
limit_of true = pos 0
limit_of false = pos 1

-- the statement: the filter, the limit, the options in their order
unfoldable pub delete_statement : List (Pair Bson) → Bool → DeleteOptions → List (Pair Bson)
delete_statement filter multi options =
    ((field QUERY.now (bson.Document filter) ∷ field LIMIT.now (bson.Int32 (limit_of multi)) ∷ [])
    ++ option_field COLLATION.now (document_in options.collation))
    ++ option_field HINT.now (hint_of options.hint)

-- the body: the collection, the one statement, the options of the command
unfoldable pub delete_command : Namespace → List (Pair Bson) → DeleteOptions → List (Pair Bson)
delete_command namespace statement options =
    ((field DELETE.now (bson.String namespace.coll) ∷ field DELETES.now (bson.Array (bson.Document statement ∷ [])) ∷ field ORDERED.now (bson.Boolean true) ∷ [])
    ++ option_field LET.now (document_in options.let_vars))
    ++ option_field COMMENT.now options.comment
