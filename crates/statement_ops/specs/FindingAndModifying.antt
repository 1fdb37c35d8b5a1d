-- The findAndModify command that the driver builds: its body, which is its one write too.
use Rattle.std.specs.Prelude.{ℕ, true, List, [], ◌∷◌, ◌++◌}
use Rattle.bson_lite.specs.declared.bson.Bson.{Bson}
use Rattle.bson_lite.specs.declared.bson.Bson as bson
use Rattle.bson_lite.specs.declared.document.Pair.{Pair}
use Rattle.bson_lite.specs.declared.namespace.Namespace.{Namespace}
use Rattle.driver_options.specs.declared.find_options.FindAndModifyOptions.{FindAndModifyOptions}
use Rattle.driver_options.specs.declared.updates.Modification.{Modification}
use Rattle.driver_options.specs.declared.updates.Modification.TheVariants.{Delete, Update}
use Rattle.wire_keys.specs.declared.keys.TheConstants.{FIND_AND_MODIFY, UPDATE}
use Rattle.driver_link.specs.Numbers.{field}
use Rattle.driver_ops.specs.declared.keys.TheConstants.{ARRAY_FILTERS, BYPASS_DOCUMENT_VALIDATION, COLLATION, COMMENT, FIELDS, FIND_QUERY, HINT, LET, MAX_TIME, NEW, REMOVE, SORT, UPSERT}
use Rattle.driver_ops.specs.ConcernFields.{number_of}
use Rattle.driver_ops.specs.OptionFields.{document_in, documents_of, flag_of, hint_of, option_field}
use Rattle.statement_ops.specs.Updating.{change_value}

-- what is done to the document that is found: it is taken out, or else changed or replaced
abbrev pub modification_field : Modification → Pair Bson
modification_field Delete = field REMOVE.now (bson.Boolean true)
modification_field (Update change) = field UPDATE.now (change_value change)

-- the collection, the filter, and what is done to the document that it finds
unfoldable pub find_head : List ℕ → List (Pair Bson) → Modification → List (Pair Bson)
find_head collection filter modification =
    field FIND_AND_MODIFY.now (bson.String collection) ∷ field FIND_QUERY.now (bson.Document filter) ∷ modification_field modification ∷ []

-- behind it which document is changed and which is answered, how it is changed, and how long that may take
unfoldable pub find_front : List ℕ → List (Pair Bson) → Modification → FindAndModifyOptions → List (Pair Bson)
find_front collection filter modification options =
    (((((find_head collection filter modification
    ++ option_field SORT.now (document_in options.sort))
    ++ option_field NEW.now (flag_of options.new))
    ++ option_field UPSERT.now (flag_of options.upsert))
    ++ option_field BYPASS_DOCUMENT_VALIDATION.now (flag_of options.bypass_document_validation))
    ++ option_field ARRAY_FILTERS.now (documents_of options.array_filters))
    ++ option_field MAX_TIME.now (number_of options.max_time)

-- the body: that front, and the other options in their order
unfoldable pub find_command : Namespace → List (Pair Bson) → Modification → FindAndModifyOptions → List (Pair Bson)
find_command namespace filter modification options =
    ((((find_front namespace.coll filter modification options
    ++ option_field FIELDS.now (document_in options.projection))
    ++ option_field COLLATION.now (document_in options.collation))
    ++ option_field HINT.now (hint_of options.hint))
    ++ option_field LET.now (document_in options.let_vars))
    ++ option_field COMMENT.now options.comment
