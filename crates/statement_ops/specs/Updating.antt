-- The update command that the driver builds: its one statement, and its body.
use Rattle.std.specs.Prelude.{ℕ, Bool, true, List, [], ◌∷◌, ◌++◌}
use Rattle.bson_lite.specs.declared.bson.Bson.{Bson}
use Rattle.bson_lite.specs.declared.bson.Bson as bson
use Rattle.bson_lite.specs.declared.document.Pair.{Pair}
use Rattle.bson_lite.specs.declared.namespace.Namespace.{Namespace}
use Rattle.driver_options.specs.declared.updates.UpdateModifications.TheVariants as modifications
use Rattle.driver_options.specs.declared.updates.UpdateOrReplace.{UpdateOrReplace}
use Rattle.driver_options.specs.declared.updates.UpdateOrReplace.TheVariants.{UpdateModifications, Replacement}
use Rattle.driver_options.specs.declared.write_options.UpdateOptions.{UpdateOptions}
use Rattle.wire_keys.specs.declared.keys.TheConstants.{ORDERED, UPDATE, UPDATES}
use Rattle.driver_link.specs.Numbers.{field}
use Rattle.driver_ops.specs.declared.keys.TheConstants.{ARRAY_FILTERS, BYPASS_DOCUMENT_VALIDATION, CHANGE, COLLATION, COMMENT, HINT, LET, MULTI, QUERY, SORT, UPSERT}
use Rattle.driver_ops.specs.OptionFields.{document_in, documents_of, documents_value, flag_of, hint_of, option_field, where_true}

-- what an update does, as a value: operators or a whole document, or the stages of a pipeline
abbrev pub change_value : UpdateOrReplace → Bson
change_value (UpdateModifications (modifications.Document document)) = bson.Document document
change_value (UpdateModifications (modifications.Pipeline stages)) = documents_value stages
change_value (Replacement document) = bson.Document document

-- the statement: the filter, the change, the options in their order, and that it changes all of the documents found
unfoldable pub update_statement : List (Pair Bson) → UpdateOrReplace → Bool → UpdateOptions → List (Pair Bson)
update_statement filter change multi options =
    ((((((field QUERY.now (bson.Document filter) ∷ field CHANGE.now (change_value change) ∷ [])
    ++ option_field UPSERT.now (flag_of options.upsert))
    ++ option_field ARRAY_FILTERS.now (documents_of options.array_filters))
    ++ option_field HINT.now (hint_of options.hint))
    ++ option_field COLLATION.now (document_in options.collation))
    ++ option_field SORT.now (document_in options.sort))
    ++ option_field MULTI.now (where_true multi)

-- the options of the command, before its statement
unfoldable pub update_head : List ℕ → UpdateOptions → List (Pair Bson)
update_head collection options =
    (((field UPDATE.now (bson.String collection) ∷ [])
    ++ option_field BYPASS_DOCUMENT_VALIDATION.now (flag_of options.bypass_document_validation))
    ++ option_field LET.now (document_in options.let_vars))
    ++ option_field COMMENT.now options.comment

-- the body: the collection, the options of the command, the one statement
unfoldable pub update_command : Namespace → List (Pair Bson) → UpdateOptions → List (Pair Bson)
update_command namespace statement options =
    update_head namespace.coll options ++ field UPDATES.now (bson.Array (bson.Document statement ∷ [])) ∷ field ORDERED.now (bson.Boolean true) ∷ []
