-- How a script writes the models of a bulk write: each is an object whose one key names what it does.
use Rattle.std.specs.Prelude.{ℕ, if◌then◌else◌, List, [], ◌∷◌, Option, None, bytes_eq}
use Rattle.std.specs.Option.{option_map}
use Rattle.driver_options.specs.declared.models.WriteModel.{WriteModel}
use Rattle.driver_options.specs.declared.models.WriteModel.TheVariants.{DeleteMany, DeleteOne, InsertOne, ReplaceOne, UpdateMany, UpdateOne}
use Rattle.script_parts.specs.declared.keys.TheConstants.{DELETE_MANY, DELETE_ONE, DOC, FILTER, INSERT_ONE, NS, REPLACE_ONE, UPDATE, UPDATE_MANY, UPDATE_ONE, UPSERT}
use Rattle.driver_script.specs.declared.parts.DeleteParts.{DeleteParts}
use Rattle.driver_script.specs.declared.parts.InsertParts.{InsertParts}
use Rattle.driver_script.specs.declared.parts.ReplaceParts.{ReplaceParts}
use Rattle.driver_script.specs.declared.parts.UpdateParts.{UpdateParts}
use Rattle.script_parts.specs.Json.{has_only}
use Rattle.driver_script.specs.Parts.{delete_parts_of, insert_parts_of, replace_parts_of, update_parts_of}
use Rattle.serde_json.specs.Data.{Data, object, no_members, member}

-- the insert of one document, of these parts
abbrev pub insert_one_model : InsertParts → WriteModel
insert_one_model parts = InsertOne (record { namespace = parts.namespace; document = parts.document })

-- an update of one document, with no option but whether a document is put in where none is found
abbrev pub update_one_model : UpdateParts → WriteModel
update_one_model parts = UpdateOne (record {
  namespace = parts.namespace;
  filter = parts.filter;
  update = parts.update;
  array_filters = None;
  collation = None;
  hint = None;
  upsert = parts.upsert;
  sort = None;
})

-- the same of all that its filter finds
abbrev pub update_many_model : UpdateParts → WriteModel
update_many_model parts = UpdateMany (record {
  namespace = parts.namespace;
  filter = parts.filter;
  update = parts.update;
  array_filters = None;
  collation = None;
  hint = None;
  upsert = parts.upsert;
})

-- a replacement of one document, with the same option
abbrev pub replace_one_model : ReplaceParts → WriteModel
replace_one_model parts = ReplaceOne (record {
  namespace = parts.namespace;
  filter = parts.filter;
  replacement = parts.replacement;
  collation = None;
  hint = None;
  upsert = parts.upsert;
  sort = None;
})

-- a delete of one document
abbrev pub delete_one_model : DeleteParts → WriteModel
delete_one_model parts = DeleteOne (record { namespace = parts.namespace; filter = parts.filter; collation = None; hint = None })

-- the same of all that its filter finds
abbrev pub delete_many_model : DeleteParts → WriteModel
delete_many_model parts = DeleteMany (record { namespace = parts.namespace; filter = parts.filter; collation = None; hint = None })

-- the insert of one document: an object with its parts alone, as each model is, so with no session, concern or comment
unfoldable pub insert_one_model_of : Data → Option WriteModel
insert_one_model_of d = if has_only (NS.now ∷ DOC.now ∷ []) d then option_map insert_one_model (insert_parts_of d) else None

-- an object with the parts of an update alone
unfoldable pub updating_of : Data → Option UpdateParts
updating_of d = if has_only (NS.now ∷ FILTER.now ∷ UPDATE.now ∷ UPSERT.now ∷ []) d then update_parts_of d else None

-- an update of one document
unfoldable pub update_one_model_of : Data → Option WriteModel
update_one_model_of d = option_map update_one_model (updating_of d)

-- an update of all that its filter finds
unfoldable pub update_many_model_of : Data → Option WriteModel
update_many_model_of d = option_map update_many_model (updating_of d)

-- a replacement of one document
unfoldable pub replace_one_model_of : Data → Option WriteModel
replace_one_model_of d =
    if has_only (NS.now ∷ FILTER.now ∷ DOC.now ∷ UPSERT.now ∷ []) d then option_map replace_one_model (replace_parts_of d) else None

-- an object with the parts of a delete alone
unfoldable pub deleting_of : Data → Option DeleteParts
deleting_of d = if has_only (NS.now ∷ FILTER.now ∷ []) d then delete_parts_of d else None

-- a delete of one document
unfoldable pub delete_one_model_of : Data → Option WriteModel
delete_one_model_of d = option_map delete_one_model (deleting_of d)

-- a delete of all that its filter finds
unfoldable pub delete_many_model_of : Data → Option WriteModel
delete_many_model_of d = option_map delete_many_model (deleting_of d)

-- the model of an update or a replacement whose parts stand under its name
unfoldable pub update_model_under : List ℕ → Data → Option WriteModel
update_model_under name d =
    if bytes_eq name UPDATE_ONE.now then update_one_model_of d else (
    if bytes_eq name UPDATE_MANY.now then update_many_model_of d else (
    if bytes_eq name REPLACE_ONE.now then replace_one_model_of d else None))

-- the model whose parts stand under its name
unfoldable pub model_under : List ℕ → Data → Option WriteModel
model_under name d =
    if bytes_eq name INSERT_ONE.now then insert_one_model_of d else (
    if bytes_eq name DELETE_ONE.now then delete_one_model_of d else (
    if bytes_eq name DELETE_MANY.now then delete_many_model_of d else update_model_under name d))

-- a model: an object whose one key names it
unfoldable pub model_of : Data → Option WriteModel
model_of (object (member name d no_members)) = model_under name d
model_of d = None
