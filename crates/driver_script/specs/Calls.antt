-- How a script writes its calls: each is an object whose one key names it.
use Rattle.std.specs.Prelude.{ℕ, Bool, false, if◌then◌else◌, List, [], ◌∷◌, Option, None, bytes_eq, unwrap_or}
use Rattle.std.specs.Option.{option_and_then, option_map}
use Rattle.bson_lite.specs.declared.bson.Bson.{Bson}
use Rattle.bson_lite.specs.declared.document.Pair.{Pair}
use Rattle.bson_lite.specs.declared.namespace.Namespace.{Namespace}
use Rattle.driver_options.specs.declared.concerns.WriteConcern.{WriteConcern}
use Rattle.driver_options.specs.declared.find_options.FindOneAndDeleteOptions.{FindOneAndDeleteOptions}
use Rattle.driver_options.specs.declared.find_options.FindOneAndReplaceOptions.{FindOneAndReplaceOptions}
use Rattle.driver_options.specs.declared.find_options.FindOneAndUpdateOptions.{FindOneAndUpdateOptions}
use Rattle.driver_options.specs.declared.updates.UpdateModifications.{UpdateModifications}
use Rattle.driver_options.specs.declared.write_options.BulkWriteOptions.{BulkWriteOptions}
use Rattle.driver_options.specs.declared.write_options.DeleteOptions.{DeleteOptions}
use Rattle.driver_options.specs.declared.write_options.InsertManyOptions.{InsertManyOptions}
use Rattle.driver_options.specs.declared.write_options.UpdateOptions.{UpdateOptions}
use Rattle.driver_script.specs.declared.calls.BulkManner.{BulkManner}
use Rattle.driver_script.specs.declared.calls.DeleteCall.{DeleteCall}
use Rattle.driver_script.specs.declared.calls.SharedOptions.{SharedOptions}
use Rattle.driver_script.specs.declared.parts.DeleteParts.{DeleteParts}
use Rattle.driver_script.specs.declared.parts.InsertParts.{InsertParts}
use Rattle.driver_script.specs.declared.parts.ReplaceParts.{ReplaceParts}
use Rattle.driver_script.specs.declared.parts.UpdateParts.{UpdateParts}
use Rattle.script_parts.specs.declared.keys.TheConstants.{BULK_WRITE, COMMENT, DELETE_MANY, DELETE_ONE, DOC, DOCS, FILTER, FIND_ONE_AND_DELETE, FIND_ONE_AND_REPLACE, FIND_ONE_AND_UPDATE, INSERT_MANY, INSERT_ONE, MODELS, NS, ORDERED, REPLACE_ONE, UPDATE, UPDATE_MANY, UPDATE_ONE, UPSERT, VERBOSE, WRITE_CONCERN}
use Rattle.script_parts.specs.Json.{has_only, list_of, needed_part, optional_part}
use Rattle.driver_script.specs.Models.{model_of}
use Rattle.driver_script.specs.Options.{flag_of, write_concern_of}
use Rattle.driver_script.specs.Parts.{delete_parts_of, insert_parts_of, replace_parts_of, update_of, update_parts_of}
use Rattle.script_parts.specs.Values.{document_of, namespace_of, value_of}
use Rattle.driver_inputs.specs.declared.call.Call.{Call}
use Rattle.driver_inputs.specs.declared.call.Call.TheVariants.{BulkWrite, InsertMany, Single}
use Rattle.driver_inputs.specs.declared.single_write.DeleteWrite.{DeleteWrite}
use Rattle.driver_inputs.specs.declared.single_write.FindAndDelete.{FindAndDelete}
use Rattle.driver_inputs.specs.declared.single_write.FindAndReplace.{FindAndReplace}
use Rattle.driver_inputs.specs.declared.single_write.FindAndUpdate.{FindAndUpdate}
use Rattle.driver_inputs.specs.declared.single_write.InsertWrite.{InsertWrite}
use Rattle.driver_inputs.specs.declared.single_write.ReplaceWrite.{ReplaceWrite}
use Rattle.driver_inputs.specs.declared.single_write.SingleWrite.TheVariants.{DeleteMany, DeleteOne, FindOneAndDelete, FindOneAndReplace, FindOneAndUpdate, InsertOne, ReplaceOne, UpdateMany, UpdateOne}
use Rattle.driver_inputs.specs.declared.single_write.UpdateWrite.{UpdateWrite}
use Rattle.serde_json.specs.Data.{Data, object, no_members, member}

-- the options that every write has: a write concern and a comment
abbrev pub shared_with : Option WriteConcern → Option Bson → SharedOptions
shared_with write_concern comment = record { write_concern = write_concern; comment = comment }

-- the same under their keys of an object; a comment of null is one
unfoldable pub shared_of : Data → Option SharedOptions
shared_of d = option_and_then (λ write_concern. option_map (shared_with write_concern) (optional_part value_of COMMENT.now d)) (optional_part write_concern_of WRITE_CONCERN.now d)

-- the options of an insert, of which these are set
abbrev pub insert_options : Option Bool → SharedOptions → InsertManyOptions
insert_options ordered shared = record {
  ordered = ordered;
  bypass_document_validation = None;
  comment = shared.comment;
  write_concern = shared.write_concern;
}

-- the insert of a document with these parts and options
abbrev pub insert_with : InsertParts → SharedOptions → InsertWrite
insert_with parts shared = record { namespace = parts.namespace; document = parts.document; options = insert_options None shared }

-- an insert of one document: an object with its parts and its options
unfoldable pub insert_one_of : Data → Option Call
insert_one_of d =
    if has_only (NS.now ∷ DOC.now ∷ WRITE_CONCERN.now ∷ COMMENT.now ∷ []) d
    then option_and_then (λ parts. option_map (λ shared. Single (InsertOne (insert_with parts shared)))
    (shared_of d)) (insert_parts_of d)
    else None

-- the options of an insert of many documents, under their keys of an object
unfoldable pub insert_options_of : Data → Option InsertManyOptions
insert_options_of d = option_and_then (λ ordered. option_map (insert_options ordered) (shared_of d)) (optional_part flag_of ORDERED.now d)

-- an insert of many documents: an object with its namespace, the list of the documents, which may be empty, and its options
unfoldable pub insert_many_of : Data → Option Call
insert_many_of d =
    if has_only (NS.now ∷ DOCS.now ∷ ORDERED.now ∷ WRITE_CONCERN.now ∷ COMMENT.now ∷ []) d
    then option_and_then (λ namespace. option_and_then (λ documents. option_map (λ options. InsertMany namespace documents options)
    (insert_options_of d)) (needed_part (list_of document_of) DOCS.now d)) (needed_part namespace_of NS.now d)
    else None

-- the options of a bulk write, of which these are set
abbrev pub bulk_options : Option Bool → SharedOptions → BulkWriteOptions
bulk_options ordered shared = record {
  ordered = ordered;
  bypass_document_validation = None;
  comment = shared.comment;
  write_concern = shared.write_concern;
  let_vars = None;
}

-- how a bulk write is made: with these options, and verbose only where that is said
abbrev pub bulk_manner_with : Option Bool → Option Bool → SharedOptions → BulkManner
bulk_manner_with ordered verbose shared = record { options = bulk_options ordered shared; verbose = unwrap_or verbose false }

-- the same under their keys of an object
unfoldable pub bulk_manner_of : Data → Option BulkManner
bulk_manner_of d =
    option_and_then (λ ordered. option_and_then (λ verbose. option_map (bulk_manner_with ordered verbose)
    (shared_of d)) (optional_part flag_of VERBOSE.now d)) (optional_part flag_of ORDERED.now d)

-- a bulk write: an object with the list of its models, which may be empty, and how it is made
unfoldable pub bulk_write_of : Data → Option Call
bulk_write_of d =
    if has_only (MODELS.now ∷ ORDERED.now ∷ VERBOSE.now ∷ WRITE_CONCERN.now ∷ COMMENT.now ∷ []) d
    then option_and_then (λ models. option_map (λ manner. BulkWrite models manner.options manner.verbose)
    (bulk_manner_of d)) (needed_part (list_of model_of) MODELS.now d)
    else None

-- the options of an update or a replacement, of which these are set
abbrev pub update_options : Option Bool → SharedOptions → UpdateOptions
update_options upsert shared = record {
  upsert = upsert;
  array_filters = None;
  hint = None;
  collation = None;
  bypass_document_validation = None;
  let_vars = None;
  comment = shared.comment;
  sort = None;
  write_concern = shared.write_concern;
}

-- the change of what a filter finds, with these parts and options
abbrev pub update_with : UpdateParts → SharedOptions → UpdateWrite
update_with parts shared = record {
  namespace = parts.namespace;
  filter = parts.filter;
  update = parts.update;
  options = update_options parts.upsert shared;
}

-- the change of what a filter finds: an object with its parts and its options
unfoldable pub update_write_of : Data → Option UpdateWrite
update_write_of d =
    if has_only (NS.now ∷ FILTER.now ∷ UPDATE.now ∷ UPSERT.now ∷ WRITE_CONCERN.now ∷ COMMENT.now ∷ []) d
    then option_and_then (λ parts. option_map (update_with parts) (shared_of d)) (update_parts_of d)
    else None

-- an update of one document
unfoldable pub update_one_of : Data → Option Call
update_one_of d = option_map (λ write. Single (UpdateOne write)) (update_write_of d)

-- an update of all that its filter finds
unfoldable pub update_many_of : Data → Option Call
update_many_of d = option_map (λ write. Single (UpdateMany write)) (update_write_of d)

-- the replacement of a document, with these parts and options
abbrev pub replace_with : ReplaceParts → SharedOptions → ReplaceWrite
replace_with parts shared = record {
  namespace = parts.namespace;
  filter = parts.filter;
  replacement = parts.replacement;
  options = update_options parts.upsert shared;
}

-- a replacement of one document: an object with its parts and its options
unfoldable pub replace_one_of : Data → Option Call
replace_one_of d =
    if has_only (NS.now ∷ FILTER.now ∷ DOC.now ∷ UPSERT.now ∷ WRITE_CONCERN.now ∷ COMMENT.now ∷ []) d
    then option_and_then (λ parts. option_map (λ shared. Single (ReplaceOne (replace_with parts shared)))
    (shared_of d)) (replace_parts_of d)
    else None

-- the options of a delete, of which these are set
abbrev pub delete_options : SharedOptions → DeleteOptions
delete_options shared = record {
  collation = None;
  hint = None;
  let_vars = None;
  comment = shared.comment;
  write_concern = shared.write_concern;
}

-- the call of a delete with these parts and options
abbrev pub delete_call_with : DeleteParts → SharedOptions → DeleteCall
delete_call_with parts shared = record { parts = parts; shared = shared }

-- what the call of a delete is made of: an object with its parts and its options
unfoldable pub delete_call_of : Data → Option DeleteCall
delete_call_of d =
    if has_only (NS.now ∷ FILTER.now ∷ WRITE_CONCERN.now ∷ COMMENT.now ∷ []) d
    then option_and_then (λ parts. option_map (delete_call_with parts) (shared_of d)) (delete_parts_of d)
    else None

-- the delete of what a filter finds, with these parts and options
abbrev pub delete_with : DeleteCall → DeleteWrite
delete_with call = record { namespace = call.parts.namespace; filter = call.parts.filter; options = delete_options call.shared }

-- the delete of what a filter finds
unfoldable pub delete_write_of : Data → Option DeleteWrite
delete_write_of d = option_map delete_with (delete_call_of d)

-- a delete of one document
unfoldable pub delete_one_of : Data → Option Call
delete_one_of d = option_map (λ write. Single (DeleteOne write)) (delete_write_of d)

-- a delete of all that its filter finds
unfoldable pub delete_many_of : Data → Option Call
delete_many_of d = option_map (λ write. Single (DeleteMany write)) (delete_write_of d)

-- the options of a delete that answers its document, of which these are set
abbrev pub find_delete_options : SharedOptions → FindOneAndDeleteOptions
find_delete_options shared = record {
  sort = None;
  max_time = None;
  projection = None;
  collation = None;
  hint = None;
  let_vars = None;
  comment = shared.comment;
  write_concern = shared.write_concern;
}

-- the delete of a document that is answered, with these parts and options
abbrev pub find_delete_with : DeleteCall → FindAndDelete
find_delete_with call =
    record { namespace = call.parts.namespace; filter = call.parts.filter; options = find_delete_options call.shared }

-- a delete that answers its document
unfoldable pub find_one_and_delete_of : Data → Option Call
find_one_and_delete_of d = option_map (λ call. Single (FindOneAndDelete (find_delete_with call))) (delete_call_of d)

-- the options of an update that answers its document, of which these are set
abbrev pub find_update_options : SharedOptions → FindOneAndUpdateOptions
find_update_options shared = record {
  sort = None;
  return_document = None;
  upsert = None;
  bypass_document_validation = None;
  array_filters = None;
  max_time = None;
  projection = None;
  collation = None;
  hint = None;
  let_vars = None;
  comment = shared.comment;
  write_concern = shared.write_concern;
}

-- the change of a document that is answered, with these parts and options
abbrev pub find_update_with : Namespace → List (Pair Bson) → UpdateModifications → SharedOptions → FindAndUpdate
find_update_with namespace filter update shared =
    record { namespace = namespace; filter = filter; update = update; options = find_update_options shared }

-- an update that answers its document: an object with its namespace, its filter, what it does, and its options
unfoldable pub find_one_and_update_of : Data → Option Call
find_one_and_update_of d =
    if has_only (NS.now ∷ FILTER.now ∷ UPDATE.now ∷ WRITE_CONCERN.now ∷ COMMENT.now ∷ []) d
    then option_and_then (λ namespace. option_and_then (λ filter. option_and_then (λ update. option_map (λ shared. Single (FindOneAndUpdate (find_update_with namespace filter update shared)))
    (shared_of d)) (needed_part update_of UPDATE.now d)) (needed_part document_of FILTER.now d)) (needed_part namespace_of NS.now d)
    else None

-- the options of a replacement that answers the document before it, of which these are set
abbrev pub find_replace_options : SharedOptions → FindOneAndReplaceOptions
find_replace_options shared = record {
  sort = None;
  return_document = None;
  upsert = None;
  bypass_document_validation = None;
  max_time = None;
  projection = None;
  collation = None;
  hint = None;
  let_vars = None;
  comment = shared.comment;
  write_concern = shared.write_concern;
}

-- the replacement of a document that is answered, with these parts and options
abbrev pub find_replace_with : Namespace → List (Pair Bson) → List (Pair Bson) → SharedOptions → FindAndReplace
find_replace_with namespace filter replacement shared =
    record { namespace = namespace; filter = filter; replacement = replacement; options = find_replace_options shared }

-- a replacement that answers a document: an object with its namespace, its filter, the document that is put in, and its options
unfoldable pub find_one_and_replace_of : Data → Option Call
find_one_and_replace_of d =
    if has_only (NS.now ∷ FILTER.now ∷ DOC.now ∷ WRITE_CONCERN.now ∷ COMMENT.now ∷ []) d
    then option_and_then (λ namespace. option_and_then (λ filter. option_and_then (λ replacement. option_map (λ shared. Single (FindOneAndReplace (find_replace_with namespace filter replacement shared)))
    (shared_of d)) (needed_part document_of DOC.now d)) (needed_part document_of FILTER.now d)) (needed_part namespace_of NS.now d)
    else None

-- the write that answers a document, whose parts stand under its name
unfoldable pub find_under : List ℕ → Data → Option Call
find_under name d =
    if bytes_eq name FIND_ONE_AND_DELETE.now then find_one_and_delete_of d else (
    if bytes_eq name FIND_ONE_AND_UPDATE.now then find_one_and_update_of d else (
    if bytes_eq name FIND_ONE_AND_REPLACE.now then find_one_and_replace_of d else None))

-- the update or replacement whose parts stand under its name, or a write that answers a document
unfoldable pub update_under : List ℕ → Data → Option Call
update_under name d =
    if bytes_eq name UPDATE_ONE.now then update_one_of d else (
    if bytes_eq name UPDATE_MANY.now then update_many_of d else (
    if bytes_eq name REPLACE_ONE.now then replace_one_of d else find_under name d))

-- the write of one statement whose parts stand under its name
unfoldable pub write_under : List ℕ → Data → Option Call
write_under name d =
    if bytes_eq name INSERT_ONE.now then insert_one_of d else (
    if bytes_eq name DELETE_ONE.now then delete_one_of d else (
    if bytes_eq name DELETE_MANY.now then delete_many_of d else update_under name d))

-- the call whose parts stand under its name: an insert of many documents, a bulk write, or a write of one statement
unfoldable pub call_under : List ℕ → Data → Option Call
call_under name d =
    if bytes_eq name INSERT_MANY.now then insert_many_of d else (
    if bytes_eq name BULK_WRITE.now then bulk_write_of d else write_under name d)

-- a call: an object whose one key names it
unfoldable pub call_of : Data → Option Call
call_of (object (member name d no_members)) = call_under name d
call_of d = None
