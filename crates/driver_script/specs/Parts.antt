-- How a script writes what writes are made of, as calls of their own and as models of a bulk write alike.
use Rattle.std.specs.Prelude.{Bool, if◌then◌else◌, List, [], ◌∷◌, Option, None}
use Rattle.std.specs.Option.{option_and_then, option_map}
use Rattle.bson_lite.specs.declared.bson.Bson.{Bson}
use Rattle.bson_lite.specs.declared.document.Pair.{Pair}
use Rattle.bson_lite.specs.declared.namespace.Namespace.{Namespace}
use Rattle.driver_options.specs.declared.updates.UpdateModifications.{UpdateModifications}
use Rattle.driver_options.specs.declared.updates.UpdateModifications.TheVariants as modifies
use Rattle.script_parts.specs.declared.keys.TheConstants.{DOC, FILTER, NS, PIPELINE, UPDATE, UPSERT}
use Rattle.driver_script.specs.declared.parts.DeleteParts.{DeleteParts}
use Rattle.driver_script.specs.declared.parts.InsertParts.{InsertParts}
use Rattle.driver_script.specs.declared.parts.ReplaceParts.{ReplaceParts}
use Rattle.driver_script.specs.declared.parts.UpdateParts.{UpdateParts}
use Rattle.script_parts.specs.Json.{has_only, list_of, needed_part, optional_part}
use Rattle.driver_script.specs.Options.{flag_of}
use Rattle.script_parts.specs.Values.{document_of, namespace_of}
use Rattle.serde_json.specs.Data.{Data, array, object}

-- a pipeline: an object with the list of its stages
unfoldable pub pipeline_of : Data → Option UpdateModifications
pipeline_of d = if has_only (PIPELINE.now ∷ []) d then option_map modifies.Pipeline (needed_part (list_of document_of) PIPELINE.now d) else None

-- what an update does: a document of operators, or a pipeline
unfoldable pub update_of : Data → Option UpdateModifications
update_of (array items) = option_map modifies.Document (document_of (array items))
update_of (object members) = pipeline_of (object members)
update_of d = None

-- the insert of a document into a collection
abbrev pub insert_parts_with : Namespace → List (Pair Bson) → InsertParts
insert_parts_with namespace document = record { namespace = namespace; document = document }

-- the parts of the insert of one document, under their keys of an object: its namespace and the document
unfoldable pub insert_parts_of : Data → Option InsertParts
insert_parts_of d =
    option_and_then (λ namespace. option_map (insert_parts_with namespace)
    (needed_part document_of DOC.now d)) (needed_part namespace_of NS.now d)

-- an update of these parts
abbrev pub update_parts_with : Namespace → List (Pair Bson) → UpdateModifications → Option Bool → UpdateParts
update_parts_with namespace filter update upsert = record { namespace = namespace; filter = filter; update = update; upsert = upsert }

-- the parts of an update: its namespace, its filter, what it does, and whether a document is put in where none is found
unfoldable pub update_parts_of : Data → Option UpdateParts
update_parts_of d =
    option_and_then (λ namespace. option_and_then (λ filter. option_and_then (λ update. option_map (update_parts_with namespace filter update)
    (optional_part flag_of UPSERT.now d)) (needed_part update_of UPDATE.now d)) (needed_part document_of FILTER.now d)) (needed_part namespace_of NS.now d)

-- a replacement of these parts
abbrev pub replace_parts_with : Namespace → List (Pair Bson) → List (Pair Bson) → Option Bool → ReplaceParts
replace_parts_with namespace filter replacement upsert =
    record { namespace = namespace; filter = filter; replacement = replacement; upsert = upsert }

-- the parts of a replacement: its namespace, its filter, the document that is put in, and whether it is where none is found
unfoldable pub replace_parts_of : Data → Option ReplaceParts
replace_parts_of d =
    option_and_then (λ namespace. option_and_then (λ filter. option_and_then (λ replacement. option_map (replace_parts_with namespace filter replacement)
    (optional_part flag_of UPSERT.now d)) (needed_part document_of DOC.now d)) (needed_part document_of FILTER.now d)) (needed_part namespace_of NS.now d)

-- a delete of these parts
abbrev pub delete_parts_with : Namespace → List (Pair Bson) → DeleteParts
delete_parts_with namespace filter = record { namespace = namespace; filter = filter }

-- the parts of a delete: its namespace and its filter
unfoldable pub delete_parts_of : Data → Option DeleteParts
delete_parts_of d =
    option_and_then (λ namespace. option_map (delete_parts_with namespace)
    (needed_part document_of FILTER.now d)) (needed_part namespace_of NS.now d)
