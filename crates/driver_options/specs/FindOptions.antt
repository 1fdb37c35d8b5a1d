-- The options of a findAndModify, by those of the three calls that send one.
use Rattle.std.specs.Prelude.{Bool, true, false, Option, None, Some}
use Rattle.driver_options.specs.declared.find_options.FindAndModifyOptions.{FindAndModifyOptions}
use Rattle.driver_options.specs.declared.find_options.FindOneAndDeleteOptions.{FindOneAndDeleteOptions}
use Rattle.driver_options.specs.declared.find_options.FindOneAndReplaceOptions.{FindOneAndReplaceOptions}
use Rattle.driver_options.specs.declared.find_options.FindOneAndUpdateOptions.{FindOneAndUpdateOptions}
use Rattle.driver_options.specs.declared.find_options.ReturnDocument.{ReturnDocument}
use Rattle.driver_options.specs.declared.find_options.ReturnDocument.TheVariants.{After, Before}

-- whether the document after the change is asked for, where one of the two is
abbrev pub new_flag : Option ReturnDocument → Option Bool
new_flag None = None
new_flag (Some After) = Some true
new_flag (Some Before) = Some false

-- those of a delete: it changes nothing, so no option of a change is set
abbrev pub options_of_delete : FindOneAndDeleteOptions → FindAndModifyOptions
options_of_delete options = record {
  sort = options.sort;
  new = None;
  upsert = None;
  bypass_document_validation = None;
  array_filters = None;
  max_time = options.max_time;
  projection = options.projection;
  collation = options.collation;
  hint = options.hint;
  let_vars = options.let_vars;
  comment = options.comment;
  write_concern = options.write_concern;
}

-- those of an update
abbrev pub options_of_update : FindOneAndUpdateOptions → FindAndModifyOptions
options_of_update options = record {
  sort = options.sort;
  new = new_flag options.return_document;
  upsert = options.upsert;
  bypass_document_validation = options.bypass_document_validation;
  array_filters = options.array_filters;
  max_time = options.max_time;
  projection = options.projection;
  collation = options.collation;
  hint = options.hint;
  let_vars = options.let_vars;
  comment = options.comment;
  write_concern = options.write_concern;
}

-- those of a replacement, which filters no arrays
abbrev pub options_of_replace : FindOneAndReplaceOptions → FindAndModifyOptions
options_of_replace options = record {
  sort = options.sort;
  new = new_flag options.return_document;
  upsert = options.upsert;
  bypass_document_validation = options.bypass_document_validation;
  array_filters = None;
  max_time = options.max_time;
  projection = options.projection;
  collation = options.collation;
  hint = options.hint;
  let_vars = options.let_vars;
  comment = options.comment;
  write_concern = options.write_concern;
}
