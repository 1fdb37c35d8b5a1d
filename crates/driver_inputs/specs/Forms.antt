-- Single writes by what they do: their commands, and what of them the caller gave.
use Rattle.std.specs.Prelude.{ℕ, ℤ, Bool, true, false, List, [], ◌∷◌, ◌++◌, Option}
use Rattle.bson_lite.specs.declared.bson.Bson.{Bson}
use Rattle.bson_lite.specs.declared.document.Pair.{Pair}
use Rattle.bson_lite.specs.declared.namespace.Namespace.{Namespace}
use Rattle.driver_options.specs.declared.concerns.WriteConcern.{WriteConcern}
use Rattle.driver_options.specs.declared.find_options.FindAndModifyOptions.{FindAndModifyOptions}
use Rattle.driver_options.specs.declared.options.ClientOptions.{ClientOptions}
use Rattle.driver_options.specs.declared.updates.Modification.{Modification}
use Rattle.driver_options.specs.declared.updates.Modification.TheVariants as modification
use Rattle.driver_options.specs.declared.updates.UpdateOrReplace.{UpdateOrReplace}
use Rattle.driver_options.specs.declared.updates.UpdateOrReplace.TheVariants as change
use Rattle.driver_options.specs.declared.write_options.DeleteOptions.{DeleteOptions}
use Rattle.driver_options.specs.declared.write_options.InsertManyOptions.{InsertManyOptions}
use Rattle.driver_options.specs.declared.write_options.UpdateOptions.{UpdateOptions}
use Rattle.driver_options.specs.FindOptions.{options_of_delete, options_of_replace, options_of_update}
use Rattle.driver_options.specs.Concerns.{else_concern}
use Rattle.driver_link.specs.declared.machine.Place.{Place}
use Rattle.driver_link.specs.declared.machine.Send.{Send}
use Rattle.driver_link.specs.declared.machine.SendBody.{SendBody}
use Rattle.driver_link.specs.declared.machine.SendBody.TheVariants.{Write}
use Rattle.driver_link.specs.declared.machine.SendCommand.{SendCommand}
use Rattle.driver_link.specs.declared.machine.SendCommand.TheVariants as command
use Rattle.driver_link.specs.declared.machine.WriteKind.{WriteKind}
use Rattle.driver_link.specs.declared.machine.WriteKind.TheVariants as kind
use Rattle.driver_link.specs.declared.machine.Written.{Written}
use Rattle.driver_session.specs.declared.retryability.Retryability.{Retryability}
use Rattle.driver_ops.specs.Fields.{SendContext, executor_fields, under}
use Rattle.driver_ops.specs.Inserts.{insert_command, insert_is_ordered}
use Rattle.driver_ops.specs.Operations.{send_of}
use Rattle.driver_ops.specs.Defaults.{own_of_statement}
use Rattle.statement_ops.specs.Deleting.{delete_command, delete_statement}
use Rattle.statement_ops.specs.FindingAndModifying.{find_command}
use Rattle.write_ops.specs.InsertSpec.{own_of_insert}
use Rattle.statement_ops.specs.Updating.{update_command, update_statement}
use Rattle.driver_inputs.specs.declared.single_write.SingleWrite.{SingleWrite}
use Rattle.driver_inputs.specs.declared.single_write.SingleWrite.TheVariants.{DeleteMany, DeleteOne, FindOneAndDelete, FindOneAndReplace, FindOneAndUpdate, InsertOne, ReplaceOne, UpdateMany, UpdateOne}

-- what a single write does: it inserts a document, changes what a filter finds, or deletes it, one document or all that are found; or
-- it does one of both to one document, and answers that
pub data WriteForm : Type 0 where
  inserts : Namespace → List (Pair Bson) → InsertManyOptions → WriteForm
  updates : Namespace → List (Pair Bson) → UpdateOrReplace → Bool → UpdateOptions → WriteForm
  deletes : Namespace → List (Pair Bson) → Bool → DeleteOptions → WriteForm
  finds : Namespace → List (Pair Bson) → Modification → FindAndModifyOptions → WriteForm

-- what a single write does, as it was given
abbrev pub form_of : SingleWrite → WriteForm
form_of (InsertOne write) = inserts write.namespace write.document write.options
form_of (UpdateOne write) = updates write.namespace write.filter (change.UpdateModifications write.update) false write.options
form_of (UpdateMany write) = updates write.namespace write.filter (change.UpdateModifications write.update) true write.options
form_of (ReplaceOne write) = updates write.namespace write.filter (change.Replacement write.replacement) false write.options
form_of (DeleteOne write) = deletes write.namespace write.filter false write.options
form_of (DeleteMany write) = deletes write.namespace write.filter true write.options
form_of (FindOneAndDelete write) = finds write.namespace write.filter modification.Delete (options_of_delete write.options)
form_of (FindOneAndUpdate write) = finds write.namespace write.filter (modification.Update (change.UpdateModifications write.update)) (options_of_update write.options)
form_of (FindOneAndReplace write) = finds write.namespace write.filter (modification.Update (change.Replacement write.replacement)) (options_of_replace write.options)

-- the collection that it goes to
abbrev pub namespace_in : WriteForm → Namespace
namespace_in (inserts namespace document options) = namespace
namespace_in (updates namespace filter change multi options) = namespace
namespace_in (deletes namespace filter multi options) = namespace
namespace_in (finds namespace filter modification options) = namespace

-- its kind
abbrev pub kind_in : WriteForm → WriteKind
kind_in (inserts namespace document options) = kind.Insert
kind_in (updates namespace filter change multi options) = kind.Update
kind_in (deletes namespace filter multi options) = kind.Delete
kind_in (finds namespace filter modification options) = kind.FindAndModify

-- its command
abbrev pub command_in : WriteForm → SendCommand
command_in (inserts namespace document options) = command.Insert
command_in (updates namespace filter change multi options) = command.Update
command_in (deletes namespace filter multi options) = command.Delete
command_in (finds namespace filter modification options) = command.FindAndModify

-- whether the send of its command stops at a failure
abbrev pub ordered_in : WriteForm → Bool
ordered_in (inserts namespace document options) = insert_is_ordered options
ordered_in (updates namespace filter change multi options) = true
ordered_in (deletes namespace filter multi options) = true
ordered_in (finds namespace filter modification options) = true

-- the document, the statement, or the body of a findAndModify, as it was given
abbrev pub given_in : WriteForm → List (Pair Bson)
given_in (inserts namespace document options) = document
given_in (updates namespace filter change multi options) = update_statement filter change multi options
given_in (deletes namespace filter multi options) = delete_statement filter multi options
given_in (finds namespace filter modification options) = find_command namespace filter modification options

-- the write that the caller gave
abbrev pub written_in : WriteForm → Written
written_in form = record { kind = kind_in form; namespace = namespace_in form; document = given_in form }

-- the body of its command, without the executor's fields
abbrev pub command_body : WriteForm → List (Pair Bson)
command_body (inserts namespace document options) = insert_command namespace options
command_body (updates namespace filter change multi options) = update_command namespace (update_statement filter change multi options) options
command_body (deletes namespace filter multi options) = delete_command namespace (delete_statement filter multi options) options
command_body (finds namespace filter modification options) = find_command namespace filter modification options

-- the same with the executor's fields
abbrev pub body_in : WriteForm → SendContext → List (Pair Bson)
body_in form context = command_body form ++ executor_fields context (namespace_in form).db

-- the concern of its own, if it has one
abbrev pub own_concern : WriteForm → Option WriteConcern
own_concern (inserts namespace document options) = options.write_concern
own_concern (updates namespace filter change multi options) = options.write_concern
own_concern (deletes namespace filter multi options) = options.write_concern
own_concern (finds namespace filter modification options) = options.write_concern

-- the concern that it goes out with: its own, else the client's
abbrev pub concern_in : WriteForm → ClientOptions → Option WriteConcern
concern_in form options = else_concern (own_concern form) options.write_concern

-- what of it may be repeated under a client's options
abbrev pub repeats_in : WriteForm → ClientOptions → Retryability
repeats_in (inserts namespace document options) = own_of_insert
repeats_in (updates namespace filter change multi options) = own_of_statement multi
repeats_in (deletes namespace filter multi options) = own_of_statement multi
repeats_in (finds namespace filter modification options) = own_of_statement false

-- what is asked for a write as it is sent, in its place
abbrev pub asked_in : WriteForm → Place → Written → SendBody
asked_in form place sent = Write (command_in form) (ordered_in form) (record { place = place; written = sent } ∷ [])

-- its send under a session and a number, where there are such
abbrev pub send_in : Option (List ℕ) → Option ℤ → WriteForm → Place → Written → Send
send_in session number form place sent = send_of (under session number) (asked_in form place sent)
