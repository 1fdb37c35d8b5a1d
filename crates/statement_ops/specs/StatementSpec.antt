-- What a command with one statement tells as an operation: an update, a delete, and a findAndModify, whose body is its statement.
use Rattle.std.specs.Prelude.{◌≡◌, ℕ, Bool, true, false, List, [], ◌∷◌, Option}
use Rattle.bson_lite.specs.declared.bson.Bson.{Bson}
use Rattle.bson_lite.specs.declared.document.Pair.{Pair}
use Rattle.bson_lite.specs.declared.namespace.Namespace.{Namespace}
use Rattle.server_answers.specs.declared.results.DeleteResult.{DeleteResult}
use Rattle.server_answers.specs.declared.results.UpdateResult.{UpdateResult}
use Rattle.driver_options.specs.declared.find_options.FindAndModifyOptions.{FindAndModifyOptions}
use Rattle.driver_options.specs.declared.updates.Modification.{Modification}
use Rattle.driver_options.specs.declared.updates.UpdateOrReplace.{UpdateOrReplace}
use Rattle.driver_options.specs.declared.write_options.DeleteOptions.{DeleteOptions}
use Rattle.driver_options.specs.declared.write_options.UpdateOptions.{UpdateOptions}
use Rattle.driver_link.specs.declared.command.CommandName.TheVariants as name
use Rattle.driver_link.specs.declared.machine.Place.{Place}
use Rattle.driver_link.specs.declared.machine.PlacedWrite.{PlacedWrite}
use Rattle.driver_link.specs.declared.machine.SendBody.{SendBody}
use Rattle.driver_link.specs.declared.machine.SendBody.TheVariants.{Write}
use Rattle.driver_link.specs.declared.machine.SendCommand.{SendCommand}
use Rattle.driver_link.specs.declared.machine.SendCommand.TheVariants as command
use Rattle.driver_link.specs.declared.machine.WriteKind.{WriteKind}
use Rattle.driver_link.specs.declared.machine.WriteKind.TheVariants as kind
use Rattle.driver_link.specs.Writes.{write_on}
use Rattle.driver_ops.specs.declared.command.Command.{Command}
use Rattle.driver_ops.specs.declared.feature.Feature.TheVariants.{Inherit, NotSupported}
use Rattle.driver_ops.specs.declared.target.OperationTarget.{OperationTarget}
use Rattle.driver_ops.specs.Features.{feature_of}
use Rattle.driver_ops.specs.Operations.{ReadsAlone, OperationSpec, never, takes_one}
use Rattle.driver_ops.specs.Defaults.{own_of_statement, under_backpressure}
use Rattle.driver_ops.specs.Targets.{namespace_of}
use Rattle.statement_ops.specs.CountAnswers.{ReadsDelete, ReadsUpdate, TellsDelete, TellsUpdate}
use Rattle.statement_ops.specs.Deleting.{delete_command, delete_statement}
use Rattle.statement_ops.specs.FindingAndModifying.{find_command}
use Rattle.statement_ops.specs.FoundAnswers.{ReadsFind, TellsFound}
use Rattle.statement_ops.specs.Updating.{update_command, update_statement}

-- a command of one statement, with this body, into a namespace's database, and nothing beside its body
pub record IsStatementCommand (namespace : Namespace) (own : List (Pair Bson)) (statements : ℕ) (made : Command) : Type 0 where
  pub one : statements ≡ 1
  pub database : made.database ≡ namespace.db
  pub body : made.body ≡ own
  pub sequences : made.sequences ≡ []

-- the write of a statement, at a place
abbrev pub statement_write : WriteKind → Namespace → List (Pair Bson) → Place → PlacedWrite
statement_write does namespace statement place = record { place = place; written = write_on does namespace statement }

-- the one write of a statement, under the one place
pub record AsksStatement (does : SendCommand) (change : WriteKind) (namespace : Namespace) (statement : List (Pair Bson)) (statements : ℕ) (places : List Place) (body : SendBody) : Type 0 where
  pub one : statements ≡ 1
  pub place : Place
  pub alone : places ≡ place ∷ []
  pub is : body ≡ Write does true (statement_write change namespace statement place ∷ [])

-- an update tells this: each send has the same command of its one statement, the reply is the whole answer
abbrev pub update_spec : OperationTarget → List (Pair Bson) → UpdateOrReplace → Bool → UpdateOptions → OperationSpec UpdateResult
update_spec target filter change multi options = record {
  name = name.Update;
  target = target;
  commands = λ which. IsStatementCommand (namespace_of target) (update_command (namespace_of target) (update_statement filter change multi options) options);
  bodies = AsksStatement command.Update kind.Update (namespace_of target) (update_statement filter change multi options);
  takes = takes_one;
  refused = never;
  write_concern = λ which. feature_of options.write_concern;
  read_concern = NotSupported;
  selection_criteria = λ which. Inherit;
  sessions = true;
  retryability = own_of_statement multi;
  backpressure = under_backpressure;
  after_cluster_time = true;
  paged = false;
  reads = λ statements. ReadsAlone ReadsUpdate;
  output = TellsUpdate;
}

-- and a delete this
abbrev pub delete_spec : OperationTarget → List (Pair Bson) → Bool → DeleteOptions → OperationSpec DeleteResult
delete_spec target filter multi options = record {
  name = name.Delete;
  target = target;
  commands = λ which. IsStatementCommand (namespace_of target) (delete_command (namespace_of target) (delete_statement filter multi options) options);
  bodies = AsksStatement command.Delete kind.Delete (namespace_of target) (delete_statement filter multi options);
  takes = takes_one;
  refused = never;
  write_concern = λ which. feature_of options.write_concern;
  read_concern = NotSupported;
  selection_criteria = λ which. Inherit;
  sessions = true;
  retryability = own_of_statement multi;
  backpressure = under_backpressure;
  after_cluster_time = true;
  paged = false;
  reads = λ statements. ReadsAlone ReadsDelete;
  output = TellsDelete;
}

-- and a findAndModify this
abbrev pub find_spec : OperationTarget → List (Pair Bson) → Modification → FindAndModifyOptions → OperationSpec (Option (List (Pair Bson)))
find_spec target filter modification options = record {
  name = name.FindAndModify;
  target = target;
  commands = λ which. IsStatementCommand (namespace_of target) (find_command (namespace_of target) filter modification options);
  bodies = AsksStatement command.FindAndModify kind.FindAndModify (namespace_of target) (find_command (namespace_of target) filter modification options);
  takes = takes_one;
  refused = never;
  write_concern = λ which. feature_of options.write_concern;
  read_concern = NotSupported;
  selection_criteria = λ which. Inherit;
  sessions = true;
  retryability = own_of_statement false;
  backpressure = under_backpressure;
  after_cluster_time = true;
  paged = false;
  reads = λ statements. ReadsAlone ReadsFind;
  output = TellsFound;
}
