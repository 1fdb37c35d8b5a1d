-- What a bulk write tells as an operation.
use Rattle.std.specs.Prelude.{◌≡◌, ℕ, Bool, true, not, List, length, take}
use Rattle.std.specs.List.{AllByRecursion}
use Rattle.bulk_outcomes.specs.BulkResults.{ResultSpec}
use Rattle.driver_options.specs.declared.models.WriteModel.{WriteModel}
use Rattle.driver_options.specs.declared.write_options.BulkWriteOptions.{BulkWriteOptions}
use Rattle.driver_link.specs.declared.command.CommandName.TheVariants as name
use Rattle.wire_keys.specs.declared.keys.TheConstants.{ADMIN}
use Rattle.driver_link.specs.declared.machine.Place.{Place}
use Rattle.driver_link.specs.declared.machine.SendBody.{SendBody}
use Rattle.driver_link.specs.declared.machine.SendBody.TheVariants.{Write}
use Rattle.driver_link.specs.declared.machine.SendCommand.TheVariants as command
use Rattle.driver_ops.specs.declared.feature.Feature.TheVariants.{Inherit, NotSupported}
use Rattle.driver_ops.specs.declared.target.OperationTarget.{OperationTarget}
use Rattle.driver_ops.specs.declared.target.OperationTarget.TheVariants.{Database}
use Rattle.driver_ops.specs.Features.{feature_of}
use Rattle.driver_ops.specs.Operations.{OperationSpec}
use Rattle.driver_ops.specs.Defaults.{own_of_statement, under_backpressure}
use Rattle.bulk_fronts.specs.declared.own_op.OwnOp.{OwnOp}
use Rattle.bulk_ops.specs.BulkAnswers.{BulkBatch, ReadsBulk}
use Rattle.bulk_ops.specs.BulkEntries.{TellsBulk}
use Rattle.bulk_fronts.specs.BulkFronts.{RefusesBulk, TakesBulk}
use Rattle.bulk_fronts.specs.BulkOps.{AreOps, IsUndotted, has_multi, model_writes}
use Rattle.bulk_fronts.specs.BulkWrites.{IsBulkCommand, bulk_is_ordered}

-- the database of commands that name none of their own
abbrev pub admin_target : OperationTarget
admin_target = Database (record { name = ADMIN.now })

-- the writes of the front of the models whose ops these are, under the places at the front, where there is a place for each model
-- and no database has a dot in its name
pub record AsksBulk (own : List OwnOp) (options : BulkWriteOptions) (statements : ℕ) (places : List Place) (body : SendBody) : Type 0 where
  pub models : List WriteModel
  pub are_ops : AreOps models own
  pub undotted : AllByRecursion IsUndotted models
  pub each_placed : length places ≡ length own
  pub is : body ≡ Write command.BulkWrite (bulk_is_ordered options) (model_writes (take statements models) (take statements places))

-- the batch of so many of the ops, which are those of the caller's models from an index on
abbrev pub batch_read : {R : Type 0} → ResultSpec R → ℕ → List OwnOp → BulkWriteOptions → ℕ → BulkBatch R
batch_read tells first own options statements =
    record { ops = take statements own; first = first; ordered = bulk_is_ordered options; tells = tells }

-- results of this kind are asked for op by op
abbrev pub is_verbose : {R : Type 0} → ResultSpec R → Bool
is_verbose tells = not tells.only_errors

-- a build takes the longest front of the ops that the connection takes, each send has the same command, and the answer comes in
-- pages. The ops are those of the caller's models from an index on; nothing of them may be repeated where one of them, in this
-- batch or later, is of all documents found
abbrev pub bulk_spec : {R : Type 0} → ResultSpec R → OperationTarget → ℕ → List OwnOp → BulkWriteOptions → OperationSpec R
bulk_spec tells target first own options = record {
  name = name.BulkWrite;
  target = target;
  commands = λ which. IsBulkCommand own options (is_verbose tells);
  bodies = AsksBulk own options;
  takes = TakesBulk options (is_verbose tells) own;
  refused = RefusesBulk options (is_verbose tells) first own;
  write_concern = λ which. feature_of options.write_concern;
  read_concern = NotSupported;
  selection_criteria = λ which. Inherit;
  sessions = true;
  retryability = own_of_statement (has_multi own);
  backpressure = under_backpressure;
  after_cluster_time = true;
  paged = true;
  reads = λ statements. ReadsBulk (batch_read tells first own options statements);
  output = TellsBulk tells first;
}
