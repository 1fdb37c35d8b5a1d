-- The batches of a bulk write that was answered Ok: its own sends are a cut of the caller's models, and no cut that keeps to the limits has
-- fewer runs.
use Rattle.std.specs.Prelude.{◌≡◌, ℕ, Bool, true, false, List, [], ◌∷◌, ◌++◌, length, map, Option, None, Some, Result, Ok, Err, if◌then◌else◌}
use Rattle.bson_lite.specs.declared.bson.ObjectId.{ObjectId}
use Rattle.bson_lite.specs.Namespace.{dotted}
use Rattle.bson_lite.specs.Spelling.{spelling}
use Rattle.driver_error.specs.declared.error.Error.{Error}
use Rattle.driver_options.specs.declared.models.WriteModel.{WriteModel}
use Rattle.driver_options.specs.declared.write_options.BulkWriteOptions.{BulkWriteOptions}
use Rattle.driver_options.specs.Models.{namespace_of}
use Rattle.driver_batches.specs.Batches.{IsFewest}
use Rattle.driver_link.specs.declared.machine.Send.{Send}
use Rattle.driver_link.specs.declared.machine.SendBody.{SendBody}
use Rattle.driver_link.specs.declared.machine.SendBody.TheVariants.{Write}
use Rattle.driver_link.specs.LinkState.{server_run}
use Rattle.driver_link.specs.ServerRun.{ServerRun}
use Rattle.bulk_fronts.specs.declared.own_op.SizedOp.{SizedOp}
use Rattle.bulk_fronts.specs.BulkFronts.{FitsOps, bulk_limits}
use Rattle.bulk_fronts.specs.BulkOps.{op_document}
use Rattle.driver_attempt.specs.Moment.{Moment}
use Rattle.driver_inputs.specs.BulkInputs.{with_model_ids}
use Rattle.driver_inputs.specs.ManyInputs.{AreTwelve}
use Rattle.many_actions.specs.FewestBatches.{AreSendsOf}

-- what a model counts for in a batch: the text of its namespace, and the size of its op in bytes
abbrev pub sized_model : WriteModel → SizedOp
sized_model model = record { namespace = dotted (namespace_of model); size = length (spelling (op_document 0 model)) }

-- the same of models as they are sent with these ids
abbrev pub sent_models : List ObjectId → List WriteModel → List SizedOp
sent_models ids models = map sized_model (with_model_ids ids models)

-- what a send asks for is writes, and no page or end of a cursor
abbrev pub is_of_writes : SendBody → Bool
is_of_writes (Write command ordered writes) = true
is_of_writes _ = false

-- the sends of writes among these, in order
abbrev pub own_sends : List Send → List Send
own_sends [] = []
own_sends (send ∷ sends) = if is_of_writes send.body then send ∷ own_sends sends else own_sends sends

-- the sends of writes that a call made are a cut of its models into runs that keep to the limits of the setup's connections, and no such
-- cut has fewer runs
pub record IsFewestBulkCut (models : List WriteModel) (options : BulkWriteOptions) (verbose : Bool) (call : ℕ) (run run_now : ServerRun) : Type 0 where
  pub ids : List ObjectId
  pub twelve : AreTwelve ids
  pub each : length ids ≡ length models
  pub runs : List (List SizedOp)
  pub fewest : IsFewest (FitsOps (bulk_limits options verbose run.setup.description)) (sent_models ids models) runs
  pub sends : List Send
  pub gained : run_now.server.trace ≡ run.server.trace ++ sends
  pub are : AreSendsOf call 0 runs (own_sends sends)

-- so it is where the server is told
abbrev pub IsFewestBulkWhereTold : List WriteModel → BulkWriteOptions → Bool → ℕ → Option ServerRun → Option ServerRun → Type 0
IsFewestBulkWhereTold models options verbose call None now = Unit {0}
IsFewestBulkWhereTold models options verbose call (Some run) None = ⊥
IsFewestBulkWhereTold models options verbose call (Some run) (Some run_now) = IsFewestBulkCut models options verbose call run run_now

-- a bulk write that is answered Ok was cut so
abbrev pub OkIsFewestBulk : {R : Type 0} → Moment → Moment → List WriteModel → BulkWriteOptions → Bool → ℕ → Result R Error → Type 0
OkIsFewestBulk before now models options verbose call (Ok output) =
    IsFewestBulkWhereTold models options verbose call (server_run before.link) (server_run now.link)
OkIsFewestBulk before now models options verbose call (Err error) = Unit {0}
