-- How many numbers of sessions a bulk write takes at most: one for each of its batches.
use Rattle.std.specs.Prelude.{ℕ, suc, Bool, ◌&&◌, nat_lt, nat_le, List, [], ◌∷◌, ◌++◌, length, map, Option, None, Some, if◌then◌else◌}
use Rattle.driver_options.specs.declared.models.WriteModel.{WriteModel}
use Rattle.driver_options.specs.declared.write_options.BulkWriteOptions.{BulkWriteOptions}
use Rattle.driver_batches.specs.declared.sizes.Limits.{Limits}
use Rattle.driver_link.specs.declared.machine.Setup.{Setup}
use Rattle.driver_link.specs.LinkState.{server_run}
use Rattle.bulk_fronts.specs.declared.own_op.SizedOp.{SizedOp}
use Rattle.bulk_fronts.specs.BulkFronts.{bulk_limits, bytes_of}
use Rattle.driver_attempt.specs.Moment.{Moment}
use Rattle.driver_inputs.specs.BulkInputs.{with_model_id}
use Rattle.driver_inputs.specs.ManyFaults.{zero_id}
use Rattle.driver_actions.specs.Raises.{RaisesBy}
use Rattle.many_actions.specs.Numbers.{server_setup}
use Rattle.bulk_actions.specs.FewestBulk.{sized_model}

-- a run of ops keeps to limits
abbrev pub keeps_within : Limits → List SizedOp → Bool
keeps_within limits run = nat_le (length run) limits.items && (nat_lt 0 limits.each && nat_le (bytes_of run) limits.bytes)

-- how many runs ops begin behind a run that has these already: each goes into the run before it, or where that does not keep to the limits
-- then begins another
abbrev pub runs_beside : Limits → List SizedOp → List SizedOp → ℕ
runs_beside limits run [] = 0
runs_beside limits run (op ∷ ops) =
    if keeps_within limits (run ++ op ∷ []) then runs_beside limits (run ++ op ∷ []) ops else suc (runs_beside limits (op ∷ []) ops)

-- into how many runs ops are cut by limits, each run as long as it may be; an op that keeps to them in no run begins one all the same
abbrev pub op_runs : Limits → List SizedOp → ℕ
op_runs limits [] = 0
op_runs limits (op ∷ ops) = suc (runs_beside limits (op ∷ []) ops)

-- how many numbers a bulk write of such ops takes at most: one for each run by the limits of the setup's connections, and where no setup
-- is told one for each op
abbrev pub numbers_for : Option Setup → BulkWriteOptions → Bool → List SizedOp → ℕ
numbers_for None options verbose ops = length ops
numbers_for (Some setup) options verbose ops = op_runs (bulk_limits options verbose setup.description) ops

-- what models count for as they are sent, each inserted document with an id: each id is as long, so one of zeros stands for them all
unfoldable pub sized_with_ids : List WriteModel → List SizedOp
sized_with_ids models = map (λ model. sized_model (with_model_id zero_id model)) models

-- how many a bulk write of models takes at most
abbrev pub bulk_numbers : Option Setup → List WriteModel → BulkWriteOptions → Bool → ℕ
bulk_numbers setup models options verbose = numbers_for setup options verbose (sized_with_ids models)

-- over a bulk write of these models the numbers of idle sessions rise by one at most for each of its batches, where the server is told, and
-- else for each model
abbrev pub RaisesByBulk : Moment → Moment → List WriteModel → BulkWriteOptions → Bool → Type 0
RaisesByBulk before now models options verbose = RaisesBy (bulk_numbers (server_setup (server_run before.link)) models options verbose) before now
