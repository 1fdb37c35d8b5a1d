-- Completeness of an insert of many documents: a valid one whose part of the schedule is gentle ends well.
use Rattle.std.specs.Prelude.{◌≡◌, ℕ, ◌+◌, pos, ◌≤ℤ◌, true, List, [], ◌∷◌, ◌++◌, length, Option, None, Some, IfSome, Result, ◌⊎◌, slice_get, unwrap_or}
use Rattle.bson_lite.specs.declared.bson.Bson.{Bson}
use Rattle.bson_lite.specs.declared.bson.ObjectId.{ObjectId}
use Rattle.bson_lite.specs.declared.document.Pair.{Pair}
use Rattle.bson_lite.specs.declared.namespace.Namespace.{Namespace}
use Rattle.bson_lite.specs.Fields.{with_id}
use Rattle.bson_lite.specs.Spelling.{refusal, spelling}
use Rattle.driver_error.specs.declared.error.Error.{Error}
use Rattle.server_answers.specs.declared.results.InsertManyResult.{InsertManyResult}
use Rattle.driver_options.specs.declared.concerns.WriteConcern.{WriteConcern}
use Rattle.driver_options.specs.declared.options.ClientOptions.{ClientOptions}
use Rattle.driver_options.specs.declared.options.Description.{Description}
use Rattle.driver_options.specs.declared.write_options.InsertManyOptions.{InsertManyOptions}
use Rattle.driver_batches.specs.Sizes.{Fits}
use Rattle.driver_link.specs.declared.machine.Item.{Item}
use Rattle.driver_link.specs.declared.machine.Item.TheVariants.{Serve}
use Rattle.driver_link.specs.declared.machine.Planned.{Planned}
use Rattle.driver_link.specs.declared.machine.Send.{Send}
use Rattle.driver_link.specs.declared.machine.Setup.{Setup}
use Rattle.driver_link.specs.Exchange.{step_at}
use Rattle.driver_link.specs.LinkState.{server_run, setup_of}
use Rattle.driver_link.specs.ServerRun.{ServerRun}
use Rattle.driver_link.specs.Statements.{planned_at}
use Rattle.driver_session.specs.Pool.{Pool}
use Rattle.driver_session.specs.Session.{last_number}
use Rattle.driver_ops.specs.declared.target.OperationTarget.{OperationTarget}
use Rattle.driver_ops.specs.Features.{feature_of}
use Rattle.driver_ops.specs.Fields.{IsSixteen, SendContext, executor_fields}
use Rattle.driver_ops.specs.Inserts.{insert_command}
use Rattle.driver_ops.specs.Targets.{namespace_of}
use Rattle.write_ops.specs.InsertFronts.{insert_limits}
use Rattle.write_ops.specs.InsertSpec.{own_of_insert}
use Rattle.driver_attempt.specs.Concerns.{concern_refusal, effective_concern}
use Rattle.driver_attempt.specs.Moment.{Moment}
use Rattle.driver_exec.specs.BetweenCalls.{NumbersWithin}
use Rattle.driver_exec.specs.Gentle.{EndsWell, IsLossy, IsOfPart, NoneListed}
use Rattle.driver_exec.specs.OperationCauses.{DrawsNumbers}
use Rattle.driver_actions.specs.CallParts.{CarrySame}
use Rattle.many_actions.specs.ManyEntries.{MayWriteCall}
use Rattle.many_actions.specs.Numbers.{many_numbers, server_setup}
use Rattle.driver_actions.specs.Raises.{RaisesBy}
use Rattle.driver_inputs.specs.ManyInputs.{IsManyAccepted}

-- each statement that a plan speaks of counts one document
abbrev pub CountOneEach : List Planned → Type 0
CountOneEach results = (at : ℕ) → unwrap_or (planned_at results at).n (pos 1) ≡ pos 1

-- an item that serves inserts without a failure, and each counts one document
abbrev pub ServesInserts : Item → Type 0
ServesInserts (Serve results fail concern page) = (fail ≡ []) × (concern ≡ None) × CountOneEach results
ServesInserts _ = ⊥

-- the part of a schedule that a call took is gentle for its commands, by which items serve a send of them as usual and which sends
-- may go out again: none of its selections and check-outs fails, each send is served as usual or, where it may go out again, gets
-- no reply, and of the sends that carry the same one at most gets none
pub record IsGentleCallPart (Serves : Send → Item → Type 0) (repeats : Send → Type 0) (before now : ServerRun) : Type 0 where
  pub selects : NoneListed before.schedule.selects before.counts.selects now.counts.selects
  pub check_outs : NoneListed before.schedule.check_outs before.counts.check_outs now.counts.check_outs
  pub overloaded : NoneListed before.schedule.overloaded_check_outs before.counts.check_outs now.counts.check_outs
  pub items : (at : ℕ) (send : Send) → IsOfPart before now at → slice_get now.server.trace at ≡ Some send
      → Serves send (step_at before.schedule at).item ⊎ (repeats send × IsLossy (step_at before.schedule at).item)
  pub one : (a b : ℕ) → IsOfPart before now a → IsOfPart before now b → IsLossy (step_at before.schedule a).item → IsLossy (step_at before.schedule b).item
      → CarrySame now a b → a ≡ b

-- the same of a link that tells its server
abbrev pub IsGentleCallWhereTold : (Send → Item → Type 0) → (Send → Type 0) → Option ServerRun → Option ServerRun → Type 0
IsGentleCallWhereTold Serves repeats None now = ⊥
IsGentleCallWhereTold Serves repeats (Some told) None = ⊥
IsGentleCallWhereTold Serves repeats (Some told) (Some now) = IsGentleCallPart Serves repeats told now

-- each of the documents fits alone into a command over a connection that is described so, with its id, whichever id that is
abbrev pub EachFitsAlone : Description → Namespace → List (List (Pair Bson)) → InsertManyOptions → Type 0
EachFitsAlone description namespace documents options =
    (index : ℕ) (document : List (Pair Bson)) → slice_get documents index ≡ Some document → (id : ObjectId) → length id.bytes ≡ 12
    → Fits (insert_limits namespace options description) (length (spelling (with_id id document)) ∷ [])

-- the concern that an insert goes out with: its own, else its collection's, else the client's
abbrev pub many_concern : OperationTarget → InsertManyOptions → ClientOptions → Option WriteConcern
many_concern target options client = effective_concern (feature_of options.write_concern) target client.write_concern

-- an insert of many documents is valid after at most so many numbers, under a client's options, over a link that tells its setup
-- or not: its input is accepted, its write concern is not refused, its command has a spelling with that concern under any session
-- and number or none, each document fits alone into a command over the setup's connections, and a session has numbers enough for
-- its batches
pub record IsValidMany (most : ℕ) (client : ClientOptions) (setup : Option Setup) (target : OperationTarget) (documents : List (List (Pair Bson))) (options : InsertManyOptions) : Type 0 where
  pub accepted : IsManyAccepted (namespace_of target) documents options
  pub concerned : concern_refusal (many_concern target options client) ≡ None
  pub command : (context : SendContext) → context.concern ≡ many_concern target options client → IsSixteen context.session
      → refusal (insert_command (namespace_of target) options ++ executor_fields context (namespace_of target).db) ≡ None
  pub fits : IfSome setup (λ setup. EachFitsAlone setup.description (namespace_of target) documents options)
  pub numbers : pos (most + many_numbers setup (namespace_of target) documents options) ≤ℤ last_number

-- whether the sends of an insert have numbers, under a client's options and a setup
abbrev pub InsertsHaveNumbers : ClientOptions → Option Setup → Type 0
InsertsHaveNumbers client setup = DrawsNumbers true (own_of_insert client) setup

-- over an insert of these documents they rise by one at most for each of its batches, where the server is told, and else for each document
abbrev pub RaisesByBatches : Moment → Moment → Namespace → List (List (Pair Bson)) → InsertManyOptions → Type 0
RaisesByBatches before now namespace documents options = RaisesBy (many_numbers (server_setup (server_run before.link)) namespace documents options) before now

-- a call may be made, and no idle session has a number above this one
pub record MayCompleteCall (most : ℕ) (pool pool_now : Pool) (run : ServerRun) (call : ℕ) : Type 0 where
  pub writes : MayWriteCall pool pool_now run call
  pub numbers : NumbersWithin (pos most) pool.idle

-- the same, where pool and server are told
abbrev pub MayCompleteCallWhereTold : ℕ → Option Pool → Option Pool → Option ServerRun → ℕ → Type 0
MayCompleteCallWhereTold most (Some pool) (Some pool_now) (Some run) call = MayCompleteCall most pool pool_now run call
MayCompleteCallWhereTold most pool pool_now run call = ⊥

-- so it ends well, where it is valid after at most so many numbers and its part of the schedule is gentle
abbrev pub CompletesMany : Moment → Moment → OperationTarget → List (List (Pair Bson)) → InsertManyOptions → ℕ → Result InsertManyResult Error → Type 0
CompletesMany before now target documents options call result =
    (most : ℕ) → MayCompleteCallWhereTold most before.store.pool now.store.pool (server_run before.link) call
    → IsValidMany most before.client.options (setup_of before.link) target documents options
    → IsGentleCallWhereTold (λ send. ServesInserts) (λ send. InsertsHaveNumbers before.client.options (setup_of before.link)) (server_run before.link) (server_run now.link)
    → EndsWell result
