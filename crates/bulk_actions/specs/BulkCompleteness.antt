-- Completeness of a bulk write: a valid one whose part of the schedule is gentle ends well.
use Rattle.std.specs.Prelude.{◌≡◌, ℕ, ◌+◌, ◌≤◌, pos, ◌≤ℤ◌, Bool, true, List, [], ◌∷◌, ◌++◌, drop, length, take, Option, None, Some, IfSome, Result, slice_get}
use Rattle.std.specs.List.{list_any}
use Rattle.bson_lite.specs.Spelling.{refusal}
use Rattle.driver_error.specs.declared.error.Error.{Error}
use Rattle.bulk_outcomes.specs.BulkResults.{ResultSpec}
use Rattle.driver_error.specs.Counts.{AllFit}
use Rattle.driver_options.specs.declared.concerns.WriteConcern.{WriteConcern}
use Rattle.driver_options.specs.declared.models.WriteModel.{WriteModel}
use Rattle.driver_options.specs.declared.options.ClientOptions.{ClientOptions}
use Rattle.driver_options.specs.declared.options.Description.{Description}
use Rattle.driver_options.specs.declared.write_options.BulkWriteOptions.{BulkWriteOptions}
use Rattle.driver_options.specs.Models.{is_multi}
use Rattle.wire_keys.specs.declared.keys.TheConstants.{ADMIN}
use Rattle.driver_link.specs.declared.machine.Entry.{Entry}
use Rattle.driver_link.specs.declared.machine.Item.{Item}
use Rattle.driver_link.specs.declared.machine.Item.TheVariants.{Serve}
use Rattle.driver_link.specs.declared.machine.PlacedWrite.{PlacedWrite}
use Rattle.driver_link.specs.declared.machine.Planned.{Planned}
use Rattle.driver_link.specs.declared.machine.Send.{Send}
use Rattle.driver_link.specs.declared.machine.SendBody.{SendBody}
use Rattle.driver_link.specs.declared.machine.SendBody.TheVariants.{Kill, More, Write}
use Rattle.driver_link.specs.declared.machine.Server.{Server}
use Rattle.driver_link.specs.declared.machine.Setup.{Setup}
use Rattle.driver_link.specs.declared.machine.WriteKind.{WriteKind}
use Rattle.driver_link.specs.Cases.{writes_of}
use Rattle.driver_link.specs.LinkState.{server_run, setup_of}
use Rattle.driver_link.specs.ServerRun.{ServerRun}
use Rattle.driver_link.specs.Settled.{Has}
use Rattle.driver_link.specs.Statements.{counts_by_plan, planned_at}
use Rattle.driver_session.specs.declared.retryability.Retryability.{Retryability}
use Rattle.driver_session.specs.Pool.{Pool}
use Rattle.driver_session.specs.Session.{last_number}
use Rattle.driver_ops.specs.Defaults.{own_of_statement}
use Rattle.driver_ops.specs.Features.{feature_of}
use Rattle.driver_ops.specs.Fields.{IsSixteen, SendContext, executor_fields}
use Rattle.bulk_fronts.specs.declared.own_op.SizedOp.{SizedOp}
use Rattle.bulk_ops.specs.BulkEntries.{TellsBulk}
use Rattle.bulk_fronts.specs.BulkFronts.{FitsOps, bulk_limits, serves_bulk, sized_namespaces}
use Rattle.bulk_ops.specs.BulkSpec.{admin_target, is_verbose}
use Rattle.bulk_fronts.specs.BulkWrites.{bulk_command}
use Rattle.bulk_ops.specs.NaturalCounts.{IsNatural}
use Rattle.driver_attempt.specs.Concerns.{concern_refusal, effective_concern}
use Rattle.driver_attempt.specs.Moment.{Moment}
use Rattle.driver_exec.specs.Gentle.{EndsWell}
use Rattle.driver_exec.specs.OperationCauses.{DrawsNumbers}
use Rattle.driver_inputs.specs.BulkInputs.{IsBulkAccepted}
use Rattle.many_actions.specs.ManyCompleteness.{IsGentleCallPart, MayCompleteCall}
use Rattle.bulk_actions.specs.BulkNumbers.{bulk_numbers, sized_with_ids}
use Rattle.bulk_actions.specs.BulkTold.{AreEntriesOf}

-- no statement that a plan speaks of counts a negative number, whichever kind it is of
abbrev pub PlansNatural : List Planned → Type 0
PlansNatural results = (does : WriteKind) (at : ℕ) → IsNatural (counts_by_plan does (planned_at results at))

-- the same where a send carries writes; a command of a cursor has none
abbrev pub PlansWhere : SendBody → List Planned → Type 0
PlansWhere (Write command ordered writes) results = PlansNatural results
PlansWhere other results = Unit {0}

-- an item that serves a send of a bulk write without a failure and without a write concern error, and no statement counts a
-- negative number
abbrev pub ServesBulk : Send → Item → Type 0
ServesBulk send (Serve results fail concern page) = (fail ≡ []) × (concern ≡ None) × PlansWhere send.body results
ServesBulk send _ = ⊥

-- what may be repeated of models: nothing where one of them is of all documents found
abbrev pub own_of_models : List WriteModel → ClientOptions → Retryability
own_of_models models client = own_of_statement (list_any is_multi models) client

-- writes of a bulk write of these models may go out again: there are some, and they have a number, by the client's options, the
-- link's setup and the models that remain in the call from the first of them on, which has its index
abbrev pub RepeatsFrom : List WriteModel → ClientOptions → Option Setup → List PlacedWrite → Type 0
RepeatsFrom models client setup [] = ⊥
RepeatsFrom models client setup (write ∷ writes) = DrawsNumbers true (own_of_models (drop write.place.index models) client) setup

-- so may a send of them; a command of a cursor has none
abbrev pub BulkRepeats : List WriteModel → ClientOptions → Option Setup → Send → Type 0
BulkRepeats models client setup send = RepeatsFrom models client setup (writes_of send)

-- what the entries of the first models of a call, of however many, tell that stand in a log has counts of 64 bits
abbrev pub CountsWithin : {R : Type 0} → ResultSpec R → List WriteModel → ℕ → List Entry → Type 0
CountsWithin {R} tells models call log =
    (count : ℕ) (entries : List Entry) → AreEntriesOf (take count models) call 0 entries → ((entry : Entry) → Has entries entry → Has log entry)
    → (output : R) → TellsBulk tells 0 entries output → AllFit (tells.counts output)

-- the part of a schedule that a bulk write of models took is gentle for its commands, and the sums of its counts stay within 64 bits
pub record IsGentleBulkPart {R : Type 0} (tells : ResultSpec R) (models : List WriteModel) (call : ℕ) (client : ClientOptions) (setup : Option Setup) (before now : ServerRun) : Type 0 where
  pub part : IsGentleCallPart ServesBulk (BulkRepeats models client setup) before now
  pub sums : CountsWithin tells models call now.server.log

-- the same of a link that tells its server
abbrev pub IsGentleBulkWhereTold : {R : Type 0} → ResultSpec R → List WriteModel → ℕ → ClientOptions → Option Setup → Option ServerRun → Option ServerRun → Type 0
IsGentleBulkWhereTold tells models call client setup None now = ⊥
IsGentleBulkWhereTold tells models call client setup (Some told) None = ⊥
IsGentleBulkWhereTold tells models call client setup (Some told) (Some now) = IsGentleBulkPart tells models call client setup told now

-- the concern that a bulk write goes out with: its own, else the client's
abbrev pub bulk_concern : BulkWriteOptions → ClientOptions → Option WriteConcern
bulk_concern options client = effective_concern (feature_of options.write_concern) admin_target client.write_concern

-- a connection that is described so takes bulk writes, and each of the models as it is sent fits alone into a command over it
pub record TakesModels (description : Description) (options : BulkWriteOptions) (verbose : Bool) (models : List WriteModel) : Type 0 where
  pub serves : serves_bulk description ≡ true
  pub alone : (index : ℕ) (op : SizedOp) → slice_get (sized_with_ids models) index ≡ Some op → FitsOps (bulk_limits options verbose description) (op ∷ [])

-- the namespaces of any of the models one after another are so few that each has a number in a command
abbrev pub HaveFewNamespaces : List WriteModel → Type 0
HaveFewNamespaces models = (index count : ℕ) → length (sized_namespaces (take count (drop index (sized_with_ids models)))) ≤ 2147483648

-- a bulk write is valid after at most so many numbers, under a client's options, over a link that tells its setup or not: its input
-- is accepted, its write concern is not refused, its command has a spelling with that concern under any session and number or none,
-- the setup's connections take each of its models, their namespaces have numbers, and a session has numbers enough for its batches
pub record IsValidBulk (most : ℕ) (client : ClientOptions) (setup : Option Setup) (models : List WriteModel) (options : BulkWriteOptions) (verbose : Bool) : Type 0 where
  pub accepted : IsBulkAccepted models options
  pub concerned : concern_refusal (bulk_concern options client) ≡ None
  pub command : (context : SendContext) → context.concern ≡ bulk_concern options client → IsSixteen context.session
      → refusal (bulk_command options verbose ++ executor_fields context ADMIN.now) ≡ None
  pub takes : IfSome setup (λ setup. TakesModels setup.description options verbose models)
  pub namespaces : HaveFewNamespaces models
  pub numbers : pos (most + bulk_numbers setup models options verbose) ≤ℤ last_number

-- a command asks for one of the first so many cursors, or ends one, or is of none
abbrev pub AsksWithin : ℕ → SendBody → Type 0
AsksWithin opened (More cursor) = cursor ≤ℤ pos opened
AsksWithin opened (Kill cursor) = cursor ≤ℤ pos opened
AsksWithin opened other = Unit {0}

-- so it is of each send that waits
abbrev pub WaitsWithin : ℕ → Server → Type 0
WaitsWithin opened server = (at : ℕ) (send : Send) → slice_get server.waiting at ≡ Some (Some send) → AsksWithin opened send.body

-- no send that waits is of a cursor that is yet to be opened
abbrev pub NoneAhead : Server → Type 0
NoneAhead server = WaitsWithin (length server.cursors) server

-- a bulk write may be made, no idle session has a number above this one, and no send that waits is of a cursor that is yet to be
-- opened
pub record MayCompleteBulk (most : ℕ) (pool pool_now : Pool) (run : ServerRun) (call : ℕ) : Type 0 where
  pub call_may : MayCompleteCall most pool pool_now run call
  pub cursors : NoneAhead run.server

-- the same, where pool and server are told
abbrev pub MayCompleteBulkWhereTold : ℕ → Option Pool → Option Pool → Option ServerRun → ℕ → Type 0
MayCompleteBulkWhereTold most (Some pool) (Some pool_now) (Some run) call = MayCompleteBulk most pool pool_now run call
MayCompleteBulkWhereTold most pool pool_now run call = ⊥

-- so it ends well, where it is valid after at most so many numbers and its part of the schedule is gentle
abbrev pub CompletesBulk : {R : Type 0} → ResultSpec R → Moment → Moment → List WriteModel → BulkWriteOptions → ℕ → Result R Error → Type 0
CompletesBulk tells before now models options call result =
    (most : ℕ) → MayCompleteBulkWhereTold most before.store.pool now.store.pool (server_run before.link) call
    → IsValidBulk most before.client.options (setup_of before.link) models options (is_verbose tells)
    → IsGentleBulkWhereTold tells models call before.client.options (setup_of before.link) (server_run before.link) (server_run now.link)
    → EndsWell result
