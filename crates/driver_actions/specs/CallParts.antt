-- What one call leaves as it was, what it may send, and what makes a single write valid.
use Rattle.std.specs.Prelude.{◌≡◌, ℕ, ◌≤◌, pos, ◌<ℤ◌, Bool, true, false, List, [], ◌∷◌, length, Option, None, Some, IfSome, ◌⊎◌, slice_get}
use Rattle.bson_lite.specs.declared.bson.ObjectId.{ObjectId}
use Rattle.bson_lite.specs.Fields.{with_id}
use Rattle.bson_lite.specs.Spelling.{refusal, spelling}
use Rattle.driver_options.specs.declared.options.ClientOptions.{ClientOptions}
use Rattle.driver_options.specs.declared.options.Description.{Description}
use Rattle.driver_batches.specs.Sizes.{Fits}
use Rattle.driver_link.specs.declared.machine.PlacedWrite.{PlacedWrite}
use Rattle.driver_link.specs.declared.machine.Send.{Send}
use Rattle.driver_link.specs.declared.machine.Setup.{Setup}
use Rattle.driver_link.specs.Cases.{writes_of}
use Rattle.driver_link.specs.Exchange.{replayed, empty_server}
use Rattle.driver_link.specs.LinkState.{server_run}
use Rattle.driver_link.specs.ServerRun.{ServerRun}
use Rattle.driver_link.specs.Settled.{IsAside}
use Rattle.driver_session.specs.Session.{last_number}
use Rattle.driver_ops.specs.Fields.{IsSixteen, SendContext}
use Rattle.write_ops.specs.InsertFronts.{insert_limits}
use Rattle.driver_attempt.specs.Concerns.{concern_refusal}
use Rattle.driver_attempt.specs.Moment.{Moment}
use Rattle.driver_inputs.specs.Forms.{WriteForm, body_in, concern_in, inserts}
use Rattle.driver_inputs.specs.Inputs.{IsAccepted}

-- a write fits into a command over a connection that is described so: the document of an insert with its id, whichever id that is
abbrev pub FitsAlone : Description → WriteForm → Type 0
FitsAlone description (inserts namespace document options) =
    (id : ObjectId) → length id.bytes ≡ 12 → Fits (insert_limits namespace options description) (length (spelling (with_id id document)) ∷ [])
FitsAlone description other = Unit {0}

-- a write is valid after at most so many numbers, under a client's options, over a link that tells its setup or not: its input is accepted,
-- its write concern is not refused, its command has a spelling with that concern under any session and number or none, it fits into
-- a command over the setup's connections, and a session has one number more
pub record IsValidWrite (most : ℕ) (options : ClientOptions) (setup : Option Setup) (form : WriteForm) : Type 0 where
  pub accepted : IsAccepted form
  pub concerned : concern_refusal (concern_in form options) ≡ None
  pub command : (context : SendContext) → context.concern ≡ concern_in form options → IsSixteen context.session → refusal (body_in form context) ≡ None
  pub fits : IfSome setup (λ setup. FitsAlone setup.description form)
  pub number : pos most <ℤ last_number

-- one of the writes is of this call
abbrev pub HasWriteOf : ℕ → List PlacedWrite → Type 0
HasWriteOf call [] = ⊥
HasWriteOf call (write ∷ writes) = (write.place.call ≡ call) ⊎ HasWriteOf call writes

-- a send carries writes of this call, and of no other
pub record IsSendOf (call : ℕ) (send : Send) : Type 0 where
  pub some : HasWriteOf call (writes_of send)
  pub all : (at : ℕ) (write : PlacedWrite) → slice_get (writes_of send) at ≡ Some write → write.place.call ≡ call

-- what a call may send: what carries its writes alone, and where its answer may come in pages commands of a cursor
abbrev pub MaySend : Bool → ℕ → Send → Type 0
MaySend true call send = IsSendOf call send ⊎ IsAside send
MaySend false call send = IsSendOf call send

-- each send that a told server got between two moments is one that this call may send
abbrev pub SendsOwn : Bool → ℕ → Option ServerRun → Option ServerRun → Type 0
SendsOwn paged call None now = Unit {0}
SendsOwn paged call (Some told) None = ⊥
SendsOwn paged call (Some told) (Some now) =
    (at : ℕ) (send : Send) → length told.server.trace ≤ at → slice_get now.server.trace at ≡ Some send → MaySend paged call send

-- a told server is the fold of the exchange over its trace
abbrev pub IsReplayedWhereTold : Option ServerRun → Type 0
IsReplayedWhereTold None = Unit {0}
IsReplayedWhereTold (Some run) = run.server ≡ replayed run.schedule empty_server run.server.trace

-- a told server is the fold of the exchange over its trace
abbrev pub IsReplayed : Moment → Type 0
IsReplayed now = IsReplayedWhereTold (server_run now.link)

-- a told server keeps the setup and the schedule of its making
abbrev pub KeepsMakingWhereTold : Option ServerRun → Option ServerRun → Type 0
KeepsMakingWhereTold None now = now ≡ None
KeepsMakingWhereTold (Some run) None = ⊥
KeepsMakingWhereTold (Some run) (Some now) = (now.setup ≡ run.setup) × (now.schedule ≡ run.schedule)

-- setup and schedule of a told server stay
abbrev pub KeepsMaking : Moment → Moment → Type 0
KeepsMaking before now = KeepsMakingWhereTold (server_run before.link) (server_run now.link)

-- the exchanges of a part with these numbers are of sends that carry the same
abbrev pub CarrySame : ServerRun → ℕ → ℕ → Type 0
CarrySame now a b =
    (one other : Send) → slice_get now.server.trace a ≡ Some one → slice_get now.server.trace b ≡ Some other → one.body ≡ other.body
