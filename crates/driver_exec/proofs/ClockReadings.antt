-- An operation only reads its clock.
use Rattle.std.proofs.Common.{◌≡◌, ℕ, List, [], ◌∷◌, ◌++◌, ◌≤◌, refl, sym, ap, subst, ◌∙◌, inl, inr, arith}
use Rattle.std.specs.Prelude.{Bool, true, false, Option, None, Some, Result, Ok, Err}
use Rattle.driver_error.specs.declared.error.Error.{Error}
use Rattle.driver_options.specs.declared.options.Address.{Address}
use Rattle.driver_options.specs.declared.options.Conn.{Conn}
use Rattle.link_faults.specs.declared.fault.LinkError.{LinkError}
use Rattle.link_faults.specs.declared.fault.LinkError.TheVariants.{Fault}
use Rattle.driver_link.specs.Clock.{ClockTells, ReadsClock}
use Rattle.driver_session.specs.Session.{Session}
use Rattle.driver_session.specs.StoreTells.{StoreTells}
use Rattle.driver_ops.specs.Operations.{Batch, OperationSpec}
use Rattle.driver_ops.specs.SendKinds.{SendKind}
use Rattle.driver_attempt.specs.declared.attempt_end.AttemptEnd.{AttemptEnd}
use Rattle.driver_attempt.specs.declared.attempt_end.AttemptEnd.TheVariants.{Done, Ended, Failed, Stopped, Unfit, Unselected}
use Rattle.retry_rules.specs.declared.failure.AttemptFailure.{AttemptFailure}
use Rattle.retry_rules.specs.declared.failure.FailurePhase.{FailurePhase}
use Rattle.retry_rules.specs.declared.failure.FailurePhase.TheVariants.{ConnectionEstablishment, Execution}
use Rattle.driver_attempt.specs.Attempting.{AttemptState, AttemptedOperation, EndsAtOnce, FailsIn, MakesAttempt, Readies, Sends, asks_session, attempted_operation, besides_out}
use Rattle.driver_attempt.specs.Concerns.{concern_of}
use Rattle.driver_attempt.specs.Executing.{Ends, Proceeds, first_state}
use Rattle.driver_attempt.specs.Holding.{ExecutionSession, GivesBack, HoldsSession, IsBackAt, IsLentAt, needs_session}
use Rattle.driver_attempt.specs.Moment.{Moment}
use Rattle.driver_attempt.specs.Readings.{MayRead, OnlyRead, ReadsClockBy}
use Rattle.retry_rules.specs.Retry.{RetryState}
use Rattle.driver_attempt.specs.inside.Executing.{Reaches}
use Rattle.driver_attempt.proofs.Attempts.{may_read_leaves}
use Rattle.driver_attempt.proofs.RetryFold.{came_of}

-- a clock that is as it was
pub read_same : (clock now : ClockTells) → now ≡ clock → OnlyRead clock now
read_same clock now same = record { readings = []; reads = same }

-- one that was read once
read_once : (clock now : ClockTells) (at : ℕ) → ReadsClock clock now at → OnlyRead clock now
read_once clock now at reads = record { readings = at ∷ []; reads = (now, (reads, refl)) }

-- readings after others
reads_on : (a b c : ClockTells) (first second : List ℕ) → ReadsClockBy a b first → ReadsClockBy b c second → ReadsClockBy a c (first ++ second)
reads_on a b c [] second same reads = subst (λ clock. ReadsClockBy clock c second) same reads
reads_on a b c (reading ∷ first) second reads more = (reads.0, (reads.1.0, reads_on reads.0 b c first second reads.1.1 more))

-- a clock that was only read twice
pub read_twice : (a b c : ClockTells) → OnlyRead a b → OnlyRead b c → OnlyRead a c
read_twice a b c first second = record { readings = first.readings ++ second.readings; reads = reads_on a b c first.readings second.readings first.reads second.reads }

-- its last reading is no earlier then, and nobody slept
pub reads_later : (clock now : ClockTells) (readings : List ℕ) → ReadsClockBy clock now readings → (clock.last ≤ now.last) × (now.slept ≡ clock.slept)
reads_later clock now [] same = let last : now.last ≡ clock.last = ap (λ c. c.last) same in (omega (arith, last), ap (λ c. c.slept) same)
reads_later clock now (reading ∷ readings) reads =
    let mid = reads.0 in
    let later = reads_later mid now readings reads.1.1 in
    let rest = later.0 in
    (omega (arith, rest, reads.1.0.forward, reads.1.0.last_is), later.1 ∙ reads.1.0.slept)

-- a clock that was read once or not at all
may_read : (clock now : ClockTells) → MayRead clock now → OnlyRead clock now
may_read clock now may = elim may [ inl same ↦ read_same clock now same | inr reads ↦ read_once clock now reads.0 reads.1 ]

-- for a lending it is read
lent_read : (needed : Bool) (store now : StoreTells) (held held_now : ExecutionSession) (holds : HoldsSession needed store now held held_now (Ok tt)) (clock clock_now : ClockTells)
    → IsLentAt needed store now held held_now (Ok tt) holds clock clock_now → OnlyRead clock clock_now
lent_read false store now held held_now holds clock clock_now at = read_same clock clock_now at
lent_read true store now held held_now holds clock clock_now at = read_once clock clock_now holds.at at

-- and for a session that comes back
back_read : (store now : StoreTells) (session : Option Session) (back : GivesBack store now session) (clock clock_now : ClockTells) → IsBackAt store now session back clock clock_now
    → OnlyRead clock clock_now
back_read store now None back clock clock_now at = read_same clock clock_now at
back_read store now (Some session) back clock clock_now at = read_once clock clock_now back.at at

-- one attempt
module _ {A : Type 0} (op : AttemptedOperation A) (kept : Option RetryState) (before now : AttemptState) where
  readies_read : (address : Address) (conn : Conn) → Readies op kept before now address conn → OnlyRead before.clock now.clock
  readies_read address conn readies =
      lent_read (needs_session (asks_session op.spec.sessions conn.description) before.held) before.store now.store before.held now.held readies.holds before.clock now.clock readies.lent_at

module _ {A : Type 0} (op : AttemptedOperation A) (kept : Option RetryState) (before now : AttemptState) where
  sends_read : (behind : AttemptState) → now.clock ≡ behind.clock → (address : Address) (conn : Conn) (result : Result (List ℕ) LinkError) → Sends op kept before behind address conn result → OnlyRead before.clock now.clock
  sends_read behind same address conn result sends = subst (OnlyRead before.clock) (sym (same ∙ sends.clock_is)) (readies_read op kept before sends.ready address conn sends.readies)

  failed_read : (address : Address) (phase : FailurePhase) (error : Error) → FailsIn op kept before now address phase error → OnlyRead before.clock now.clock
  failed_read address ConnectionEstablishment error fails = read_same before.clock now.clock fails.rest.clock
  failed_read address Execution error fails = elim fails [
    | inl lost ↦ sends_read now refl address lost.conn (Err (Fault lost.fault lost.labels)) lost.sends
    | inr spelled ↦ sends_read spelled.behind spelled.reads.clock address spelled.conn (Ok spelled.reply) spelled.sends
  ]

  ended_read : (error : Error) → EndsAtOnce op kept before now error → OnlyRead before.clock now.clock
  ended_read error ends = elim ends [
    | inl unready ↦ may_read before.clock now.clock unready.clock
    | inr other ↦ elim other [
      | inl refused ↦ subst (OnlyRead before.clock) (sym refused.clock) (readies_read op kept before refused.ready refused.address refused.conn refused.readies)
      | inr sent ↦ sends_read sent.behind (may_read_leaves op sent.conn sent.result sent.behind now sent.reads).clock sent.address sent.conn sent.result sent.sends
    ]
  ]

  attempt_read : (attempt : AttemptEnd A) → MakesAttempt op kept before now attempt → OnlyRead before.clock now.clock
  attempt_read (Done output) makes = sends_read makes.behind makes.reads.clock makes.address makes.conn (Ok makes.reply) makes.sends
  attempt_read (Failed failure) makes = failed_read failure.address failure.phase failure.error makes.0
  attempt_read (Unselected error) makes = read_same before.clock now.clock makes.rest.clock
  attempt_read Stopped makes = readies_read op kept before now makes.1.address makes.1.conn makes.1.readies
  attempt_read Unfit makes = subst (OnlyRead before.clock) (sym makes.1.clock) (readies_read op kept before makes.1.ready makes.1.address makes.1.conn makes.1.readies)
  attempt_read (Ended error) makes = ended_read error makes

-- all attempts
module _ {A : Type 0} (op : AttemptedOperation A) (sharded : Bool) (before : AttemptState) where
  reached_read : (failures : List AttemptFailure) (kept : Option RetryState) (now : AttemptState) → Reaches op sharded before failures kept now → OnlyRead before.clock now.clock
  reached_read [] kept now reaches = read_same before.clock now.clock (ap (λ s. s.clock) reaches.1)
  reached_read (failure ∷ failures) kept now reaches =
      let mid = reaches.1.1.0 in
      let rest = reaches.1.1.1 in
      read_twice before.clock mid.clock now.clock (reached_read failures rest.0 mid rest.1.0)
      (failed_read op rest.0 mid now failure.address failure.phase failure.error rest.1.1.makes.0)

  ended_all : (kept : Option RetryState) (mid now : AttemptState) (result : Result A Error) → OnlyRead before.clock mid.clock → Ends op sharded kept mid now result → OnlyRead before.clock now.clock
  ended_all kept mid now result read ends = elim ends [
    | inl last ↦ read_twice before.clock mid.clock now.clock read (attempt_read op kept mid now last.attempt last.makes)
    | inr other ↦ elim other [
      | inl limit ↦ subst (λ s. OnlyRead before.clock s.clock) (sym limit.same) read
      | inr refused ↦ read_twice before.clock mid.clock now.clock read (attempt_read op kept mid now (Failed refused.failure) refused.makes)
    ]
  ]

-- so it is of an operation that is not refused for its concern
pub proceeds_read : {A : Type 0} (spec : OperationSpec A) (batch : Batch) (which : SendKind) (before now : Moment) (count count_now : ℕ) (fixed fixed_now : Option ℕ) (result : Result A Error)
    → Proceeds spec batch which before now count count_now fixed fixed_now result → OnlyRead before.clock now.clock
proceeds_read spec batch which before now count count_now fixed fixed_now result executes =
    let op = attempted_operation spec batch which (spec.retryability before.client.options) (concern_of spec which before.client.options) in
    let first = first_state before.store (besides_out before.link) before.clock count fixed in
    let last = executes.last in
    let came = came_of op executes.sharded first last result executes.attempts in
    let so_far = reached_read op executes.sharded first came.0 executes.attempts.kept executes.attempts.mid came.1 in
    let attempts = ended_all op executes.sharded first executes.attempts.kept executes.attempts.mid last result so_far executes.attempts.ends in
    read_twice before.clock last.clock now.clock attempts (back_read last.store now.store last.held.session executes.comes_back last.clock now.clock executes.back_at)
