-- What each batch of a call leaves, and what its batches leave together, whatever operations make them: over a plan whose operations ask for
-- writes in the places of their indexes.
use Rattle.std.proofs.Common.{◌≡◌, ℕ, ◌+◌, ◌-◌, ◌<◌, ◌≤◌, Bool, true, false, List, [], ◌∷◌, ◌++◌, drop, length, length-drop, refl, sym, ap, subst, ◌∙◌, inl, inr, append_assoc, arith}
use Rattle.std.specs.Prelude.{Option, None, Some, IfSome, ◌⊎◌, Result, Ok, Err, slice_get}
use Rattle.std.proofs.lemmas.List.{append-nil}
use Rattle.driver_error.specs.declared.error.Error.{Error}
use Rattle.driver_error.specs.Error.{kind_of}
use Rattle.driver_options.specs.declared.options.Description.{Description}
use Rattle.driver_link.specs.declared.machine.Entry.{Entry}
use Rattle.driver_link.specs.declared.machine.Place.{Place}
use Rattle.driver_link.specs.declared.machine.PlacedWrite.{PlacedWrite}
use Rattle.driver_link.specs.declared.machine.Send.{Send}
use Rattle.driver_link.specs.declared.machine.SendBody.{SendBody}
use Rattle.driver_link.specs.declared.machine.SendBody.TheVariants.{Kill, More}
use Rattle.driver_link.specs.declared.machine.Setup.{Setup}
use Rattle.driver_link.specs.Apart.{AllApart}
use Rattle.driver_link.specs.Cases.{body_writes, writes_of}
use Rattle.driver_link.specs.LinkState.{Described, Making, Served, Untold, run_in, server_run, setup_in}
use Rattle.driver_link.specs.ServerRun.{ServerRun}
use Rattle.driver_link.specs.Settled.{Has, IsOfCursor, IsWrite}
use Rattle.driver_link.proofs.Lists.{none_is_some}
use Rattle.driver_session.specs.Pool.{Pool}
use Rattle.driver_session.specs.StoreTells.{DrawnApart, DrawnApartIn, GainsDrawn}
use Rattle.driver_session.proofs.IdDraws.{apart_before}
use Rattle.driver_session.proofs.PoolTells.{same_told}
use Rattle.driver_ops.specs.declared.command.Command.{Command}
use Rattle.driver_ops.specs.Fields.{SendContext, under}
use Rattle.driver_ops.specs.OperationLaw.{IsLawful}
use Rattle.driver_ops.specs.Operations.{AsksFor, IsFixed, OperationSpec, send_of}
use Rattle.driver_ops.specs.SendKinds.{first}
use Rattle.driver_attempt.specs.Executing.{Executes}
use Rattle.driver_attempt.specs.Moment.{Moment}
use Rattle.driver_exec.specs.BetweenCalls.{Between, MaySendPlaces, Sound}
use Rattle.driver_exec.specs.Keeping.{KeepsInvariant, MayPass, StandsBefore}
use Rattle.driver_exec.specs.Reporting.{HasBuilt, HasRun}
use Rattle.driver_exec.specs.Resending.{IsReadFailure, SendsOneCommand, SentWithin}
use Rattle.driver_exec.proofs.BuiltCommands.{executes_built}
use Rattle.driver_exec.proofs.BuiltSends.{sends_built}
use Rattle.driver_exec.proofs.InvariantSteps.Leaving.{Left, left_of}
use Rattle.driver_exec.proofs.InvariantSteps.Standing.{one_command_keeps}
use Rattle.driver_exec.proofs.WholeOperation.{executes_draws, executes_lends, executes_read, executes_words}
use Rattle.many_actions.specs.BatchPlans.{BatchPlan, MakesAllPlanned, MakesPlanned, PlannedEnd, rest_of}
use Rattle.driver_actions.specs.CallParts.{HasWriteOf, IsSendOf, KeepsMakingWhereTold}
use Rattle.driver_actions.specs.Raises.{RaisesBy}
use Rattle.many_actions.specs.Numbers.{server_setup}
use Rattle.driver_actions.proofs.MovesBeside.{CallMoves, GainsOwn, LeftBy, gains_counted, gains_sent, left_moves, moves_more, moves_refl, moves_twice, raises_more, raises_same, raises_twice}

-- how many writes a command has, one where that was not fixed
abbrev pub fixed_or_one : Option ℕ → ℕ
fixed_or_one None = 1
fixed_or_one (Some count) = count

-- it may have so many
pub is_fixed_or_one : (fixed : Option ℕ) → IsFixed fixed (fixed_or_one fixed)
is_fixed_or_one None = tt
is_fixed_or_one (Some count) = refl

-- a place of a call
abbrev pub place_in : ℕ → ℕ → Place
place_in call index = record { call = call; index = index }

-- no write of a trace has a place of a call from an index on
abbrev pub IsNewFrom : List Send → ℕ → ℕ → Type 0
IsNewFrom trace call index =
    (earlier : Send) (at : ℕ) (write : PlacedWrite) → Has trace earlier → slice_get (writes_of earlier) at ≡ Some write → write.place.call ≡ call → write.place.index < index

-- a write at a position of a batch: it stands in the place of its index in the call, it is one of so many, and it is such
pub record StandsAt (Is : PlacedWrite → Type 0) (call index count at : ℕ) (write : PlacedWrite) : Type 0 where
  pub place_is : write.place ≡ place_in call (index + at)
  pub below : at < count
  pub is : Is write

-- a write stands in a place of a call below a limit, and is such
pub record IsBelow (Is : PlacedWrite → Type 0) (call limit : ℕ) (write : PlacedWrite) : Type 0 where
  pub is : Is write
  pub of_call : write.place.call ≡ call
  pub below : write.place.index < limit

-- what the operations of a plan ask for, for the writes of one call of which this is so: it is so of the rest, each command asks for writes
-- in their places that are such, one of the call among them, it has one statement at least and no more than are left, and an error behind
-- which the next batch is begun is one that only a reply spells
pub record PlanWrites {W A : Type 0} (paged : Bool) (plan : BatchPlan W A) (call : ℕ) (Good : ℕ → List W → Type 0) (Is : PlacedWrite → Type 0) : Type 0 where
  pub good_rest : (index count : ℕ) (own : List W) → Good index own → Good (index + count) (drop count own)
  pub body : (index : ℕ) (own : List W) → Good index own → ℕ → SendBody
  pub asks : (index : ℕ) (own : List W) (good : Good index own) (count : ℕ) → AsksFor (plan.spec index own) (rest_of call index own count) (body index own good count)
  pub writes : (index : ℕ) (own : List W) (good : Good index own) (count : ℕ) → IsWrite (body index own good count)
  pub stands : (index : ℕ) (own : List W) (good : Good index own) (count at : ℕ) (write : PlacedWrite) → slice_get (body_writes (body index own good count)) at ≡ Some write
      → StandsAt Is call index count at write
  pub has_one : (index : ℕ) (own : List W) (good : Good index own) (count : ℕ) → 0 < count → 0 < length own → HasWriteOf call (body_writes (body index own good count))
  pub some : (index : ℕ) (own : List W) (statements : ℕ) (command : Command) → (plan.spec index own).commands first statements command → 0 < statements
  pub within : (index : ℕ) (own : List W) (statements : ℕ) (command : Command) → (plan.spec index own).commands first statements command → statements ≤ length own
  pub lawful : (index : ℕ) (own : List W) → IsLawful (plan.spec index own)
  pub pages : (index : ℕ) (own : List W) → (plan.spec index own).paged ≡ paged
  pub read : (error : Error) → plan.goes_on (Err error) ≡ true → IsReadFailure (kind_of error)

-- how many numbers of sessions the writes that are left take at most, where the setup is told or not: one at least where some are left, and
-- one fewer behind a batch that was built by that setup
pub record PlanNumbers {W A : Type 0} (plan : BatchPlan W A) (setup : Option Setup) (numbers : List W → ℕ) : Type 0 where
  pub one : (own : List W) → 0 < length own → 1 ≤ numbers own
  pub fewer : (index : ℕ) (own : List W) (description : Description) (statements : ℕ) → IfSome setup (λ found. description ≡ found.description)
      → (plan.spec index own).takes (plan.fixed own) description statements → 0 < statements → statements ≤ length own → 1 + numbers (drop statements own) ≤ numbers own

-- writes that stand so may be sent where none of their places, nor any behind them, was
pub standing_may_send : (Is : PlacedWrite → Type 0) (call index count : ℕ) (trace : List Send) (body : SendBody) → IsWrite body
    → ((at : ℕ) (write : PlacedWrite) → slice_get (body_writes body) at ≡ Some write → StandsAt Is call index count at write) → IsNewFrom trace call index → MaySendPlaces trace body
standing_may_send Is call index count trace body writes stands new = record {
  writes = writes;
  apart = λ i j one other at_i at_j same.
      let one_at = stands i one at_i in
      let other_at = stands j other at_j in
      let same_index : index + i ≡ index + j = ap (λ place. place.index) (sym one_at.place_is ∙ same ∙ other_at.place_is) in
      omega (arith, same_index);
  new = λ earlier i j one other has here also same.
      let found = stands j other also in
      let place : one.place ≡ place_in call (index + j) = same ∙ found.place_is in
      let before : one.place.index < index = new earlier i one has here (ap (λ place. place.call) place) in
      let index_is : one.place.index ≡ index + j = ap (λ place. place.index) place in
      absurd (omega (arith, before, index_is));
}

-- a command of a cursor carries no writes
of_cursor_none : (body : SendBody) → IsOfCursor body → (at : ℕ) (write : PlacedWrite) → slice_get (body_writes body) at ≡ Some write → ⊥
of_cursor_none (More cursor) is at write stands = none_is_some write stands
of_cursor_none (Kill cursor) is at write stands = none_is_some write stands
of_cursor_none _ is at write stands = absurd is

passing_none : (paged : Bool) (send : Send) → MayPass paged send → (at : ℕ) (write : PlacedWrite) → slice_get (writes_of send) at ≡ Some write → ⊥
passing_none true send aside at write stands = of_cursor_none send.body aside.cursor at write stands
passing_none false send never at write stands = absurd never

-- all writes of a send are such
abbrev pub AllWrites : (PlacedWrite → Type 0) → Send → Type 0
AllWrites P send = (at : ℕ) (write : PlacedWrite) → slice_get (writes_of send) at ≡ Some write → P write

-- a told pool and a told server went on: what stood between operations stands, the log has grown, and each send of the trace was
-- there before or has such writes alone
pub record Advances (P : PlacedWrite → Type 0) (pool_now : Pool) (run run_now : ServerRun) : Type 0 where
  pub between : Between pool_now run_now.server.trace
  pub sound : Sound run_now.server
  pub more : List Entry
  pub log : run_now.server.log ≡ run.server.log ++ more
  pub which : (send : Send) → Has run_now.server.trace send → Has run.server.trace send ⊎ AllWrites P send

-- where nothing happened
pub advances_refl : (P : PlacedWrite → Type 0) (pool : Pool) (run : ServerRun) → Between pool run.server.trace → Sound run.server → Advances P pool run run
advances_refl P pool run between sound = record {
  between = between;
  sound = sound;
  more = [];
  log = sym (append-nil run.server.log);
  which = λ send has. inl has;
}

-- two steps
pub advances_twice : (P : PlacedWrite → Type 0) (pool_mid pool_now : Pool) (run mid run_now : ServerRun) → Advances P pool_mid run mid → Advances P pool_now mid run_now → Advances P pool_now run run_now
advances_twice P pool_mid pool_now run mid run_now one two = record {
  between = two.between;
  sound = two.sound;
  more = one.more ++ two.more;
  log = two.log ∙ ap (λ log. log ++ two.more) one.log ∙ append_assoc run.server.log one.more two.more;
  which = λ send has. elim (two.which send has) [
    | inl earlier ↦ one.which send earlier
    | inr own ↦ inr own
  ];
}

-- of such writes are those that follow from them
pub advances_as : (P Q : PlacedWrite → Type 0) (pool_now : Pool) (run run_now : ServerRun) → ((write : PlacedWrite) → P write → Q write) → Advances P pool_now run run_now → Advances Q pool_now run run_now
advances_as P Q pool_now run run_now turns advances = record {
  between = advances.between;
  sound = advances.sound;
  more = advances.more;
  log = advances.log;
  which = λ send has. elim (advances.which send has) [
    | inl earlier ↦ inl earlier
    | inr own ↦ inr (λ at write stands. turns write (own at write stands))
  ];
}

-- a pool that was told is told after draws
pub pool_told : (pool : Pool) (store now : Option Pool) (ids : List (List ℕ)) → store ≡ Some pool → GainsDrawn store now ids → (found : Pool) × (now ≡ Some found)
pool_told pool store now ids is gains = of_told now (subst (λ p. GainsDrawn p now ids) is gains)
  where
    of_told : (now : Option Pool) → GainsDrawn (Some pool) now ids → (found : Pool) × (now ≡ Some found)
    of_told None gains = absurd gains
    of_told (Some found) gains = (found, refl)

-- a server that was told is told as long as its making stays
pub run_told : (run : ServerRun) (link now : Option ServerRun) → link ≡ Some run → KeepsMakingWhereTold link now → (found : ServerRun) × (now ≡ Some found)
run_told run link now is making = of_told now (subst (λ l. KeepsMakingWhereTold l now) is making)
  where
    of_told : (now : Option ServerRun) → KeepsMakingWhereTold (Some run) now → (found : ServerRun) × (now ≡ Some found)
    of_told None making = absurd making
    of_told (Some found) making = (found, refl)

-- what is told between two parts of a call
pub record MidTold (mid : Moment) : Type 0 where
  pub pool : Pool
  pub run : ServerRun
  pub pool_is : mid.store.pool ≡ Some pool
  pub run_is : server_run mid.link ≡ Some run
  pub apart : AllApart pool.drawn

pub mid_told : (paged : Bool) (a b call : ℕ) (before mid now : Moment) → CallMoves paged a call before mid → CallMoves paged b call mid now → (pool : Pool) (run : ServerRun) → before.store.pool ≡ Some pool
    → server_run before.link ≡ Some run → DrawnApart now.store → MidTold mid
mid_told paged a b call before mid now earlier later pool run pool_is run_is apart =
    let pool_mid = pool_told pool before.store.pool mid.store.pool earlier.draws.more pool_is earlier.draws.drawn in
    let run_mid = run_told run (server_run before.link) (server_run mid.link) run_is earlier.making in
    let apart_mid : DrawnApart mid.store = apart_before mid.store now.store later.draws apart in
    record { pool = pool_mid.0; run = run_mid.0; pool_is = pool_mid.1; run_is = run_mid.1; apart = subst DrawnApartIn pool_mid.1 apart_mid }

-- what is said of all that store and link tell, where they tell these
pub told_as : (P : Option Pool → Option Pool → Option ServerRun → Option ServerRun → Type 0) (store store_now : Option Pool) (link link_now : Option ServerRun) (pool pool_now : Pool) (run run_now : ServerRun)
    → store ≡ Some pool → store_now ≡ Some pool_now → link ≡ Some run → link_now ≡ Some run_now → P store store_now link link_now → P (Some pool) (Some pool_now) (Some run) (Some run_now)
told_as P store store_now link link_now pool pool_now run run_now pool_is pool_now_is run_is run_now_is holds =
    subst (λ n. P (Some pool) (Some pool_now) (Some run) n) run_now_is
    (subst (λ r. P (Some pool) (Some pool_now) r link_now) run_is
    (subst (λ p. P (Some pool) p link link_now) pool_now_is
    (subst (λ p. P p store_now link link_now) pool_is holds)))

-- the place of the next write is new behind a batch
pub next_new : (call index : ℕ) (trace : List Send) (fixed : Option ℕ) (statements : ℕ) → fixed ≡ Some statements → IsNewFrom trace call (index + fixed_or_one fixed) → IsNewFrom trace call (index + statements)
next_new call index trace fixed statements told new = subst (λ n. IsNewFrom trace call (index + n)) (ap fixed_or_one told) new

-- an end behind which a batch is begun was read: it was done, or its reply spelled its failure
read_on : {A : Type 0} (goes_on : Result A Error → Bool) (spec : OperationSpec A) (before : Moment) (fixed fixed_now : Option ℕ)
    → ((error : Error) → goes_on (Err error) ≡ true → IsReadFailure (kind_of error)) → (result : Result A Error) → goes_on result ≡ true
    → HasRun spec first before fixed fixed_now result → HasBuilt spec first before fixed fixed_now
read_on goes_on spec before fixed fixed_now read (Ok output) on run = run
read_on goes_on spec before fixed fixed_now read (Err error) on run = run (read error on)

-- a told server keeps its setup
keeps_setup : (link now : Option ServerRun) → KeepsMakingWhereTold link now → server_setup now ≡ server_setup link
keeps_setup None now making = ap server_setup making
keeps_setup (Some run) None making = absurd making
keeps_setup (Some run) (Some run_now) making = ap (λ (s : Setup). Some s) making.0

-- what holds of the setup that a link tells holds of its server's
of_server : (making : Making) (setup : Option Setup) (P : Setup → Type 0) → server_setup (run_in making) ≡ setup → IfSome (setup_in making) P → IfSome setup P
of_server Untold setup P is holds = subst (λ s. IfSome s P) is tt
of_server (Described given) setup P is holds = subst (λ s. IfSome s P) is tt
of_server (Served run) setup P is holds = subst (λ s. IfSome s P) is holds

-- the batches of a call
module _ {W A : Type 0} (paged : Bool) (plan : BatchPlan W A) (call : ℕ) (Good : ℕ → List W → Type 0) (Is : PlacedWrite → Type 0) (laws : PlanWrites paged plan call Good Is) where
  -- one of them, over the writes that remain from an index on
  module _ (index : ℕ) (own : List W) (good : Good index own) (before now : Moment) (end : PlannedEnd A) (made : MakesPlanned plan call index own before now end) where
    -- how many writes are in its command
    abbrev pub count_here : ℕ
    count_here = fixed_or_one end.statements

    -- what it asks for
    abbrev pub asked_here : SendBody
    asked_here = laws.body index own good count_here

    -- it was executed so
    pub executes_here : Executes (plan.spec index own) (rest_of call index own count_here) first before now 0 made.count (plan.fixed own) end.statements end.result
    executes_here = made.executes count_here (is_fixed_or_one end.statements)

    -- its sends are one command
    pub command_here : SendsOneCommand (plan.spec index own) (rest_of call index own count_here) before now end.result
    command_here = made.one_command count_here (is_fixed_or_one end.statements)

    -- what it left
    pub left_here : LeftBy paged before now asked_here
    left_here =
        let spec = plan.spec index own in
        let batch = rest_of call index own count_here in
        let asks = laws.asks index own good count_here in
        record {
          session = command_here.session;
          number = command_here.number;
          borrows = command_here.borrows;
          sends = subst (λ p. SentWithin p 2 (server_run before.link) (server_run now.link) (send_of (under command_here.session command_here.number) asked_here)) (laws.pages index own)
              (command_here.sends asked_here asks);
          keeps = subst (λ p. KeepsInvariant p before now asked_here) (laws.pages index own) (one_command_keeps spec batch before now asked_here asks end.result command_here);
          lent = executes_lends spec batch first before now 0 made.count (plan.fixed own) end.statements end.result (laws.lawful index own).alone executes_here;
          drawn = executes_draws spec batch first before now 0 made.count (plan.fixed own) end.statements end.result (laws.lawful index own).alone executes_here;
          read = executes_read spec batch first before now 0 made.count (plan.fixed own) end.statements end.result executes_here;
          words = executes_words spec batch first before now 0 made.count (plan.fixed own) end.statements end.result executes_here;
        }

    -- its send carries writes of the call alone, where it has a statement
    send_here : 0 < count_here → (context : SendContext) → IsSendOf call (send_of context asked_here)
    send_here some context = record {
      some = laws.has_one index own good count_here some made.left;
      all = λ at write stands. ap (λ place. place.call) (laws.stands index own good count_here at write stands).place_is;
    }

    -- all that it sent the call may send
    pub gains_here : GainsOwn paged call (server_run before.link) (server_run now.link)
    gains_here =
        elim (sends_built (plan.spec index own) (rest_of call index own count_here) first before now 0 made.count (plan.fixed own) end.statements end.result executes_here) [
          | inl counts ↦ gains_counted paged call (server_run before.link) (server_run now.link) counts
          | inr built ↦ gains_sent paged call (server_run before.link) (server_run now.link) (send_of (under left_here.session left_here.number) asked_here) left_here.sends.count
              (send_here (laws.some index own count_here built.0 built.1) (under left_here.session left_here.number)) left_here.sends.sends
        ]

    -- so it is a part of the call
    pub batch_moves : CallMoves paged 1 call before now
    batch_moves = left_moves paged call before now asked_here left_here gains_here

    -- where it was done, or its failure was read, it was built
    pub run_here : HasRun (plan.spec index own) first before (plan.fixed own) end.statements end.result
    run_here = executes_built (plan.spec index own) (rest_of call index own count_here) first before now 0 made.count (plan.fixed own) end.statements end.result (laws.lawful index own).alone executes_here

    -- so it was where the next one was begun
    pub built_here : plan.goes_on end.result ≡ true → HasBuilt (plan.spec index own) first before (plan.fixed own) end.statements
    built_here on = read_on plan.goes_on (plan.spec index own) before (plan.fixed own) end.statements laws.read end.result on run_here

    -- over a told pool and a told server, before which all stands
    module _ (pool pool_now : Pool) (run run_now : ServerRun) (pool_is : before.store.pool ≡ Some pool) (pool_now_is : now.store.pool ≡ Some pool_now) (run_is : server_run before.link ≡ Some run)
        (run_now_is : server_run now.link ≡ Some run_now) (between : Between pool run.server.trace) (sound : Sound run.server) (new : IsNewFrom run.server.trace call index) (apart : AllApart pool_now.drawn) where
      -- it may be sent
      pub stands_here : StandsBefore pool pool_now run asked_here
      stands_here = record {
        between = between;
        sound = sound;
        may_send = standing_may_send Is call index count_here run.server.trace asked_here (laws.writes index own good count_here) (laws.stands index own good count_here) new;
        apart = apart;
      }

      -- what its sends left
      sent_here : Left paged left_here.session left_here.number asked_here pool_now run.server run_now.server
      sent_here = left_of paged before now pool pool_now run run_now pool_is pool_now_is run_is run_now_is asked_here stands_here left_here.session left_here.number left_here.sends.count left_here.borrows
          left_here.sends.once left_here.sends.sends

      -- its writes
      below_here : (at : ℕ) (write : PlacedWrite) → slice_get (body_writes asked_here) at ≡ Some write → IsBelow Is call (index + count_here) write
      below_here at write stands =
          let found = laws.stands index own good count_here at write stands in
          let index_is : write.place.index ≡ index + at = ap (λ place. place.index) found.place_is in
          let below = found.below in
          record { is = found.is; of_call = ap (λ place. place.call) found.place_is; below = omega (arith, index_is, below) }

      -- so all went on
      pub batch_advances : Advances (IsBelow Is call (index + count_here)) pool_now run run_now
      batch_advances = record {
        between = sent_here.between;
        sound = sent_here.sound;
        more = sent_here.more;
        log = sent_here.log;
        which = λ send has. elim (sent_here.which send has) [
          | inl earlier ↦ inl earlier
          | inr later ↦ inr (λ at write stands. elim later [
            | inl same ↦ below_here at write (ap (λ s. slice_get (writes_of s) at) same ∙ stands)
            | inr passes ↦ absurd (passing_none paged send passes at write stands)
          ])
        ];
      }

      -- no place behind it was sent
      pub new_behind : IsNewFrom run_now.server.trace call (index + count_here)
      new_behind = λ earlier at write has stands of_call. elim (batch_advances.which earlier has) [
        | inl there ↦ let below = new earlier at write there stands of_call in omega (arith, below)
        | inr mine ↦ (mine at write stands).below
      ]

  -- where a further batch was begun the one before had a write
  pub some_gone : (index : ℕ) (own : List W) → Good index own → (before now : Moment) (end : PlannedEnd A) → MakesPlanned plan call index own before now end → plan.goes_on end.result ≡ true
      → (statements : ℕ) → end.statements ≡ Some statements → (0 < statements) × (statements ≤ length own)
  some_gone index own good before now end made on statements told =
      let built = built_here index own good before now end made on in
      let same : built.statements ≡ statements = ap fixed_or_one (sym built.is ∙ told) in
      (subst (λ n. 0 < n) same (laws.some index own built.statements built.command built.commanded), subst (λ n. n ≤ length own) same (laws.within index own built.statements built.command built.commanded))

  -- the batches that follow one another from an index on, each of which takes a number at most
  pub batches_move : (short : Type 0) (ends : List (PlannedEnd A)) (index : ℕ) (own : List W) → Good index own → (before now : Moment) → MakesAllPlanned short plan call index own ends before now
      → CallMoves paged (length own) call before now
  batches_move short [] index own good before now made = subst (CallMoves paged (length own) call before) (sym made.0) (moves_refl paged (length own) call before)
  batches_move short (end ∷ ends) index own good before now made =
      let mid = made.0 in
      let one = batch_moves index own good before mid end made.1.0 in
      elim made.1.1 [
        | inl on ↦
            let some = some_gone index own good before mid end made.1.0 on.on on.statements on.told in
            let rest = batches_move short ends (index + on.statements) (drop on.statements own) (laws.good_rest index on.statements own good) mid now on.rest in
            let fewer : length (drop on.statements own) ≡ length own - on.statements = length-drop on.statements own in
            moves_more paged (1 + length (drop on.statements own)) (length own) call before now (omega (arith, fewer, some.0, some.1))
            (moves_twice paged 1 (length (drop on.statements own)) call before mid now one rest)
        | inr stops ↦ moves_more paged 1 (length own) call before now (omega (arith, made.1.0.left)) (subst (CallMoves paged 1 call before) (sym stops.same) one)
      ]

  -- a write in a place below a limit is such
  of_below : (limit : ℕ) (write : PlacedWrite) → IsBelow Is call limit write → Is write
  of_below limit write below = below.is

  -- they keep what stands between operations
  pub batches_advance : (short : Type 0) (ends : List (PlannedEnd A)) (index : ℕ) (own : List W) → Good index own → (before now : Moment)
      → (pool pool_now : Pool) (run run_now : ServerRun) → before.store.pool ≡ Some pool → now.store.pool ≡ Some pool_now → server_run before.link ≡ Some run → server_run now.link ≡ Some run_now
      → Between pool run.server.trace → Sound run.server → IsNewFrom run.server.trace call index → DrawnApart now.store
      → MakesAllPlanned short plan call index own ends before now → Advances Is pool_now run run_now
  batches_advance short [] index own good before now pool pool_now run run_now pool_is pool_now_is run_is run_now_is between sound new apart made =
      let same_pool : pool_now ≡ pool = same_told pool_now pool (sym pool_now_is ∙ ap (λ m. m.store.pool) made.0 ∙ pool_is) in
      let same_run : run_now ≡ run = same_told run_now run (sym run_now_is ∙ ap (λ m. server_run m.link) made.0 ∙ run_is) in
      subst (λ p. Advances Is p run run_now) (sym same_pool) (subst (λ r. Advances Is pool run r) (sym same_run) (advances_refl Is pool run between sound))
  batches_advance short (end ∷ ends) index own good before now pool pool_now run run_now pool_is pool_now_is run_is run_now_is between sound new apart made =
      let mid = made.0 in
      let batch = made.1.0 in
      let limit = index + fixed_or_one end.statements in
      elim made.1.1 [
        | inl on ↦
            let good_on = laws.good_rest index on.statements own good in
            let later = batches_move short ends (index + on.statements) (drop on.statements own) good_on mid now on.rest in
            let told = mid_told paged 1 (length (drop on.statements own)) call before mid now (batch_moves index own good before mid end batch) later pool run pool_is run_is apart in
            let one = batch_advances index own good before mid end batch pool told.pool run told.run pool_is told.pool_is run_is told.run_is between sound new told.apart in
            let new_on = next_new call index told.run.server.trace end.statements on.statements on.told
            (new_behind index own good before mid end batch pool told.pool run told.run pool_is told.pool_is run_is told.run_is between sound new told.apart) in
            let rest = batches_advance short ends (index + on.statements) (drop on.statements own) good_on mid now told.pool pool_now told.run run_now
            told.pool_is pool_now_is told.run_is run_now_is one.between one.sound new_on apart on.rest in
            advances_twice Is told.pool pool_now run told.run run_now (advances_as (IsBelow Is call limit) Is told.pool run told.run (of_below limit) one) rest
        | inr stops ↦
            let pool_mid : mid.store.pool ≡ Some pool_now = ap (λ m. m.store.pool) (sym stops.same) ∙ pool_now_is in
            let run_mid : server_run mid.link ≡ Some run_now = ap (λ m. server_run m.link) (sym stops.same) ∙ run_now_is in
            advances_as (IsBelow Is call limit) Is pool_now run run_now (of_below limit)
            (batch_advances index own good before mid end batch pool pool_now run run_now pool_is pool_mid run_is run_mid between sound new (subst DrawnApartIn pool_now_is apart))
      ]

  -- the numbers that they take, by the setup that is told or not
  module _ (setup : Option Setup) (numbers : List W → ℕ) (counts : PlanNumbers plan setup numbers) where
    -- one batch
    module _ (index : ℕ) (own : List W) (good : Good index own) (before now : Moment) (end : PlannedEnd A) (made : MakesPlanned plan call index own before now end)
        (setup_is : server_setup (server_run before.link) ≡ setup) where
      -- its server has the same setup
      pub batch_setup : server_setup (server_run now.link) ≡ setup
      batch_setup = keeps_setup (server_run before.link) (server_run now.link) (batch_moves index own good before now end made).making ∙ setup_is

      -- behind it, where a further one was begun, one number fewer is left to take
      pub batch_fewer : plan.goes_on end.result ≡ true → (statements : ℕ) → end.statements ≡ Some statements → 1 + numbers (drop statements own) ≤ numbers own
      batch_fewer on statements told =
          let built : HasBuilt (plan.spec index own) first before (plan.fixed own) end.statements = built_here index own good before now end made on in
          let same : built.statements ≡ statements = ap fixed_or_one (sym built.is ∙ told) in
          let described : IfSome setup (λ found. built.description ≡ found.description)
          = of_server before.link.making setup (λ found. built.description ≡ found.description) setup_is built.described in
          subst (λ n. 1 + numbers (drop n own) ≤ numbers own) same
          (counts.fewer index own built.description built.statements described built.takes (laws.some index own built.statements built.command built.commanded)
          (laws.within index own built.statements built.command built.commanded))

    -- batches one after another raise the numbers of idle sessions by no more than that
    pub batches_raise : (short : Type 0) (ends : List (PlannedEnd A)) (index : ℕ) (own : List W) → Good index own → (before now : Moment) → server_setup (server_run before.link) ≡ setup
        → MakesAllPlanned short plan call index own ends before now → RaisesBy (numbers own) before now
    batches_raise short [] index own good before now setup_is made = subst (RaisesBy (numbers own) before) (sym made.0) (raises_same (numbers own) before.store.pool)
    batches_raise short (end ∷ ends) index own good before now setup_is made =
        let mid = made.0 in
        let moves = batch_moves index own good before mid end made.1.0 in
        elim made.1.1 [
          | inl on ↦
              let own_on = drop on.statements own in
              let mid_setup = batch_setup index own good before mid end made.1.0 setup_is in
              let rest = batches_raise short ends (index + on.statements) own_on (laws.good_rest index on.statements own good) mid now mid_setup on.rest in
              raises_more (1 + numbers own_on) (numbers own) (batch_fewer index own good before mid end made.1.0 setup_is on.on on.statements on.told) before.store.pool now.store.pool
              (raises_twice 1 (numbers own_on) before.store.pool mid.store.pool now.store.pool moves.draws.more moves.draws.drawn moves.raises rest)
          | inr stops ↦ raises_more 1 (numbers own) (counts.one own made.1.0.left) before.store.pool now.store.pool (subst (RaisesBy 1 before) (sym stops.same) moves.raises)
        ]
