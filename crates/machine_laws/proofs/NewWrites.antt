-- Outside transactions only writes without a kept result add entries, and an interruption runs the first of them.
use Rattle.std.proofs.Common.{◌≡◌, ℕ, zero, suc, ◌+◌, ◌-◌, ◌==◌, ℤ, ◌&&◌, Bool, true, false, List, [], ◌∷◌, ◌++◌, map, take, Option, None, Some, is_some, refl, sym, ap, subst, ◌∙◌, inl, inr, arith, if◌then◌else◌}
use Rattle.std.specs.FinMap as finite
use Rattle.std.proofs.lemmas.Bool.{ne_eqb}
use Rattle.driver_link.proofs.TakenNumbers.{case_traced, known_traced}
use Rattle.driver_link.specs.Cases.{case_of, is_decided, is_ordered, known_of, outside, results_of, writes_of}
use Rattle.driver_link.specs.Exchange.{after_picks, exchanged, interrupted, interrupted_labels, met, traced}
use Rattle.driver_link.specs.Interrupting.{done_before, interrupted_case, interrupted_done, interruption, told_of_error}
use Rattle.driver_link.specs.Serving.{Plan, served, usual}
use Rattle.driver_link.specs.Statements.{Results, code_at, counts_by_plan, entries_by, entries_of, entry_of, front_to_run, is_failed, no_plan, planned_at, statement_at, statement_of, statements, usual_statements}
use Rattle.driver_link.specs.declared.machine.Counted.{Counted}
use Rattle.driver_link.specs.declared.machine.Entry.{Entry}
use Rattle.driver_link.specs.declared.machine.Failing.{Failing}
use Rattle.driver_link.specs.declared.machine.Item.TheVariants.{Interrupted}
use Rattle.driver_link.specs.declared.machine.PlacedWrite.{PlacedWrite}
use Rattle.driver_link.specs.declared.machine.Planned.{Planned}
use Rattle.driver_link.specs.declared.machine.Scheduled.{Scheduled}
use Rattle.driver_link.specs.declared.machine.Send.{Send}
use Rattle.driver_link.specs.declared.machine.Server.{Server}
use Rattle.driver_link.specs.declared.machine.Statement.{Statement}
use Rattle.machine_laws.proofs.EndedTransactions.{interrupted_log, log_served, told_log}
use Rattle.machine_laws.proofs.HeldSessions.{interruption_case}
use Rattle.machine_laws.proofs.SteadyLaws.{served_case}
use Rattle.machine_laws.specs.Fresh.{AreOfEach, AreOfSome, GainsOfEach, GainsOfSome, new_writes, usual_entry, without_result}

-- the writes without a kept result, by what is kept for the first
without_kept : (kept : Results) (at : ℕ) (write : PlacedWrite) (writes : List PlacedWrite) (result : Counted) → finite.get kept at ≡ Some result
    → without_result kept at (write ∷ writes) ≡ without_result kept (at + 1) writes
unfolding without_result
without_kept kept at write writes result is =
    ap (λ found. if is_some found then without_result kept (at + 1) writes else write ∷ without_result kept (at + 1) writes) is

pub without_new : (kept : Results) (at : ℕ) (write : PlacedWrite) (writes : List PlacedWrite) → finite.get kept at ≡ None
    → without_result kept at (write ∷ writes) ≡ write ∷ without_result kept (at + 1) writes
unfolding without_result
without_new kept at write writes is =
    ap (λ found. if is_some found then without_result kept (at + 1) writes else write ∷ without_result kept (at + 1) writes) is

take_none : {A : Type 0} (n : ℕ) → ◌≡◌ {A = List A} (take n []) []
take_none zero = refl
take_none (suc n) = refl

one_less : (n : ℕ) → suc n - 1 ≡ n
one_less n = omega arith

not_none : (n : ℕ) → (suc n == 0) ≡ false
not_none n = ne_eqb (suc n) 0 (λ same. omega arith)

-- the front that an interruption runs, by what is kept for the first
front_kept : (kept : Results) (at most : ℕ) (write : PlacedWrite) (writes : List PlacedWrite) (result : Counted) → finite.get kept at ≡ Some result
    → front_to_run kept at most (write ∷ writes) ≡ write ∷ front_to_run kept (at + 1) most writes
unfolding front_to_run
front_kept kept at most write writes result is =
    ap (λ found. if is_some found then write ∷ front_to_run kept (at + 1) most writes
    else (if most == 0 then [] else write ∷ front_to_run kept (at + 1) (most - 1) writes)) is

front_none : (kept : Results) (at : ℕ) (write : PlacedWrite) (writes : List PlacedWrite) → finite.get kept at ≡ None → front_to_run kept at 0 (write ∷ writes) ≡ []
unfolding front_to_run
front_none kept at write writes is =
    ap (λ found. if is_some found then write ∷ front_to_run kept (at + 1) 0 writes else []) is

front_new : (kept : Results) (at n : ℕ) (write : PlacedWrite) (writes : List PlacedWrite) → finite.get kept at ≡ None
    → front_to_run kept at (suc n) (write ∷ writes) ≡ write ∷ front_to_run kept (at + 1) n writes
unfolding front_to_run
front_new kept at n write writes is =
    ap (λ found. if is_some found then write ∷ front_to_run kept (at + 1) (suc n) writes
    else (if suc n == 0 then [] else write ∷ front_to_run kept (at + 1) (suc n - 1) writes)) is
    ∙ ap (λ b. if b then [] else write ∷ front_to_run kept (at + 1) (suc n - 1) writes) (not_none n)
    ∙ ap (λ less. write ∷ front_to_run kept (at + 1) less writes) (one_less n)

module _ (send : Send) where
  -- the entries of writes of which the first has its statement
  entries_first : (kept : Results) (at : ℕ) (write : PlacedWrite) (writes front : List PlacedWrite)
      → entries_of send.session send.number (write ∷ writes) (statements [] [] false kept at (write ∷ front))
      ≡ entries_by send.session send.number write (statement_of (finite.get kept at) None (counts_by_plan write.written.kind no_plan))
      (entries_of send.session send.number writes (statements [] [] false kept (at + 1) front))
  unfolding entries_of statements code_at
  entries_first kept at write writes front = refl

  no_entries : (kept : Results) (at : ℕ) (writes : List PlacedWrite) → entries_of send.session send.number writes (statements [] [] false kept at []) ≡ []
  unfolding entries_of statements
  no_entries kept at [] = refl
  no_entries kept at (write ∷ writes) = refl

  front_end : (kept : Results) (at most : ℕ)
      → entries_of send.session send.number [] (statements [] [] false kept at (front_to_run kept at most [])) ≡ map (usual_entry send) (take most (without_result kept at []))
  unfolding entries_of statements front_to_run without_result
  front_end kept at most = ap (λ writes. map (usual_entry send) writes) (sym (take_none most))

  -- what is shown of the later writes, from their position on
  abbrev RunsFirst : Results → ℕ → List PlacedWrite → ℕ → Type 0
  RunsFirst kept at writes most =
      entries_of send.session send.number writes (statements [] [] false kept at (front_to_run kept at most writes))
      ≡ map (usual_entry send) (take most (without_result kept at writes))

  by_found : (kept : Results) (at : ℕ) (write : PlacedWrite) (writes : List PlacedWrite) → ((n : ℕ) → RunsFirst kept (at + 1) writes n)
      → (found : Option Counted) → finite.get kept at ≡ found → (most : ℕ) → RunsFirst kept at (write ∷ writes) most
  by_found kept at write writes later (Some result) is most =
      ap (λ front. entries_of send.session send.number (write ∷ writes) (statements [] [] false kept at front)) (front_kept kept at most write writes result is)
      ∙ entries_first kept at write writes (front_to_run kept (at + 1) most writes)
      ∙ ap (λ found. entries_by send.session send.number write (statement_of found None (counts_by_plan write.written.kind no_plan))
      (entries_of send.session send.number writes (statements [] [] false kept (at + 1) (front_to_run kept (at + 1) most writes)))) is
      ∙ later most
      ∙ ap (λ rest. map (usual_entry send) (take most rest)) (sym (without_kept kept at write writes result is))
  by_found kept at write writes later None is zero =
      ap (λ front. entries_of send.session send.number (write ∷ writes) (statements [] [] false kept at front)) (front_none kept at write writes is)
      ∙ no_entries kept at (write ∷ writes)
  by_found kept at write writes later None is (suc n) =
      ap (λ front. entries_of send.session send.number (write ∷ writes) (statements [] [] false kept at front)) (front_new kept at n write writes is)
      ∙ entries_first kept at write writes (front_to_run kept (at + 1) n writes)
      ∙ ap (λ found. entries_by send.session send.number write (statement_of found None (counts_by_plan write.written.kind no_plan))
      (entries_of send.session send.number writes (statements [] [] false kept (at + 1) (front_to_run kept (at + 1) n writes)))) is
      ∙ ap (λ rest. usual_entry send write ∷ rest) (later n)
      ∙ ap (λ rest. map (usual_entry send) (take (suc n) rest)) (sym (without_new kept at write writes is))

  -- an interruption runs the first writes without a kept result
  front_entries : (kept : Results) (at : ℕ) (writes : List PlacedWrite) (most : ℕ) → RunsFirst kept at writes most
  front_entries kept at [] most = front_end kept at most
  front_entries kept at (write ∷ writes) most =
      by_found kept at write writes (λ n. front_entries kept (at + 1) writes n) (finite.get kept at) refl most

  -- one write more that adds no entry
  skips : (write : PlacedWrite) (writes : List PlacedWrite) (entries : List Entry) → AreOfSome send writes entries → AreOfSome send (write ∷ writes) entries
  skips write writes [] are = tt
  skips write writes (entry ∷ entries) are = inr are

  none_of : (writes : List PlacedWrite) → AreOfSome send writes []
  none_of [] = tt
  none_of (write ∷ writes) = tt

  -- what is shown of the later writes: the entries are of those without a kept result
  abbrev RunsNew : Results → ℕ → List PlacedWrite → List Statement → Type 0
  RunsNew kept at writes done = AreOfSome send (without_result kept at writes) (entries_of send.session send.number writes done)

  -- the entries of statements of which the first is this one
  stops : (kept : Results) (at : ℕ) (writes : List PlacedWrite) → RunsNew kept at writes []
  unfolding entries_of
  stops kept at [] = none_of (without_result kept at [])
  stops kept at (write ∷ writes) = none_of (without_result kept at (write ∷ writes))

  new_first : (kept : Results) (at : ℕ) (write : PlacedWrite) (writes : List PlacedWrite) (code : Option ℤ) (now : Counted) (done : List Statement) → RunsNew kept (at + 1) writes done
      → (found : Option Counted) → finite.get kept at ≡ found
      → AreOfSome send (without_result kept at (write ∷ writes)) (entries_by send.session send.number write (statement_of found code now) (entries_of send.session send.number writes done))
  new_first kept at write writes code now done later (Some result) is =
      subst (λ ws. AreOfSome send ws (entries_of send.session send.number writes done)) (sym (without_kept kept at write writes result is)) later
  new_first kept at write writes (Some code) now done later None is =
      subst (λ ws. AreOfSome send ws (entries_of send.session send.number writes done)) (sym (without_new kept at write writes is))
      (skips write (without_result kept (at + 1) writes) (entries_of send.session send.number writes done) later)
  new_first kept at write writes None now done later None is =
      subst (λ ws. AreOfSome send ws (entry_of send.session send.number write now ∷ entries_of send.session send.number writes done)) (sym (without_new kept at write writes is))
      (inl (record { result = now; is = refl }, later))

  new_entries : (results : List Planned) (fail : List Failing) (ordered : Bool) (kept : Results) (at : ℕ) (writes : List PlacedWrite)
      → RunsNew kept at writes (statements results fail ordered kept at writes)
  unfolding entries_of statements
  new_entries results fail ordered kept at [] = none_of (without_result kept at [])
  new_entries results fail ordered kept at (write ∷ writes) =
      let rest : List Statement
      = if ordered && is_failed (statement_at results fail kept at write) then [] else statements results fail ordered kept (at + 1) writes in
      new_first kept at write writes (code_at fail at) (counts_by_plan write.written.kind (planned_at results at)) rest
      (later (ordered && is_failed (statement_at results fail kept at write)) (new_entries results fail ordered kept (at + 1) writes))
      (finite.get kept at) refl
    where
      later : (stop : Bool) → RunsNew kept (at + 1) writes (statements results fail ordered kept (at + 1) writes)
          → RunsNew kept (at + 1) writes (if stop then [] else statements results fail ordered kept (at + 1) writes)
      later true rest = stops kept (at + 1) writes
      later false rest = rest

  -- what is shown of the later writes where none is to fail: each without a kept result has its entry
  abbrev RunsEach : Results → ℕ → List PlacedWrite → List Statement → Type 0
  RunsEach kept at writes done = AreOfEach send (without_result kept at writes) (entries_of send.session send.number writes done)

  -- no statement stops the others
  goes_on : (ordered : Bool) (kept : Results) (at : ℕ) (writes : List PlacedWrite) (done : List Statement) → RunsEach kept at writes done
      → RunsEach kept at writes (if ordered && false then [] else done)
  goes_on true kept at writes done each = each
  goes_on false kept at writes done each = each

  each_first : (kept : Results) (at : ℕ) (write : PlacedWrite) (writes : List PlacedWrite) (now : Counted) (ordered : Bool) (done : List Statement)
      → RunsEach kept (at + 1) writes done → (found : Option Counted) → finite.get kept at ≡ found
      → AreOfEach send (without_result kept at (write ∷ writes))
      (entries_by send.session send.number write (statement_of found None now)
      (entries_of send.session send.number writes (if ordered && is_failed (statement_of found None now) then [] else done)))
  each_first kept at write writes now ordered done each (Some result) is =
      subst (λ ws. AreOfEach send ws (entries_of send.session send.number writes (if ordered && false then [] else done))) (sym (without_kept kept at write writes result is))
      (goes_on ordered kept (at + 1) writes done each)
  each_first kept at write writes now ordered done each None is =
      subst (λ ws. AreOfEach send ws (entry_of send.session send.number write now ∷ entries_of send.session send.number writes (if ordered && false then [] else done)))
      (sym (without_new kept at write writes is))
      (record { result = now; is = refl }, goes_on ordered kept (at + 1) writes done each)

  each_end : (kept : Results) (at : ℕ) (results : List Planned) (ordered : Bool) → RunsEach kept at [] (statements results [] ordered kept at [])
  unfolding entries_of statements without_result
  each_end kept at results ordered = tt

  pub each_entries : (results : List Planned) (ordered : Bool) (kept : Results) (at : ℕ) (writes : List PlacedWrite)
      → RunsEach kept at writes (statements results [] ordered kept at writes)
  unfolding entries_of statements code_at
  each_entries results ordered kept at [] = each_end kept at results ordered
  each_entries results ordered kept at (write ∷ writes) =
      each_first kept at write writes (counts_by_plan write.written.kind (planned_at results at)) ordered (statements results [] ordered kept (at + 1) writes)
      (each_entries results ordered kept (at + 1) writes) (finite.get kept at) refl

-- the law of sends outside transactions
pub only_new : (plan : Plan) (server : Server) (send : Send) → case_of server send ≡ outside → GainsOfSome send (new_writes server send) server (served plan server send)
only_new plan server send is =
    let kept : Results = results_of (known_of server send) in
    let done : List Statement = statements plan.results plan.fail (is_ordered send.body) kept 0 (writes_of send) in
    record {
      more = entries_of send.session send.number (writes_of send) done;
      log = ap (λ s. s.log) (served_case plan server send outside is) ∙ log_served outside done plan.page server send;
      are = new_entries send plan.results plan.fail (is_ordered send.body) kept 0 (writes_of send);
    }

pub each_new : (plan : Plan) (server : Server) (send : Send) → case_of server send ≡ outside → plan.fail ≡ []
    → GainsOfEach send (new_writes server send) server (served plan server send)
each_new plan server send is none =
    let kept : Results = results_of (known_of server send) in
    let done : List Statement = statements plan.results plan.fail (is_ordered send.body) kept 0 (writes_of send) in
    record {
      more = entries_of send.session send.number (writes_of send) done;
      log = ap (λ s. s.log) (served_case plan server send outside is) ∙ log_served outside done plan.page server send;
      are =
          subst (λ fail. AreOfEach send (new_writes server send)
          (entries_of send.session send.number (writes_of send) (statements plan.results fail (is_ordered send.body) kept 0 (writes_of send)))) (sym none)
          (each_entries send plan.results (is_ordered send.body) kept 0 (writes_of send));
    }

-- an interruption outside transactions
interruption_log : (most : ℕ) (server : Server) (send : Send) → case_of server send ≡ outside
    → (interruption most server send).log ≡ server.log ++ map (usual_entry send) (take most (new_writes server send))
interruption_log most server send is =
    let kept : Results = results_of (known_of server send) in
    let done : done_before most server send ≡ usual_statements kept (front_to_run kept 0 most (writes_of send))
    = ap (λ case. interrupted_done most (interrupted_case most case) kept send.body) is in
    ap (λ s. s.log) (interruption_case most server send outside is)
    ∙ interrupted_log outside (done_before most server send) server send
    ∙ ap (λ ran. server.log ++ entries_of send.session send.number (writes_of send) ran) done
    ∙ ap (λ more. server.log ++ more) (front_entries send kept 0 (writes_of send) most)

interrupted_open : (most : ℕ) (labels : List (List ℕ)) (server : Server) (send : Send) → case_of server send ≡ outside
    → interrupted most labels server send ≡ told_of_error (interrupted_labels most labels server send) (interruption most server send) send
unfolding interrupted
interrupted_open most labels server send is =
    ap (λ case. if is_decided case then served usual server send else told_of_error (interrupted_labels most labels server send) (interruption most server send) send) is

interrupted_runs : (most : ℕ) (labels : List (List ℕ)) (server : Server) (send : Send) → case_of server send ≡ outside
    → (interrupted most labels server send).log ≡ server.log ++ map (usual_entry send) (take most (new_writes server send))
interrupted_runs most labels server send is =
    ap (λ s. s.log) (interrupted_open most labels server send is)
    ∙ told_log (interrupted_labels most labels server send) (interruption most server send) send
    ∙ interruption_log most server send is

-- the law of interrupted sends
pub first_new : (server : Server) (send : Send) (step : Scheduled) (most : ℕ) (code : ℤ) (labels : List (List ℕ)) → step.item ≡ Interrupted most code labels
    → case_of (after_picks server step.deliver) send ≡ outside
    → (exchanged server send step).log
    ≡ (after_picks server step.deliver).log ++ map (usual_entry send) (take most (new_writes (after_picks server step.deliver) send))
unfolding exchanged met
first_new server send step most code labels item is =
    let after : Server = after_picks server step.deliver in
    let now : Server = traced after send in
    ap (λ one. (met now send one).log) item
    ∙ interrupted_runs most labels now send (case_traced send.session send.number after (after.trace ++ send ∷ []) send ∙ is)
    ∙ ap (λ known. after.log ++ map (usual_entry send) (take most (without_result (results_of known) 0 (writes_of send))))
    (known_traced send.session send.number after (after.trace ++ send ∷ []) send)
