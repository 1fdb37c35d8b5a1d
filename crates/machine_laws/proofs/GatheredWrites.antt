-- Writes in a transaction that runs are gathered, an entry of each, where none is to fail.
use Rattle.std.proofs.Common.{◌≡◌, ℕ, ◌+◌, ℤ, ◌&&◌, ◌||◌, Bool, true, false, List, [], ◌∷◌, ◌++◌, Option, None, Some, refl, sym, ap, subst, ◌∙◌, if◌then◌else◌}
use Rattle.std.specs.Ordering.{nat_cmp}
use Rattle.std.specs.FinMap as finite
use Rattle.driver_link.specs.Cases.{case_of, gathers, is_ordered, writes_of}
use Rattle.driver_link.specs.Serving.{Plan, gathered, served}
use Rattle.driver_link.specs.Statements.{Results, code_at, counts_by_plan, entries_of, has_failed, is_failed, no_results, planned_at, statement_of, statements}
use Rattle.driver_link.specs.declared.machine.Counted.{Counted}
use Rattle.driver_link.specs.declared.machine.Entry.{Entry}
use Rattle.driver_link.specs.declared.machine.PlacedWrite.{PlacedWrite}
use Rattle.driver_link.specs.declared.machine.Planned.{Planned}
use Rattle.driver_link.specs.declared.machine.Send.{Send}
use Rattle.driver_link.specs.declared.machine.Server.{Server}
use Rattle.driver_link.specs.declared.machine.ServerTransaction.TheVariants as transaction
use Rattle.machine_laws.proofs.CommitLaws.{served_leaves}
use Rattle.machine_laws.proofs.NewWrites.{each_entries, without_new}
use Rattle.machine_laws.specs.Fresh.{AreOfEach, GathersEach, without_result}
use Rattle.machine_laws.specs.Steady.{GoesUnder}

-- where no result is kept, each write is without one
all_new : (at : ℕ) (writes : List PlacedWrite) → without_result no_results at writes ≡ writes
unfolding without_result
all_new at [] = refl
all_new at (write ∷ writes) =
    without_new no_results at write writes (finite.get-empty nat_cmp at) ∙ ap (λ rest. write ∷ rest) (all_new (at + 1) writes)

-- a statement that is not to fail does not
not_failed : (found : Option Counted) (now : Counted) → is_failed (statement_of found None now) ≡ false
not_failed None now = refl
not_failed (Some result) now = refl

-- so none fails where none is to
none_failed : (results : List Planned) (ordered : Bool) (kept : Results) (at : ℕ) (writes : List PlacedWrite)
    → has_failed (statements results [] ordered kept at writes) ≡ false
unfolding statements code_at
none_failed results ordered kept at [] = refl
none_failed results ordered kept at (write ∷ writes) =
    ap (λ b. b || has_failed (if ordered && b then [] else statements results [] ordered kept (at + 1) writes))
    (not_failed (finite.get kept at) (counts_by_plan write.written.kind (planned_at results at)))
    ∙ later ordered (none_failed results ordered kept (at + 1) writes)
  where
    later : (stop : Bool) → has_failed (statements results [] ordered kept (at + 1) writes) ≡ false
        → has_failed (if stop && false then [] else statements results [] ordered kept (at + 1) writes) ≡ false
    later true rest = rest
    later false rest = rest

-- the law of writes in a transaction
pub gathered_law : (plan : Plan) (id : List ℕ) (number : ℤ) (server : Server) (send : Send) (entries : List Entry) → GoesUnder id number send
    → case_of server send ≡ gathers entries → plan.fail ≡ [] → GathersEach id number send entries (served plan server send)
gathered_law plan id number server send entries under is none =
    let writes : List PlacedWrite = writes_of send in
    let ordered : Bool = is_ordered send.body in
    let more : List Entry = entries_of send.session send.number writes (statements plan.results plan.fail ordered no_results 0 writes) in
    let passed : has_failed (statements plan.results plan.fail ordered no_results 0 writes) ≡ false
    = ap (λ fail. has_failed (statements plan.results fail ordered no_results 0 writes)) none ∙ none_failed plan.results ordered no_results 0 writes in
    let each : AreOfEach send writes (entries_of send.session send.number writes (statements plan.results [] ordered no_results 0 writes))
    = subst (λ ws. AreOfEach send ws (entries_of send.session send.number writes (statements plan.results [] ordered no_results 0 writes)))
    (all_new 0 writes) (each_entries send plan.results ordered no_results 0 writes) in
    record {
      more = more;
      its =
          served_leaves plan id number server send (gathers entries) (transaction.Running (entries ++ more)) under is refl
          (ap (λ failed. gathered failed (entries ++ more)) passed);
      are =
          subst (λ fail. AreOfEach send writes (entries_of send.session send.number writes (statements plan.results fail ordered no_results 0 writes))) (sym none)
          each;
    }
