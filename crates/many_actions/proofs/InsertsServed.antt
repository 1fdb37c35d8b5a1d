-- A gentle exchange of inserts counts each document: the first time, again after a first exchange whose effect or reply was lost or
-- came late, and without a number.
use Rattle.std.proofs.Common.{◌≡◌, ℕ, suc, ◌+◌, Bool, true, false, List, [], ◌∷◌, length, refl, sym, ap, ◌∙◌, arith}
use Rattle.std.specs.Prelude.{ℤ, pos, ◌+ℤ◌, ◌&&◌, Option, None, Some, if◌then◌else◌}
use Rattle.std.specs.FinMap as finite
use Rattle.std.specs.Ordering.{nat_cmp}
use Rattle.std.proofs.lemmas.Int.{ints}
use Rattle.driver_link.specs.declared.machine.Counted.{Counted}
use Rattle.driver_link.specs.declared.machine.Failing.{Failing}
use Rattle.driver_link.specs.declared.machine.Item.{Item}
use Rattle.driver_link.specs.declared.machine.Item.TheVariants.{Serve, Lost, Late, ReplyLost}
use Rattle.driver_link.specs.declared.machine.PlacedWrite.{PlacedWrite}
use Rattle.driver_link.specs.declared.machine.Planned.{Planned}
use Rattle.driver_link.specs.declared.machine.PlannedConcern.{PlannedConcern}
use Rattle.driver_link.specs.declared.machine.Scheduled.{Scheduled}
use Rattle.driver_link.specs.declared.machine.Send.{Send}
use Rattle.driver_link.specs.declared.machine.Server.{Server}
use Rattle.driver_link.specs.declared.machine.Statement.{Statement}
use Rattle.driver_link.specs.declared.machine.Statement.TheVariants.{Kept, Ran, Failed}
use Rattle.driver_link.specs.declared.machine.WriteKind.TheVariants as kind
use Rattle.driver_link.specs.Cases.{case_of, is_ordered, known_of, outside, results_of, writes_of}
use Rattle.driver_link.specs.Cursors.{Reply}
use Rattle.driver_link.specs.Exchange.{after_picks, answered, exchanged, plan_of, reply, traced}
use Rattle.driver_link.specs.Replies.{results_in, served_reply, sum_of}
use Rattle.driver_link.specs.Retried.{IsNewNumber}
use Rattle.driver_link.specs.Serving.{done_in}
use Rattle.driver_link.specs.Sessions.{is_below}
use Rattle.driver_link.specs.Settled.{IsPlain, IsSettled, IsUnnumbered, MayJoin}
use Rattle.driver_link.specs.Statements.{Results, code_at, counts_by_plan, has_failed, is_failed, no_results, planned_at, statement_at, statement_of, statements}
use Rattle.driver_link.proofs.Lists.{none_is_some}
use Rattle.driver_link.proofs.Plain.{case_above, known, plain_known, results_here}
use Rattle.driver_link.proofs.ServedSends.{taken_is}
use Rattle.driver_link.proofs.Unnumbered.{case_free, results_free}
use Rattle.driver_ops.specs.Served.{case_statements, met_statements, statements_in}
use Rattle.statement_ops.specs.StatementLaw.{planned_concern}
use Rattle.write_ops.specs.InsertLaw.{AddsUp, CountsDocuments}
use Rattle.driver_exec.specs.Gentle.{IsLossy}
use Rattle.many_actions.specs.ManyCompleteness.{CountOneEach, ServesInserts}
use Rattle.many_actions.proofs.KeptCounts.{KeepsEach, MayGoUnder, PlansEach, RunsEach, again_under, first_under, meets_kept, taken_each}

-- a result of one document
abbrev pub CountsOne : Counted → Type 0
CountsOne result = result.n ≡ pos 1

-- without a plan each statement counts one
pub usual_one : PlansEach CountsOne []
usual_one does at = refl

-- a statement did not fail, and counts one document
abbrev IsOne : Statement → Type 0
IsOne (Kept result) = result.n ≡ pos 1
IsOne (Ran result) = result.n ≡ pos 1
IsOne (Failed code) = ⊥

-- each of some statements is such
abbrev AreOnes : List Statement → Type 0
AreOnes [] = Unit {0}
AreOnes (statement ∷ done) = IsOne statement × AreOnes done

-- a statement that is not listed to fail counts one document, where its kept result and its plan do
kept_or_run : (kept : Option Counted) (code : Option ℤ) (now : Counted) → code ≡ None → now.n ≡ pos 1 → ((result : Counted) → kept ≡ Some result → result.n ≡ pos 1)
    → IsOne (statement_of kept code now)
kept_or_run (Some result) code now none one keeps = keeps result refl
kept_or_run None (Some code) now none one keeps = absurd (none_is_some code (sym none))
kept_or_run None None now none one keeps = one

-- where no failure is listed no position has a code
none_fails : (fail : List Failing) (at : ℕ) → fail ≡ [] → code_at fail at ≡ None
unfolding code_at
none_fails fail at none = ap (λ f. code_at f at) none

-- behind a statement the others stand, or none does
behind_ones : (stops : Bool) (rest : List Statement) → AreOnes rest → AreOnes (if stops then [] else rest)
behind_ones true rest ones = tt
behind_ones false rest ones = ones

-- each statement of a plan without failures counts one document, where each kept result does and each statement that the plan speaks of
statements_ones : (results : List Planned) (fail : List Failing) (ordered : Bool) (kept : Results) (from : ℕ) (writes : List PlacedWrite) → fail ≡ [] → CountOneEach results
    → ((at : ℕ) (result : Counted) → finite.get kept at ≡ Some result → result.n ≡ pos 1) → AreOnes (statements results fail ordered kept from writes)
unfolding statements
statements_ones results fail ordered kept from [] none one keeps = tt
statements_ones results fail ordered kept from (write ∷ writes) none one keeps = (
  kept_or_run (finite.get kept from) (code_at fail from) (counts_by_plan write.written.kind (planned_at results from)) (none_fails fail from none) (one from)
      (λ result is. keeps from result is),
  behind_ones (ordered && is_failed (statement_at results fail kept from write)) (statements results fail ordered kept (from + 1) writes)
      (statements_ones results fail ordered kept (from + 1) writes none one keeps),
)

-- none of such statements failed
ones_unfailed : (done : List Statement) → AreOnes done → has_failed done ≡ false
ones_unfailed [] ones = refl
ones_unfailed (Kept result ∷ done) ones = ones_unfailed done ones.1
ones_unfailed (Ran result ∷ done) ones = ones_unfailed done ones.1
ones_unfailed (Failed code ∷ done) ones = absurd ones.0

-- one document and those of the others
one_counted : (n rest : ℤ) (count : ℕ) → n ≡ pos 1 → rest ≡ pos count → n +ℤ rest ≡ pos (suc count)
one_counted n rest count one up = omega (arith, ints, one, up)

-- and count together as many documents as they are
ones_add_up : (done : List Statement) → AreOnes done → AddsUp done
unfolding sum_of
ones_add_up [] ones = refl
ones_add_up (Kept result ∷ done) ones = one_counted result.n (sum_of (λ counted. counted.n) (results_in done)) (length (results_in done)) ones.0 (ones_add_up done ones.1)
ones_add_up (Ran result ∷ done) ones = one_counted result.n (sum_of (λ counted. counted.n) (results_in done)) (length (results_in done)) ones.0 (ones_add_up done ones.1)
ones_add_up (Failed code ∷ done) ones = absurd ones.0

-- a send that meets an item is answered, and each document is counted
record MeetsInserts (server : Server) (send : Send) (item : Item) : Type 0 where
  found : Reply
  is : reply server send item ≡ Some found
  done : List Statement
  told : met_statements server send item ≡ Some done
  unfailed : has_failed done ≡ false
  adds_up : AddsUp done
  concern : planned_concern item ≡ None

-- inserts that are served outside transactions, by what is kept of their number
served_counted : (server : Server) (send : Send) (results : List Planned) (fail : List Failing) (concern : Option PlannedConcern) (page : Option ℕ) (kept : Results)
    → case_of server send ≡ outside → results_of (known_of server send) ≡ kept → (fail ≡ []) × (concern ≡ None) × CountOneEach results
    → ((at : ℕ) (result : Counted) → finite.get kept at ≡ Some result → result.n ≡ pos 1) → MeetsInserts server send (Serve results fail concern page)
unfolding reply
served_counted server send results fail concern page kept is_outside is_kept serves keeps =
    let plan = plan_of results fail concern page in
    let done = statements results fail (is_ordered send.body) kept 0 (writes_of send) in
    let ones = statements_ones results fail (is_ordered send.body) kept 0 (writes_of send) serves.0 serves.2 keeps in
    record {
      found = served_reply plan server send;
      is = refl;
      done = done;
      told =
          ap (λ case. case_statements case plan server send) is_outside
          ∙ ap (λ before. Some (done_in outside plan before send.body)) is_kept;
      unfailed = ones_unfailed done ones;
      adds_up = ones_add_up done ones;
      concern = serves.1;
    }

-- inserts under a number that is not below the greatest
plain_counted : (server : Server) (send : Send) (plain : IsPlain send) (item : Item) → is_below plain.number (finite.get server.sessions plain.id) ≡ false
    → KeepsEach CountsOne plain.id plain.number server → ServesInserts item → MeetsInserts server send item
unfolding known
plain_counted server send plain (Serve results fail concern page) above keeps serves =
    served_counted server send results fail concern page (plain_known plain.id plain.number server).kept (case_above send plain server above) (results_here send plain server) serves
    (taken_each CountsOne usual_one plain.id plain.number server (plain_known plain.id plain.number server) (taken_is plain.number (finite.get server.sessions plain.id) above) keeps)
plain_counted server send plain _ above keeps serves = absurd serves

-- inserts without a number
free_counted : (server : Server) (send : Send) (free : IsUnnumbered send) (item : Item) → ServesInserts item → MeetsInserts server send item
free_counted server send free (Serve results fail concern page) serves =
    served_counted server send results fail concern page no_results (case_free send free server) (results_free send free server) serves
    (λ at result is. absurd (none_is_some result (sym (finite.get-empty nat_cmp at) ∙ is)))
free_counted server send free _ serves = absurd serves

-- the writes of a send under a number may go out, for the first time or again: each counts one document where its exchange is gentle
abbrev pub MayBeInserted : Send → Server → Type 0
MayBeInserted send server = MayGoUnder CountsOne usual_one send server

-- an exchange is answered, and each document is counted
pub record IsAnswered (server : Server) (send : Send) (step : Scheduled) : Type 0 where
  pub found : Reply
  pub is : answered server send step ≡ Some found
  pub counts : CountsDocuments server send step

-- what is said of a send that meets its item is said of their exchange
answered_by : (server : Server) (send : Send) (step : Scheduled) → MeetsInserts (traced (after_picks server step.deliver) send) send step.item → IsAnswered server send step
unfolding answered statements_in
answered_by server send step counted = record {
  found = counted.found;
  is = counted.is;
  counts = record { done = counted.done; told = counted.told; unfailed = counted.unfailed; adds_up = counted.adds_up; concern = counted.concern };
}

-- by an item without a reply statements that run count one each
lossy_ones : (item : Item) → IsLossy item → RunsEach CountsOne item
lossy_ones Lost lossy = tt
lossy_ones Late lossy = tt
lossy_ones ReplyLost lossy = tt
lossy_ones _ lossy = absurd lossy

-- under a number that is new they may go out
pub inserts_first : (server : Server) (send : Send) (plain : IsPlain send) → MayJoin server.trace send → IsSettled server.trace server
    → IsNewNumber server.trace plain.id plain.number → MayBeInserted send server
inserts_first server send plain joins settled new = first_under CountsOne usual_one server send plain joins settled new

-- where they got no reply they may go out again
pub inserts_again : (server : Server) (send : Send) (step : Scheduled) → IsLossy step.item → MayBeInserted send server → MayBeInserted send (exchanged server send step)
inserts_again server send step lossy may = again_under CountsOne usual_one server send step (lossy_ones step.item lossy) may

-- a gentle exchange is answered, and counts each document
pub inserts_answered : (server : Server) (send : Send) (step : Scheduled) → ServesInserts step.item → MayBeInserted send server → IsAnswered server send step
inserts_answered server send step serves may =
    let meets = meets_kept CountsOne usual_one server send step may in
    answered_by server send step (plain_counted (traced (after_picks server step.deliver) send) send meets.plain step.item meets.above meets.keeps serves)

-- so is one of inserts without a number
pub inserts_only : (server : Server) (send : Send) (step : Scheduled) → IsUnnumbered send → ServesInserts step.item → IsAnswered server send step
inserts_only server send step free serves =
    answered_by server send step (free_counted (traced (after_picks server step.deliver) send) send free step.item serves)
