-- A gentle exchange of a bulk write: the machine's reply tells of all its statements, of which none failed or counted a negative
-- number, and leaves open what its first page does not hold.
use Rattle.std.proofs.Common.{◌≡◌, ℕ, suc, ◌+◌, Bool, true, false, List, [], ◌∷◌, length, refl, sym, ap, subst, ◌∙◌, inl, inr, arith}
use Rattle.std.specs.Prelude.{ℤ, pos, ◌≤ℤ◌, ◌&&◌, ◌⊎◌, Option, None, Some, if◌then◌else◌}
use Rattle.std.specs.FinMap as finite
use Rattle.std.specs.Ordering.{nat_cmp}
use Rattle.std.proofs.lemmas.Int.{ints}
use Rattle.driver_link.specs.declared.machine.Counted.{Counted}
use Rattle.driver_link.specs.declared.machine.Failing.{Failing}
use Rattle.driver_link.specs.declared.machine.Item.{Item}
use Rattle.driver_link.specs.declared.machine.Item.TheVariants.{Serve, Lost, Late, ReplyLost}
use Rattle.driver_link.specs.declared.machine.PlacedWrite.{PlacedWrite}
use Rattle.driver_link.specs.declared.machine.Planned.{Planned}
use Rattle.driver_link.specs.declared.machine.PlannedConcern.{PlannedConcern}
use Rattle.driver_link.specs.declared.machine.Scheduled.{Scheduled}
use Rattle.driver_link.specs.declared.machine.Send.{Send}
use Rattle.driver_link.specs.declared.machine.SendBody.TheVariants.{Write}
use Rattle.driver_link.specs.declared.machine.SendCommand.TheVariants as command
use Rattle.driver_link.specs.declared.machine.Server.{Server}
use Rattle.driver_link.specs.declared.machine.Statement.{Statement}
use Rattle.driver_link.specs.declared.machine.Statement.TheVariants.{Kept, Ran, Failed}
use Rattle.driver_link.specs.declared.machine.WriteKind.TheVariants as kind
use Rattle.driver_link.specs.Cases.{case_of, known_of, outside, results_of}
use Rattle.driver_link.specs.Cursors.{Reply, cursors_with, pages_left, rows, with_cursor}
use Rattle.driver_link.specs.Exchange.{after_picks, exchanged, met, plan_of, reply, traced}
use Rattle.driver_link.specs.Replies.{body_reply, reply_in, served_reply, write_reply}
use Rattle.driver_link.specs.Serving.{Plan, done_in, served, served_in}
use Rattle.driver_link.specs.Settled.{IsUnnumbered}
use Rattle.driver_link.specs.Statements.{Results, code_at, counts_by_plan, is_failed, no_results, planned_at, statement_at, statement_of, statements}
use Rattle.driver_link.proofs.Lists.{none_is_some}
use Rattle.driver_link.proofs.Plain.{case_above, known, plain_known, results_here}
use Rattle.driver_link.proofs.ServedSends.{taken_is}
use Rattle.driver_link.proofs.Unnumbered.{case_free, results_free}
use Rattle.bulk_ops.specs.NaturalCounts.{IsNatural}
use Rattle.bulk_ops.proofs.WholePages.{AllNatural, CountsNatural}
use Rattle.driver_exec.specs.Gentle.{IsLossy}
use Rattle.many_actions.proofs.KeptCounts.{MayGoUnder, MeetsKept, PlansEach, RunsEach, again_under, meets_kept, taken_each}
use Rattle.bulk_actions.specs.BulkCompleteness.{PlansNatural, PlansWhere, ServesBulk}

at_least : (n : ℕ) → pos 0 ≤ℤ pos n
at_least n = omega (arith, ints)

-- without a plan no statement counts a negative number
pub usual_natural : PlansEach IsNatural []
usual_natural kind.Update at = (at_least 1, at_least 1)
usual_natural kind.Insert at = (at_least 1, at_least 0)
usual_natural kind.Delete at = (at_least 1, at_least 0)
usual_natural kind.FindAndModify at = (at_least 1, at_least 0)

-- a statement that is not listed to fail counts so, where its kept result and its plan do
kept_or_run : (kept : Option Counted) (code : Option ℤ) (now : Counted) → code ≡ None → IsNatural now → ((result : Counted) → kept ≡ Some result → IsNatural result)
    → CountsNatural (statement_of kept code now)
kept_or_run (Some result) code now none natural keeps = keeps result refl
kept_or_run None (Some code) now none natural keeps = absurd (none_is_some code (sym none))
kept_or_run None None now none natural keeps = natural

none_fails : (fail : List Failing) (at : ℕ) → fail ≡ [] → code_at fail at ≡ None
unfolding code_at
none_fails fail at none = ap (λ f. code_at f at) none

unfailed : (statement : Statement) → CountsNatural statement → is_failed statement ≡ false
unfailed (Kept result) natural = refl
unfailed (Ran result) natural = refl
unfailed (Failed code) natural = absurd natural

goes_on : (ordered : Bool) → (ordered && false) ≡ false
goes_on true = refl
goes_on false = refl

-- all statements of a plan without failures are done so
record AreDone (writes : List PlacedWrite) (done : List Statement) : Type 0 where
  all : AllNatural done
  long : length done ≡ length writes

statements_done : (results : List Planned) (fail : List Failing) (ordered : Bool) (kept : Results) (from : ℕ) (writes : List PlacedWrite) → fail ≡ [] → PlansNatural results
    → ((at : ℕ) (result : Counted) → finite.get kept at ≡ Some result → IsNatural result) → AreDone writes (statements results fail ordered kept from writes)
unfolding statements
statements_done results fail ordered kept from [] none natural keeps = record { all = tt; long = refl }
statements_done results fail ordered kept from (write ∷ writes) none natural keeps =
    let one : CountsNatural (statement_at results fail kept from write)
    = kept_or_run (finite.get kept from) (code_at fail from) (counts_by_plan write.written.kind (planned_at results from)) (none_fails fail from none) (natural write.written.kind from)
    (λ result is. keeps from result is) in
    let rest = statements_done results fail ordered kept (from + 1) writes none natural keeps in
    let behind : (if ordered && is_failed (statement_at results fail kept from write) then [] else statements results fail ordered kept (from + 1) writes) ≡ statements results fail ordered kept (from + 1) writes
    = ap (λ (b : Bool). if ordered && b then [] else statements results fail ordered kept (from + 1) writes) (unfailed (statement_at results fail kept from write) one)
    ∙ ap (λ (b : Bool). if b then [] else statements results fail ordered kept (from + 1) writes) (goes_on ordered) in
    record {
      all = (one, subst AllNatural (sym behind) rest.all);
      long = ap suc (ap (λ (done : List Statement). length done) behind ∙ rest.long);
    }

-- their documents are as many
pub rows_long : (at : ℕ) (writes : List PlacedWrite) (done : List Statement) → length done ≡ length writes → length (rows at writes done) ≡ length writes
unfolding rows
rows_long at [] done long = refl
rows_long at (write ∷ writes) [] long = absurd (omega (arith, long))
rows_long at (write ∷ writes) (statement ∷ done) long = ap suc (rows_long (at + 1) writes done (omega (arith, long)))

-- a send of a bulk write that meets an item which serves it
pub record MeetsBulk (server : Server) (send : Send) (item : Item) (writes : List PlacedWrite) : Type 0 where
  pub page : Option ℕ
  pub done : List Statement
  pub all : AllNatural done
  pub long : length done ≡ length writes
  pub is : reply server send item ≡ Some (write_reply command.BulkWrite page None server.cursors writes done)
  pub cursors : (met server send item).cursors ≡ with_cursor (pages_left page (rows 0 writes done)) server.cursors
  pub waiting : (met server send item).waiting ≡ server.waiting

module _ (ordered : Bool) (writes : List PlacedWrite) (server : Server) (send : Send) (asks : send.body ≡ Write command.BulkWrite ordered writes) where
  reply_outside : (plan : Plan) → case_of server send ≡ outside
      → served_reply plan server send ≡ body_reply send.body plan server.cursors (done_in outside plan (results_of (known_of server send)) send.body)
  unfolding served_reply reply_in
  reply_outside plan is = ap (λ case. reply_in case plan (done_in case plan (results_of (known_of server send)) send.body) server send) is

  cursors_outside : (plan : Plan) → case_of server send ≡ outside
      → (served plan server send).cursors ≡ cursors_with plan.page (done_in outside plan (results_of (known_of server send)) send.body) send.body server.cursors
  unfolding served served_in
  cursors_outside plan is = ap (λ case. (served_in case (done_in case plan (results_of (known_of server send)) send.body) plan.page server send).cursors) is

  waiting_same : (plan : Plan) → (served plan server send).waiting ≡ server.waiting
  unfolding served served_in
  waiting_same plan = refl

  -- served outside transactions, by what is kept of its number
  meets_served : (results : List Planned) (fail : List Failing) (concern : Option PlannedConcern) (page : Option ℕ) (kept : Results) → case_of server send ≡ outside
      → results_of (known_of server send) ≡ kept → fail ≡ [] → concern ≡ None → PlansNatural results → ((at : ℕ) (result : Counted) → finite.get kept at ≡ Some result → IsNatural result)
      → MeetsBulk server send (Serve results fail concern page) writes
  unfolding reply met
  meets_served results fail concern page kept is_outside is_kept none unconcerned natural keeps =
      let plan = plan_of results fail concern page in
      let done = statements results fail ordered kept 0 writes in
      let are = statements_done results fail ordered kept 0 writes none natural keeps in
      let done_is : done_in outside plan (results_of (known_of server send)) send.body ≡ done
      = ap (λ before. done_in outside plan before send.body) is_kept ∙ ap (done_in outside plan kept) asks in
      record {
        page = page;
        done = done;
        all = are.all;
        long = are.long;
        is = ap (λ (found : Reply). Some found) (
            reply_outside plan is_outside
            ∙ ap (body_reply send.body plan server.cursors) done_is
            ∙ ap (λ body. body_reply body plan server.cursors done) asks
            ∙ ap (λ given. write_reply command.BulkWrite page given server.cursors writes done) unconcerned
            );
        cursors =
            cursors_outside plan is_outside
            ∙ ap (λ statements. cursors_with page statements send.body server.cursors) done_is
            ∙ ap (λ body. cursors_with page done body server.cursors) asks;
        waiting = waiting_same plan;
      }

  -- it may go out under a number, and what is kept of that counts so
  meets_under : (meets : MeetsKept IsNatural usual_natural send server) (item : Item) → ServesBulk send item → MeetsBulk server send item writes
  unfolding known
  meets_under meets (Serve results fail concern page) serves =
      let plain = meets.plain in
      meets_served results fail concern page (plain_known plain.id plain.number server).kept (case_above send plain server meets.above) (results_here send plain server) serves.0 serves.1
      (plans serves.2)
      (taken_each IsNatural usual_natural plain.id plain.number server (plain_known plain.id plain.number server) (taken_is plain.number (finite.get server.sessions plain.id) meets.above) meets.keeps)
    where
      plans : PlansWhere send.body results → PlansNatural results
      plans natural = subst (λ body. PlansWhere body results) asks natural
  meets_under meets _ serves = absurd serves

  -- or without one
  meets_free : IsUnnumbered send → (item : Item) → ServesBulk send item → MeetsBulk server send item writes
  meets_free free (Serve results fail concern page) serves =
      meets_served results fail concern page no_results (case_free send free server) (results_free send free server) serves.0 serves.1 (subst (λ body. PlansWhere body results) asks serves.2)
      (λ at result is. absurd (none_is_some result (sym (finite.get-empty nat_cmp at) ∙ is)))
  meets_free free _ serves = absurd serves

-- a send of a bulk write may go out: under a number, or without one
abbrev pub MayGoBulk : Send → Server → Type 0
MayGoBulk send server = MayGoUnder IsNatural usual_natural send server ⊎ IsUnnumbered send

-- where its item serves it, it meets it so
pub meets_bulk : (ordered : Bool) (writes : List PlacedWrite) (server : Server) (send : Send) (step : Scheduled) → send.body ≡ Write command.BulkWrite ordered writes → MayGoBulk send server
    → ServesBulk send step.item → MeetsBulk (traced (after_picks server step.deliver) send) send step.item writes
meets_bulk ordered writes server send step asks may serves =
    let before = traced (after_picks server step.deliver) send in elim may [
      | inl numbered ↦ meets_under ordered writes before send asks (meets_kept IsNatural usual_natural server send step numbered) step.item serves
      | inr free ↦ meets_free ordered writes before send asks free step.item serves
    ]

-- by an item without a reply no statement counts a negative number
lossy_natural : (item : Item) → IsLossy item → RunsEach IsNatural item
lossy_natural Lost lossy = tt
lossy_natural Late lossy = tt
lossy_natural ReplyLost lossy = tt
lossy_natural _ lossy = absurd lossy

-- after one it may go out again under its number
pub bulk_again : (server : Server) (send : Send) (step : Scheduled) → IsLossy step.item → MayGoUnder IsNatural usual_natural send server → MayGoUnder IsNatural usual_natural send (exchanged server send step)
bulk_again server send step lossy may = again_under IsNatural usual_natural server send step (lossy_natural step.item lossy) may
