-- One write is answered that it was done where its exchange is gentle: the first time, and again after a first exchange whose
-- effect or reply was lost or came late.
use Rattle.std.proofs.Common.{◌≡◌, ℕ, false, List, [], ◌∷◌, ◌++◌, refl, sym, ap, subst, ◌∙◌}
use Rattle.std.specs.Prelude.{ℤ, pos, ◌+ℤ◌, Option, None, Some}
use Rattle.std.specs.FinMap as finite
use Rattle.std.specs.Ordering.{nat_cmp}
use Rattle.wire_keys.specs.declared.keys.TheConstants.{N}
use Rattle.driver_link.specs.declared.machine.Counted.{Counted}
use Rattle.driver_link.specs.declared.machine.Failing.{Failing}
use Rattle.driver_link.specs.declared.machine.Item.{Item}
use Rattle.driver_link.specs.declared.machine.Item.TheVariants.{Serve, Lost, Late, ReplyLost, Interrupted, Refused, Reauthenticate}
use Rattle.driver_link.specs.declared.machine.PlacedWrite.{PlacedWrite}
use Rattle.driver_link.specs.declared.machine.Scheduled.{Scheduled}
use Rattle.driver_link.specs.declared.machine.Send.{Send}
use Rattle.driver_link.specs.declared.machine.SendCommand.{SendCommand}
use Rattle.driver_link.specs.declared.machine.SendCommand.TheVariants as command
use Rattle.driver_link.specs.declared.machine.Server.{Server}
use Rattle.driver_link.specs.declared.machine.Statement.{Statement}
use Rattle.driver_link.specs.declared.machine.Statement.TheVariants.{Kept, Ran, Failed}
use Rattle.driver_link.specs.declared.machine.WriteKind.{WriteKind}
use Rattle.driver_link.specs.declared.machine.WriteKind.TheVariants as kind
use Rattle.driver_link.specs.Cursors.{Reply}
use Rattle.driver_link.specs.Exchange.{after_picks, answered, exchanged, plan_of, reply, traced}
use Rattle.driver_link.specs.Numbers.{field, reply_number}
use Rattle.driver_link.specs.Replies.{done_field, result_of, sum_of, write_errors, write_reply}
use Rattle.driver_link.specs.Retried.{CountsBy, CountsFirst, CountsWell, IsDoneReply, IsGentleItem, IsGreatest, IsNewNumber, KeepsWell, one_inserted}
use Rattle.driver_link.specs.Serving.{Plan}
use Rattle.driver_link.specs.Sessions.{is_below}
use Rattle.driver_link.specs.Settled.{IsOrderly, IsSettled, MayJoin}
use Rattle.driver_link.specs.Statements.{code_at, counts_by_plan, planned_at, statement_of}
use Rattle.driver_link.proofs.SettledExchanges.{after_settled, exchanged_settled, orderly_front}
use Rattle.driver_link.proofs.Lists.{has_last, none_is_some, some_is_some}
use Rattle.driver_link.proofs.Keeping.{after_keep, exchanged_keep, greatest_above, new_is_greatest, new_keeps, sent_is_greatest, taken_well}
use Rattle.driver_link.proofs.OrderlyTraces.{orderly_again}
use Rattle.driver_link.proofs.Plain.{known, plain_known}
use Rattle.driver_link.proofs.Replays.{exchanged_trace}
use Rattle.driver_link.proofs.OneWriteReplies.{IsOneWrite, one_reply, one_statement, served_one}
use Rattle.driver_link.proofs.UnnumberedReplies.{IsOneUnnumbered, only_statement, served_only}
use Rattle.driver_link.proofs.ServedSends.{taken_is}

-- a statement that was done and counts well
abbrev CountsIn : WriteKind → Statement → Type 0
CountsIn does (Kept result) = CountsWell does result
CountsIn does (Ran result) = CountsWell does result
CountsIn does (Failed code) = ⊥

-- the reply that tells of it
done_told : (asks : SendCommand) (does : WriteKind) (plan : Plan) (server : Server) (write : PlacedWrite) (statement : Statement) → plan.concern ≡ None → CountsIn does statement
    → IsDoneReply asks does write (one_reply asks plan server write statement)
done_told asks does plan server write (Kept result) none well = record {
  page = plan.page;
  cursors = server.cursors;
  statement = Kept result;
  result = result;
  counts = refl;
  well = well;
  is = ap (λ concern. write_reply asks plan.page concern server.cursors (write ∷ []) (Kept result ∷ [])) none;
}
done_told asks does plan server write (Ran result) none well = record {
  page = plan.page;
  cursors = server.cursors;
  statement = Ran result;
  result = result;
  counts = refl;
  well = well;
  is = ap (λ concern. write_reply asks plan.page concern server.cursors (write ∷ []) (Ran result ∷ [])) none;
}
done_told asks does plan server write (Failed code) none well = absurd well

-- that of an insert is the one that says so
one_told : (page : Option ℕ) (cursors : List (Option (List Reply))) (write : PlacedWrite) (statement : Statement) (result : Counted) → result_of statement ≡ Some result
    → result.n ≡ pos 1 → write_reply command.Insert page None cursors (write ∷ []) (statement ∷ []) ≡ one_inserted
unfolding write_reply sum_of write_errors
one_told page cursors write (Kept found) result counts one =
    ap (λ n. done_field ∷ field N.now (reply_number (n +ℤ pos 0)) ∷ []) (ap (λ r. r.n) (some_is_some found result counts) ∙ one)
one_told page cursors write (Ran found) result counts one =
    ap (λ n. done_field ∷ field N.now (reply_number (n +ℤ pos 0)) ∷ []) (ap (λ r. r.n) (some_is_some found result counts) ∙ one)
one_told page cursors write (Failed code) result counts one = absurd (none_is_some result counts)

pub inserted_is : (write : PlacedWrite) (found : Reply) → IsDoneReply command.Insert kind.Insert write found → found ≡ one_inserted
inserted_is write found done = done.is ∙ one_told done.page done.cursors write done.statement done.result done.counts done.well

-- a statement that is not listed to fail
kept_or_run : (does : WriteKind) (kept : Option Counted) (code : Option ℤ) (now : Counted) → code ≡ None → CountsWell does now
    → ((result : Counted) → kept ≡ Some result → CountsWell does result) → CountsIn does (statement_of kept code now)
kept_or_run does (Some result) code now none well keeps = keeps result refl
kept_or_run does None (Some code) now none well keeps = absurd (none_is_some code (sym none))
kept_or_run does None None now none well keeps = well

none_fails : (fail : List Failing) → fail ≡ [] → code_at fail 0 ≡ None
unfolding code_at
none_fails fail none = ap (λ f. code_at f 0) none

-- an exchange of a command of one write is answered by a reply that tells that it was done
pub record IsDone (asks : SendCommand) (does : WriteKind) (write : PlacedWrite) (answer : Option Reply) : Type 0 where
  pub found : Reply
  pub is : answer ≡ Some found
  pub tells : IsDoneReply asks does write found

module _ {asks : SendCommand} (does : WriteKind) where
  -- one write that is served by a gentle item
  gentle_one : (send : Send) (write : PlacedWrite) (one : IsOneWrite asks send write) (server : Server) (plan : Plan)
      → is_below one.plain.number (finite.get server.sessions one.plain.id) ≡ false → plan.fail ≡ [] → CountsFirst does plan.results
      → KeepsWell does one.plain.id one.plain.number server → CountsIn does (one_statement send one.plain server plan write)
  unfolding known
  gentle_one send write one server plan above fail counts keeps =
      kept_or_run does (finite.get (plain_known one.plain.id one.plain.number server).kept 0) (code_at plan.fail 0) (counts_by_plan write.written.kind (planned_at plan.results 0))
      (none_fails plan.fail fail) (counts write.written.kind)
      (taken_well does one.plain.id one.plain.number server (plain_known one.plain.id one.plain.number server)
      (taken_is one.plain.number (finite.get server.sessions one.plain.id) above) keeps)

  reply_done : (send : Send) (write : PlacedWrite) (one : IsOneWrite asks send write) (server : Server) (item : Item)
      → is_below one.plain.number (finite.get server.sessions one.plain.id) ≡ false → KeepsWell does one.plain.id one.plain.number server → IsGentleItem does item
      → IsDone asks does write (reply server send item)
  unfolding reply
  reply_done send write one server (Serve results fail concern page) above keeps gentle =
      let plan = plan_of results fail concern page in
      let statement = one_statement send one.plain server plan write in
      record {
        found = one_reply asks plan server write statement;
        is = ap (λ found. Some found) (served_one send write one server plan above);
        tells = done_told asks does plan server write statement gentle.1 (gentle_one send write one server plan above gentle.0 gentle.2 keeps);
      }
  reply_done send write one server Lost above keeps gentle = absurd gentle
  reply_done send write one server Late above keeps gentle = absurd gentle
  reply_done send write one server ReplyLost above keeps gentle = absurd gentle
  reply_done send write one server (Interrupted most code labels) above keeps gentle = absurd gentle
  reply_done send write one server (Refused code labels) above keeps gentle = absurd gentle
  reply_done send write one server Reauthenticate above keeps gentle = absurd gentle

  -- one write under the greatest number, of which what counts well is kept or nothing
  answered_done : (trace : List Send) (server : Server) (send : Send) (write : PlacedWrite) (one : IsOneWrite asks send write) (step : Scheduled) → IsOrderly trace
      → IsSettled trace server → IsGreatest trace one.plain.id one.plain.number → KeepsWell does one.plain.id one.plain.number server → IsGentleItem does step.item
      → IsDone asks does write (answered server send step)
  unfolding answered
  answered_done trace server send write one step orderly settled greatest keeps gentle =
      let came = after_settled trace server step.deliver orderly settled in
      reply_done send write one (traced (after_picks server step.deliver) send) step.item
      (greatest_above does one.plain.id one.plain.number trace (after_picks server step.deliver) came greatest)
      (after_keep does one.plain.id one.plain.number trace server step.deliver orderly settled keeps) gentle

  -- one write without a number
  reply_only : (send : Send) (write : PlacedWrite) (one : IsOneUnnumbered asks send write) (server : Server) (item : Item) → IsGentleItem does item
      → IsDone asks does write (reply server send item)
  unfolding reply
  reply_only send write one server (Serve results fail concern page) gentle =
      let plan = plan_of results fail concern page in
      record {
        found = one_reply asks plan server write (only_statement plan write);
        is = ap (λ found. Some found) (served_only send write one server plan);
        tells = done_told asks does plan server write (only_statement plan write) gentle.1 (nothing_kept plan gentle.0 gentle.2);
      }
    where
      nothing_kept : (plan : Plan) → plan.fail ≡ [] → CountsFirst does plan.results → CountsIn does (only_statement plan write)
      nothing_kept plan fail counts =
          kept_or_run does (finite.get (finite.empty) 0) (code_at plan.fail 0) (counts_by_plan write.written.kind (planned_at plan.results 0)) (none_fails plan.fail fail)
          (counts write.written.kind) (λ result is. absurd (none_is_some result (sym (finite.get-empty nat_cmp 0) ∙ is)))
  reply_only send write one server Lost gentle = absurd gentle
  reply_only send write one server Late gentle = absurd gentle
  reply_only send write one server ReplyLost gentle = absurd gentle
  reply_only send write one server (Interrupted most code labels) gentle = absurd gentle
  reply_only send write one server (Refused code labels) gentle = absurd gentle
  reply_only send write one server Reauthenticate gentle = absurd gentle

  pub only_done : (server : Server) (send : Send) (write : PlacedWrite) (one : IsOneUnnumbered asks send write) (step : Scheduled) → IsGentleItem does step.item
      → IsDone asks does write (answered server send step)
  unfolding answered
  only_done server send write one step gentle = reply_only send write one (traced (after_picks server step.deliver) send) step.item gentle

-- one write under a number may be sent, for the first time or again: it is answered that it was done, where its exchange is gentle
pub record MayBeSent (asks : SendCommand) (does : WriteKind) (send : Send) (write : PlacedWrite) (server : Server) : Type 0 where
  pub one : IsOneWrite asks send write
  pub joins : MayJoin server.trace send
  pub settled : IsSettled server.trace server
  pub greatest : IsGreatest server.trace one.plain.id one.plain.number
  pub keeps : KeepsWell does one.plain.id one.plain.number server

module _ {asks : SendCommand} (does : WriteKind) where
  pub may_first : (server : Server) (send : Send) (write : PlacedWrite) (one : IsOneWrite asks send write) → MayJoin server.trace send → IsSettled server.trace server
      → IsNewNumber server.trace one.plain.id one.plain.number → MayBeSent asks does send write server
  may_first server send write one joins settled new = record {
    one = one;
    joins = joins;
    settled = settled;
    greatest = new_is_greatest server.trace one.plain.id one.plain.number new;
    keeps = new_keeps does one.plain.id one.plain.number server.trace server settled new;
  }

  pub may_again : (server : Server) (send : Send) (write : PlacedWrite) (step : Scheduled) → CountsBy does step.item → MayBeSent asks does send write server
      → MayBeSent asks does send write (exchanged server send step)
  may_again server send write step counts may =
      let id = may.one.plain.id in
      let number = may.one.plain.number in
      let now = exchanged server send step in
      let is = sym (exchanged_trace server send step) in
      record {
        one = may.one;
        joins = subst (λ t. MayJoin t send) is (orderly_again (server.trace ++ send ∷ []) send (has_last server.trace send) may.one.plain may.joins);
        settled = subst (λ t. IsSettled t now) is (exchanged_settled server.trace server send step may.joins may.settled);
        greatest = subst (λ t. IsGreatest t id number) is (sent_is_greatest server.trace send may.one.plain may.greatest);
        keeps = exchanged_keep does id number server.trace server send step may.joins may.settled counts may.keeps;
      }

  pub may_answered : (server : Server) (send : Send) (write : PlacedWrite) (step : Scheduled) → IsGentleItem does step.item → MayBeSent asks does send write server
      → IsDone asks does write (answered server send step)
  may_answered server send write step gentle may =
      answered_done does server.trace server send write may.one step (orderly_front server.trace send may.joins) may.settled may.greatest may.keeps gentle
