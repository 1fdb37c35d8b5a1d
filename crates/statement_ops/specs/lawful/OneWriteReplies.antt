-- What the machine's reply to one write tells: its one statement.
use Rattle.std.proofs.Common.{◌≡◌, true, false, List, [], ◌∷◌, refl, sym, ap, ◌∙◌}
use Rattle.std.specs.Prelude.{◌&&◌, Option, None, Some}
use Rattle.driver_link.specs.declared.machine.Counted.{Counted}
use Rattle.driver_link.specs.declared.machine.Item.{Item}
use Rattle.driver_link.specs.declared.machine.Item.TheVariants.{Serve}
use Rattle.driver_link.specs.declared.machine.PlacedWrite.{PlacedWrite}
use Rattle.driver_link.specs.declared.machine.Scheduled.{Scheduled}
use Rattle.driver_link.specs.declared.machine.Send.{Send}
use Rattle.driver_link.specs.declared.machine.SendBody.TheVariants.{Write}
use Rattle.driver_link.specs.declared.machine.SendCommand.{SendCommand}
use Rattle.driver_link.specs.declared.machine.Server.{Server}
use Rattle.driver_link.specs.declared.machine.Statement.{Statement}
use Rattle.driver_link.specs.declared.machine.Statement.TheVariants.{Kept, Ran, Failed}
use Rattle.driver_link.specs.Cases.{body_writes, is_ordered, outside, known_of, results_of}
use Rattle.driver_link.specs.Cursors.{Reply}
use Rattle.driver_link.specs.Exchange.{after_picks, reply, traced}
use Rattle.driver_link.specs.Replies.{body_reply, result_of}
use Rattle.driver_link.specs.Serving.{Plan, done_in}
use Rattle.driver_link.specs.Statements.{Results, entry_of, has_failed, is_failed, statement_at, statements}
use Rattle.driver_link.proofs.OneWriteReplies.{both_nothing, one_reply}
use Rattle.driver_ops.specs.Served.{RanOrKept, entries_counted, entry_counted, met_statements, statements_in}
use Rattle.driver_ops.specs.lawful.Statements.{told_outside, told_reply}

-- a send of one write by a command, outside transactions
pub record IsOneOf (does : SendCommand) (send : Send) (write : PlacedWrite) : Type 0 where
  pub out : send.in_transaction ≡ false
  pub body : send.body ≡ Write does true (write ∷ [])

-- its one statement
one_done : (does : SendCommand) (send : Send) (write : PlacedWrite) → IsOneOf does send write → (plan : Plan) (kept : Results)
    → done_in outside plan kept send.body ≡ statement_at plan.results plan.fail kept 0 write ∷ []
unfolding statements
one_done does send write one plan kept =
    ap (done_in outside plan kept) one.body
    ∙ ap (λ rest. statement_at plan.results plan.fail kept 0 write ∷ rest)
    (both_nothing (is_ordered (Write does true (write ∷ [])) && is_failed (statement_at plan.results plan.fail kept 0 write)))

-- the reply to such a send tells of the one statement
pub record TellsOneStatement (does : SendCommand) (server : Server) (write : PlacedWrite) (item : Item) (done : List Statement) (found : Reply) : Type 0 where
  pub plan : Plan
  pub item_is : item ≡ Serve plan.results plan.fail plan.concern plan.page
  pub statement : Statement
  pub alone : done ≡ statement ∷ []
  pub is : found ≡ one_reply does plan server write statement

-- where its statements are told it is one, of which the reply tells
pub one_told : (does : SendCommand) (server : Server) (send : Send) (write : PlacedWrite) → IsOneOf does send write → (item : Item) (done : List Statement) (found : Reply)
    → met_statements server send item ≡ Some done → reply server send item ≡ Some found → TellsOneStatement does server write item done found
one_told does server send write one item done found told is =
    let served_so = told_outside server send item done told in
    let plan = served_so.plan in
    let kept = results_of (known_of server send) in
    let alone = served_so.done_is ∙ one_done does send write one plan kept in
    record {
      plan = plan;
      item_is = served_so.item_is;
      statement = statement_at plan.results plan.fail kept 0 write;
      alone = alone;
      is =
          told_reply server send item done found served_so is ∙ ap (body_reply send.body plan server.cursors) alone
          ∙ ap (λ body. body_reply body plan server.cursors (statement_at plan.results plan.fail kept 0 write ∷ [])) one.body;
    }

-- a statement with a result did not fail
pub counted_unfailed : (statement : Statement) (result : Counted) → result_of statement ≡ Some result → has_failed (statement ∷ []) ≡ false
counted_unfailed (Kept found) result is = refl
counted_unfailed (Ran found) result is = refl
counted_unfailed (Failed code) result is = let e : ◌≡◌ {A = Option Counted} None (Some result) = is in cc

-- one exchange of one write: its one statement is told, and has a result
pub record IsOneCounted (does : SendCommand) (server : Server) (send : Send) (step : Scheduled) (write : PlacedWrite) (found : Reply) : Type 0 where
  pub done : List Statement
  pub told : statements_in server send step ≡ Some done
  pub alone : TellsOneStatement does (traced (after_picks server step.deliver) send) write step.item done found
  pub result : Counted
  pub counts : result_of alone.statement ≡ Some result

-- then its entry stands
pub one_stands : (does : SendCommand) (server : Server) (send : Send) (step : Scheduled) (write : PlacedWrite) (found : Reply) → IsOneOf does send write
    → (is : IsOneCounted does server send step write found) → RanOrKept server send step (entry_of send.session send.number write is.result ∷ [])
one_stands does server send step write found one is = record {
  done = is.done;
  told = is.told;
  unfailed = ap has_failed is.alone.alone ∙ counted_unfailed is.alone.statement is.result is.counts;
  entries_are = sym (
      ap (λ body. entries_counted send.session send.number (body_writes body) is.done) one.body
      ∙ ap (entries_counted send.session send.number (write ∷ [])) is.alone.alone
      ∙ ap (λ result. entry_counted send.session send.number write result []) is.counts);
}
