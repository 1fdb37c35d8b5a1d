-- A bulk write's reply leaves no cursor open but one that the server opened then, whatever item of the schedule the send met.
use Rattle.std.proofs.Common.{◌≡◌, ℕ, ◌+◌, ◌≤◌, Bool, true, false, List, [], ◌∷◌, ◌++◌, length, length-append, refl, sym, ap, subst, ◌∙◌, arith}
use Rattle.std.specs.Prelude.{ℤ, pos, ◌≤ℤ◌, Option, None, Some, Result, Ok}
use Rattle.std.proofs.lemmas.Int.{ints}
use Rattle.bson_lite.specs.declared.namespace.Namespace.{Namespace}
use Rattle.driver_error.specs.declared.error.Error.{Error}
use Rattle.wire_keys.specs.declared.keys.TheConstants.{OK}
use Rattle.driver_link.specs.declared.machine.PlacedWrite.{PlacedWrite}
use Rattle.driver_link.specs.declared.machine.Scheduled.{Scheduled}
use Rattle.driver_link.specs.declared.machine.Send.{Send}
use Rattle.driver_link.specs.declared.machine.SendBody.TheVariants.{Write}
use Rattle.driver_link.specs.declared.machine.SendCommand.TheVariants as command
use Rattle.driver_link.specs.declared.machine.Server.{Server}
use Rattle.driver_link.specs.Cases.{known_of, results_of}
use Rattle.driver_link.specs.Cursors.{Reply, cursor_number, cursors_with, pages_left, rows, with_cursor}
use Rattle.driver_link.specs.Exchange.{after_picks, answered, exchanged, met, traced}
use Rattle.driver_link.specs.Replies.{body_reply, write_reply}
use Rattle.driver_link.specs.Serving.{done_in, served, served_in}
use Rattle.driver_ops.specs.declared.operation.Reading.{Reading}
use Rattle.driver_ops.specs.declared.operation.Reading.TheVariants.{Page as Further}
use Rattle.driver_ops.specs.Inserts.{int_at, is_one}
use Rattle.bulk_ops.specs.declared.bulk_reply.BulkReply.{BulkReply}
use Rattle.bulk_ops.specs.declared.bulk_results.PageVerdict.{PageVerdict}
use Rattle.bulk_ops.specs.declared.bulk_results.PageVerdict.TheVariants.{Breaks, Last, LeavesOpen}
use Rattle.bulk_ops.specs.BulkAnswers.{AnswersBulk, BulkBatch, OpensBulk, OpensBy, first_verdict}
use Rattle.bulk_ops.specs.BulkLawful.{IsServed, is_served}
use Rattle.bulk_ops.specs.BulkPages.{bulk_reply}
use Rattle.bulk_ops.specs.lawful.BulkReplies.{has_fields, page_read}

-- a page that is gone on from
same_cursor : {R : Type 0} (cursor other : ℤ) (namespace another : Namespace) → ◌≡◌ {A = Result (Reading R) Error} (Ok (Further cursor namespace)) (Ok (Further other another)) → cursor ≡ other
same_cursor cursor other namespace another is = cc

-- what a reply leaves open is the cursor that it tells
record TellsCursor (reply : Reply) (cursor : ℤ) : Type 0 where
  found : BulkReply
  read : bulk_reply reply ≡ Some found
  cursor_is : cursor ≡ found.page.cursor

module _ {R : Type 0} (batch : BulkBatch R) where
  opens_cursor : (reply : Reply) (cursor : ℤ) (namespace : Namespace) → AnswersBulk batch (Ok reply ∷ []) (Ok (Further cursor namespace)) → TellsCursor reply cursor
  opens_cursor reply cursor namespace answers = by_fields (bulk_reply reply) refl answers
    where
      by_verdict : (found : BulkReply) → bulk_reply reply ≡ Some found → (judged : PageVerdict) → OpensBy judged batch found (Ok (Further cursor namespace)) → TellsCursor reply cursor
      by_verdict found read LeavesOpen answers = record { found = found; read = read; cursor_is = same_cursor {R = R} cursor found.page.cursor namespace found.page.namespace answers }
      by_verdict found read Last answers = absurd answers
      by_verdict found read (Breaks broken) answers = absurd answers

      by_fields : (fields : Option BulkReply) → bulk_reply reply ≡ fields → OpensBulk batch fields (Ok (Further cursor namespace)) → TellsCursor reply cursor
      by_fields None read answers = absurd answers
      by_fields (Some found) read answers = by_verdict found read (first_verdict batch found) answers

-- so many are within more
number_more : (a b : ℕ) → a ≤ b → pos a ≤ℤ pos b
number_more a b more = omega (arith, ints)

-- a cursor that is opened is one of those that are open then
number_opened : (left : List Reply) (cursors : List (Option (List Reply))) → pos (cursor_number left cursors) ≤ℤ pos (length (with_cursor left cursors))
number_opened [] cursors = number_more 0 (length cursors) (omega arith)
number_opened (row ∷ left) cursors =
    let long = length-append cursors (Some (row ∷ left) ∷ []) in number_more (length cursors + 1) (length (cursors ++ Some (row ∷ left) ∷ [])) (omega (arith, long))

-- the machine's own reply to a bulk write, of a command that was done
module _ {R : Type 0} (batch : BulkBatch R) (ordered : Bool) (writes : List PlacedWrite) (server : Server) (send : Send) (step : Scheduled) (out : send.in_transaction ≡ false)
    (asks : send.body ≡ Write command.BulkWrite ordered writes) (reply : Reply) (answer : answered server send step ≡ Some reply) (one : is_one (int_at OK.now reply) ≡ true) where
  abbrev before : Server
  before = traced (after_picks server step.deliver) send

  made : IsServed ordered writes server send step out asks reply answer one
  made = is_served ordered writes server send step out asks reply answer one

  -- what is left behind its page
  abbrev left : List Reply
  left = pages_left made.served_so.plan.page (rows 0 writes made.done)

  reply_is : reply ≡ write_reply command.BulkWrite made.served_so.plan.page made.served_so.plan.concern before.cursors writes made.done
  reply_is = made.is ∙ ap (λ body. body_reply body made.served_so.plan before.cursors made.done) asks

  cursor_read : (found : BulkReply) → bulk_reply reply ≡ Some found → found.page.cursor ≡ pos (cursor_number left before.cursors)
  cursor_read found read =
      let own = write_reply command.BulkWrite made.served_so.plan.page made.served_so.plan.concern before.cursors writes made.done in
      (page_read writes made.done made.served_so.plan.page made.served_so.plan.concern before.cursors found (has_fields own found (ap bulk_reply (sym reply_is) ∙ read))).cursor

  -- the cursors after it
  cursors_now : (exchanged server send step).cursors ≡ with_cursor left before.cursors
  unfolding exchanged met served served_in
  cursors_now =
      let plan = made.served_so.plan in
      ap (λ item. (met before send item).cursors) made.served_so.item_is
      ∙ ap (λ case. (served_in case (done_in case plan (results_of (known_of before send)) send.body) plan.page before send).cursors) made.served_so.case
      ∙ ap (λ statements. cursors_with plan.page statements send.body before.cursors) (sym made.served_so.done_is)
      ∙ ap (λ body. cursors_with plan.page made.done body before.cursors) asks

  -- what it leaves open was opened
  pub cursor_opened : (cursor : ℤ) (namespace : Namespace) → AnswersBulk batch (Ok reply ∷ []) (Ok (Further cursor namespace)) → cursor ≤ℤ pos (length (exchanged server send step).cursors)
  cursor_opened cursor namespace answers =
      let told = opens_cursor batch reply cursor namespace answers in
      let is : cursor ≡ pos (cursor_number left before.cursors) = told.cursor_is ∙ cursor_read told.found told.read in
      subst (λ (c : ℤ). c ≤ℤ pos (length (exchanged server send step).cursors)) (sym is)
      (subst (λ (cursors : List (Option (List Reply))). pos (cursor_number left before.cursors) ≤ℤ pos (length cursors)) (sym cursors_now) (number_opened left before.cursors))
