-- What the machine answers to a question for the next page of a bulk write's results: all that is left of them, as the bulk write left
-- it, and no further cursor; or an error.
use Rattle.std.proofs.Common.{◌≡◌, ℕ, ◌+◌, ◌-◌, ◌==◌, true, false, List, [], ◌∷◌, ◌++◌, length, ne_eqb, refl, sym, ap, ◌∙◌, inl, inr, arith}
use Rattle.std.specs.Prelude.{ℤ, pos, Option, None, Some, ◌⊎◌, slice_get, slice_set, unwrap_or, if◌then◌else◌}
use Rattle.std.specs.Option.{option_and_then, option_map_or}
use Rattle.std.specs.FinMap as finite
use Rattle.std.proofs.lemmas.Bool.{cond-true, cond-false}
use Rattle.wire_keys.specs.declared.keys.TheConstants.{NEXT_BATCH}
use Rattle.driver_link.specs.declared.machine.Item.{Item}
use Rattle.driver_link.specs.declared.machine.Item.TheVariants.{Serve, Lost, Late, ReplyLost, Interrupted, Refused, Reauthenticate}
use Rattle.driver_link.specs.declared.machine.PlannedConcern.{PlannedConcern}
use Rattle.driver_link.specs.declared.machine.Send.{Send}
use Rattle.driver_link.specs.declared.machine.SendBody.{SendBody}
use Rattle.driver_link.specs.declared.machine.SendBody.TheVariants.{Write, Commit, Abort, More, Kill}
use Rattle.driver_link.specs.declared.machine.SendCommand.TheVariants as command
use Rattle.driver_link.specs.declared.machine.Server.{Server}
use Rattle.driver_link.specs.declared.machine.Statement.{Statement}
use Rattle.driver_link.specs.Cases.{Case, aborts, case_as, case_of, case_under, commits, denied, gathers, is_decided, known_of, known_under, nothing, numbered_case, of_cursor, outside, results_of, too_old, unnumbered_case}
use Rattle.driver_link.specs.Cursors.{Reply, closed, cursors_with, place_of, results_left, without_cursor}
use Rattle.driver_link.specs.Exchange.{after_picks, answered, arrived, delivered, interrupted_labels, interrupted_reply, plan_of, reauthentication_required, refused_labels, reply}
use Rattle.driver_link.specs.Replies.{cursor_not_found, cursor_reply, error_reply, page_reply_of, reply_in, served_reply, transaction_too_old}
use Rattle.driver_link.specs.Serving.{Plan, cursors_after, done_in, served, served_in, usual}
use Rattle.driver_link.specs.Sessions.{is_below, is_new}
use Rattle.driver_link.proofs.Lists.{get_last, none_is_some, set_none, some_is_some}
use Rattle.driver_link.proofs.OneWriteReplies.{IsError}
use Rattle.driver_link.specs.Commands.{needed}
use Rattle.driver_ops.specs.lawful.Statements.{reply_too_old}
use Rattle.bulk_ops.specs.declared.bulk_reply.ResultsPage.{ResultsPage}
use Rattle.bulk_ops.specs.BulkPages.{next_page, page_in}
use Rattle.bulk_ops.specs.lawful.BulkReplies.{IsPageTold, cursor_told}

-- a reply gives all that is left of a cursor, where it is open
pub record GivesLeft (server : Server) (cursor : ℤ) (found : Reply) : Type 0 where
  pub concern : Option PlannedConcern
  pub is : found ≡ page_reply_of concern (results_left cursor server.cursors)

-- a question for the next page of a cursor
module _ (server : Server) (send : Send) (cursor : ℤ) (asks : send.body ≡ More cursor) where
  -- it is too old, or one of a cursor
  either_by : (session : Option (List ℕ)) (number : Option ℤ) → (case_as session number server send ≡ too_old) ⊎ (case_as session number server send ≡ of_cursor)
  unfolding case_as case_under
  either_by None None = inr (ap unnumbered_case asks)
  either_by None (Some number) = inr (ap unnumbered_case asks)
  either_by (Some id) None = inr (ap unnumbered_case asks)
  either_by (Some id) (Some number) =
      let before = finite.get server.sessions id in
      let case = numbered_case (known_under id number server send) (is_new number before) send send.body in
      elim (is_below number before) as (λ b. ((if b then too_old else case) ≡ too_old) ⊎ ((if b then too_old else case) ≡ of_cursor)) [
        | true ↦ inl refl
        | false ↦ inr (ap (numbered_case (known_under id number server send) (is_new number before) send) asks)
      ]

  case_either : (case_of server send ≡ too_old) ⊎ (case_of server send ≡ of_cursor)
  case_either = either_by send.session send.number

  pub reply_of_cursor : (plan : Plan) → case_of server send ≡ of_cursor → served_reply plan server send ≡ page_reply_of plan.concern (results_left cursor server.cursors)
  unfolding served_reply reply_in cursor_reply
  reply_of_cursor plan is =
      ap (λ case. reply_in case plan (done_in case plan (results_of (known_of server send)) send.body) server send) is
      ∙ ap (λ body. cursor_reply body plan.concern server.cursors) asks

  interrupted_is_error : (most : ℕ) (code : ℤ) (labels : List (List ℕ)) → (case_of server send ≡ too_old) ⊎ (case_of server send ≡ of_cursor)
      → IsError (interrupted_reply most code labels server send)
  unfolding interrupted_reply
  interrupted_is_error most code labels (inl old) = record {
    code = transaction_too_old;
    labels = [];
    is = cond-true _ _ _ (ap is_decided old) ∙ reply_too_old usual server send old;
  }
  interrupted_is_error most code labels (inr here) =
      record { code = code; labels = interrupted_labels most labels server send; is = cond-false _ _ _ (ap is_decided here) }

  left_or_error : (plan : Plan) (found : Reply) → (case_of server send ≡ too_old) ⊎ (case_of server send ≡ of_cursor) → found ≡ served_reply plan server send
      → IsError found ⊎ GivesLeft server cursor found
  left_or_error plan found (inl old) is = inl (record { code = transaction_too_old; labels = []; is = is ∙ reply_too_old plan server send old })
  left_or_error plan found (inr here) is = inr (record { concern = plan.concern; is = is ∙ reply_of_cursor plan here })

  -- what it is answered
  pub reply_of_more : (item : Item) (found : Reply) → reply server send item ≡ Some found → IsError found ⊎ GivesLeft server cursor found
  unfolding reply
  reply_of_more (Serve results fail concern page) found is =
      left_or_error (plan_of results fail concern page) found case_either (sym (some_is_some (served_reply (plan_of results fail concern page) server send) found is))
  reply_of_more Lost found is = absurd (none_is_some found is)
  reply_of_more Late found is = absurd (none_is_some found is)
  reply_of_more ReplyLost found is = absurd (none_is_some found is)
  reply_of_more (Interrupted most code labels) found is =
      let error = interrupted_is_error most code labels case_either in
      inl (record { code = error.code; labels = error.labels; is = sym (some_is_some (interrupted_reply most code labels server send) found is) ∙ error.is })
  reply_of_more (Refused code labels) found is =
      inl (record { code = code; labels = refused_labels labels server send; is = sym (some_is_some (error_reply code (refused_labels labels server send)) found is) })
  reply_of_more Reauthenticate found is =
      inl (record { code = reauthentication_required; labels = []; is = sym (some_is_some (error_reply reauthentication_required []) found is) })

-- a page that is read in such a reply has all that was left, and no further cursor
pub record IsLastPage (server : Server) (cursor : ℤ) (page : ResultsPage) : Type 0 where
  pub left : List Reply
  pub left_is : results_left cursor server.cursors ≡ Some left
  pub told : IsPageTold 0 left page

error_has_none : (code : ℤ) (labels : List (List ℕ)) → next_page (error_reply code labels) ≡ None
unfolding error_reply page_in needed
error_has_none code labels = refl

pub last_page : (server : Server) (cursor : ℤ) (found : Reply) (page : ResultsPage) → IsError found ⊎ GivesLeft server cursor found → next_page found ≡ Some page → IsLastPage server cursor page
last_page server cursor found page (inl error) read = absurd (none_is_some page (sym (error_has_none error.code error.labels) ∙ ap next_page (sym error.is) ∙ read))
last_page server cursor found page (inr gives) read = by_left (results_left cursor server.cursors) refl (ap next_page (sym gives.is) ∙ read)
  where
    by_left : (left : Option (List Reply)) → results_left cursor server.cursors ≡ left → next_page (page_reply_of gives.concern left) ≡ Some page → IsLastPage server cursor page
    by_left None left_is at = absurd (none_is_some page (sym (error_has_none cursor_not_found []) ∙ at))
    by_left (Some left) left_is at =
        record { left = left; left_is = left_is; told = cursor_told NEXT_BATCH.now 0 left (page_reply_of gives.concern (Some left)) page refl refl at }

-- what is read by a place
unwrapped : (found : Option (Option (List Reply))) (left : List Reply) → unwrap_or found None ≡ Some left → found ≡ Some (Some left)
unwrapped None left is = absurd (none_is_some left is)
unwrapped (Some one) left is = ap (λ (inner : Option (List Reply)). Some inner) is

-- an end to a cursor gives no other one more
closed_left : (other cursor : ℤ) (cursors : List (Option (List Reply))) (left : List Reply) → results_left cursor (closed other cursors) ≡ Some left → results_left cursor cursors ≡ Some left
unfolding results_left closed
closed_left other cursor cursors left is = by_places (place_of other) (place_of cursor) is
  where
    by_places : (gone here : Option ℕ) → option_and_then (λ at. unwrap_or (slice_get (option_map_or (λ at. slice_set cursors at None) gone cursors) at) None) here ≡ Some left
        → option_and_then (λ at. unwrap_or (slice_get cursors at) None) here ≡ Some left
    by_places None here is = is
    by_places (Some at) None is = is
    by_places (Some at) (Some k) is =
        ap (λ (found : Option (Option (List Reply))). unwrap_or found None) (set_none cursors at k left (unwrapped (slice_get (slice_set cursors at None) k) left is))

-- so does a send that arrives late: it opens no cursor
body_left : (body : SendBody) (done : List Statement) (cursors : List (Option (List Reply))) (cursor : ℤ) (left : List Reply)
    → results_left cursor (cursors_with None done body cursors) ≡ Some left → results_left cursor cursors ≡ Some left
body_left (Write command.BulkWrite ordered writes) done cursors cursor left is = is
body_left (Write command.Insert ordered writes) done cursors cursor left is = is
body_left (Write command.Update ordered writes) done cursors cursor left is = is
body_left (Write command.Delete ordered writes) done cursors cursor left is = is
body_left (Write command.FindAndModify ordered writes) done cursors cursor left is = is
body_left Commit done cursors cursor left is = is
body_left Abort done cursors cursor left is = is
body_left (More other) done cursors cursor left is = is
body_left (Kill other) done cursors cursor left is = is

ended_left : (body : SendBody) (cursors : List (Option (List Reply))) (cursor : ℤ) (left : List Reply) → results_left cursor (without_cursor body cursors) ≡ Some left
    → results_left cursor cursors ≡ Some left
ended_left (Write does ordered writes) cursors cursor left is = is
ended_left Commit cursors cursor left is = is
ended_left Abort cursors cursor left is = is
ended_left (More other) cursors cursor left is = closed_left other cursor cursors left is
ended_left (Kill other) cursors cursor left is = closed_left other cursor cursors left is

case_left : (case : Case) (done : List Statement) (server : Server) (send : Send) (cursor : ℤ) (left : List Reply) → results_left cursor (cursors_after case None done send server) ≡ Some left
    → results_left cursor server.cursors ≡ Some left
case_left too_old done server send cursor left is = is
case_left outside done server send cursor left is = body_left send.body done server.cursors cursor left is
case_left (gathers entries) done server send cursor left is = body_left send.body done server.cursors cursor left is
case_left (commits entries) done server send cursor left is = is
case_left aborts done server send cursor left is = is
case_left of_cursor done server send cursor left is = ended_left send.body server.cursors cursor left is
case_left nothing done server send cursor left is = is
case_left denied done server send cursor left is = is

served_left : (server : Server) (send : Send) (cursor : ℤ) (left : List Reply) → results_left cursor (served usual server send).cursors ≡ Some left → results_left cursor server.cursors ≡ Some left
unfolding served served_in
served_left server send cursor left is =
    case_left (case_of server send) (done_in (case_of server send) usual (results_of (known_of server send)) send.body) server send cursor left is

arrived_left : (server : Server) (at : ℕ) (found : Option (Option Send)) (cursor : ℤ) (left : List Reply) → results_left cursor (arrived server at found).cursors ≡ Some left
    → results_left cursor server.cursors ≡ Some left
unfolding arrived
arrived_left server at None cursor left is = is
arrived_left server at (Some None) cursor left is = is
arrived_left server at (Some (Some send)) cursor left is = served_left (record server { waiting = slice_set server.waiting at None }) send cursor left is

delivered_left : (server : Server) (pick : ℕ) (cursor : ℤ) (left : List Reply) → results_left cursor (delivered server pick).cursors ≡ Some left → results_left cursor server.cursors ≡ Some left
unfolding delivered
delivered_left server pick cursor left is = arrived_left server pick (slice_get server.waiting pick) cursor left is

-- what is left after late deliveries was left before them
pub picks_left : (server : Server) (picks : List ℕ) (cursor : ℤ) (left : List Reply) → results_left cursor (after_picks server picks).cursors ≡ Some left
    → results_left cursor server.cursors ≡ Some left
unfolding after_picks
picks_left server [] cursor left is = is
picks_left server (pick ∷ picks) cursor left is = delivered_left server pick cursor left (picks_left (delivered server pick) picks cursor left is)

-- the place of the cursor behind so many
no_zero : (count : ℕ) → count + 1 ≡ 0 → ⊥
no_zero count is = omega (arith, is)

one_less : (count : ℕ) → count + 1 - 1 ≡ count
one_less count = omega arith

place_here : (count : ℕ) → place_of (pos (count + 1)) ≡ Some count
place_here count = cond-false _ _ _ (ne_eqb (count + 1) 0 (no_zero count)) ∙ ap (λ (k : ℕ). Some k) (one_less count)

-- a cursor that is opened has what it was opened with
pub opened_left : (cursors : List (Option (List Reply))) (left : List Reply) → results_left (pos (length cursors + 1)) (cursors ++ Some left ∷ []) ≡ Some left
unfolding results_left
opened_left cursors left =
    ap (option_and_then (λ at. unwrap_or (slice_get (cursors ++ Some left ∷ []) at) None)) (place_here (length cursors))
    ∙ ap (λ (found : Option (Option (List Reply))). unwrap_or found None) (get_last cursors (Some left))
