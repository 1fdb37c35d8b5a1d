-- What a reply to a send of writes outside transactions tells: an error, or what its statements came to.
use Rattle.std.proofs.Common.{◌≡◌, ℕ, true, false, List, [], refl, sym, ap, ◌∙◌, inl, inr}
use Rattle.std.specs.Prelude.{ℤ, Option, None, Some, ◌⊎◌, if◌then◌else◌}
use Rattle.std.specs.FinMap as finite
use Rattle.std.proofs.lemmas.Bool.{cond-true, cond-false}
use Rattle.driver_link.specs.declared.machine.Item.{Item}
use Rattle.driver_link.specs.declared.machine.Item.TheVariants.{Serve, Lost, Late, ReplyLost, Interrupted, Refused, Reauthenticate}
use Rattle.driver_link.specs.declared.machine.Send.{Send}
use Rattle.driver_link.specs.declared.machine.Server.{Server}
use Rattle.driver_link.specs.declared.machine.Statement.{Statement}
use Rattle.driver_link.specs.Cases.{Case, too_old, outside, case_as, case_of, case_under, known_of, known_under, results_of, numbered_case, is_decided}
use Rattle.driver_link.specs.Cursors.{Reply}
use Rattle.driver_link.specs.Exchange.{interrupted_labels, interrupted_reply, plan_of, reauthentication_required, refused_labels, reply}
use Rattle.driver_link.specs.Replies.{body_reply, error_reply, reply_in, served_reply, transaction_too_old}
use Rattle.driver_link.specs.Serving.{Plan, usual, done_in}
use Rattle.driver_link.specs.Sessions.{is_below, is_new}
use Rattle.driver_link.specs.Settled.{IsWrite}
use Rattle.driver_link.proofs.Lists.{none_is_some, some_is_some}
use Rattle.driver_link.proofs.OneWriteReplies.{IsError}
use Rattle.driver_link.proofs.Plain.{case_is}
use Rattle.driver_link.proofs.Unnumbered.{write_outside}
use Rattle.driver_ops.specs.Served.{case_statements, met_statements}

-- a send of writes outside transactions is too old, or is served outside them
module _ (server : Server) (send : Send) (out : send.in_transaction ≡ false) (write : IsWrite send.body) where
  -- the same by its session and its number
  either_by : (session : Option (List ℕ)) (number : Option ℤ) → (case_as session number server send ≡ too_old) ⊎ (case_as session number server send ≡ outside)
  unfolding case_as case_under
  either_by None None = inr (write_outside send.body write)
  either_by None (Some number) = inr (write_outside send.body write)
  either_by (Some id) None = inr (write_outside send.body write)
  either_by (Some id) (Some number) =
      let before = finite.get server.sessions id in
      let case = numbered_case (known_under id number server send) (is_new number before) send send.body in
      elim (is_below number before) as (λ b. ((if b then too_old else case) ≡ too_old) ⊎ ((if b then too_old else case) ≡ outside)) [
        | true ↦ inl refl
        | false ↦ inr (case_is (known_under id number server send) (is_new number before) send send.body out write)
      ]

  -- the case that it meets
  case_either : (case_of server send ≡ too_old) ⊎ (case_of server send ≡ outside)
  case_either = either_by send.session send.number

-- the reply to a send that is too old
pub reply_too_old : (plan : Plan) (server : Server) (send : Send) → case_of server send ≡ too_old → served_reply plan server send ≡ error_reply transaction_too_old []
unfolding served_reply reply_in
reply_too_old plan server send is = ap (λ case. reply_in case plan (done_in case plan (results_of (known_of server send)) send.body) server send) is

-- the reply to a send that is served outside transactions
reply_outside : (plan : Plan) (server : Server) (send : Send) → case_of server send ≡ outside
    → served_reply plan server send ≡ body_reply send.body plan server.cursors (done_in outside plan (results_of (known_of server send)) send.body)
unfolding served_reply reply_in
reply_outside plan server send is = ap (λ case. reply_in case plan (done_in case plan (results_of (known_of server send)) send.body) server send) is

-- what a reply to a send of writes outside transactions tells: an error, or what its statements came to
pub record TellsStatements (server : Server) (send : Send) (item : Item) (found : Reply) : Type 0 where
  pub plan : Plan
  pub item_is : item ≡ Serve plan.results plan.fail plan.concern plan.page
  pub done : List Statement
  pub told : met_statements server send item ≡ Some done
  pub done_is : done ≡ done_in outside plan (results_of (known_of server send)) send.body
  pub is : found ≡ body_reply send.body plan server.cursors done

-- what a send is answered that is interrupted
interrupted_is_error : (most : ℕ) (code : ℤ) (labels : List (List ℕ)) (server : Server) (send : Send) → (case_of server send ≡ too_old) ⊎ (case_of server send ≡ outside)
    → IsError (interrupted_reply most code labels server send)
unfolding interrupted_reply
interrupted_is_error most code labels server send (inl old) = record {
  code = transaction_too_old;
  labels = [];
  is = cond-true _ _ _ (ap is_decided old) ∙ reply_too_old usual server send old;
}
interrupted_is_error most code labels server send (inr out) =
    record { code = code; labels = interrupted_labels most labels server send; is = cond-false _ _ _ (ap is_decided out) }

-- what a send is answered that is served
tells_served : (plan : Plan) (server : Server) (send : Send) (found : Reply) → (case_of server send ≡ too_old) ⊎ (case_of server send ≡ outside)
    → found ≡ served_reply plan server send → IsError found ⊎ TellsStatements server send (Serve plan.results plan.fail plan.concern plan.page) found
tells_served plan server send found (inl old) is = inl (record { code = transaction_too_old; labels = []; is = is ∙ reply_too_old plan server send old })
tells_served plan server send found (inr out) is = inr (record {
  plan = plan;
  item_is = refl;
  done = done_in outside plan (results_of (known_of server send)) send.body;
  told = ap (λ case. case_statements case plan server send) out;
  done_is = refl;
  is = is ∙ reply_outside plan server send out;
})

-- the reply to a send of writes outside transactions is an error, or tells of its statements
pub reply_of_writes : (server : Server) (send : Send) (item : Item) (found : Reply) → send.in_transaction ≡ false → IsWrite send.body
    → reply server send item ≡ Some found → IsError found ⊎ TellsStatements server send item found
unfolding reply
reply_of_writes server send (Serve results fail concern page) found out write is =
    tells_served (plan_of results fail concern page) server send found (case_either server send out write) (sym (some_is_some _ found is))
reply_of_writes server send Lost found out write is = absurd (none_is_some found is)
reply_of_writes server send Late found out write is = absurd (none_is_some found is)
reply_of_writes server send ReplyLost found out write is = absurd (none_is_some found is)
reply_of_writes server send (Interrupted most code labels) found out write is =
    let error = interrupted_is_error most code labels server send (case_either server send out write) in
    inl (record { code = error.code; labels = error.labels; is = sym (some_is_some _ found is) ∙ error.is })
reply_of_writes server send (Refused code labels) found out write is =
    inl (record { code = code; labels = refused_labels labels server send; is = sym (some_is_some _ found is) })
reply_of_writes server send Reauthenticate found out write is =
    inl (record { code = reauthentication_required; labels = []; is = sym (some_is_some _ found is) })

-- how a send was served whose statements are told: by the plan of its item, outside transactions
pub record IsServedOutside (server : Server) (send : Send) (item : Item) (done : List Statement) : Type 0 where
  pub plan : Plan
  pub item_is : item ≡ Serve plan.results plan.fail plan.concern plan.page
  pub case : case_of server send ≡ outside
  pub done_is : done ≡ done_in outside plan (results_of (known_of server send)) send.body

-- statements are told of a send that was served so, and of no other
pub told_outside : (server : Server) (send : Send) (item : Item) (done : List Statement) → met_statements server send item ≡ Some done → IsServedOutside server send item done
told_outside server send (Serve results fail concern page) done told = by_case (case_of server send) refl told
  where
    by_case : (case : Case) → case_of server send ≡ case → case_statements case (plan_of results fail concern page) server send ≡ Some done
        → IsServedOutside server send (Serve results fail concern page) done
    by_case outside is told = record { plan = plan_of results fail concern page; item_is = refl; case = is; done_is = sym (some_is_some _ done told) }
    by_case other is told = absurd (none_is_some done told)
told_outside server send other done told = absurd (none_is_some done told)

-- the reply to a send whose statements are told is what they came to
pub told_reply : (server : Server) (send : Send) (item : Item) (done : List Statement) (found : Reply) (served_so : IsServedOutside server send item done)
    → reply server send item ≡ Some found → found ≡ body_reply send.body served_so.plan server.cursors done
unfolding reply
told_reply server send item done found served_so is =
    let plan = served_so.plan in
    let here : Some (served_reply plan server send) ≡ Some found = sym (ap (reply server send) served_so.item_is) ∙ is in
    sym (some_is_some _ found here) ∙ reply_outside plan server send served_so.case ∙ ap (body_reply send.body plan server.cursors) (sym served_so.done_is)
