-- What the reply to a plain send of one write says: it is an error, or it tells of the one statement, and a
-- statement that did not fail stands in the log.
use Rattle.std.proofs.Common.{◌≡◌, ℕ, Bool, true, false, List, [], ◌∷◌, refl, sym, ap, subst, ◌∙◌, inl, inr}
use Rattle.std.specs.Prelude.{ℤ, ◌&&◌, Option, None, Some, ◌⊎◌, slice_get, if◌then◌else◌}
use Rattle.std.specs.FinMap as finite
use Rattle.std.proofs.lemmas.Bool.{cond-true, cond-false}
use Rattle.driver_link.specs.declared.machine.Counted.{Counted}
use Rattle.driver_link.specs.declared.machine.Entry.{Entry}
use Rattle.driver_link.specs.declared.machine.Item.{Item}
use Rattle.driver_link.specs.declared.machine.Item.TheVariants.{Serve, Lost, Late, ReplyLost, Interrupted, Refused, Reauthenticate}
use Rattle.driver_link.specs.declared.machine.PlacedWrite.{PlacedWrite}
use Rattle.driver_link.specs.declared.machine.Send.{Send}
use Rattle.driver_link.specs.declared.machine.SendBody.TheVariants.{Write}
use Rattle.driver_link.specs.declared.machine.SendCommand.{SendCommand}
use Rattle.driver_link.specs.declared.machine.Server.{Server}
use Rattle.driver_link.specs.declared.machine.Statement.{Statement}
use Rattle.driver_link.specs.declared.machine.Statement.TheVariants.{Kept, Ran, Failed}
use Rattle.driver_link.specs.Cases.{outside, known_of, results_of, body_writes, is_decided, is_ordered, writes_of}
use Rattle.driver_link.specs.Cursors.{Reply}
use Rattle.driver_link.specs.Exchange.{interrupted_labels, interrupted_reply, plan_of, reauthentication_required, refused_labels, reply}
use Rattle.driver_link.specs.Replies.{body_reply, error_reply, reply_in, served_reply, transaction_too_old, write_reply}
use Rattle.driver_link.specs.Serving.{Plan, usual, done_in, served, served_in}
use Rattle.driver_link.specs.Sessions.{is_below}
use Rattle.driver_link.specs.Settled.{Has, IsOrderly, IsPlain, IsSettled}
use Rattle.driver_link.specs.Statements.{code_at, counts_by_plan, planned_at, statement_at, statement_of, statements, entry_of, is_failed}
use Rattle.driver_link.proofs.KeptStatements.{Follows, entry_there, follows_statements}
use Rattle.driver_link.proofs.Lists.{has_right, none_is_some, some_is_some}
use Rattle.driver_link.proofs.Plain.{case_above, case_below, known, none_known, planned, results_here, served_above, served_runs}
use Rattle.driver_link.proofs.ServedSends.{Runs, kept_entry, taken_is}

-- the reply spells an error
pub record IsError (found : Reply) : Type 0 where
  pub code : ℤ
  pub labels : List (List ℕ)
  pub is : found ≡ error_reply code labels

module _ (send : Send) (plain : IsPlain send) (server : Server) (plan : Plan) where
  -- a number below the greatest is too old
  pub reply_below : is_below plain.number (finite.get server.sessions plain.id) ≡ true → served_reply plan server send ≡ error_reply transaction_too_old []
  unfolding served_reply reply_in
  reply_below below =
      ap (λ case. reply_in case plan (done_in case plan (results_of (known_of server send)) send.body) server send) (case_below send plain server below)

  -- else the reply tells of the statements
  pub reply_above : is_below plain.number (finite.get server.sessions plain.id) ≡ false
      → served_reply plan server send ≡ body_reply send.body plan server.cursors (planned send plain server plan)
  unfolding served_reply reply_in planned
  reply_above above =
      ap (λ case. reply_in case plan (done_in case plan (results_of (known_of server send)) send.body) server send) (case_above send plain server above)
      ∙ ap (λ kept. reply_in outside plan (done_in outside plan kept send.body) server send) (results_here send plain server)

-- a send of one write by a command
pub record IsOneWrite (asks : SendCommand) (send : Send) (write : PlacedWrite) : Type 0 where
  pub plain : IsPlain send
  pub ordered : Bool
  pub body : send.body ≡ Write asks ordered (write ∷ [])

-- the statement of the one write by a plan
abbrev pub one_statement : (send : Send) → IsPlain send → Server → Plan → PlacedWrite → Statement
one_statement send plain server plan write = statement_at plan.results plan.fail (known send plain server).kept 0 write

-- the reply that tells of one statement
abbrev pub one_reply : SendCommand → Plan → Server → PlacedWrite → Statement → Reply
one_reply asks plan server write statement = write_reply asks plan.page plan.concern server.cursors (write ∷ []) (statement ∷ [])

-- nothing follows it, whether the list goes on or not
pub both_nothing : (b : Bool) → ◌≡◌ {A = List Statement} (if b then [] else []) []
both_nothing true = refl
both_nothing false = refl

one_planned : {asks : SendCommand} (send : Send) (write : PlacedWrite) (one : IsOneWrite asks send write) (server : Server) (plan : Plan)
    → planned send one.plain server plan ≡ one_statement send one.plain server plan write ∷ []
unfolding planned statements
one_planned {asks = asks} send write one server plan =
    let kept = (known send one.plain server).kept in
    ap (λ body. statements plan.results plan.fail (is_ordered body) kept 0 (body_writes body)) one.body
    ∙ ap (λ rest. statement_at plan.results plan.fail kept 0 write ∷ rest)
    (both_nothing (is_ordered (Write asks one.ordered (write ∷ [])) && is_failed (statement_at plan.results plan.fail kept 0 write)))

-- the reply to one write whose number is not below the greatest
pub served_one : {asks : SendCommand} (send : Send) (write : PlacedWrite) (one : IsOneWrite asks send write) (server : Server) (plan : Plan)
    → is_below one.plain.number (finite.get server.sessions one.plain.id) ≡ false
    → served_reply plan server send ≡ one_reply asks plan server write (one_statement send one.plain server plan write)
served_one send write one server plan above =
    reply_above send one.plain server plan above
    ∙ ap (λ done. body_reply send.body plan server.cursors done) (one_planned send write one server plan)
    ∙ ap (λ body. body_reply body plan server.cursors (one_statement send one.plain server plan write ∷ [])) one.body

-- the reply to one write that is served by a plan
pub record IsServed {asks : SendCommand} (send : Send) (write : PlacedWrite) (one : IsOneWrite asks send write) (server : Server) (plan : Plan) (found : Reply) : Type 0 where
  pub above : is_below one.plain.number (finite.get server.sessions one.plain.id) ≡ false
  pub is : found ≡ one_reply asks plan server write (one_statement send one.plain server plan write)

by_plan : {asks : SendCommand} (send : Send) (write : PlacedWrite) (one : IsOneWrite asks send write) (server : Server) (plan : Plan) (found : Reply) → found ≡ served_reply plan server send
    → IsError found ⊎ IsServed send write one server plan found
by_plan send write one server plan found is =
    elim (is_below one.plain.number (finite.get server.sessions one.plain.id))
    as (λ b. is_below one.plain.number (finite.get server.sessions one.plain.id) ≡ b → IsError found ⊎ IsServed send write one server plan found) [
      | true ↦ λ below. inl (record { code = transaction_too_old; labels = []; is = is ∙ reply_below send one.plain server plan below })
      | false ↦ λ above.
          inr (record { above = above; is = is ∙ served_one send write one server plan above })
    ] refl

interrupted_is_error : (most : ℕ) (code : ℤ) (labels : List (List ℕ)) (send : Send) (plain : IsPlain send) (server : Server) → IsError (interrupted_reply most code labels server send)
unfolding interrupted_reply
interrupted_is_error most code labels send plain server =
    elim (is_below plain.number (finite.get server.sessions plain.id))
    as (λ b. is_below plain.number (finite.get server.sessions plain.id) ≡ b → IsError (interrupted_reply most code labels server send)) [
      | true ↦ λ below. record {
        code = transaction_too_old;
        labels = [];
        is = cond-true _ _ _ (ap is_decided (case_below send plain server below)) ∙ reply_below send plain server usual below;
      }
      | false ↦ λ above. record {
        code = code;
        labels = interrupted_labels most labels server send;
        is = cond-false _ _ _ (ap is_decided (case_above send plain server above));
      }
    ] refl

-- what a reply to one write tells: an error, or that it was served by the plan of its item
pub record TellsServed {asks : SendCommand} (send : Send) (write : PlacedWrite) (one : IsOneWrite asks send write) (server : Server) (item : Item) (found : Reply) : Type 0 where
  pub plan : Plan
  pub item_is : item ≡ Serve plan.results plan.fail plan.concern plan.page
  pub served : IsServed send write one server plan found

pub reply_tells : {asks : SendCommand} (send : Send) (write : PlacedWrite) (one : IsOneWrite asks send write) (server : Server) (item : Item) (found : Reply) → reply server send item ≡ Some found
    → IsError found ⊎ TellsServed send write one server item found
unfolding reply
reply_tells send write one server (Serve results fail concern page) found is =
    elim (by_plan send write one server (plan_of results fail concern page) found (sym (some_is_some _ found is))) [
      | inl error ↦ inl error
      | inr served ↦ inr (record { plan = plan_of results fail concern page; item_is = refl; served = served })
    ]
reply_tells send write one server Lost found is = absurd (none_is_some found is)
reply_tells send write one server Late found is = absurd (none_is_some found is)
reply_tells send write one server ReplyLost found is = absurd (none_is_some found is)
reply_tells send write one server (Interrupted most code labels) found is =
    let error = interrupted_is_error most code labels send one.plain server in
    inl (record { code = error.code; labels = error.labels; is = sym (some_is_some _ found is) ∙ error.is })
reply_tells send write one server (Refused code labels) found is =
    inl (record { code = code; labels = refused_labels labels server send; is = sym (some_is_some _ found is) })
reply_tells send write one server Reauthenticate found is = inl (record { code = reauthentication_required; labels = []; is = sym (some_is_some _ found is) })

-- the entry of the one write stands
pub record StandsFor (send : Send) (write : PlacedWrite) (plain : IsPlain send) (log : List Entry) : Type 0 where
  pub result : Counted
  pub has : Has log (entry_of (Some plain.id) (Some plain.number) write result)

module _ {asks : SendCommand} (send : Send) (write : PlacedWrite) (one : IsOneWrite asks send write) (server : Server) (trace : List Send) (orderly : IsOrderly trace) (sent : Has trace send)
    (settled : IsSettled trace server) (plan : Plan) (above : is_below one.plain.number (finite.get server.sessions one.plain.id) ≡ false) where
  done : List Statement
  done = planned send one.plain server plan

  now_is : served plan server send ≡ served_in outside done plan.page server send
  unfolding done
  now_is = served_above send one.plain server plan above

  runs : Runs one.plain.id one.plain.number (known send one.plain server) done send server (served_in outside done plan.page server send)
  runs = served_runs send one.plain server done plan.page (none_known send one.plain server trace settled above)

  follows : Follows (known send one.plain server).kept 0 (writes_of send) done
  unfolding done planned
  follows = follows_statements plan.results plan.fail (is_ordered send.body) (known send one.plain server).kept 0 (writes_of send)

  first_stands : slice_get (writes_of send) 0 ≡ Some write
  first_stands = ap (λ body. slice_get (body_writes body) 0) one.body

  in_now : (entry : Entry) → Has (served_in outside done plan.page server send).log entry → Has (served plan server send).log entry
  in_now entry has = subst (λ s. Has s.log entry) (sym now_is) has

  stands_ran : (result : Counted) → one_statement send one.plain server plan write ≡ Ran result → StandsFor send write one.plain (served plan server send).log
  unfolding done
  stands_ran result is =
      let entry = entry_of (Some one.plain.id) (Some one.plain.number) write result in
      let ran : slice_get done 0 ≡ Some (Ran result) = ap (λ all. slice_get all 0) (one_planned send write one server plan) ∙ ap (λ s. Some s) is in
      let new = entry_there (Some one.plain.id) (Some one.plain.number) (writes_of send) done 0 write result first_stands ran in
      record { result = result; has = in_now entry (subst (λ log. Has log entry) (sym runs.log) (has_right server.log _ entry new)) }

  stands_kept : (result : Counted) → one_statement send one.plain server plan write ≡ Kept result → StandsFor send write one.plain (served plan server send).log
  unfolding known
  stands_kept result is =
      let entry = entry_of (Some one.plain.id) (Some one.plain.number) write result in
      let kept = kept_of (finite.get (known send one.plain server).kept 0) (code_at plan.fail 0) (counts_by_plan write.written.kind (planned_at plan.results 0)) result is in
      record {
        result = result;
        has = in_now entry
            (kept_entry trace send one.plain.id one.plain.number (known send one.plain server) done server _ orderly sent
            (record { session = one.plain.session; numbered = one.plain.numbered })
            (taken_is one.plain.number (finite.get server.sessions one.plain.id) above) follows runs settled 0 write result first_stands kept);
      }
    where
      kept_of : (kept : Option Counted) (code : Option ℤ) (now result : Counted) → statement_of kept code now ≡ Kept result → kept ≡ Some result
      kept_of (Some found) code now result is = let same : found ≡ result = cc is in ap (λ r. Some r) same
      kept_of None (Some code) now result is = absurd (let e : ◌≡◌ {A = Statement} (Failed code) (Kept result) = is in cc)
      kept_of None None now result is = absurd (let e : ◌≡◌ {A = Statement} (Ran now) (Kept result) = is in cc)

  -- the one statement failed, or its entry stands
  pub stands_or_failed : ((code : ℤ) × (one_statement send one.plain server plan write ≡ Failed code)) ⊎ StandsFor send write one.plain (served plan server send).log
  stands_or_failed =
      elim (one_statement send one.plain server plan write)
      as (λ s. one_statement send one.plain server plan write ≡ s → ((code : ℤ) × (one_statement send one.plain server plan write ≡ Failed code))
      ⊎ StandsFor send write one.plain (served plan server send).log) [
        | Kept result ↦ λ is. inr (stands_kept result is)
        | Ran result ↦ λ is. inr (stands_ran result is)
        | Failed code ↦ λ is. inl (code, is)
      ] refl
