-- What the reply to a send of one write without a number says: it is an error, or it tells of the one statement,
-- and a statement that did not fail stands in the log.
use Rattle.std.proofs.Common.{◌≡◌, ℕ, Bool, List, [], ◌∷◌, refl, sym, ap, subst, ◌∙◌, inl, inr}
use Rattle.std.specs.Prelude.{ℤ, ◌&&◌, Option, None, Some, ◌⊎◌, slice_get}
use Rattle.std.specs.FinMap as finite
use Rattle.std.specs.Ordering.{nat_cmp}
use Rattle.std.proofs.lemmas.Bool.{cond-false}
use Rattle.driver_link.specs.declared.machine.Counted.{Counted}
use Rattle.driver_link.specs.declared.machine.Entry.{Entry}
use Rattle.driver_link.specs.declared.machine.Item.{Item}
use Rattle.driver_link.specs.declared.machine.Item.TheVariants.{Serve, Lost, Late, ReplyLost, Interrupted, Refused, Reauthenticate}
use Rattle.driver_link.specs.declared.machine.PlacedWrite.{PlacedWrite}
use Rattle.driver_link.specs.declared.machine.Scheduled.{Scheduled}
use Rattle.driver_link.specs.declared.machine.Send.{Send}
use Rattle.driver_link.specs.declared.machine.SendBody.TheVariants.{Write}
use Rattle.driver_link.specs.declared.machine.SendCommand.{SendCommand}
use Rattle.driver_link.specs.declared.machine.Server.{Server}
use Rattle.driver_link.specs.declared.machine.Statement.{Statement}
use Rattle.driver_link.specs.declared.machine.Statement.TheVariants.{Ran, Failed}
use Rattle.driver_link.specs.Cases.{outside, known_of, results_of, body_writes, is_decided, is_ordered, writes_of}
use Rattle.driver_link.specs.Cursors.{Reply}
use Rattle.driver_link.specs.Exchange.{after_picks, answered, exchanged, interrupted_labels, interrupted_reply, met, plan_of, reauthentication_required, refused_labels, reply, traced}
use Rattle.driver_link.specs.Replies.{body_reply, reply_in, served_reply}
use Rattle.driver_link.specs.Serving.{Plan, done_in, served, served_in}
use Rattle.driver_link.specs.Settled.{Has, IsUnnumbered}
use Rattle.driver_link.specs.Statements.{code_at, counts_by_plan, planned_at, statement_at, statement_of, statements, entry_of, is_failed, no_results}
use Rattle.driver_link.proofs.KeptStatements.{entry_there}
use Rattle.driver_link.proofs.Lists.{has_right, none_is_some, some_is_some}
use Rattle.driver_link.proofs.OneWriteReplies.{IsError, both_nothing, one_reply}
use Rattle.driver_link.proofs.Unnumbered.{RunsOnly, case_free, planned_only, results_free, served_free, served_runs_only}

-- a send of one write by a command without a number
pub record IsOneUnnumbered (asks : SendCommand) (send : Send) (write : PlacedWrite) : Type 0 where
  pub free : IsUnnumbered send
  pub ordered : Bool
  pub body : send.body ≡ Write asks ordered (write ∷ [])

-- the statement of the one write by a plan
abbrev pub only_statement : Plan → PlacedWrite → Statement
only_statement plan write = statement_at plan.results plan.fail no_results 0 write

-- the entry of the one write stands
pub record StandsOnce (send : Send) (write : PlacedWrite) (log : List Entry) : Type 0 where
  pub result : Counted
  pub has : Has log (entry_of send.session None write result)

-- it runs, or it failed
ran_or_failed : (plan : Plan) (write : PlacedWrite) → ((code : ℤ) × (only_statement plan write ≡ Failed code)) ⊎ ((result : Counted) × (only_statement plan write ≡ Ran result))
ran_or_failed plan write = by_code (finite.get no_results 0) (code_at plan.fail 0) (counts_by_plan write.written.kind (planned_at plan.results 0)) (finite.get-empty nat_cmp 0)
  where
    by_code : (kept : Option Counted) (code : Option ℤ) (now : Counted) → kept ≡ None
        → ((failed : ℤ) × (statement_of kept code now ≡ Failed failed)) ⊎ ((result : Counted) × (statement_of kept code now ≡ Ran result))
    by_code (Some found) code now nothing = absurd (none_is_some found (sym nothing))
    by_code None (Some code) now nothing = inl (code, refl)
    by_code None None now nothing = inr (now, refl)

module _ {asks : SendCommand} (send : Send) (write : PlacedWrite) (one : IsOneUnnumbered asks send write) (server : Server) where
  only_planned : (plan : Plan) → planned_only send one.free server plan ≡ only_statement plan write ∷ []
  unfolding planned_only statements
  only_planned plan =
      ap (λ body. statements plan.results plan.fail (is_ordered body) no_results 0 (body_writes body)) one.body
      ∙ ap (λ rest. only_statement plan write ∷ rest) (both_nothing (is_ordered (Write asks one.ordered (write ∷ [])) && is_failed (only_statement plan write)))

  reply_free : (plan : Plan) → served_reply plan server send ≡ body_reply send.body plan server.cursors (planned_only send one.free server plan)
  unfolding served_reply reply_in planned_only
  reply_free plan =
      ap (λ case. reply_in case plan (done_in case plan (results_of (known_of server send)) send.body) server send) (case_free send one.free server)
      ∙ ap (λ kept. reply_in outside plan (done_in outside plan kept send.body) server send) (results_free send one.free server)

  -- the reply where it is served
  pub served_only : (plan : Plan) → served_reply plan server send ≡ one_reply asks plan server write (only_statement plan write)
  served_only plan =
      reply_free plan ∙ ap (λ done. body_reply send.body plan server.cursors done) (only_planned plan)
      ∙ ap (λ body. body_reply body plan server.cursors (only_statement plan write ∷ [])) one.body

  interrupted_only_is_error : (most : ℕ) (code : ℤ) (labels : List (List ℕ)) → IsError (interrupted_reply most code labels server send)
  unfolding interrupted_reply
  interrupted_only_is_error most code labels = record {
    code = code;
    labels = interrupted_labels most labels server send;
    is = cond-false _ _ _ (ap is_decided (case_free send one.free server));
  }

-- what a reply to it tells: an error, or that it was served by the plan of its item
pub record TellsServedOnly (asks : SendCommand) (write : PlacedWrite) (server : Server) (item : Item) (found : Reply) : Type 0 where
  pub plan : Plan
  pub item_is : item ≡ Serve plan.results plan.fail plan.concern plan.page
  pub is : found ≡ one_reply asks plan server write (only_statement plan write)

module _ {asks : SendCommand} (send : Send) (write : PlacedWrite) (one : IsOneUnnumbered asks send write) (server : Server) where
  pub reply_tells_only : (item : Item) (found : Reply) → reply server send item ≡ Some found → IsError found ⊎ TellsServedOnly asks write server item found
  unfolding reply
  reply_tells_only (Serve results fail concern page) found is = inr (record {
    plan = plan_of results fail concern page;
    item_is = refl;
    is = sym (some_is_some _ found is) ∙ served_only send write one server (plan_of results fail concern page);
  })
  reply_tells_only Lost found is = absurd (none_is_some found is)
  reply_tells_only Late found is = absurd (none_is_some found is)
  reply_tells_only ReplyLost found is = absurd (none_is_some found is)
  reply_tells_only (Interrupted most code labels) found is =
      let error = interrupted_only_is_error send write one server most code labels in
      inl (record { code = error.code; labels = error.labels; is = sym (some_is_some _ found is) ∙ error.is })
  reply_tells_only (Refused code labels) found is = inl (record { code = code; labels = refused_labels labels server send; is = sym (some_is_some _ found is) })
  reply_tells_only Reauthenticate found is = inl (record { code = reauthentication_required; labels = []; is = sym (some_is_some _ found is) })

  module _ (plan : Plan) where
    done : List Statement
    done = planned_only send one.free server plan

    runs : RunsOnly done send server (served_in outside done plan.page server send)
    runs = served_runs_only send one.free server done plan.page

    stands_ran : (result : Counted) → only_statement plan write ≡ Ran result → StandsOnce send write (served plan server send).log
    unfolding done
    stands_ran result is =
        let ran : slice_get done 0 ≡ Some (Ran result) = ap (λ all. slice_get all 0) (only_planned send write one server plan) ∙ ap (λ s. Some s) is in
        let first : slice_get (writes_of send) 0 ≡ Some write = ap (λ body. slice_get (body_writes body) 0) one.body in
        let new = entry_there send.session send.number (writes_of send) done 0 write result first ran in
        let entry = entry_of send.session send.number write result in
        let here = subst (λ log. Has log entry) (sym runs.log) (has_right server.log _ entry new) in
        let there = subst (λ s. Has s.log entry) (sym (served_free send one.free server plan)) here in
        record { result = result; has = subst (λ number. Has (served plan server send).log (entry_of send.session number write result)) one.free.none there }

    -- the one statement failed, or its entry stands
    pub stands_once_or_failed : ((code : ℤ) × (only_statement plan write ≡ Failed code)) ⊎ StandsOnce send write (served plan server send).log
    stands_once_or_failed = elim (ran_or_failed plan write) [ inl failed ↦ inl failed | inr ran ↦ inr (stands_ran ran.0 ran.1) ]

-- a reply that tells that the one statement failed
pub record TellsFailed (asks : SendCommand) (write : PlacedWrite) (server : Server) (found : Reply) : Type 0 where
  pub plan : Plan
  pub code : ℤ
  pub is : found ≡ one_reply asks plan server write (Failed code)

-- what a told reply says of an exchange: an error, a statement that failed, or that the entry stands
pub met_tells_only : {asks : SendCommand} (send : Send) (write : PlacedWrite) (one : IsOneUnnumbered asks send write) (server : Server) (item : Item) (found : Reply)
    → reply server send item ≡ Some found → IsError found ⊎ (TellsFailed asks write server found ⊎ StandsOnce send write (met server send item).log)
unfolding met
met_tells_only {asks = asks} send write one server item found is = elim (reply_tells_only send write one server item found is) [
  | inl error ↦ inl error
  | inr tells ↦
      let P : Item → Type 0 = λ i. StandsOnce send write (met server send i).log in
      elim (stands_once_or_failed send write one server tells.plan) [
        | inl failed ↦ inr (inl (record { plan = tells.plan; code = failed.0; is = tells.is ∙ ap (one_reply asks tells.plan server write) failed.1 }))
        | inr stands ↦ inr (inr (subst P (sym tells.item_is) stands))
      ]
]

pub told_only : {asks : SendCommand} (server : Server) (send : Send) (write : PlacedWrite) (one : IsOneUnnumbered asks send write) (step : Scheduled) (found : Reply)
    → answered server send step ≡ Some found
    → IsError found ⊎ (TellsFailed asks write (traced (after_picks server step.deliver) send) found ⊎ StandsOnce send write (exchanged server send step).log)
unfolding answered exchanged
told_only server send write one step found is = met_tells_only send write one (traced (after_picks server step.deliver) send) step.item found is
