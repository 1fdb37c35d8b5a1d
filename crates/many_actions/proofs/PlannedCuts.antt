-- The batches of a call whose batches were all done, whatever operations make them: its writes are cut by longest fronts, and each run went out
-- as one send, once or twice.
use Rattle.std.proofs.Common.{◌≡◌, ℕ, suc, ◌+◌, ◌<◌, ◌≤◌, Bool, true, false, List, [], ◌∷◌, drop, length, map, take, take-append-drop, sym, ap, subst, ◌∙◌, inl, inr, arith}
use Rattle.std.specs.Prelude.{Option, Some, IfSome, Ok}
use Rattle.std.proofs.lemmas.List.{length-take-le}
use Rattle.driver_options.specs.declared.options.Description.{Description}
use Rattle.driver_batches.specs.Batches.{CutsFront, IsGreedyCut}
use Rattle.driver_batches.specs.Fronts.{IsLongestFront}
use Rattle.driver_link.specs.declared.machine.PlacedWrite.{PlacedWrite}
use Rattle.driver_link.specs.declared.machine.Send.{Send}
use Rattle.driver_link.specs.declared.machine.SendBody.{SendBody}
use Rattle.driver_link.specs.declared.machine.Setup.{Setup}
use Rattle.driver_link.specs.Cases.{body_writes}
use Rattle.driver_link.specs.LinkState.{server_run}
use Rattle.driver_link.specs.ServerRun.{ServerRun, run_after}
use Rattle.driver_link.proofs.ToldSetups.{served_setup}
use Rattle.driver_session.proofs.PoolTells.{same_told}
use Rattle.driver_ops.specs.Fields.{under}
use Rattle.driver_ops.specs.Operations.{OperationSpec, Page, send_of}
use Rattle.driver_ops.specs.SendKinds.{first}
use Rattle.driver_attempt.specs.Moment.{Moment}
use Rattle.driver_exec.specs.Reporting.{HasBuilt}
use Rattle.driver_exec.specs.Resending.{AnsweredLast, GivesPages, LastAnswer, PassesBy, SendsOneCommand, SendsWhereTold}
use Rattle.driver_exec.proofs.PassesBy.{gives_leave}
use Rattle.many_actions.specs.BatchPlans.{AllDone, BatchPlan, MakesAllPlanned, MakesPlanned, PlannedEnd, places_from, rest_of}
use Rattle.many_actions.specs.FewestBatches.{places_of}
use Rattle.driver_actions.specs.CallParts.{KeepsMakingWhereTold}
use Rattle.many_actions.proofs.PlannedBatches as planned
use Rattle.many_actions.proofs.PlannedBatches.{PlanWrites, fixed_or_one, run_told}

-- runs of a call's writes went out between two told servers, in order and from an index on: each as one send, once or twice, with the places of
-- its run, and beside these sends nothing but commands of cursors, where there may be such
abbrev pub RunsWent : {S : Type 0} → Bool → ℕ → ℕ → List (List S) → ServerRun → ServerRun → Type 0
RunsWent paged call index [] told now = now ≡ told
RunsWent paged call index (run ∷ runs) told now =
    (mid : ServerRun) × ((send : Send) × ((earlier : ℕ) × ((earlier ≤ 1) × (SendsWhereTold paged told mid send (suc earlier)
    × ((places_of send ≡ places_from call index (length run)) × RunsWent paged call (index + length run) runs mid now)))))

-- how the builds of a plan cut the writes that are left, by what each of them counts for, under a setup: each takes the longest front that keeps
-- to its limits, the writes of its command stand in the places of that front, and an end that is Ok lets the next one be begun
pub record PlanCuts {W A S : Type 0} {paged : Bool} {plan : BatchPlan W A} {call : ℕ} {Good : ℕ → List W → Type 0} {Is : PlacedWrite → Type 0} (laws : PlanWrites paged plan call Good Is) (setup : Setup) (sizes : List W → List S) (Keeps : List S → Type 0) : Type 0 where
  pub none : sizes [] ≡ []
  pub rest : (count : ℕ) (own : List W) → sizes (drop count own) ≡ drop count (sizes own)
  pub long : (own : List W) → length (sizes own) ≡ length own
  pub longest : (index : ℕ) (own : List W) (description : Description) (statements : ℕ) → description ≡ setup.description → (plan.spec index own).takes (plan.fixed own) description statements
      → IsLongestFront Keeps (sizes own) statements
  pub places : (index : ℕ) (own : List W) (good : Good index own) (count : ℕ) → count ≤ length own
      → map (λ write. write.place) (body_writes (laws.body index own good count)) ≡ places_from call index count
  pub on : (output : A) → plan.goes_on (Ok output) ≡ true

-- what may be behind the last send of an operation that was done
passes_behind : {A : Type 0} (spec : OperationSpec A) (statements : ℕ) (bytes : List ℕ) (session : Option (List ℕ)) (told now : ServerRun) (pages : List Page) (paged : Bool) → spec.paged ≡ paged
    → (spec.paged ≡ false → pages ≡ []) → GivesPages spec statements session bytes told now pages → PassesBy paged told now
passes_behind spec statements bytes session told now pages true is alone gives = gives_leave spec statements bytes session told now pages gives
passes_behind spec statements bytes session told now pages false is alone gives = subst (GivesPages spec statements session bytes told now) (alone is) gives

-- the last answer of a told link
last_told : {A : Type 0} (spec : OperationSpec A) (statements : ℕ) (link link_now : Option ServerRun) (run run_now : ServerRun) (send : Send) (earlier : ℕ) (bytes : List ℕ) (pages : List Page) → link ≡ Some run → link_now ≡ Some run_now
    → AnsweredLast spec statements link link_now send earlier bytes pages → LastAnswer spec statements run run_now send earlier bytes pages
last_told spec statements link link_now run run_now send earlier bytes pages is now_is answered =
    subst (λ n. AnsweredLast spec statements (Some run) n send earlier bytes pages) now_is (subst (λ l. AnsweredLast spec statements l link_now send earlier bytes pages) is answered)

module _ {W A S : Type 0} (paged : Bool) (plan : BatchPlan W A) (call : ℕ) (Good : ℕ → List W → Type 0) (Is : PlacedWrite → Type 0) (laws : PlanWrites paged plan call Good Is) (setup : Setup)
    (sizes : List W → List S) (Keeps : List S → Type 0) (cuts : PlanCuts laws setup sizes Keeps) where
  -- what the batches from an index on cut and sent
  pub record PlannedCut (index : ℕ) (own : List W) (run run_now : ServerRun) : Type 0 where
    pub runs : List (List S)
    pub greedy : IsGreedyCut Keeps (sizes own) runs
    pub went : RunsWent paged call index runs run run_now

  -- one batch that was done
  module _ (index : ℕ) (own : List W) (good : Good index own) (before now : Moment) (end : PlannedEnd A) (made : MakesPlanned plan call index own before now end) (output : A) (is : end.result ≡ Ok output)
      (statements : ℕ) (told : end.statements ≡ Some statements) (on : plan.goes_on end.result ≡ true) (run run_now : ServerRun) (run_is : server_run before.link ≡ Some run)
      (run_now_is : server_run now.link ≡ Some run_now) (setup_is : run.setup ≡ setup) where
    -- its command has so many writes
    abbrev count : ℕ
    count = fixed_or_one end.statements

    count_is : count ≡ statements
    count_is = ap fixed_or_one told

    -- it was built with them
    built : HasBuilt (plan.spec index own) first before (plan.fixed own) end.statements
    built = planned.built_here paged plan call Good Is laws index own good before now end made on

    built_is : built.statements ≡ statements
    built_is = ap fixed_or_one (sym built.is ∙ told)

    -- for a connection of the setup
    described : built.description ≡ setup.description
    described =
        subst (λ s. IfSome s (λ found. built.description ≡ found.description)) (served_setup before.link.making run run_is ∙ ap (λ s. Some s) setup_is) built.described

    -- so they are the longest front
    longest_here : IsLongestFront Keeps (sizes own) statements
    longest_here = subst (λ n. IsLongestFront Keeps (sizes own) n) built_is (cuts.longest index own built.description built.statements described built.takes)

    -- and there are some
    some_here : (0 < statements) × (statements ≤ length own)
    some_here = planned.some_gone paged plan call Good Is laws index own good before now end made on statements told

    -- of which the front has as many
    front_long : length (take statements (sizes own)) ≡ statements
    front_long = length-take-le statements (sizes own) (subst (λ n. statements ≤ n) (sym (cuts.long own)) some_here.1)

    -- their batch is cut so
    cuts_here : CutsFront Keeps (sizes own) (take statements (sizes own)) (drop statements (sizes own))
    cuts_here = record {
      whole = sym (take-append-drop statements (sizes own));
      some = λ none. let no_length : length (take statements (sizes own)) ≡ 0 = ap length none in let less = some_here.0 in let as_long = front_long in omega (arith, as_long, no_length, less);
      longest = subst (λ n. IsLongestFront Keeps (sizes own) n) (sym front_long) longest_here;
    }

    -- what went out
    command : SendsOneCommand (plan.spec index own) (rest_of call index own count) before now (Ok output)
    command = subst (SendsOneCommand (plan.spec index own) (rest_of call index own count) before now) is (planned.command_here paged plan call Good Is laws index own good before now end made)

    abbrev asked : SendBody
    asked = laws.body index own good count

    abbrev send : Send
    send = send_of (under command.session command.number) asked

    last : LastAnswer (plan.spec index own) count run run_now send command.ends.earlier command.ends.bytes command.ends.pages
    last = last_told (plan.spec index own) count (server_run before.link) (server_run now.link) run run_now send command.ends.earlier command.ends.bytes command.ends.pages run_is run_now_is
        (command.ends.answered asked (laws.asks index own good count))

    sent_so : SendsWhereTold paged run run_now send (suc command.ends.earlier)
    sent_so = (
      last.mid,
      (
        subst (λ p. SendsWhereTold p run last.mid send command.ends.earlier) (laws.pages index own) last.sent,
        passes_behind (plan.spec index own) count command.ends.bytes command.session (run_after last.mid send) run_now command.ends.pages paged (laws.pages index own) command.ends.alone last.gives,
      ),
    )

    -- with the places of its run
    places_here : places_of send ≡ places_from call index (length (take statements (sizes own)))
    places_here =
        let within : count ≤ length own = subst (λ n. n ≤ length own) (sym count_is) some_here.1 in
        cuts.places index own good count within ∙ ap (places_from call index) (count_is ∙ sym front_long)

    -- it and what comes behind it
    pub cut_more : (later : ServerRun) → PlannedCut (index + statements) (drop statements own) run_now later → PlannedCut index own run later
    cut_more later behind = record {
      runs = take statements (sizes own) ∷ behind.runs;
      greedy = (drop statements (sizes own), cuts_here, subst (λ sizes. IsGreedyCut Keeps sizes behind.runs) (cuts.rest statements own) behind.greedy);
      went = (
        run_now,
        (
          send,
          (
            command.ends.earlier,
            (
              command.ends.within,
              (
                sent_so,
                (places_here, subst (λ n. RunsWent paged call (index + n) behind.runs run_now later) (sym front_long) behind.went),
              ),
            ),
          ),
        ),
      );
    }

  -- the batches from an index on, where each was done
  pub batches_cut : (short : Type 0) → (short → ⊥) → (ends : List (PlannedEnd A)) (index : ℕ) (own : List W) → Good index own → (before now : Moment) (run run_now : ServerRun)
      → server_run before.link ≡ Some run → server_run now.link ≡ Some run_now → run.setup ≡ setup → MakesAllPlanned short plan call index own ends before now → AllDone ends
      → PlannedCut index own run run_now
  batches_cut short ample [] index own good before now run run_now run_is run_now_is setup_is made done =
      let nothing : own ≡ [] = elim made.1 [ inl none ↦ none | inr ran_short ↦ absurd (ample ran_short) ] in
      record {
        runs = [];
        greedy = ap sizes nothing ∙ cuts.none;
        went = same_told run_now run (sym run_now_is ∙ ap (λ m. server_run m.link) made.0 ∙ run_is);
      }
  batches_cut short ample (end ∷ ends) index own good before now run run_now run_is run_now_is setup_is made done =
      let mid = made.0 in
      let batch = made.1.0 in
      let ok = done.0 in
      elim made.1.1 [
        | inl on ↦
            let moves = planned.batch_moves paged plan call Good Is laws index own good before mid end batch in
            let mid_run = run_told run (server_run before.link) (server_run mid.link) run_is moves.making in
            let making : KeepsMakingWhereTold (Some run) (Some mid_run.0)
            = subst (λ n. KeepsMakingWhereTold (Some run) n) mid_run.1 (subst (λ l. KeepsMakingWhereTold l (server_run mid.link)) run_is moves.making) in
            let rest = batches_cut short ample ends (index + on.statements) (drop on.statements own) (laws.good_rest index on.statements own good) mid now mid_run.0 run_now mid_run.1 run_now_is
            (making.0 ∙ setup_is) on.rest done.1 in
            cut_more index own good before mid end batch ok.0 ok.1 on.statements on.told on.on run mid_run.0 run_is mid_run.1 setup_is run_now rest
        | inr stops ↦
            let over : ◌≡◌ {A = Bool} true false = sym (cuts.on ok.0) ∙ ap plan.goes_on (sym ok.1) ∙ stops.over in
            absurd cc
      ]
