-- What running the calls of a script on a new client over a new server makes.
use Rattle.std.proofs.Common.{◌≡◌, ℕ, zero, suc, ◌+◌, ◌<◌, ◌^◌, List, length, refl, ap, ◌∙◌, arith, subst, sym}
use Rattle.std.specs.Prelude.{Some}
use Rattle.memory_links.proofs.CountedIds.{session_ids_first, sessions_apart}
use Rattle.memory_links.specs.CountingIds.{IdsDrawn, counted_ids, none_drawn, session_at}
use Rattle.driver_link.specs.Exchange.{after_picks, replayed, empty_server}
use Rattle.driver_link.specs.Ids.{times}
use Rattle.driver_link.specs.LinkState.{server_run}
use Rattle.driver_link.specs.ServerRun.{IsFresh}
use Rattle.driver_link.specs.WellFormed.{IsWellFormed}
use Rattle.driver_link.specs.declared.ids.IdKind.TheVariants as id
use Rattle.driver_link.specs.declared.machine.Schedule.{Schedule}
use Rattle.driver_link.specs.Apart.{AllApart, first_ids}
use Rattle.driver_session.specs.Pool.{StorePool}
use Rattle.driver_session.specs.StoreTells.{DrawnApart, Draws}
use Rattle.model_server.specs.ModelState.{ModelState, model_tells}
use Rattle.driver_attempt.specs.declared.client.Client.{Client}
use Rattle.driver_attempt.specs.Client.{options_of, store_of}
use Rattle.driver_attempt.specs.Moment.{Moment}
use Rattle.driver_actions.specs.CallParts.{IsReplayed, KeepsMaking}
use Rattle.call_runs.specs.MainTheorem.{Begins, HaveEnded, MainTheorem, MeetsMainTheorem}
use Rattle.driver_script.specs.declared.script.Script.{Script}
use Rattle.script_run.specs.Ended.{IsFirstMoment, IsMomentOf, IsRunOf, new_store, store_tells}
use Rattle.driver_inputs.specs.declared.call.Call.{Call}
use Rattle.driver_inputs.specs.declared.call.Outcome.{Outcome}

-- so many ids are as many
length_first : (count : ℕ) (to_come : ℕ → List ℕ) → length (first_ids count to_come) ≡ count
length_first zero to_come = refl
length_first (suc count) to_come = ap suc (length_first count (λ k. to_come (k + 1)))

-- a store over ids that count, which was new, has drawn distinct ids
pub drawn_apart : (store : StorePool IdsDrawn) → Draws (store_tells new_store) (store_tells store) → length store.pool.drawn < 2 ^ 64
    → AllApart store.pool.drawn
drawn_apart store draws few =
    let first = session_ids_first draws.kinds (counted_ids none_drawn) (session_at none_drawn) (λ earlier. refl) in
    let is : store.pool.drawn ≡ first_ids (times id.Session draws.kinds) (session_at none_drawn) = draws.drawn ∙ draws.ids.1 ∙ first in
    let count : times id.Session draws.kinds < 2 ^ 64
    = omega (arith, few, ap length is, length_first (times id.Session draws.kinds) (session_at none_drawn)) in
    subst AllApart (sym is) (sessions_apart (times id.Session draws.kinds) count)

module _ (asked : Script) (calls : List Call) (outcomes : List Outcome) (client : Client (StorePool IdsDrawn)) (before : ModelState) (first last : Moment)
    (begun : IsFirstMoment asked first) (came : IsMomentOf client before last) (well_formed : IsWellFormed asked.schedule) where
  -- the server had seen nothing
  fresh : IsFresh (server_run first.link)
  fresh = subst (λ link. IsFresh (server_run link)) (sym begun.link) (refl, well_formed)

  -- the premises of the main theorem
  starts : Draws first.store last.store → length (store_of client).pool.drawn < 2 ^ 64 → Begins first last
  starts draws few = record {
    new = ap (λ store. store.pool) begun.store;
    fresh = fresh;
    apart = subst DrawnApart (sym came.store)
        (drawn_apart (store_of client) (subst (λ store. Draws store (store_tells (store_of client))) begun.store (subst (Draws first.store) came.store draws)) few);
  }

  meets_here : MeetsMainTheorem calls outcomes last → MainTheorem calls outcomes before.server
  meets_here meets = subst (λ link. MeetsMainTheorem calls outcomes (record last { link = link })) came.link meets

  making_here : KeepsMaking first last → (before.setup ≡ asked.setup) × (before.schedule ≡ asked.schedule)
  making_here keeps =
      subst (λ link. KeepsMaking (record first { link = link }) (record last { link = model_tells before })) begun.link
      (subst (λ link. KeepsMaking first (record last { link = link })) came.link keeps)

  replayed_here : IsReplayed last → before.server ≡ replayed before.schedule empty_server before.server.trace
  replayed_here folds = subst (λ link. IsReplayed (record last { link = link })) came.link folds

  -- the run of a script: its calls made the server before, and its late deliveries the server now
  pub run_made : (model : ModelState) (picks : List ℕ) → Draws first.store last.store
      → (Begins first last → MeetsMainTheorem calls outcomes last)
      → (Begins first last → HaveEnded calls outcomes first last)
      → (IsFresh (server_run first.link) → IsReplayed last) → KeepsMaking first last
      → calls ≡ asked.calls → options_of client ≡ asked.options → length (store_of client).pool.drawn < 2 ^ 64
      → model ≡ record before { server = after_picks before.server picks } → picks ≡ asked.late
      → IsRunOf asked (record { script = Some asked; outcomes = Some outcomes; client = Some client; server = Some model })
  run_made model picks draws main complete replays keeps same options few late named =
      let start = starts draws few in
      let kept = making_here keeps in
      record {
        outcomes = outcomes;
        client = client;
        before = before;
        model = model;
        script_kept = refl;
        outcomes_kept = refl;
        client_kept = refl;
        server_kept = refl;
        options = options;
        setup = ap (λ (m : ModelState). m.setup) late ∙ kept.0;
        schedule = ap (λ (m : ModelState). m.schedule) late ∙ kept.1;
        replayed = subst (λ (s : Schedule). before.server ≡ replayed s empty_server before.server.trace) kept.1 (replayed_here (replays fresh));
        holds = subst (λ (c : List Call). MainTheorem c outcomes before.server) same (meets_here (main start));
        first = first;
        last = last;
        begins = begun;
        comes = came;
        ended = subst (λ (c : List Call). HaveEnded c outcomes first last) same (complete start);
        late = late ∙ ap (λ (sends : List ℕ). record before { server = after_picks before.server sends }) named;
      }
