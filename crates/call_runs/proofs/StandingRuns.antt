-- A run of calls over any store and any link stands before its first call, after one call more, and where calls are
-- appended to its list.
use Rattle.std.proofs.Common.{◌≡◌, ℕ, ◌+◌, ◌<◌, ◌≤◌, List, [], ◌∷◌, ◌++◌, length, map, sum, take, refl, sym, ap, subst, ◌∙◌, arith, length-append}
use Rattle.std.specs.Prelude.{pos, Option, None, Some, slice_get}
use Rattle.std.proofs.lemmas.List.{length-take-le, map_push, take-append-le}
use Rattle.std.proofs.lemmas.List.Sums.{sum_by_push}
use Rattle.driver_link.specs.Exchange.{empty_server, replayed}
use Rattle.driver_link.specs.declared.machine.Server.{Server}
use Rattle.driver_link.specs.declared.machine.Setup.{Setup}
use Rattle.driver_link.specs.LinkState.{server_run}
use Rattle.driver_link.specs.ServerRun.{IsFresh, ServerRun}
use Rattle.driver_link.proofs.Lists.{get_last}
use Rattle.driver_link.specs.Apart.{AllApart}
use Rattle.driver_session.specs.Pool.{Pool, empty_pool}
use Rattle.driver_session.specs.StoreTells.{DrawnApart, DrawnApartIn, GainsDrawn, IsNewStore}
use Rattle.driver_session.proofs.PoolTells.{same_told}
use Rattle.driver_attempt.specs.Moment.{Moment}
use Rattle.driver_exec.specs.BetweenCalls.{NumbersWithin}
use Rattle.driver_actions.specs.CallParts.{IsReplayedWhereTold, KeepsMakingWhereTold}
use Rattle.driver_actions.specs.Raises.{RaisesBy, RaisesByWhereTold}
use Rattle.many_actions.specs.Numbers.{server_setup}
use Rattle.bulk_actions.specs.BulkCompleteness.{NoneAhead}
use Rattle.bulk_actions.proofs.CursorsKept.{empty_ahead}
use Rattle.call_runs.specs.CallByCall.{CallCaused, with_clock}
use Rattle.call_runs.specs.CallMaking.{MakesCall}
use Rattle.call_runs.specs.MainTheorem.{all_numbers_of, is_paged, numbers_of}
use Rattle.call_runs.specs.Standing.{Leaves, LeavesWhereTold, RunInvariant, RunState, new_run, run_more}
use Rattle.call_runs.proofs.AppendedCalls.{ran_appended, take_next, take_none}
use Rattle.call_runs.proofs.CursorsInOrder.{call_behind, replayed_now}
use Rattle.call_runs.proofs.EachCall.{call_moves}
use Rattle.call_runs.proofs.RunSteps.{Ran, ran_none, ran_more, ran_holds}
use Rattle.driver_inputs.specs.declared.call.Call.{Call}
use Rattle.driver_inputs.specs.declared.call.Outcome.{Outcome}

-- a server that has seen nothing is the fold of nothing
none_replayed : (run : ServerRun) → run.server ≡ empty_server → IsReplayedWhereTold (Some run)
unfolding replayed
none_replayed run fresh = let P : Server → Type 0 = λ server. server ≡ replayed run.schedule empty_server server.trace in subst P (sym fresh) refl

-- before the first call
leaves_none : (pool : Pool) (run : ServerRun) → pool ≡ empty_pool → run.server ≡ empty_server → Leaves [] [] pool run
leaves_none pool run new fresh =
    let ran = ran_none [] pool run.server new fresh in
    record {
      holds = ran_holds [] [] pool run.server refl ran;
      between = ran.between;
      sound = ran.sound;
      below = ran.below;
      own = ran.own;
      numbers = subst (λ p. NumbersWithin (pos (all_numbers_of (Some run.setup) [])) p.idle) (sym new) tt;
      replayed = none_replayed run fresh;
      cursors = subst NoneAhead (sym fresh) empty_ahead;
    }

-- the same of what store and link tell
leaves_none_told : (pool : Option Pool) (run : Option ServerRun) → pool ≡ Some empty_pool → IsFresh run → LeavesWhereTold [] [] pool run
leaves_none_told None run new fresh = absurd (let e : ◌≡◌ {A = Option Pool} None (Some empty_pool) = new in cc)
leaves_none_told (Some pool) None new fresh = absurd fresh
leaves_none_told (Some pool) (Some run) new fresh = leaves_none pool run (same_told pool empty_pool new) fresh.0

-- what the invariant says of a run, in the words of its lemmas
ran_of : (calls : List Call) (outcomes : List Outcome) (pool : Pool) (run : ServerRun) → Leaves calls outcomes pool run → Ran calls outcomes pool run.server
ran_of calls outcomes pool run leaves = record {
  between = leaves.between;
  sound = leaves.sound;
  below = leaves.below;
  own = leaves.own;
  answered = record { done = leaves.holds.done; result = leaves.holds.result };
}

-- one call more takes its numbers behind those of the others
all_numbers_more : (setup : Option Setup) (calls : List Call) (call : Call) → all_numbers_of setup calls + numbers_of setup call ≡ all_numbers_of setup (calls ++ call ∷ [])
unfolding all_numbers_of
all_numbers_more setup calls call = sym (ap sum (map_push (numbers_of setup) calls call) ∙ sum_by_push (λ x. x) (map (numbers_of setup) calls) (numbers_of setup call))

-- the setup of a told server stays
setup_stays : (link link_now : Option ServerRun) (run run_now : ServerRun) → link ≡ Some run → link_now ≡ Some run_now → KeepsMakingWhereTold link link_now → run_now.setup ≡ run.setup
setup_stays link link_now run run_now is now_is making =
    let kept : KeepsMakingWhereTold (Some run) (Some run_now) = subst (λ n. KeepsMakingWhereTold (Some run) n) now_is (subst (λ l. KeepsMakingWhereTold l link_now) is making) in
    kept.0

-- what rises by so many at most, where the pools are told
raises_told : (count : ℕ) (store store_now : Option Pool) (pool pool_now : Pool) → store ≡ Some pool → store_now ≡ Some pool_now → RaisesByWhereTold count store store_now
    → (most : ℕ) → NumbersWithin (pos most) pool.idle → NumbersWithin (pos (most + count)) pool_now.idle
raises_told count store store_now pool pool_now is now_is raises =
    subst (λ n. RaisesByWhereTold count (Some pool) n) now_is (subst (λ p. RaisesByWhereTold count p store_now) is raises)

-- one call more
module _ (calls : List Call) (call : Call) (outcomes : List Outcome) (last : Outcome) where
  abbrev longer : List Call
  longer = calls ++ call ∷ []

  abbrev more : List Outcome
  more = outcomes ++ last ∷ []

  module _ (before now : Moment) (makes : MakesCall before now call (length outcomes) last.result) where
    -- where pool and server are told
    leaves_more : (pool pool_now : Pool) (run run_now : ServerRun) → before.store.pool ≡ Some pool → now.store.pool ≡ Some pool_now → server_run before.link ≡ Some run
        → server_run now.link ≡ Some run_now → AllApart pool_now.drawn → Leaves calls outcomes pool run → Leaves (calls ++ call ∷ []) (outcomes ++ last ∷ []) pool_now run_now
    leaves_more pool pool_now run run_now is now_is run_is run_now_is apart leaves =
        let count : length outcomes ≡ length calls = leaves.holds.one_each in
        let counts : length more ≡ length longer
        = length-append outcomes (last ∷ []) ∙ ap (λ n. n + 1) count ∙ sym (length-append calls (call ∷ [])) in
        let at : slice_get longer (length outcomes) ≡ Some call = ap (slice_get longer) count ∙ get_last calls call in
        let ran = ran_appended calls (call ∷ []) outcomes count pool run.server (ran_of calls outcomes pool run leaves) in
        let ran_now = ran_more longer outcomes before now pool pool_now run run_now is now_is run_is run_now_is last apart ran call last.result refl at makes in
        let moves = call_moves before now call (length outcomes) last.result makes in
        let setup : Option Setup = Some run_now.setup in
        let stays : run_now.setup ≡ run.setup = setup_stays (server_run before.link) (server_run now.link) run run_now run_is run_now_is moves.making in
        let told : server_setup (server_run before.link) ≡ setup = ap server_setup run_is ∙ ap (λ (s : Setup). Some s) (sym stays) in
        let raises : RaisesBy (numbers_of setup call) before now = subst (λ s. RaisesBy (numbers_of s call) before now) told moves.raises in
        let within : NumbersWithin (pos (all_numbers_of setup calls)) pool.idle = subst (λ s. NumbersWithin (pos (all_numbers_of (Some s) calls)) pool.idle) (sym stays) leaves.numbers in
        let numbers = raises_told (numbers_of setup call) before.store.pool now.store.pool pool pool_now is now_is raises (all_numbers_of setup calls) within in
        record {
          holds = ran_holds longer more pool_now run_now.server counts ran_now;
          between = ran_now.between;
          sound = ran_now.sound;
          below = ran_now.below;
          own = ran_now.own;
          numbers = subst (λ n. NumbersWithin (pos n) pool_now.idle) (all_numbers_more (Some run_now.setup) calls call) numbers;
          replayed = replayed_now before now run run_now run_is run_now_is (is_paged call) (numbers_of (server_setup (server_run before.link)) call) (length outcomes) moves leaves.replayed;
          cursors = call_behind before now run run_now run_is run_now_is call (length outcomes) last.result makes leaves.replayed leaves.cursors;
        }

    -- whatever store and link tell
    leaves_more_told : DrawnApart now.store → LeavesWhereTold calls outcomes before.store.pool (server_run before.link)
        → LeavesWhereTold (calls ++ call ∷ []) (outcomes ++ last ∷ []) now.store.pool (server_run now.link)
    leaves_more_told apart leaves =
        let moves = call_moves before now call (length outcomes) last.result makes in
        of_told before.store.pool now.store.pool (server_run before.link) (server_run now.link) refl refl refl refl moves.draws.more moves.draws.drawn moves.making apart leaves
      where
        -- by what is told
        of_told : (pool pool_now : Option Pool) (run run_now : Option ServerRun) → before.store.pool ≡ pool → now.store.pool ≡ pool_now → server_run before.link ≡ run
            → server_run now.link ≡ run_now → (ids : List (List ℕ)) → GainsDrawn pool pool_now ids → KeepsMakingWhereTold run run_now → DrawnApartIn pool_now
            → LeavesWhereTold calls outcomes pool run → LeavesWhereTold (calls ++ call ∷ []) (outcomes ++ last ∷ []) pool_now run_now
        of_told None pool_now run run_now is now_is run_is run_now_is ids gains making apart leaves = absurd leaves
        of_told (Some pool) pool_now None run_now is now_is run_is run_now_is ids gains making apart leaves = absurd leaves
        of_told (Some pool) None (Some run) run_now is now_is run_is run_now_is ids gains making apart leaves = absurd gains
        of_told (Some pool) (Some pool_now) (Some run) None is now_is run_is run_now_is ids gains making apart leaves = absurd making
        of_told (Some pool) (Some pool_now) (Some run) (Some run_now) is now_is run_is run_now_is ids gains making apart leaves =
            leaves_more pool pool_now run run_now is now_is run_is run_now_is apart leaves

-- one outcome for each call
left_count : (calls : List Call) (outcomes : List Outcome) (pool : Option Pool) (run : Option ServerRun) → LeavesWhereTold calls outcomes pool run → length outcomes ≡ length calls
left_count calls outcomes None run leaves = absurd leaves
left_count calls outcomes (Some pool) None leaves = absurd leaves
left_count calls outcomes (Some pool) (Some run) leaves = leaves.holds.one_each

-- a run that has made no call
pub stands_none : (room : ℕ) (run : RunState) → run ≡ new_run room → (calls : List Call) (now : Moment) → IsNewStore now.store → IsFresh (server_run now.link)
    → RunInvariant run calls now
stands_none room run is calls now new fresh = subst (λ r. RunInvariant r calls now) (sym is) (record {
  within = omega arith;
  left = subst (λ made. LeavesWhereTold made [] now.store.pool (server_run now.link)) (sym (take_none calls)) (leaves_none_told now.store.pool (server_run now.link) new fresh);
  closed = refl;
})

-- as many outcomes as calls were made
pub stands_count : (run : RunState) (calls : List Call) (now : Moment) → RunInvariant run calls now → length run.outcomes ≡ run.made
stands_count run calls now stands =
    left_count (take run.made calls) run.outcomes now.store.pool (server_run now.link) stands.left ∙ length-take-le run.made calls stands.within

-- one call more, between two moments whose clocks do not matter
stands_made : (run now : RunState) (calls : List Call) (call : Call) (last : Outcome) (before after : Moment) → now ≡ run_more run last → run.made < length calls
    → slice_get calls run.made ≡ Some call → MakesCall before after call run.made last.result → RunInvariant run calls before → DrawnApart after.store → RunInvariant now calls after
stands_made run now calls call last before after is_more within next makes stands apart =
    let front = take run.made calls in
    let step : take (run.made + 1) calls ≡ front ++ call ∷ [] = take_next calls run.made call next in
    let count = stands_count run calls before stands in
    let makes_here = subst (λ n. MakesCall before after call n last.result) (sym count) makes in
    let left = leaves_more_told front call run.outcomes last before after makes_here apart stands.left in
    subst (λ r. RunInvariant r calls after) (sym is_more) (record {
      within = one_within run.made (length calls) within;
      left = subst (λ made. LeavesWhereTold made (run.outcomes ++ last ∷ []) after.store.pool (server_run after.link)) (sym step) left;
      closed = stands.closed;
    })
  where
    -- a number below another is at most that, once raised
    one_within : (made count : ℕ) → made < count → made + 1 ≤ count
    one_within made count next = omega arith

-- one call more
pub stands_more : (run now : RunState) (calls : List Call) (call : Call) (last : Outcome) (before after : Moment) → now ≡ run_more run last → run.made < length calls
    → slice_get calls run.made ≡ Some call → CallCaused run.made before after call last → RunInvariant run calls before → DrawnApart after.store → RunInvariant now calls after
stands_more run now calls call last before after is_more within next caused stands apart =
    let began = with_clock before caused.first in
    let ended = with_clock after caused.clock in
    let stood : RunInvariant run calls began = record { within = stands.within; left = stands.left; closed = stands.closed } in
    let now_stands = stands_made run now calls call last began ended is_more within next caused.makes stood apart in
    record { within = now_stands.within; left = now_stands.left; closed = now_stands.closed }

-- calls that are appended to the list
pub stands_appended : (run : RunState) (calls more : List Call) (now : Moment) → RunInvariant run calls now → RunInvariant run (calls ++ more) now
stands_appended run calls more now stands = record {
  within = omega (arith, stands.within, length-append calls more);
  left = subst (λ made. LeavesWhereTold made run.outcomes now.store.pool (server_run now.link)) (sym (take-append-le run.made calls more stands.within)) stands.left;
  closed = stands.closed;
}

-- the call of one number is the call of an equal one
pub caused_at : (number made : ℕ) (before now : Moment) (call : Call) (outcome : Outcome) → number ≡ made → CallCaused number before now call outcome
    → CallCaused made before now call outcome
caused_at number made before now call outcome same caused = subst (λ n. CallCaused n before now call outcome) same caused
