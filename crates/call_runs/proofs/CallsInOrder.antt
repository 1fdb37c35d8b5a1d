-- Calls that were made one after another: what holds of each holds of all.
use Rattle.std.proofs.Common.{◌≡◌, ℕ, ◌≤◌, take, List, [], ◌∷◌, ◌++◌, length, append-nil, append_assoc, refl, sym, subst}
use Rattle.std.proofs.lemmas.List.{length-take-le, take_all}
use Rattle.driver_session.specs.StoreTells.{Draws}
use Rattle.driver_session.proofs.IdDraws.{apart_before}
use Rattle.driver_attempt.specs.Moment.{Moment}
use Rattle.call_runs.specs.CallByCall.{CallByCall, CallCaused, HaveCauses}
use Rattle.call_runs.specs.MainTheorem.{Begins, CallEnds, HaveEnded}
use Rattle.call_runs.specs.Standing.{MakesCaused, MakesEnded, MakesNext, RunState, new_run}
use Rattle.call_runs.proofs.AppendedCalls.{take_next}
use Rattle.driver_inputs.specs.declared.call.Call.{Call}
use Rattle.driver_inputs.specs.declared.call.Outcome.{Outcome}

module _ (P : List Call → Moment → Moment → Call → Outcome → Type 0) where
  -- a last call
  chain_last : (earlier calls : List Call) (outcomes : List Outcome) (call : Call) (last : Outcome) (before mid now : Moment) → CallByCall P earlier calls outcomes before mid
      → P (earlier ++ calls) mid now call last → CallByCall P earlier (calls ++ call ∷ []) (outcomes ++ last ∷ []) before now
  chain_last earlier [] [] call last before mid now chain ends =
      (now, (subst (λ m. P earlier m now call last) chain (subst (λ made. P made mid now call last) (append-nil earlier) ends), refl))
  chain_last earlier [] (outcome ∷ outcomes) call last before mid now chain ends = absurd chain
  chain_last earlier (made ∷ calls) [] call last before mid now chain ends = absurd chain
  chain_last earlier (made ∷ calls) (outcome ∷ outcomes) call last before mid now chain ends =
      let next : earlier ++ made ∷ calls ≡ (earlier ++ made ∷ []) ++ calls = sym (append_assoc earlier (made ∷ []) calls) in (
        chain.0,
        (chain.1.0, chain_last (earlier ++ made ∷ []) calls outcomes call last chain.0 mid now chain.1.1 (subst (λ all. P all mid now call last) next ends)),
      )

  -- a run that has made no call
  chain_start : (room : ℕ) (run : RunState) (calls : List Call) (at : Moment) → run ≡ new_run room → CallByCall P [] (take run.made calls) run.outcomes at at
  chain_start room run calls at is = subst (λ r. CallByCall P [] (take r.made calls) r.outcomes at at) (sym is) (none_made calls at)
    where
      none_made : (calls : List Call) (at : Moment) → CallByCall P [] (take 0 calls) [] at at
      none_made [] at = refl
      none_made (call ∷ calls) at = refl

  -- one call more
  chain_more : (run now : RunState) (calls : List Call) (before mid after : Moment) → MakesNext run now calls (λ call outcome. P (take run.made calls) mid after call outcome)
      → CallByCall P [] (take run.made calls) run.outcomes before mid → CallByCall P [] (take now.made calls) now.outcomes before after
  chain_more run now calls before mid after makes chain =
      subst (λ r. CallByCall P [] (take r.made calls) r.outcomes before after) (sym makes.appended)
      (subst (λ made. CallByCall P [] made (run.outcomes ++ makes.outcome ∷ []) before after) (sym (take_next calls run.made makes.call makes.next))
      (chain_last [] (take run.made calls) run.outcomes makes.call makes.outcome before mid after chain makes.holds))

  -- after the last call
  chain_all : (calls : List Call) (outcomes : List Outcome) (made : ℕ) (before now : Moment) → length calls ≤ made
      → CallByCall P [] (take made calls) outcomes before now → CallByCall P [] calls outcomes before now
  chain_all calls outcomes made before now all chain = subst (λ c. CallByCall P [] c outcomes before now) (take_all made calls all) chain

-- the causes of the calls
pub causes_start : (room : ℕ) (run : RunState) (calls : List Call) (at : Moment) → run ≡ new_run room → HaveCauses (take run.made calls) run.outcomes at at
causes_start room run calls at is = chain_start (λ earlier. CallCaused (length earlier)) room run calls at is

-- with one call more
pub causes_more : (run now : RunState) (calls : List Call) (before mid after : Moment) → run.made ≤ length calls → MakesCaused run now calls mid after
    → HaveCauses (take run.made calls) run.outcomes before mid → HaveCauses (take now.made calls) now.outcomes before after
causes_more run now calls before mid after within found chain =
    let count : run.made ≡ length (take run.made calls) = sym (length-take-le run.made calls within) in
    chain_more (λ earlier. CallCaused (length earlier)) run now calls before mid after
    (record {
      call = found.call;
      outcome = found.outcome;
      next = found.next;
      appended = found.appended;
      holds = subst (λ n. CallCaused n mid after found.call found.outcome) count found.holds;
    }) chain

-- after the last call
pub causes_all : (calls : List Call) (outcomes : List Outcome) (made : ℕ) (before now : Moment) → length calls ≤ made
    → HaveCauses (take made calls) outcomes before now → HaveCauses calls outcomes before now
causes_all calls outcomes made before now all chain = chain_all (λ earlier. CallCaused (length earlier)) calls outcomes made before now all chain

-- the ends of the calls
pub ended_start : (room : ℕ) (run : RunState) (calls : List Call) (at : Moment) → run ≡ new_run room → HaveEnded (take run.made calls) run.outcomes at at
ended_start room run calls at is = chain_start CallEnds room run calls at is

-- with one call more
pub ended_more : (run now : RunState) (calls : List Call) (before mid after : Moment) → run.made ≤ length calls → MakesEnded run now calls mid after
    → HaveEnded (take run.made calls) run.outcomes before mid → HaveEnded (take now.made calls) now.outcomes before after
ended_more run now calls before mid after within found chain = chain_more CallEnds run now calls before mid after found chain

-- after the last call
pub ended_all : (calls : List Call) (outcomes : List Outcome) (made : ℕ) (before now : Moment) → length calls ≤ made
    → HaveEnded (take made calls) outcomes before now → HaveEnded calls outcomes before now
ended_all calls outcomes made before now all chain = chain_all CallEnds calls outcomes made before now all chain

-- a run that begins at a moment and is apart at a later one is apart before that
pub began_before : (first mid now : Moment) → Draws mid.store now.store → Begins first now → Begins first mid
began_before first mid now draws begins = record { new = begins.new; fresh = begins.fresh; apart = apart_before mid.store now.store draws begins.apart }
