-- Results of different ops may be taken in any order.
use Rattle.std.proofs.Common.{◌≡◌, ℕ, zero, suc, ◌<◌, ◌≤◌, ◌==◌, Bool, true, false, not, ◌&&◌, ◌||◌, ◌⊎◌, List, [], ◌∷◌, length, map, refl, sym, ap, subst, ◌∙◌, inl, inr, arith}
use Rattle.std.specs.Prelude.{Option, None, Some, if◌then◌else◌}
use Rattle.std.specs.List.{AllByRecursion, Contains, IsDistinct, list_any}
use Rattle.std.specs.List.Sorted.{IsPermutation}
use Rattle.std.proofs.lemmas.Bool.{and_parts, cases_Bool, eqb-true, eq-eqb, not-true}
use Rattle.std.proofs.lemmas.Bool.Decides.{eqb_tells}
use Rattle.std.proofs.lemmas.Cmp.{nat_eq_equiv}
use Rattle.std.proofs.lemmas.List.Sorted.{Contains-permutation, IsPermutation-map, IsPermutation-sym}
use Rattle.std.proofs.lemmas.Map.Keys.{IsDistinct-IsPermutation}
use Rattle.bulk_ops.specs.declared.bulk_reply.OpOutcome.{OpOutcome}
use Rattle.bulk_ops.specs.declared.bulk_reply.OpResult.{OpResult}
use Rattle.bulk_ops.specs.BulkRules.{are_apart, is_of, is_seen}

-- an outcome where there is none yet
abbrev pub found_in : Bool → OpOutcome → Option OpOutcome → Option OpOutcome
found_in here outcome later = if here then Some outcome else later

-- the outcome of the op at an index
unfoldable pub found : List OpResult → ℕ → Option OpOutcome
found [] at = None
found (result ∷ results) at = found_in (result.index == at) result.outcome (found results at)

-- the same with one more
abbrev with_at : ℕ → OpOutcome → (ℕ → Option OpOutcome) → ℕ → Option OpOutcome
with_at index outcome before at = found_in (index == at) outcome (before at)

-- an index that is equal and one that is not
same_index : (a b : ℕ) → a ≡ b → (a == b) ≡ true
same_index a b is = eq-eqb a b is

other_index : (a b : ℕ) → (a ≡ b → ⊥) → (a == b) ≡ false
other_index a b other = elim (eqb_tells a b) [
  | inl same ↦ absurd (other same.1)
  | inr is ↦ is.0
]

-- an op without a result has no outcome
pub unseen_none : (results : List OpResult) (at : ℕ) → is_seen results at ≡ false → found results at ≡ None
unfolding found
unseen_none [] at none = refl
unseen_none (result ∷ results) at none = by (result.index == at) refl none (unseen_none results at)
  where
    by : (b : Bool) → (result.index == at) ≡ b → (b || is_seen results at) ≡ false → (is_seen results at ≡ false → found results at ≡ None) → found_in b result.outcome (found results at) ≡ None
    by true is none later = let e : true ≡ false = none in cc
    by false is none later = later none

-- what is taken of each op, in the order of results and in the order of ops
module _ {S : Type 0} (step : ℕ → OpOutcome → S → S) where
  unfoldable pub taken : List OpResult → S → S
  taken [] s = s
  taken (result ∷ results) s = taken results (step result.index result.outcome s)

  abbrev pub taken_at : ℕ → Option OpOutcome → S → S
  taken_at at None s = s
  taken_at at (Some outcome) s = step at outcome s

  unfoldable pub each : ℕ → (ℕ → Option OpOutcome) → S → S
  each zero at s = s
  each (suc n) at s = taken_at n (at n) (each n at s)

-- which of two different ops is taken first does not matter
abbrev pub IsFree : {S : Type 0} → (ℕ → OpOutcome → S → S) → Type 0
IsFree {S} step = (i j : ℕ) → (i ≡ j → ⊥) → (a b : OpOutcome) (s : S) → step i a (step j b s) ≡ step j b (step i a s)

module _ {S : Type 0} (step : ℕ → OpOutcome → S → S) (commutes : IsFree step) where
  -- an op behind them may come first
  past : (n i : ℕ) (found_at : Option OpOutcome) (outcome : OpOutcome) (s : S) → n < i → taken_at step n found_at (step i outcome s) ≡ step i outcome (taken_at step n found_at s)
  past n i None outcome s below = refl
  past n i (Some other) outcome s below = commutes n i (λ same. let no : ⊥ = omega arith in no) other outcome s

  each_past : (n i : ℕ) (at : ℕ → Option OpOutcome) (outcome : OpOutcome) (s : S) → n ≤ i → each step n at (step i outcome s) ≡ step i outcome (each step n at s)
  unfolding each
  each_past zero i at outcome s below = refl
  each_past (suc n) i at outcome s below = ap (taken_at step n (at n)) (each_past n i at outcome s (omega arith)) ∙ past n i (at n) outcome (each step n at s) (omega arith)

  -- the ops below a number alone count
  each_same : (n : ℕ) (at other : ℕ → Option OpOutcome) (s : S) → ((k : ℕ) → k < n → at k ≡ other k) → each step n at s ≡ each step n other s
  unfolding each
  each_same zero at other s same = refl
  each_same (suc n) at other s same = λ i. taken_at step n (same n (omega arith) i) (each_same n at other s (λ k below. same k (omega arith)) i)

  each_none : (n : ℕ) (s : S) → each step n (found []) s ≡ s
  unfolding each found
  each_none zero s = refl
  each_none (suc n) s = each_none n s

  -- an op that had none may come first
  each_with : (n i : ℕ) (at : ℕ → Option OpOutcome) (outcome : OpOutcome) (s : S) → i < n → at i ≡ None → each step n at (step i outcome s) ≡ each step n (with_at i outcome at) s
  unfolding each
  each_with zero i at outcome s below none = let no : ⊥ = omega arith in absurd no
  each_with (suc n) i at outcome s below none = elim (eqb_tells i n) [
    | inl same ↦ here same.1
    | inr other ↦ there other.1 (each_with n i at outcome s (omega arith) none)
  ]
    where
      here : i ≡ n → each step (suc n) at (step i outcome s) ≡ each step (suc n) (with_at i outcome at) s
      here is =
          let at_n : at n ≡ None = subst (λ k. at k ≡ None) is none in
          let with_n : with_at i outcome at n ≡ Some outcome = ap (λ b. found_in b outcome (at n)) (same_index i n is) in
          let below_same = each_same n (with_at i outcome at) at s (λ k less. ap (λ b. found_in b outcome (at k)) (other_index i k (λ same. let no : ⊥ = omega arith in no))) in
          ap (λ o. taken_at step n o (each step n at (step i outcome s))) at_n
          ∙ each_past n i at outcome s (omega arith)
          ∙ ap (λ k. step k outcome (each step n at s)) is
          ∙ ap (step n outcome) (sym below_same)
          ∙ ap (λ o. taken_at step n o (each step n (with_at i outcome at) s)) (sym with_n)

      there : (i ≡ n → ⊥) → each step n at (step i outcome s) ≡ each step n (with_at i outcome at) s → each step (suc n) at (step i outcome s) ≡ each step (suc n) (with_at i outcome at) s
      there other before =
          let with_n : with_at i outcome at n ≡ at n = ap (λ b. found_in b outcome (at n)) (other_index i n other) in
          ap (taken_at step n (at n)) before ∙ ap (λ o. taken_at step n o (each step n (with_at i outcome at) s)) (sym with_n)

  -- results of different ops are taken as each op is
  pub taken_each : (n : ℕ) (results : List OpResult) (s : S) → are_apart results ≡ true → ((result : OpResult) → Contains results result → result.index < n)
      → taken step results s ≡ each step n (found results) s
  unfolding taken found are_apart
  taken_each n [] s apart within = sym (each_none n s)
  taken_each n (result ∷ results) s apart within =
      let parts = and_parts (not (is_seen results result.index)) (are_apart results) apart in
      taken_each n results (step result.index result.outcome s) parts.1 (λ other has. within other (suc has.0, omega arith, has.2))
      ∙ each_with n result.index (found results) result.outcome s (within result (0, omega arith, refl)) (unseen_none results result.index (not-true (is_seen results result.index) parts.0))

-- a result of a list of different ops is found at its index
pub found_there : (results : List OpResult) (result : OpResult) → are_apart results ≡ true → Contains results result → found results result.index ≡ Some result.outcome
unfolding found are_apart
found_there [] result apart has = let no : ⊥ = omega arith in absurd no
found_there (first ∷ results) result apart (zero, below, is) = ap (λ b. found_in b first.outcome (found results result.index)) (same_index first.index result.index (ap (λ (r : OpResult). r.index) is)) ∙ ap (λ (r : OpResult). Some r.outcome) is
found_there (first ∷ results) result apart (suc at, below, is) =
    let parts = and_parts (not (is_seen results first.index)) (are_apart results) apart in
    let has : Contains results result = (at, omega arith, is) in
    ap (λ b. found_in b first.outcome (found results result.index)) (other_index first.index result.index (λ same.
    let none : found results result.index ≡ None = ap (found results) (sym same) ∙ unseen_none results first.index (not-true (is_seen results first.index) parts.0) in
    let e : ◌≡◌ {A = Option OpOutcome} None (Some result.outcome) = sym none ∙ found_there results result parts.1 has in cc))
    ∙ found_there results result parts.1 has

-- what is found at an index is of a result
pub record FoundOf (results : List OpResult) (at : ℕ) (outcome : OpOutcome) : Type 0 where
  pub result : OpResult
  pub has : Contains results result
  pub index_is : result.index ≡ at
  pub outcome_is : result.outcome ≡ outcome

pub found_of : (results : List OpResult) (at : ℕ) (outcome : OpOutcome) → found results at ≡ Some outcome → FoundOf results at outcome
unfolding found
found_of [] at outcome is = let e : ◌≡◌ {A = Option OpOutcome} None (Some outcome) = is in absurd (let no : ⊥ = cc in no)
found_of (first ∷ results) at outcome is = by (result_is first at) is (found_of results at outcome)
  where
    result_is : (first : OpResult) (at : ℕ) → ((first.index == at) ≡ true) ⊎ ((first.index == at) ≡ false)
    result_is first at = cases_Bool (first.index == at)

    by : ((first.index == at) ≡ true) ⊎ ((first.index == at) ≡ false) → found_in (first.index == at) first.outcome (found results at) ≡ Some outcome → (found results at ≡ Some outcome → FoundOf results at outcome)
        → FoundOf (first ∷ results) at outcome
    by (inl here) is later = record {
      result = first;
      has = (0, omega arith, refl);
      index_is = eqb-true first.index at here;
      outcome_is = let e : ◌≡◌ {A = Option OpOutcome} (Some first.outcome) (Some outcome) = sym (ap (λ b. found_in b first.outcome (found results at)) here) ∙ is in cc;
    }
    by (inr other) is later =
        let more = later (sym (ap (λ b. found_in b first.outcome (found results at)) other) ∙ is) in
        record { result = more.result; has = (suc more.has.0, omega arith, more.has.2); index_is = more.index_is; outcome_is = more.outcome_is }

-- the indexes of results
abbrev indexes : List OpResult → List ℕ
indexes results = map (λ (r : OpResult). r.index) results

either_way : (x y : ℕ) → (x == y) ≡ (y == x)
either_way x y = nat_eq_equiv.symm x y

none_equal : (results : List OpResult) (at : ℕ) → is_seen results at ≡ false → AllByRecursion (λ y. (at == y) ≡ false) (indexes results)
none_equal [] at none = tt
none_equal (first ∷ results) at none = by (first.index == at) refl none (none_equal results at)
  where
    by : (b : Bool) → (first.index == at) ≡ b → (b || is_seen results at) ≡ false → (is_seen results at ≡ false → AllByRecursion (λ y. (at == y) ≡ false) (indexes results))
        → AllByRecursion (λ y. (at == y) ≡ false) (indexes (first ∷ results))
    by true is none later = let e : true ≡ false = none in cc
    by false is none later = (either_way at first.index ∙ is, later none)

none_seen : (results : List OpResult) (at : ℕ) → AllByRecursion (λ y. (at == y) ≡ false) (indexes results) → is_seen results at ≡ false
none_seen [] at none = refl
none_seen (first ∷ results) at none = ap (λ b. b || is_seen results at) (either_way first.index at ∙ none.0) ∙ none_seen results at none.1

distinct_of : (results : List OpResult) → are_apart results ≡ true → IsDistinct ◌==◌ (indexes results)
unfolding are_apart IsDistinct
distinct_of [] apart = tt
distinct_of (first ∷ results) apart =
    let parts = and_parts (not (is_seen results first.index)) (are_apart results) apart in
    (none_equal results first.index (not-true (is_seen results first.index) parts.0), distinct_of results parts.1)

apart_of : (results : List OpResult) → IsDistinct ◌==◌ (indexes results) → are_apart results ≡ true
unfolding are_apart IsDistinct
apart_of [] apart = refl
apart_of (first ∷ results) apart = λ i. not (none_seen results first.index apart.0 i) && apart_of results apart.1 i

-- results of different ops stay so in any order
pub apart_again : (xs ys : List OpResult) → IsPermutation xs ys → are_apart xs ≡ true → are_apart ys ≡ true
apart_again xs ys moved apart =
    apart_of ys (IsDistinct-IsPermutation ◌==◌ either_way (indexes xs) (indexes ys) (IsPermutation-map (λ (r : OpResult). r.index) xs ys moved) (distinct_of xs apart))

-- and at each index the same is found
pub found_again : (xs ys : List OpResult) → IsPermutation xs ys → are_apart xs ≡ true → (at : ℕ) → found ys at ≡ found xs at
found_again xs ys moved apart at = by (found xs at) (found ys at) refl refl
  where
    there : (one other : List OpResult) → IsPermutation one other → are_apart other ≡ true → (outcome : OpOutcome) → found one at ≡ Some outcome → found other at ≡ Some outcome
    there one other moves other_apart outcome is =
        let of = found_of one at outcome is in
        ap (found other) (sym of.index_is) ∙ found_there other of.result other_apart (Contains-permutation one other of.result moves of.has) ∙ ap Some of.outcome_is

    by : (one other : Option OpOutcome) → found xs at ≡ one → found ys at ≡ other → found ys at ≡ found xs at
    by (Some outcome) other one_is other_is = there xs ys moved (apart_again xs ys moved apart) outcome one_is ∙ sym one_is
    by None None one_is other_is = other_is ∙ sym one_is
    by None (Some outcome) one_is other_is =
        let e : ◌≡◌ {A = Option OpOutcome} None (Some outcome) = sym one_is ∙ there ys xs (IsPermutation-sym xs ys moved) apart outcome other_is in absurd (let no : ⊥ = cc in no)

-- so results of different ops may be taken in any order
pub order_free : {S : Type 0} (step : ℕ → OpOutcome → S → S) → IsFree step → (n : ℕ) (xs ys : List OpResult) (s : S) → IsPermutation xs ys → are_apart xs ≡ true
    → ((result : OpResult) → Contains xs result → result.index < n) → taken step ys s ≡ taken step xs s
order_free step free n xs ys s moved apart within =
    taken_each step free n ys s (apart_again xs ys moved apart) (λ result has. within result (Contains-permutation ys xs result (IsPermutation-sym xs ys moved) has))
    ∙ each_same step free n (found ys) (found xs) s (λ k below. found_again xs ys moved apart k)
    ∙ sym (taken_each step free n xs s apart within)
