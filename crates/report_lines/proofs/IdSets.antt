-- A set of the ids from a place on.
use Rattle.std.proofs.Common.{◌≡◌, ℕ, zero, suc, ◌-◌, ◌<◌, ◌≤◌, List, [], ◌∷◌, Bool, true, false, not, ◌||◌, cond, length, drop, get_or, bytes_eq, arith, refl, sym, ap, ◌∙◌}
use Rattle.std.proofs.Math.Bool.{and-false}
use Rattle.std.proofs.Math.Seq.{drop-cons, drop-length}
use Rattle.std.specs.HashSet as bag
use Rattle.std.specs.declared.hash.FoldHasher.{FoldHasher}
use Rattle.std.specs.declared.hash.BuildHasherDefault.{BuildHasherDefault}
use Rattle.report_lines.specs.Distinct.{distinct, stands_in}

-- a set of ids
abbrev pub Ids : Type 0
Ids = bag.HashSet (List ℕ) (BuildHasherDefault FoldHasher)

-- the set has the ids from a place on, which are distinct
pub record HasLast (ids : List (List ℕ)) (at : ℕ) (later : Ids) : Type 0 where
  pub within : at ≤ length ids
  pub seen : (id : List ℕ) → bag.contains bytes_eq later id ≡ stands_in (drop at ids) id
  pub apart : distinct (drop at ids) ≡ true

-- the place before
pub drop_before : (ids : List (List ℕ)) (at : ℕ) → 0 < at → at ≤ length ids → drop (at - 1) ids ≡ get_or ids (at - 1) [] ∷ drop at ids
drop_before ids at some within =
    let next : suc (at - 1) ≡ at = omega arith in
    drop-cons ids (at - 1) [] (omega arith) ∙ ap (λ n. get_or ids (at - 1) [] ∷ drop n ids) next

-- a test or another
or_cond : (a b : Bool) → cond a true b ≡ (a || b)
or_cond true b = refl
or_cond false b = refl

-- ids whose end repeats one repeat one
pub distinct_drop : (n : ℕ) (ids : List (List ℕ)) → distinct (drop n ids) ≡ false → distinct ids ≡ false
unfolding distinct
distinct_drop zero ids repeats = repeats
distinct_drop (suc n) [] repeats = repeats
distinct_drop (suc n) (id ∷ ids) repeats = rw (distinct_drop n ids repeats) (and-false (not (stands_in ids id)))

-- no id from the end on
pub HasLast_none : (ids : List (List ℕ)) (later : Ids) → bag.IsEmpty later → HasLast ids (length ids) later
unfolding distinct
HasLast_none ids later none = record {
  within = omega arith;
  seen = λ id. rw (drop-length ids, none) refl;
  apart = rw (drop-length ids) refl;
}

-- one id more that the set has not
pub HasLast_more : (ids : List (List ℕ)) (at : ℕ) (later now : Ids) → HasLast ids at later → 0 < at
    → bag.contains bytes_eq later (get_or ids (at - 1) []) ≡ false
    → ((id : List ℕ) → bag.contains bytes_eq now id ≡ cond (bytes_eq (get_or ids (at - 1) []) id) true (bag.contains bytes_eq later id))
    → HasLast ids (at - 1) now
unfolding distinct
HasLast_more ids at later now has some new adds =
    let front = drop_before ids at some has.within in
    record {
      within = (let within = has.within in omega arith);
      seen = λ id. rw (front, adds id, has.seen id) (or_cond (bytes_eq (get_or ids (at - 1) []) id) (stands_in (drop at ids) id));
      apart = rw (front, ← has.seen (get_or ids (at - 1) []), new, has.apart) refl;
    }

-- an id that the set has repeats
pub HasLast_repeats : (ids : List (List ℕ)) (at : ℕ) (later : Ids) → HasLast ids at later → 0 < at
    → bag.contains bytes_eq later (get_or ids (at - 1) []) ≡ true → false ≡ distinct ids
unfolding distinct
HasLast_repeats ids at later has some known =
    let front = drop_before ids at some has.within in
    sym (distinct_drop (at - 1) ids (rw (front, ← has.seen (get_or ids (at - 1) []), known) refl))

-- what `not` says of a test
pub not_back : {b c : Bool} → not b ≡ c → b ≡ not c
not_back {b} {c} is = back b c is
  where
    back : (b c : Bool) → not b ≡ c → b ≡ not c
    back true c is = ap not is
    back false c is = ap not is
