-- Writes that were made, before those that are left to make.
use Rattle.std.proofs.Common.{◌≡◌, ◌<◌, ◌≤◌, ℕ, ◌+◌, List, [], ◌∷◌, ◌++◌, Option, Some, None, drop, length, slice_get, refl, sym, ap, ◌∙◌, arith, append_assoc, append-nil, length-drop}
use Rattle.std.proofs.lemmas.List.{drop_all}
use Rattle.std.specs.Option.{option_map}
use Rattle.driver_link.specs.Writes.{placed}
use Rattle.driver_link.specs.declared.machine.Place.{Place}
use Rattle.driver_link.specs.declared.machine.PlacedWrite.{PlacedWrite}
use Rattle.driver_link.specs.declared.machine.Written.{Written}
use Rattle.frame_reading.proofs.ReadLaws.{drop_at}

-- nothing before a list
pub none_before : {A : Type 0} (o : Option (List A)) → option_map (λ rest. [] ++ rest) o ≡ o
none_before None = refl
none_before (Some rest) = refl

-- one more before a list
pub one_before : {A : Type 0} (made : List A) (item : A) (o : Option (List A))
    → option_map (λ rest. (made ++ item ∷ []) ++ rest) o ≡ option_map (λ rest. made ++ rest) (option_map (λ rest. item ∷ rest) o)
one_before made item None = refl
one_before made item (Some rest) = ap (λ items. Some items) (append_assoc made (item ∷ []) rest)

-- a write with its place
abbrev pub with_place : Place → Written → PlacedWrite
with_place place written = record { place = place; written = written }

pub placed_next : (written : Written) (left rest : List Written) (places : List Place) (at : ℕ) (place : Place) (made : List PlacedWrite) (all : Option (List PlacedWrite))
    → left ≡ written ∷ rest → slice_get places at ≡ Some place
    → option_map (λ more. made ++ more) (placed left (drop at places)) ≡ all
    → option_map (λ more. (made ++ with_place place written ∷ []) ++ more) (placed rest (drop (at + 1) places)) ≡ all
unfolding placed
placed_next written left rest places at place made all is here so_far =
    one_before made (with_place place written) (placed rest (drop (at + 1) places))
    ∙ (λ i. option_map (λ more. made ++ more) (placed (sym is i) (sym (drop_at places at place here) i)))
    ∙ so_far

-- more writes than places
pub placed_few : (written : Written) (left rest : List Written) (places : List Place) (at : ℕ) (made : List PlacedWrite) (all : Option (List PlacedWrite))
    → left ≡ written ∷ rest → length places ≤ at
    → option_map (λ more. made ++ more) (placed left (drop at places)) ≡ all → None ≡ all
unfolding placed
placed_few written left rest places at made all is past so_far =
    (λ i. option_map (λ more. made ++ more) (placed (sym is i) (sym (drop_all at places past) i))) ∙ so_far

-- more places than writes
pub placed_many : (left : List Written) (places : List Place) (at : ℕ) (made : List PlacedWrite) (all : Option (List PlacedWrite))
    → length left ≡ 0 → at < length places
    → option_map (λ more. made ++ more) (placed left (drop at places)) ≡ all → None ≡ all
unfolding placed
placed_many left places at made all none within so_far = many left (drop at places) none (rw length-drop (omega arith)) so_far
  where
    many : (left : List Written) (more : List Place) → length left ≡ 0 → 0 < length more
        → option_map (λ rest. made ++ rest) (placed left more) ≡ all → None ≡ all
    many [] [] none some is = absurd (omega arith)
    many [] (place ∷ more) none some is = is
    many (written ∷ left) more none some is = absurd (omega arith)

-- as many of one as of the other
pub placed_end : (left : List Written) (places : List Place) (at : ℕ) (made : List PlacedWrite) (all : Option (List PlacedWrite))
    → length left ≡ 0 → length places ≤ at
    → option_map (λ more. made ++ more) (placed left (drop at places)) ≡ all → Some made ≡ all
unfolding placed
placed_end [] places at made all none past so_far =
    ap (λ writes. Some writes) (sym (append-nil made))
    ∙ (λ i. option_map (λ more. made ++ more) (placed [] (sym (drop_all at places past) i))) ∙ so_far
placed_end (written ∷ left) places at made all none past so_far = absurd (omega arith)
