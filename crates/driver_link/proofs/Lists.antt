-- Elements and positions of lists.
use Rattle.std.proofs.Common.{◌≡◌, ℕ, zero, suc, ◌≤◌, List, [], ◌∷◌, ◌++◌, length, refl, ap, inl, inr, arith}
use Rattle.std.specs.Prelude.{true, false, Option, None, Some, is_none, ◌⊎◌, slice_get, slice_set}
use Rattle.driver_link.specs.Settled.{Has}

pub has_left : {A : Type 0} (xs more : List A) (x : A) → Has xs x → Has (xs ++ more) x
has_left [] more x has = absurd has
has_left (y ∷ ys) more x has = elim has [ inl same ↦ inl same | inr rest ↦ inr (has_left ys more x rest) ]

pub has_right : {A : Type 0} (xs more : List A) (x : A) → Has more x → Has (xs ++ more) x
has_right [] more x has = has
has_right (y ∷ ys) more x has = inr (has_right ys more x has)

pub has_either : {A : Type 0} (xs more : List A) (x : A) → Has (xs ++ more) x → Has xs x ⊎ Has more x
has_either [] more x has = inr has
has_either (y ∷ ys) more x has = elim has [
  | inl same ↦ inl (inl same)
  | inr rest ↦ elim (has_either ys more x rest) [ inl left ↦ inl (inr left) | inr right ↦ inr right ]
]

pub has_last : {A : Type 0} (xs : List A) (x : A) → Has (xs ++ x ∷ []) x
has_last [] x = inl refl
has_last (y ∷ ys) x = inr (has_last ys x)

pub none_is_some : {A : Type 0} (x : A) → ◌≡◌ {A = Option A} None (Some x) → ⊥
none_is_some x is = cc

pub some_is_some : {A : Type 0} (x y : A) → ◌≡◌ {A = Option A} (Some x) (Some y) → x ≡ y
some_is_some x y is = cc

-- what is told to be none
pub none_told : {A : Type 0} (found : Option A) → is_none found ≡ true → found ≡ None
none_told None is = refl
none_told (Some x) is = absurd (let denied : false ≡ true = is in cc)

pub get_left : {A : Type 0} (xs more : List A) (at : ℕ) (x : A) → slice_get xs at ≡ Some x → slice_get (xs ++ more) at ≡ Some x
get_left [] more at x is = absurd (none_is_some x is)
get_left (y ∷ ys) more zero x is = is
get_left (y ∷ ys) more (suc at) x is = get_left ys more at x is

pub get_last : {A : Type 0} (xs : List A) (x : A) → slice_get (xs ++ x ∷ []) (length xs) ≡ Some x
get_last [] x = refl
get_last (y ∷ ys) x = get_last ys x

-- an element by its position is an earlier one or the last
pub earlier_or_last : {A : Type 0} (xs : List A) (last : A) (at : ℕ) (x : A) → slice_get (xs ++ last ∷ []) at ≡ Some x
    → (slice_get xs at ≡ Some x) ⊎ ((at ≡ length xs) × (last ≡ x))
earlier_or_last [] last zero x is = inr (refl, cc is)
earlier_or_last {A = A} [] last (suc at) x is = absurd (let e : ◌≡◌ {A = Option A} None (Some x) = is in cc)
earlier_or_last (y ∷ ys) last zero x is = inl is
earlier_or_last (y ∷ ys) last (suc at) x is = elim (earlier_or_last ys last at x is) [
  | inl earlier ↦ inl earlier
  | inr now ↦ inr (ap suc now.0, now.1)
]

-- what stands in a list with one place set to nothing stood there before
pub set_none : {A : Type 0} (xs : List (Option A)) (at k : ℕ) (x : A) → slice_get (slice_set xs at None) k ≡ Some (Some x) → slice_get xs k ≡ Some (Some x)
set_none [] at k x is = is
set_none {A = A} (y ∷ ys) zero zero x is = absurd (none_is_some x (some_is_some None (Some x) is))
set_none (y ∷ ys) zero (suc k) x is = is
set_none (y ∷ ys) (suc at) zero x is = is
set_none (y ∷ ys) (suc at) (suc k) x is = set_none ys at k x is

-- a place that was set to nothing has nothing
pub set_gone : {A : Type 0} (xs : List (Option A)) (at : ℕ) (x : A) → slice_get (slice_set xs at None) at ≡ Some (Some x) → ⊥
set_gone [] at x is = none_is_some (Some x) is
set_gone (y ∷ ys) zero x is = none_is_some x (some_is_some None (Some x) is)
set_gone (y ∷ ys) (suc at) x is = set_gone ys at x is

-- an element stands at a position, and what stands at one is an element
pub position_of : {A : Type 0} (xs : List A) (x : A) → Has xs x → (p : ℕ) × (slice_get xs p ≡ Some x)
position_of [] x has = absurd has
position_of (y ∷ ys) x has = elim has [
  | inl same ↦ (zero, ap (λ z. Some z) same)
  | inr rest ↦ let found = position_of ys x rest in (suc found.0, found.1)
]

pub has_at : {A : Type 0} (xs : List A) (p : ℕ) (x : A) → slice_get xs p ≡ Some x → Has xs x
has_at [] p x is = absurd (none_is_some x is)
has_at (y ∷ ys) zero x is = inl (some_is_some y x is)
has_at (y ∷ ys) (suc p) x is = inr (has_at ys p x is)

-- nothing stands past the end
pub none_beyond : {A : Type 0} (xs : List A) (p : ℕ) (x : A) → slice_get xs p ≡ Some x → p ≡ length xs → ⊥
none_beyond [] p x is same = none_is_some x is
none_beyond (y ∷ ys) zero x is same = omega (arith, same)
none_beyond (y ∷ ys) (suc p) x is same = none_beyond ys p x is (omega (arith, same))

-- nor anywhere behind it
pub none_past : {A : Type 0} (xs : List A) (p : ℕ) (x : A) → length xs ≤ p → slice_get xs p ≡ Some x → ⊥
none_past [] p x above is = none_is_some x is
none_past (y ∷ ys) zero x above is = omega (arith, above)
none_past (y ∷ ys) (suc p) x above is = none_past ys p x (omega (arith, above)) is
