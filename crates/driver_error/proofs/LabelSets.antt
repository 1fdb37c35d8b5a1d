-- Finite sets of texts.
use Rattle.std.proofs.Common.{◌≡◌, refl, ap, ◌∙◌, ℕ, Bool, true, false, cond, ◌||◌, List, Option, None, Some}
use Rattle.std.specs.Prelude.{is_some}
use Rattle.std.specs.FinMap as finite
use Rattle.std.specs.Ordering.{nat_cmp, eq_by_cmp}
use Rattle.std.specs.Cmp.Lexicographic.{slice_cmp}
use Rattle.std.specs.Str.{bytes_eq}
use Rattle.std.proofs.lemmas.Cmp.{nat_list_cmp_total}
use Rattle.std.proofs.lemmas.Map.Text.{is_eq-slice_cmp}
use Rattle.driver_error.specs.LabelTexts.{LabelSet, no_labels, has_label, with_label}

is_some-cond : (b : Bool) (x : Option (Unit {0})) → is_some (cond b (Some tt) x) ≡ (b || is_some x)
is_some-cond true x = refl
is_some-cond false x = refl

-- no label is in the empty set
pub has_label-none : (q : List ℕ) → has_label no_labels q ≡ false
has_label-none q = ap is_some (finite.get-empty (slice_cmp nat_cmp) q)

-- a set with one more has that one and the others
pub has_label-with : (labels : LabelSet) (label q : List ℕ) → has_label (with_label labels label) q ≡ (bytes_eq q label || has_label labels q)
has_label-with labels label q =
    ap is_some (finite.get-insert nat_list_cmp_total labels label tt q)
    ∙ is_some-cond (eq_by_cmp (slice_cmp nat_cmp) q label) _
    ∙ ap (λ b. b || has_label labels q) (is_eq-slice_cmp q label)

some_of : (x y : Option (Unit {0})) → is_some x ≡ is_some y → x ≡ y
some_of None None e = refl
some_of None (Some b) e = cc
some_of (Some a) None e = cc
some_of (Some a) (Some b) e = refl

-- sets with the same labels are equal
pub same_labels : (s t : LabelSet) → ((q : List ℕ) → has_label s q ≡ has_label t q) → s ≡ t
same_labels s t is =
    finite.same_map nat_list_cmp_total (finite.slice_cmp-IsAntisymmetric finite.nat_cmp-IsAntisymmetric) s t
    (λ q. some_of (finite.get {R = slice_cmp nat_cmp} s q) (finite.get {R = slice_cmp nat_cmp} t q) (is q))
