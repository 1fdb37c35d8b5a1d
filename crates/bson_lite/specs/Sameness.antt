-- Sameness of stored trees decides equality of values.
use Rattle.std.proofs.Common.{◌≡◌, true, Decides, refl, sym, ap, ◌∙◌}
use Rattle.std.specs.Coded.{Coded}
use Rattle.std.specs.Cmp.{IsPartialEquivalence}
use Rattle.std.proofs.lemmas.Bool.{eqb-true, eq-eqb, and_parts, and_from}
use Rattle.std.proofs.lemmas.Bool.Decides.{same_from_decides}
use base.Stored.{Gv, gnil, gnum, gcons}
use Rattle.bson_lite.specs.Same.{same_trees, same_by}

trees_from : (a b : Gv) → same_trees a b ≡ true → a ≡ b
unfolding same_trees
trees_from gnil gnil e = refl
trees_from gnil (gnum n) e = absurd cc
trees_from gnil (gcons c d) e = absurd cc
trees_from (gnum m) gnil e = absurd cc
trees_from (gnum m) (gnum n) e = ap gnum (eqb-true m n e)
trees_from (gnum m) (gcons c d) e = absurd cc
trees_from (gcons a b) gnil e = absurd cc
trees_from (gcons a b) (gnum n) e = absurd cc
trees_from (gcons a b) (gcons c d) e =
    let parts = and_parts (same_trees a c) (same_trees b d) e in
    ap (λ (x : Gv). gcons x b) (trees_from a c parts.0) ∙ ap (λ (y : Gv). gcons c y) (trees_from b d parts.1)

trees_same : (a : Gv) → same_trees a a ≡ true
unfolding same_trees
trees_same gnil = refl
trees_same (gnum n) = eq-eqb n n refl
trees_same (gcons a b) = and_from (same_trees a a) (same_trees b b) (trees_same a) (trees_same b)

pub same_by-Decides : {A : Type 0} (coded : Coded A) (x y : A) → Decides (same_by coded x y) (x ≡ y)
same_by-Decides coded x y =
    (λ e. coded.inj x y (trees_from (coded.code x) (coded.code y) e), λ e. rw e (trees_same (coded.code y)))

pub same_by-per : {A : Type 0} (coded : Coded A) → IsPartialEquivalence (same_by coded)
same_by-per {A} coded = record {
  symm = λ x y. same_from_decides (same_by coded x y) (same_by coded y x) (same_by-Decides coded x y)
      ((λ e. sym ((same_by-Decides coded y x).0 e)), (λ e. (same_by-Decides coded y x).1 (sym e)));
  trans = λ x y z p q. (same_by-Decides coded x z).1 ((same_by-Decides coded x y).0 p ∙ (same_by-Decides coded y z).0 q);
}
