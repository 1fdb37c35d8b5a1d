-- A `HashMap` and the finite map that contracts see in its place: the keys have the order R and the
-- test `eq`, and the two tie the same keys.
use Rattle.std.proofs.Common.{true, Option, ◌≡◌, ℕ, suc, ◌+◌, Bool, false, cond, ◌||◌, List, [], ◌∷◌, length, Some, is_some, refl, sym, ap, ◌∙◌, add-one, arith}
use Rattle.std.specs.declared.cmp.Ordering.{Ordering}
use Rattle.std.specs.declared.cmp.Ordering.TheVariants.{Less, Equal, Greater}
use Rattle.std.specs.Cmp.{IsTotalOrder, eq_by_cmp_equiv, nat_cmp_total}
use Rattle.std.specs.Ordering.{eq_by_cmp, is_eq, nat_cmp}
use Rattle.std.specs.FinMap as finite
use Rattle.std.specs.FinMap.Entries.{is_some-find}
use Rattle.std.specs.HashMap as hash
use Rattle.std.specs.HashMap.{HashMap}
use Rattle.std.specs.Option.{option_map}
use Rattle.std.specs.List.{AllByRecursion, IsDistinct, list_any}
use Rattle.std.specs.Map.{lookup, keys_of}
use Rattle.std.proofs.lemmas.Map.Keys.{IsDistinct-head, IsDistinct-tail}
use Rattle.bson_lite.specs.Indexed.{insert_each, changed_entries, changed}

-- a key that no key ties with is not found
no_tie : {K : Type 0} (eq : K → K → Bool) (k : K) (ks : List K) → AllByRecursion (λ y. eq k y ≡ false) ks → list_any (eq k) ks ≡ false
no_tie eq k [] none = refl
no_tie eq k (y ∷ ks) none = ap (λ b. b || list_any (eq k) ks) none.0 ∙ no_tie eq k ks none.1

module _ {K X : Type 0} {R : K → K → Ordering} (o : IsTotalOrder R) (eq : K → K → Bool) (ties : (k q : K) → eq k q ≡ eq_by_cmp R k q) where
  -- both find the same value in a list of entries
  pub find-lookup : (es : List (K × X)) (q : K) → finite.find R q es ≡ lookup (eq q) es
  find-lookup [] q = refl
  find-lookup (e ∷ es) q = λ i. cond (sym (ties q e.0) i) (Some e.1) (find-lookup es q i)

  absent_head : (e : K × X) (es : List (K × X)) → IsDistinct eq (keys_of (e ∷ es)) → finite.contains_key (finite.from_entries {R = R} es) e.0 ≡ false
  absent_head e es apart =
      ap is_some (finite.get-from_entries o es e.0) ∙ is_some-find R e.0 es
      ∙ no_tie (eq_by_cmp R) e.0 (keys_of es) (retied e.0 (keys_of es) (IsDistinct-head eq e.0 (keys_of es) apart))
    where
      retied : (k : K) (ks : List K) → AllByRecursion (λ y. eq k y ≡ false) ks → AllByRecursion (λ y. eq_by_cmp R k y ≡ false) ks
      retied k [] none = none
      retied k (y ∷ ks) none = (sym (ties k y) ∙ none.0, retied k ks none.1)

  -- as many as there are entries
  pub len-from_hash_map : (es : List (K × X)) → IsDistinct eq (keys_of es) → finite.len (finite.from_entries {R = R} es) ≡ length es
  len-from_hash_map [] apart = finite.len-empty R X
  len-from_hash_map (e ∷ es) apart =
      finite.len-insert o (finite.from_entries es) e.0 e.1
      ∙ ap (λ b. cond b (finite.len (finite.from_entries {R = R} es)) (finite.len (finite.from_entries {R = R} es) + 1)) (absent_head e es apart)
      ∙ add-one _ ∙ ap suc (len-from_hash_map es (IsDistinct-tail eq e.0 (keys_of es) apart))

module _ {K X S : Type 0} {R : K → K → Ordering} (o : IsTotalOrder R) (eq : K → K → Bool) (ties : (k q : K) → eq k q ≡ eq_by_cmp R k q) where
  pub get-from_hash_map : (m : HashMap K X S) (q : K) → finite.get (finite.from_entries {R = R} m.entries) q ≡ hash.get eq m q
  get-from_hash_map m q = finite.get-from_entries o m.entries q ∙ find-lookup o eq ties m.entries q

  -- a `HashMap` that has one value more
  pub inserted : finite.IsAntisymmetric R → (m n : HashMap K X S) (k : K) (v : X) → hash.Updates eq m n k (Some v)
      → finite.from_entries {R = R} n.entries ≡ finite.insert (finite.from_entries m.entries) k v
  inserted same m n k v updates = finite.same_map o same _ _ (λ q.
      get-from_hash_map n q ∙ updates.0 q
      ∙ ap (λ b. cond b (Some v) (hash.get eq m q)) (ties k q ∙ (eq_by_cmp_equiv o).symm k q)
      ∙ ap (cond (eq_by_cmp R q k) (Some v)) (sym (get-from_hash_map m q))
      ∙ sym (finite.get-insert o (finite.from_entries m.entries) k v q))

option_map-cond : {X Y : Type 0} (f : X → Y) (b : Bool) (v : X) (o : Option X) → cond b (Some (f v)) (option_map f o) ≡ option_map f (cond b (Some v) o)
option_map-cond f true v o = refl
option_map-cond f false v o = refl

find-changed : {X Y : Type 0} (f : X → Y) (es : List (ℕ × X)) (q : ℕ) → finite.find nat_cmp q (changed_entries f es) ≡ option_map f (finite.find nat_cmp q es)
find-changed f [] q = refl
find-changed f (e ∷ es) q =
    ap (cond (eq_by_cmp nat_cmp q e.0) (Some (f e.1))) (find-changed f es q) ∙ option_map-cond f (eq_by_cmp nat_cmp q e.0) e.1 (finite.find nat_cmp q es)

-- the changed value is found at each index
pub get-changed : {X Y : Type 0} (f : X → Y) (m : finite.FinMap nat_cmp X) (q : ℕ) → finite.get (changed f m) q ≡ option_map f (finite.get m q)
get-changed f m q =
    finite.get-from_entries nat_cmp_total (changed_entries f (finite.entries m)) q ∙ find-changed f (finite.entries m) q
    ∙ ap (option_map f) (sym (finite.get-entries m q))

-- nothing is left to put
pub puts_none : {X : Type 0} (m all : finite.FinMap nat_cmp X) (left : List (ℕ × X)) → length left ≡ 0 → insert_each m left ≡ all → m ≡ all
unfolding insert_each
puts_none m all [] none so_far = so_far
puts_none m all (entry ∷ left) none so_far = absurd (omega arith)

-- the same test twice
twice : {A : Type 0} (b : Bool) (x y z : A) → cond b x (cond b y z) ≡ cond b x z
twice true x y z = refl
twice false x y z = refl

-- a value that is there for each key that ties
there : {X : Type 0} (r : Ordering) (v : X) (o : Option X) → (r ≡ Equal → Some v ≡ o) → cond (is_eq r) (Some v) o ≡ o
there Less v o is = refl
there Equal v o is = is refl
there Greater v o is = refl

-- two tests that never both hold, in either order
either_first : {A : Type 0} (a b : Bool) (x y z : A) → (a ≡ true → b ≡ true → ⊥) → cond a x (cond b y z) ≡ cond b y (cond a x z)
either_first true true x y z apart = absurd (apart refl refl)
either_first true false x y z apart = refl
either_first false b x y z apart = refl

-- a test is not both
never_both : (b : Bool) → b ≡ false → b ≡ true → ⊥
never_both true failed passed = cc
never_both false failed passed = cc

module _ {K X : Type 0} {R : K → K → Ordering} (o : IsTotalOrder R) where
  -- the value that was put at a key
  pub get_inserted : (m : finite.FinMap R X) (k : K) (v : X) → finite.get (finite.insert m k v) k ≡ Some v
  get_inserted m k v = finite.get-insert o m k v k ∙ ap (λ b. cond b (Some v) (finite.get m k)) ((eq_by_cmp_equiv o).refl k)

  -- a later value at a key takes the place of an earlier one
  pub insert_again : finite.IsAntisymmetric R → (m : finite.FinMap R X) (k : K) (v w : X)
      → finite.insert (finite.insert m k v) k w ≡ finite.insert m k w
  insert_again same m k v w = finite.same_map o same _ _ (λ q.
      finite.get-insert o (finite.insert m k v) k w q
      ∙ ap (cond (eq_by_cmp R q k) (Some w)) (finite.get-insert o m k v q)
      ∙ twice (eq_by_cmp R q k) _ _ _
      ∙ sym (finite.get-insert o m k w q))

  -- to put a value where it stands changes nothing
  pub insert_there : finite.IsAntisymmetric R → (m : finite.FinMap R X) (k : K) (v : X) → finite.get m k ≡ Some v → finite.insert m k v ≡ m
  insert_there same m k v is = finite.same_map o same _ _ (λ q.
      finite.get-insert o m k v q
      ∙ there (R q k) v (finite.get m q) (λ ties. sym is ∙ finite.get_tied o m q k ties))

  -- values at two keys can be put in either order
  pub insert_swapped : finite.IsAntisymmetric R → (m : finite.FinMap R X) (j k : K) (v w : X) → eq_by_cmp R j k ≡ false
      → finite.insert (finite.insert m j v) k w ≡ finite.insert (finite.insert m k w) j v
  insert_swapped same m j k v w apart = finite.same_map o same _ _ (λ q.
      finite.get-insert o (finite.insert m j v) k w q
      ∙ ap (cond (eq_by_cmp R q k) (Some w)) (finite.get-insert o m j v q)
      ∙ either_first (eq_by_cmp R q k) (eq_by_cmp R q j) (Some w) (Some v) (finite.get m q)
      (λ second first. never_both (eq_by_cmp R j k) apart (sym ((eq_by_cmp_equiv o).congr q j k first) ∙ second))
      ∙ ap (cond (eq_by_cmp R q j) (Some v)) (sym (finite.get-insert o m k w q))
      ∙ sym (finite.get-insert o (finite.insert m k w) j v q))
