-- What is found in two maps put together, how entries in memory come to be that map, and the laws of it.
use Rattle.std.proofs.Common.{Option, None, Some, ◌≡◌, ℕ, ◌⊎◌, inl, inr, Bool, true, false, cond, List, [], ◌∷◌, ◌++◌, refl, sym, ap, ◌∙◌}
use Rattle.std.specs.Cmp.{nat_cmp_total}
use Rattle.std.specs.Ordering.{eq_by_cmp, nat_cmp}
use Rattle.std.specs.FinMap as finite
use Rattle.std.specs.Option.{option_or}
use Rattle.bson_lite.specs.Indexed.{IsRising, insert_each}
use Rattle.bson_lite.specs.Unions.{AreDisjoint, union}
use Rattle.bson_lite.proofs.Rising.{first_of, get_each}

or-cond : {X : Type 0} (b : Bool) (v : X) (f o : Option X) → cond b (Some v) (option_or f o) ≡ option_or (cond b (Some v) f) o
or-cond true v f o = refl
or-cond false v f o = refl

first-or : {X : Type 0} (f o : Option X) → first_of f o ≡ option_or f o
first-or None o = refl
first-or (Some v) o = refl

find-append : {X : Type 0} (es fs : List (ℕ × X)) (q : ℕ)
    → finite.find nat_cmp q (es ++ fs) ≡ option_or (finite.find nat_cmp q es) (finite.find nat_cmp q fs)
find-append [] fs q = refl
find-append (e ∷ es) fs q =
    ap (cond (eq_by_cmp nat_cmp q e.0) (Some e.1)) (find-append es fs q)
    ∙ or-cond (eq_by_cmp nat_cmp q e.0) e.1 (finite.find nat_cmp q es) (finite.find nat_cmp q fs)

-- at each index the later map's value, and where it has none the earlier one's
pub get-union : {X : Type 0} (m n : finite.FinMap nat_cmp X) (q : ℕ) → finite.get (union m n) q ≡ option_or (finite.get n q) (finite.get m q)
unfolding union
get-union m n q =
    finite.get-from_entries nat_cmp_total (finite.entries n ++ finite.entries m) q
    ∙ find-append (finite.entries n) (finite.entries m) q
    ∙ (λ i. option_or (sym (finite.get-entries n q) i) (sym (finite.get-entries m q) i))

-- two maps that answer alike at each index are one
alike : {X : Type 0} (m n : finite.FinMap nat_cmp X) → ((q : ℕ) → finite.get m q ≡ finite.get n q) → m ≡ n
alike m n is = finite.same_map nat_cmp_total finite.nat_cmp-IsAntisymmetric m n is

-- the entries of a map in order, put in one after another, are that map put in
pub puts_all : {X : Type 0} (m more : finite.FinMap nat_cmp X) (es : List (ℕ × X)) → IsRising es → finite.from_sorted es ≡ more
    → insert_each m es ≡ union m more
puts_all m more es rising is = alike _ _ (λ q.
    get_each m es rising.rises q
    ∙ first-or (finite.find nat_cmp q es) (finite.get m q)
    ∙ ap (λ found. option_or found (finite.get m q)) (sym (finite.get-from_sorted nat_cmp es q rising.rises) ∙ ap (λ map. finite.get map q) is)
    ∙ sym (get-union m more q))

-- the same where room was made first, which changes no entry
pub puts_with_room : {X : Type 0} (m more all : finite.FinMap nat_cmp X) (was roomy es : List (ℕ × X)) → IsRising es
    → roomy ≡ was → finite.from_sorted was ≡ m → finite.from_sorted es ≡ more
    → all ≡ insert_each (finite.from_sorted roomy) es → all ≡ union m more
puts_with_room m more all was roomy es rising same is more_is puts =
    puts ∙ ap (λ map. insert_each map es) (ap (λ (entries : List (ℕ × _)). finite.from_sorted {R = nat_cmp} entries) same ∙ is)
    ∙ puts_all m more es rising more_is

-- ---- a choice of two answers
or_none : {X : Type 0} (a : Option X) → option_or a None ≡ a
or_none None = refl
or_none (Some x) = refl

or_assoc : {X : Type 0} (a b c : Option X) → option_or a (option_or b c) ≡ option_or (option_or a b) c
or_assoc None b c = refl
or_assoc (Some x) b c = refl

or_swap : {X : Type 0} (a b : Option X) → (a ≡ None) ⊎ (b ≡ None) → option_or b a ≡ option_or a b
or_swap None None one = refl
or_swap None (Some y) one = refl
or_swap (Some x) None one = refl
or_swap (Some x) (Some y) (inl none) = absurd cc
or_swap (Some x) (Some y) (inr none) = absurd cc

-- ---- the laws of a union
pub union_assoc : {X : Type 0} (l m n : finite.FinMap nat_cmp X) → union (union l m) n ≡ union l (union m n)
union_assoc l m n = alike _ _ (λ q.
    get-union (union l m) n q
    ∙ ap (option_or (finite.get n q)) (get-union l m q)
    ∙ or_assoc (finite.get n q) (finite.get m q) (finite.get l q)
    ∙ ap (λ found. option_or found (finite.get l q)) (sym (get-union m n q))
    ∙ sym (get-union l (union m n) q))

pub union_comm : {X : Type 0} (m n : finite.FinMap nat_cmp X) → AreDisjoint m n → union m n ≡ union n m
union_comm m n apart = alike _ _ (λ q.
    get-union m n q ∙ or_swap (finite.get m q) (finite.get n q) (apart q) ∙ sym (get-union n m q))

pub union_empty : {X : Type 0} (m : finite.FinMap nat_cmp X) → union m finite.empty ≡ m
union_empty m = alike _ _ (λ q.
    get-union m finite.empty q ∙ ap (λ found. option_or found (finite.get m q)) (finite.get-empty nat_cmp q))

pub empty_union : {X : Type 0} (m : finite.FinMap nat_cmp X) → union finite.empty m ≡ m
empty_union m = alike _ _ (λ q.
    get-union finite.empty m q ∙ ap (option_or (finite.get m q)) (finite.get-empty nat_cmp q) ∙ or_none (finite.get m q))

-- one more value in the later map is one more in both
pub union_insert : {X : Type 0} (m n : finite.FinMap nat_cmp X) (k : ℕ) (v : X) → union m (finite.insert n k v) ≡ finite.insert (union m n) k v
union_insert m n k v = alike _ _ (λ q.
    get-union m (finite.insert n k v) q
    ∙ ap (λ found. option_or found (finite.get m q)) (finite.get-insert nat_cmp_total n k v q)
    ∙ sym (or-cond (eq_by_cmp nat_cmp q k) v (finite.get n q) (finite.get m q))
    ∙ ap (cond (eq_by_cmp nat_cmp q k) (Some v)) (sym (get-union m n q))
    ∙ sym (finite.get-insert nat_cmp_total (union m n) k v q))
