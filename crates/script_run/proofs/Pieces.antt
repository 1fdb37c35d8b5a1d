-- Pieces that were read or written one after another.
use Rattle.std.proofs.Common.{◌≡◌, ℕ, List, [], ◌++◌, Option, None, Some, refl, sym, ap, ◌∙◌, append_assoc, append-nil, ◌+◌, ◌-◌, ◌≤◌, length, take, drop, arith}
use Rattle.std.proofs.lemmas.List.{take_all, length-drop}
use Rattle.std.proofs.Math.Seq.{take-add}
use Rattle.driver_link.specs.Streams.{Consumes, Appends}

-- nothing was read
pub Consumes_nil : (left : Option (List ℕ)) → Consumes left left []
Consumes_nil None = refl
Consumes_nil (Some left) = refl

-- a piece and then another were read
pub Consumes_trans : (a b c : Option (List ℕ)) (first second : List ℕ) → Consumes a b first → Consumes b c second → Consumes a c (first ++ second)
Consumes_trans None b c first second p q = none b c second p q
  where
    none : (b c : Option (List ℕ)) (second : List ℕ) → b ≡ None → Consumes b c second → c ≡ None
    none None c second p q = q
    none (Some left) c second p q = cc
Consumes_trans (Some x) None c first second p q = absurd p
Consumes_trans (Some x) (Some y) None first second p q = absurd q
Consumes_trans (Some x) (Some y) (Some z) first second p q = p ∙ ap (λ l. first ++ l) q ∙ sym (append_assoc first second z)

-- nothing was written
pub Appends_nil : (contents : Option (List ℕ)) → Appends contents contents []
Appends_nil None = refl
Appends_nil (Some stood) = ap (λ l. Some l) (sym (append-nil stood))

-- a piece and then another were written
pub Appends_trans : (a b c : Option (List ℕ)) (first second : List ℕ) → Appends a b first → Appends b c second → Appends a c (first ++ second)
Appends_trans None b c first second p q = none b c second p q
  where
    none : (b c : Option (List ℕ)) (second : List ℕ) → b ≡ None → Appends b c second → c ≡ None
    none None c second p q = q
    none (Some stood) c second p q = cc
Appends_trans (Some x) None c first second p q = cc
Appends_trans (Some x) (Some y) c first second p q = some y c p q
  where
    some : (y : List ℕ) (c : Option (List ℕ)) → Some y ≡ Some (x ++ first) → c ≡ Some (y ++ second) → c ≡ Some (x ++ (first ++ second))
    some y c p q = let e : y ≡ x ++ first = cc in q ∙ ap (λ l. Some (l ++ second)) e ∙ ap (λ l. Some l) (append_assoc x first second)

-- the bytes that are left
pub left_whole : (at : ℕ) (bytes : List ℕ) → take (length bytes - at) (drop at bytes) ≡ drop at bytes
left_whole at bytes = take_all (length bytes - at) (drop at bytes) (omega (arith, length-drop at bytes))

-- one more piece of the bytes was written
pub Appends_more : (a b c : Option (List ℕ)) (at count : ℕ) (bytes : List ℕ)
    → Appends a b (take at bytes) → Appends b c (take count (take (length bytes - at) (drop at bytes))) → Appends a c (take (at + count) bytes)
Appends_more a b c at count bytes p q =
    rw (take-add at count bytes) (Appends_trans a b c (take at bytes) (take count (drop at bytes)) p (rw (left_whole at bytes) at q))

-- a piece of what is left ends within the bytes
pub within_left : (at count : ℕ) (bytes : List ℕ) → at ≤ length bytes → count ≤ length (take (length bytes - at) (drop at bytes)) → at + count ≤ length bytes
within_left at count bytes before piece = omega (arith, length-drop at bytes, ap length (left_whole at bytes))
