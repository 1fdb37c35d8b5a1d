-- What is read was spelled so: the parts of values, and values that hold no others.
use Rattle.std.proofs.Common.{◌≡◌, inl, inr, if◌then◌else◌, ℕ, suc, ℤ, ◌+◌, ◌-◌, ◌≤◌, ◌<◌, ◌^◌, Bool, true, false, ◌||◌, ◌&&◌, ltb, eqb, cond, List, [], ◌∷◌, ◌++◌, length, take, drop, get_or, Option, Some, None, refl, sym, ap, subst, ◌∙◌, append_assoc, arith}
use Rattle.std.specs.Prelude.{position}
use Rattle.std.specs.Int.{Width, w32, w64, byte_len, to_le_bytes, from_le_bytes, cast_unsigned, cast_signed}
use Rattle.std.specs.Str.{is_utf8, bytes_eq}
use Rattle.std.proofs.lemmas.Bool.{cases_lt, le-ltb, ltb-false, lt-ltb, eqb-true, eqb-false, eq-eqb, or_from, or_parts, and_from}
use Rattle.std.proofs.lemmas.Int.{of_z-to_z}
use Rattle.std.proofs.lemmas.List.{take-append-drop, length-take, drop_more, drop-drop, get_or-take, get_or_default}
use Rattle.std.proofs.lemmas.List.Folds.{list_any_none}
use Rattle.std.proofs.lemmas.List.Quantifiers.{position-Some}
use denote.Hole.Carrier.{roll}
use Rattle.bson_lite.specs.declared.bson.Bson.{Bson, map-Bson, roll-Bson}
use Rattle.bson_lite.specs.declared.bson.Bson.TheOpen.{Bson-F}
use Rattle.bson_lite.specs.declared.bson.Binary.{Binary}
use Rattle.bson_lite.specs.declared.bson.Regex.{Regex}
use Rattle.bson_lite.specs.declared.bson.Timestamp.{Timestamp}
use Rattle.bson_lite.specs.Parts.{made, some_at, byte_at, number_of, number_at, utf8_of, zero_ended, text_at, binary_at, regex_at, stamp_at, flag_at, leaf_at, more_at}
use Rattle.bson_lite.specs.Ranges.{fits}
use Rattle.bson_lite.specs.Spelling.{four, eight, counted, depth_step, depth, holds_zero}
use Rattle.bson_lite.proofs.Numbers.{same-bytes_eq}
use Rattle.bson_lite.proofs.Again.{laid, zero_laid, valid_laid}
use Rattle.bson_reading.proofs.Steps.{some_is, then_some, by_some, by_made, chosen, unless, when, by_utf8}

-- ---- bytes and numbers

pub some_took : (count : ℕ) (bytes : List ℕ) (x : List ℕ × List ℕ) → some_at count bytes ≡ Some x → (bytes ≡ x.0 ++ x.1) × (length x.0 ≡ count)
unfolding some_at
some_took count bytes x e =
    unless (ltb (length bytes) count) (Some (take count bytes, drop count bytes)) x e (λ long is.
    let le : count ≤ length bytes = ltb-false (length bytes) count long in
    subst (λ (y : List ℕ × List ℕ). (bytes ≡ y.0 ++ y.1) × (length y.0 ≡ count)) (some_is (take count bytes, drop count bytes) x is)
    (sym (take-append-drop count bytes), omega (arith, length-take count bytes)))

pub byte_took : (bytes : List ℕ) (x : ℕ × List ℕ) → byte_at bytes ≡ Some x → bytes ≡ x.0 ∷ x.1
unfolding byte_at
byte_took [] x e = absurd cc
byte_took (byte ∷ bytes) x e = subst (λ (y : ℕ × List ℕ). ◌≡◌ {A = List ℕ} (byte ∷ bytes) (y.0 ∷ y.1)) (some_is (byte, bytes) x e) refl

-- a number was spelled, and is in its range
pub record Number (w : Width) (bytes : List ℕ) (x : ℕ × List ℕ) : Type 0 where
  pub parts : bytes ≡ to_le_bytes w x.0 ++ x.1
  pub same : x.0 ≡ from_le_bytes w (to_le_bytes w x.0)

number_of-took : (w : Width) (bytes : List ℕ) (n : ℕ) → number_of w bytes ≡ Some n → (bytes ≡ to_le_bytes w n) × (n ≡ from_le_bytes w bytes)
unfolding number_of
number_of-took w bytes n e =
    when (bytes_eq (to_le_bytes w (from_le_bytes w bytes)) bytes) (Some (from_le_bytes w bytes)) n e (λ same is.
    let n-is = some_is (from_le_bytes w bytes) n is in
    (rw (← n-is) (sym (same-bytes_eq (to_le_bytes w (from_le_bytes w bytes)) bytes same)), sym n-is))

pub number_took : (w : Width) (bytes : List ℕ) (x : ℕ × List ℕ) → number_at w bytes ≡ Some x → Number w bytes x
unfolding number_at
number_took w bytes x e =
    by_some (some_at (byte_len w) bytes) (λ part. then_some (number_of w part.0) (λ n. Some (n, part.1))) x e (λ part p rest.
    by_some (number_of w part.0) (λ n. Some (n, part.1)) x rest (λ n q is.
    let t = some_took (byte_len w) bytes part p in
    let f = number_of-took w part.0 n q in
    subst (Number w bytes) (some_is (n, part.1) x is) (record { parts = t.0 ∙ ap (λ (b : List ℕ). b ++ part.1) f.0; same = f.1 ∙ ap (from_le_bytes w) f.0 })))

four_below : (n : ℕ) → from_le_bytes w32 (to_le_bytes w32 n) < 2 ^ 32
four_below n = omega arith

eight_below : (n : ℕ) → from_le_bytes w64 (to_le_bytes w64 n) < 2 ^ 64
eight_below n = omega arith

pub below_32 : (bytes : List ℕ) (x : ℕ × List ℕ) → Number w32 bytes x → x.0 < 2 ^ 32
below_32 bytes x t = rw t.same (four_below x.0)

pub below_64 : (bytes : List ℕ) (x : ℕ × List ℕ) → Number w64 bytes x → x.0 < 2 ^ 64
below_64 bytes x t = rw t.same (eight_below x.0)

-- ---- texts

pub record ZeroEnded (bytes : List ℕ) (x : List ℕ × List ℕ) : Type 0 where
  pub parts : bytes ≡ x.0 ++ 0 ∷ x.1
  pub zero_free : holds_zero x.0 ≡ false
  pub utf8 : is_utf8 x.0 ≡ true

zero_place : (bytes : List ℕ) (place : ℕ) → position (λ byte. eqb byte 0) bytes ≡ Some place → (bytes ≡ take place bytes ++ 0 ∷ drop 1 (drop place bytes)) × (holds_zero (take place bytes) ≡ false)
zero_place bytes place e =
    let p = position-Some (λ byte. eqb byte 0) bytes place 1 e in
    let byte : get_or bytes place 1 ≡ 0 = eqb-true (get_or bytes place 1) 0 p.1 in
    let later : drop 1 (drop place bytes) ≡ drop (place + 1) bytes = drop-drop 1 place bytes in
    let tail : drop place bytes ≡ 0 ∷ drop 1 (drop place bytes) = drop_more bytes place 1 p.0 ∙ rw (byte, later) refl in (
      sym (take-append-drop place bytes) ∙ ap (λ (t : List ℕ). take place bytes ++ t) tail,
      list_any_none (λ byte. eqb byte 0) (take place bytes) (λ k d lt.
          let inside : k < place = omega (arith, length-take place bytes) in
          let all : k < length bytes = omega (arith, length-take place bytes) in
          rw (get_or-take place bytes k d inside) (free_at bytes k d all (p.2 k inside))),
    )
  where
    free_at : (bytes : List ℕ) (k d : ℕ) → k < length bytes → eqb (get_or bytes k 1) 0 ≡ false → eqb (get_or bytes k d) 0 ≡ false
    free_at bytes k d lt e = rw (get_or_default bytes k d 1 lt) e

pub zero_took : (bytes : List ℕ) (x : List ℕ × List ℕ) → zero_ended bytes ≡ Some x → ZeroEnded bytes x
unfolding zero_ended
zero_took bytes x e =
    by_some (position (λ byte. eqb byte 0) bytes) (λ place. then_some (utf8_of (take place bytes)) (λ text. Some (text, drop 1 (drop place bytes)))) x e (λ place p rest.
    by_utf8 (take place bytes) (λ text. Some (text, drop 1 (drop place bytes))) x rest (λ valid is.
    let z = zero_place bytes place p in
    subst (ZeroEnded bytes) (some_is (take place bytes, drop 1 (drop place bytes)) x is) (record { parts = z.0; zero_free = z.1; utf8 = valid })))

pub regrouped : (head text rest : List ℕ) (last : ℕ) → (head ++ (text ++ last ∷ [])) ++ rest ≡ head ++ (text ++ last ∷ rest)
regrouped head text rest last = append_assoc head (text ++ last ∷ []) rest ∙ ap (λ (t : List ℕ). head ++ t) (append_assoc text (last ∷ []) rest)

pub text_took : (bytes : List ℕ) (x : List ℕ × List ℕ) → text_at bytes ≡ Some x → (bytes ≡ counted x.0 ++ x.1) × (is_utf8 x.0 ≡ true)
unfolding text_at
text_took bytes x e =
    by_some (number_at w32 bytes) (λ count. cond (eqb count.0 0 || ltb 2147483647 count.0) None (then_some (some_at (count.0 - 1) count.1) (λ part. then_some (byte_at part.1) (λ last. cond (eqb last.0 0) (then_some (utf8_of part.0) (λ text. Some (text, last.1))) None)))) x e (λ count c rest.
    unless (eqb count.0 0 || ltb 2147483647 count.0) (then_some (some_at (count.0 - 1) count.1) (λ part. then_some (byte_at part.1) (λ last. cond (eqb last.0 0) (then_some (utf8_of part.0) (λ text. Some (text, last.1))) None))) x rest (λ test more.
    by_some (some_at (count.0 - 1) count.1) (λ part. then_some (byte_at part.1) (λ last. cond (eqb last.0 0) (then_some (utf8_of part.0) (λ text. Some (text, last.1))) None)) x more (λ part p tail.
    by_some (byte_at part.1) (λ last. cond (eqb last.0 0) (then_some (utf8_of part.0) (λ text. Some (text, last.1))) None) x tail (λ last l end.
    when (eqb last.0 0) (then_some (utf8_of part.0) (λ text. Some (text, last.1))) x end (λ zero_last fin.
    by_utf8 part.0 (λ text. Some (text, last.1)) x fin (λ valid is.
    let n = number_took w32 bytes count c in
    let s = some_took (count.0 - 1) count.1 part p in
    let b : part.1 ≡ 0 ∷ last.1 = byte_took part.1 last l ∙ ap (λ (z : ℕ). z ∷ last.1) (eqb-true last.0 0 zero_last) in
    let tests = or_parts (eqb count.0 0) (ltb 2147483647 count.0) test in
    let some_count : count.0 ≡ 0 → ⊥ = eqb-false count.0 0 tests.0 in
    let len : count.0 ≡ length part.0 + 1 = omega (arith, some_count, s.1) in
    let whole : bytes ≡ four count.0 ++ (part.0 ++ 0 ∷ last.1) = n.parts ∙ ap (λ (t : List ℕ). four count.0 ++ t) (s.0 ∙ ap (λ (t : List ℕ). part.0 ++ t) b) in
    let spelt : bytes ≡ counted part.0 ++ last.1 = whole ∙ ap (λ (k : ℕ). four k ++ (part.0 ++ 0 ∷ last.1)) len ∙ sym (regrouped (four (length part.0 + 1)) part.0 last.1 0) in
    subst (λ (y : List ℕ × List ℕ). (bytes ≡ counted y.0 ++ y.1) × (is_utf8 y.0 ≡ true)) (some_is (part.0, last.1) x is) (spelt, valid)))))))

pub binary_took : (bytes : List ℕ) (x : Binary × List ℕ) → binary_at bytes ≡ Some x → bytes ≡ (four (length x.0.bytes) ++ x.0.subtype ∷ x.0.bytes) ++ x.1
unfolding binary_at
binary_took bytes x e =
    by_some (number_at w32 bytes) (λ count. cond (ltb 2147483647 count.0) None (then_some (byte_at count.1) (λ subtype. then_some (some_at count.0 subtype.1) (λ part. Some (record { subtype = subtype.0; bytes = part.0 }, part.1))))) x e (λ count c rest.
    unless (ltb 2147483647 count.0) (then_some (byte_at count.1) (λ subtype. then_some (some_at count.0 subtype.1) (λ part. Some (record { subtype = subtype.0; bytes = part.0 }, part.1)))) x rest (λ few more.
    by_some (byte_at count.1) (λ subtype. then_some (some_at count.0 subtype.1) (λ part. Some (record { subtype = subtype.0; bytes = part.0 }, part.1))) x more (λ subtype b tail.
    by_some (some_at count.0 subtype.1) (λ part. Some (record { subtype = subtype.0; bytes = part.0 }, part.1)) x tail (λ part p is.
    let n = number_took w32 bytes count c in
    let s = some_took count.0 subtype.1 part p in
    let whole : bytes ≡ four count.0 ++ subtype.0 ∷ (part.0 ++ part.1) = n.parts ∙ ap (λ (t : List ℕ). four count.0 ++ t) (byte_took count.1 subtype b ∙ ap (λ (t : List ℕ). subtype.0 ∷ t) s.0) in
    let spelt : bytes ≡ (four (length part.0) ++ subtype.0 ∷ part.0) ++ part.1 =
    whole ∙ ap (λ (k : ℕ). four k ++ subtype.0 ∷ (part.0 ++ part.1)) (sym s.1) ∙ sym (append_assoc (four (length part.0)) (subtype.0 ∷ part.0) part.1) in
    subst (λ (y : Binary × List ℕ). bytes ≡ (four (length y.0.bytes) ++ y.0.subtype ∷ y.0.bytes) ++ y.1) (some_is (record { subtype = subtype.0; bytes = part.0 }, part.1) x is) spelt))))

pub record RegexTook (bytes : List ℕ) (x : Regex × List ℕ) : Type 0 where
  pub parts : bytes ≡ (x.0.pattern ++ 0 ∷ (x.0.options ++ 0 ∷ [])) ++ x.1
  pub pattern_free : holds_zero x.0.pattern ≡ false
  pub options_free : holds_zero x.0.options ≡ false
  pub pattern_utf8 : is_utf8 x.0.pattern ≡ true
  pub options_utf8 : is_utf8 x.0.options ≡ true

pub regex_took : (bytes : List ℕ) (x : Regex × List ℕ) → regex_at bytes ≡ Some x → RegexTook bytes x
unfolding regex_at
regex_took bytes x e =
    by_some (zero_ended bytes) (λ pattern. then_some (zero_ended pattern.1) (λ options. Some (record { pattern = pattern.0; options = options.0 }, options.1))) x e (λ pattern p rest.
    by_some (zero_ended pattern.1) (λ options. Some (record { pattern = pattern.0; options = options.0 }, options.1)) x rest (λ options o is.
    let first = zero_took bytes pattern p in
    let second = zero_took pattern.1 options o in
    let spelt : bytes ≡ (pattern.0 ++ 0 ∷ (options.0 ++ 0 ∷ [])) ++ options.1 =
    first.parts ∙ ap (λ (t : List ℕ). pattern.0 ++ 0 ∷ t) (second.parts ∙ sym (append_assoc options.0 (0 ∷ []) options.1)) ∙ sym (append_assoc pattern.0 (0 ∷ (options.0 ++ 0 ∷ [])) options.1) in
    subst (RegexTook bytes) (some_is (record { pattern = pattern.0; options = options.0 }, options.1) x is) (record {
      parts = spelt;
      pattern_free = first.zero_free;
      options_free = second.zero_free;
      pattern_utf8 = first.utf8;
      options_utf8 = second.utf8;
    })))

pub record StampTook (bytes : List ℕ) (x : Timestamp × List ℕ) : Type 0 where
  pub parts : bytes ≡ (four x.0.increment ++ four x.0.time) ++ x.1
  pub in_range : (ltb x.0.time 4294967296 && ltb x.0.increment 4294967296) ≡ true

pub stamp_took : (bytes : List ℕ) (x : Timestamp × List ℕ) → stamp_at bytes ≡ Some x → StampTook bytes x
unfolding stamp_at
stamp_took bytes x e =
    by_some (number_at w32 bytes) (λ increment. then_some (number_at w32 increment.1) (λ time. Some (record { time = time.0; increment = increment.0 }, time.1))) x e (λ increment i rest.
    by_some (number_at w32 increment.1) (λ time. Some (record { time = time.0; increment = increment.0 }, time.1)) x rest (λ time t is.
    let first = number_took w32 bytes increment i in
    let second = number_took w32 increment.1 time t in
    let spelt : bytes ≡ (four increment.0 ++ four time.0) ++ time.1 =
    first.parts ∙ ap (λ (b : List ℕ). four increment.0 ++ b) second.parts ∙ sym (append_assoc (four increment.0) (four time.0) time.1) in
    subst (StampTook bytes) (some_is (record { time = time.0; increment = increment.0 }, time.1) x is) (record {
      parts = spelt;
      in_range = and_from (ltb time.0 4294967296) (ltb increment.0 4294967296) (lt-ltb time.0 4294967296 (below_32 increment.1 time second)) (lt-ltb increment.0 4294967296 (below_32 bytes increment first));
    })))

pub flag_took : (bytes : List ℕ) (x : Bool × List ℕ) → flag_at bytes ≡ Some x → bytes ≡ (if x.0 then 1 else 0) ∷ x.1
unfolding flag_at
flag_took bytes x e =
    by_some (byte_at bytes) (λ byte. cond (eqb byte.0 0) (Some (false, byte.1)) (cond (eqb byte.0 1) (Some (true, byte.1)) None)) x e (λ byte b rest.
    let from : bytes ≡ byte.0 ∷ byte.1 = byte_took bytes byte b in
    chosen (eqb byte.0 0) (Some (false, byte.1)) (cond (eqb byte.0 1) (Some (true, byte.1)) None) (Some x) rest
    (λ zero is. subst (λ (y : Bool × List ℕ). bytes ≡ (if y.0 then 1 else 0) ∷ y.1) (some_is (false, byte.1) x is) (from ∙ ap (λ (k : ℕ). k ∷ byte.1) (eqb-true byte.0 0 zero)))
    (λ _ other. when (eqb byte.0 1) (Some (true, byte.1)) x other (λ one is.
    subst (λ (y : Bool × List ℕ). bytes ≡ (if y.0 then 1 else 0) ∷ y.1) (some_is (true, byte.1) x is) (from ∙ ap (λ (k : ℕ). k ∷ byte.1) (eqb-true byte.0 1 one)))))

-- ---- numbers with a sign

signed_fits_32 : (n : ℕ) → n < 2 ^ 32 → fits 0x8000_0000 (cast_signed w32 n) ≡ true
signed_fits_32 n h =
    elim (cases_lt n (2 ^ 31)) [
      | inl low ↦ rw (lt-ltb n (2 ^ 31) low) (lt-ltb n 0x8000_0000 (omega arith))
      | inr high ↦ rw (le-ltb n (2 ^ 31) high) (lt-ltb (2 ^ 32 - suc n) 0x8000_0000 (omega arith))
    ]

signed_fits_64 : (n : ℕ) → n < 2 ^ 64 → fits 0x8000_0000_0000_0000 (cast_signed w64 n) ≡ true
signed_fits_64 n h =
    elim (cases_lt n (2 ^ 63)) [
      | inl low ↦ rw (lt-ltb n (2 ^ 63) low) (lt-ltb n 0x8000_0000_0000_0000 (omega arith))
      | inr high ↦ rw (le-ltb n (2 ^ 63) high) (lt-ltb (2 ^ 64 - suc n) 0x8000_0000_0000_0000 (omega arith))
    ]

-- ---- values that hold no others

-- a value of this type, with its spelling in front, is made of a layer that holds no other value
pub record LeafTook (kind : ℕ) (bytes : List ℕ) (x : Bson × List ℕ) : Type 0 where
  pub layer : Bson-F Bson
  pub made_of : x.0 ≡ roll-Bson layer
  pub typed : (laid layer).0 ≡ kind
  pub parts : bytes ≡ (laid layer).1 ++ x.1
  pub flat : depth_step (map-Bson Bson ℕ depth layer) ≡ 0
  pub zero_free : zero_laid layer ≡ false
  pub well_formed : valid_laid layer ≡ true

-- a value that a part was made into
leaf_from : {A : Type 0} (make : A → Bson-F Bson) (kind type : ℕ) (bytes : List ℕ) (o : Option (A × List ℕ)) (x : Bson × List ℕ) → eqb kind type ≡ true → made (λ a. roll-Bson (make a)) o ≡ Some x
    → ((a : A × List ℕ) → o ≡ Some a → LeafTook type bytes (roll-Bson (make a.0), a.1)) → LeafTook kind bytes x
leaf_from make kind type bytes o x k e took =
    by_made (λ a. roll-Bson (make a)) o x e (λ a part is.
    subst (λ (y : Bson × List ℕ). LeafTook kind bytes y) is (subst (λ (t : ℕ). LeafTook t bytes (roll-Bson (make a.0), a.1)) (sym (eqb-true kind type k)) (took a part)))

-- a value that takes no bytes
leaf_bare : (layer : Bson-F Bson) (kind type : ℕ) (bytes : List ℕ) (x : Bson × List ℕ) → eqb kind type ≡ true → ◌≡◌ {A = Option (Bson × List ℕ)} (Some (roll-Bson layer, bytes)) (Some x)
    → LeafTook type bytes (roll-Bson layer, bytes) → LeafTook kind bytes x
leaf_bare layer kind type bytes x k e took =
    subst (λ (y : Bson × List ℕ). LeafTook kind bytes y) (some_is (roll-Bson layer, bytes) x e) (subst (λ (t : ℕ). LeafTook t bytes (roll-Bson layer, bytes)) (sym (eqb-true kind type k)) took)

text_leaf : (make : List ℕ → Bson-F Bson) (kind type : ℕ) (bytes : List ℕ) (x : Bson × List ℕ) → eqb kind type ≡ true → made (λ a. roll-Bson (make a)) (text_at bytes) ≡ Some x
    → ((text rest : List ℕ) → bytes ≡ counted text ++ rest → is_utf8 text ≡ true → LeafTook type bytes (roll-Bson (make text), rest)) → LeafTook kind bytes x
text_leaf make kind type bytes x k e took =
    leaf_from make kind type bytes (text_at bytes) x k e (λ a part. let t = text_took bytes a part in took a.0 a.1 t.0 t.1)

four_leaf : (make : ℤ → Bson-F Bson) (kind type : ℕ) (bytes : List ℕ) (x : Bson × List ℕ) → eqb kind type ≡ true → made (λ n. roll-Bson (make (cast_signed w32 n))) (number_at w32 bytes) ≡ Some x
    → ((z : ℤ) (rest : List ℕ) → bytes ≡ four (cast_unsigned w32 z) ++ rest → fits 0x8000_0000 z ≡ true → LeafTook type bytes (roll-Bson (make z), rest)) → LeafTook kind bytes x
four_leaf make kind type bytes x k e took =
    leaf_from (λ n. make (cast_signed w32 n)) kind type bytes (number_at w32 bytes) x k e (λ a part.
    let n = number_took w32 bytes a part in
    let lt : a.0 < 2 ^ 32 = below_32 bytes a n in
    took (cast_signed w32 a.0) a.1 (n.parts ∙ ap (λ (m : ℕ). four m ++ a.1) (sym (of_z-to_z w32 a.0 lt))) (signed_fits_32 a.0 lt))

eight_leaf : (make : ℤ → Bson-F Bson) (kind type : ℕ) (bytes : List ℕ) (x : Bson × List ℕ) → eqb kind type ≡ true → made (λ n. roll-Bson (make (cast_signed w64 n))) (number_at w64 bytes) ≡ Some x
    → ((z : ℤ) (rest : List ℕ) → bytes ≡ eight (cast_unsigned w64 z) ++ rest → fits 0x8000_0000_0000_0000 z ≡ true → LeafTook type bytes (roll-Bson (make z), rest)) → LeafTook kind bytes x
eight_leaf make kind type bytes x k e took =
    leaf_from (λ n. make (cast_signed w64 n)) kind type bytes (number_at w64 bytes) x k e (λ a part.
    let n = number_took w64 bytes a part in
    let lt : a.0 < 2 ^ 64 = below_64 bytes a n in
    took (cast_signed w64 a.0) a.1 (n.parts ∙ ap (λ (m : ℕ). eight m ++ a.1) (sym (of_z-to_z w64 a.0 lt))) (signed_fits_64 a.0 lt))

more_took : (kind : ℕ) (bytes : List ℕ) (x : Bson × List ℕ) → more_at kind bytes ≡ Some x → LeafTook kind bytes x
unfolding more_at roll-Bson roll
more_took kind bytes x e =
    chosen (eqb kind 11) _ _ _ e (λ k e1. leaf_from Bson-F.RegularExpression kind 11 bytes (regex_at bytes) x k e1 (λ a part.
    let t = regex_took bytes a part in
    record {
      layer = Bson-F.RegularExpression a.0;
      made_of = refl;
      typed = refl;
      parts = t.parts;
      flat = refl;
      zero_free = or_from (holds_zero a.0.pattern) (holds_zero a.0.options) t.pattern_free t.options_free;
      well_formed = and_from (is_utf8 a.0.pattern) (is_utf8 a.0.options) t.pattern_utf8 t.options_utf8;
    })) (λ _ e.
    chosen (eqb kind 13) _ _ _ e (λ k e1. text_leaf Bson-F.JavaScriptCode kind 13 bytes x k e1 (λ text rest p u. record { layer = Bson-F.JavaScriptCode text; made_of = refl; typed = refl; parts = p; flat = refl; zero_free = refl; well_formed = u })) (λ _ e.
    chosen (eqb kind 14) _ _ _ e (λ k e1. text_leaf Bson-F.Symbol kind 14 bytes x k e1 (λ text rest p u. record { layer = Bson-F.Symbol text; made_of = refl; typed = refl; parts = p; flat = refl; zero_free = refl; well_formed = u })) (λ _ e.
    chosen (eqb kind 16) _ _ _ e (λ k e1. four_leaf Bson-F.Int32 kind 16 bytes x k e1 (λ z rest p f. record { layer = Bson-F.Int32 z; made_of = refl; typed = refl; parts = p; flat = refl; zero_free = refl; well_formed = f })) (λ _ e.
    chosen (eqb kind 17) _ _ _ e (λ k e1. leaf_from Bson-F.Timestamp kind 17 bytes (stamp_at bytes) x k e1 (λ a part.
    let t = stamp_took bytes a part in
    record { layer = Bson-F.Timestamp a.0; made_of = refl; typed = refl; parts = t.parts; flat = refl; zero_free = refl; well_formed = t.in_range })) (λ _ e.
    chosen (eqb kind 18) _ _ _ e (λ k e1. eight_leaf Bson-F.Int64 kind 18 bytes x k e1 (λ z rest p f. record { layer = Bson-F.Int64 z; made_of = refl; typed = refl; parts = p; flat = refl; zero_free = refl; well_formed = f })) (λ _ e.
    chosen (eqb kind 19) _ _ _ e (λ k e1. leaf_from Bson-F.Decimal128 kind 19 bytes (some_at 16 bytes) x k e1 (λ a part.
    let t = some_took 16 bytes a part in
    record { layer = Bson-F.Decimal128 a.0; made_of = refl; typed = refl; parts = t.0; flat = refl; zero_free = refl; well_formed = eq-eqb (length a.0) 16 t.1 })) (λ _ e.
    chosen (eqb kind 255) _ _ _ e (λ k e1. leaf_bare Bson-F.MinKey kind 255 bytes x k e1 (record { layer = Bson-F.MinKey; made_of = refl; typed = refl; parts = refl; flat = refl; zero_free = refl; well_formed = refl })) (λ _ e.
    chosen (eqb kind 127) _ _ _ e (λ k e1. leaf_bare Bson-F.MaxKey kind 127 bytes x k e1 (record { layer = Bson-F.MaxKey; made_of = refl; typed = refl; parts = refl; flat = refl; zero_free = refl; well_formed = refl }))
    (λ _ e. absurd cc)))))))))

pub leaf_took : (kind : ℕ) (bytes : List ℕ) (x : Bson × List ℕ) → leaf_at kind bytes ≡ Some x → LeafTook kind bytes x
unfolding leaf_at roll-Bson roll
leaf_took kind bytes x e =
    chosen (eqb kind 1) _ _ _ e (λ k e1. leaf_from Bson-F.Double kind 1 bytes (some_at 8 bytes) x k e1 (λ a part.
    let t = some_took 8 bytes a part in
    record { layer = Bson-F.Double a.0; made_of = refl; typed = refl; parts = t.0; flat = refl; zero_free = refl; well_formed = eq-eqb (length a.0) 8 t.1 })) (λ _ e.
    chosen (eqb kind 2) _ _ _ e (λ k e1. text_leaf Bson-F.String kind 2 bytes x k e1 (λ text rest p u. record { layer = Bson-F.String text; made_of = refl; typed = refl; parts = p; flat = refl; zero_free = refl; well_formed = u })) (λ _ e.
    chosen (eqb kind 5) _ _ _ e (λ k e1. leaf_from Bson-F.Binary kind 5 bytes (binary_at bytes) x k e1 (λ a part.
    record { layer = Bson-F.Binary a.0; made_of = refl; typed = refl; parts = binary_took bytes a part; flat = refl; zero_free = refl; well_formed = refl })) (λ _ e.
    chosen (eqb kind 6) _ _ _ e (λ k e1. leaf_bare Bson-F.Undefined kind 6 bytes x k e1 (record { layer = Bson-F.Undefined; made_of = refl; typed = refl; parts = refl; flat = refl; zero_free = refl; well_formed = refl })) (λ _ e.
    chosen (eqb kind 7) _ _ _ e (λ k e1. leaf_from (λ id. Bson-F.ObjectId (record { bytes = id })) kind 7 bytes (some_at 12 bytes) x k e1 (λ a part.
    let t = some_took 12 bytes a part in
    record { layer = Bson-F.ObjectId (record { bytes = a.0 }); made_of = refl; typed = refl; parts = t.0; flat = refl; zero_free = refl; well_formed = eq-eqb (length a.0) 12 t.1 })) (λ _ e.
    chosen (eqb kind 8) _ _ _ e (λ k e1. leaf_from Bson-F.Boolean kind 8 bytes (flag_at bytes) x k e1 (λ a part.
    record { layer = Bson-F.Boolean a.0; made_of = refl; typed = refl; parts = flag_took bytes a part; flat = refl; zero_free = refl; well_formed = refl })) (λ _ e.
    chosen (eqb kind 9) _ _ _ e (λ k e1. eight_leaf Bson-F.DateTime kind 9 bytes x k e1 (λ z rest p f. record { layer = Bson-F.DateTime z; made_of = refl; typed = refl; parts = p; flat = refl; zero_free = refl; well_formed = f })) (λ _ e.
    chosen (eqb kind 10) _ _ _ e (λ k e1. leaf_bare Bson-F.Null kind 10 bytes x k e1 (record { layer = Bson-F.Null; made_of = refl; typed = refl; parts = refl; flat = refl; zero_free = refl; well_formed = refl }))
    (λ _ e. more_took kind bytes x e))))))))
