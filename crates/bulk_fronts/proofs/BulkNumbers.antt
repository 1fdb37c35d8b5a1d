-- An op in bytes with the number of its namespace written into its place spells the op on that namespace.
use Rattle.std.proofs.Common.{◌≡◌, ℕ, suc, ◌+◌, ◌-◌, ◌<◌, ◌≤◌, max, Bool, true, false, ◌&&◌, ◌||◌, List, [], ◌∷◌, ◌++◌, append_assoc, drop, drop_at, length, length-append, lt-ltb, map, take, take_all, take_at, sym, ap, subst, ◌∙◌, arith}
use Rattle.std.specs.Prelude.{pos}
use Rattle.std.proofs.lemmas.List.{drop_all, length-drop}
use Rattle.std.specs.Str.{is_utf8}
use denote.Hole.Carrier.{roll}
use Rattle.bson_lite.specs.declared.bson.Bson as bson
use Rattle.bson_lite.specs.declared.bson.Bson.{Bson}
use Rattle.bson_lite.specs.declared.bson.Bson.TheOpen.{Bson-F}
use Rattle.bson_lite.specs.declared.document.Pair.{Pair}
use Rattle.bson_lite.specs.Spelling.{HasSpelling, Spells, deepest_pair, depth, element, elements, four, framed, holds_zero, on_value, spelled, spelling, valid, valid_pairs, zero_in_pairs, zero_within}
use Rattle.bson_lite.proofs.Nested.{folded}
use Rattle.driver_link.specs.Numbers.{field}
use Rattle.bulk_fronts.specs.BulkOps.{numbered}

-- what a number of 32 bits is as a value
number_spelled : (n : ℕ) → spelled (bson.Int32 (pos n)) ≡ (16, four n)
unfolding bson.roll-Bson roll
number_spelled n = (folded (Bson-F.Int32 (pos n))).spells

number_deep : (n : ℕ) → depth (bson.Int32 (pos n)) ≡ 0
unfolding bson.roll-Bson roll
number_deep n = (folded (Bson-F.Int32 (pos n))).nests

number_zero : (n : ℕ) → zero_within (bson.Int32 (pos n)) ≡ false
unfolding bson.roll-Bson roll
number_zero n = (folded (Bson-F.Int32 (pos n))).zeros

number_valid : (n : ℕ) → n < 2147483648 → valid (bson.Int32 (pos n)) ≡ true
unfolding bson.roll-Bson roll
number_valid n small = (folded (Bson-F.Int32 (pos n))).valids ∙ lt-ltb n 2147483648 small

-- an element with these four bytes, and what stands behind it, from its key on
shift : (key number rest last : List ℕ) → ((key ++ 0 ∷ number) ++ rest) ++ last ≡ (key ++ 0 ∷ []) ++ (number ++ (rest ++ last))
shift [] number rest last = ap (λ (xs : List ℕ). 0 ∷ xs) (append_assoc number rest last)
shift (byte ∷ key) number rest last = ap (λ (xs : List ℕ). byte ∷ xs) (shift key number rest last)

module _ (key : List ℕ) (six : length key ≡ 6) (fields : List (Pair Bson)) where
  abbrev rest : List ℕ
  rest = elements (map (on_value spelled) fields)

  -- the elements of an op on a namespace of a number
  abbrev with_number : ℕ → List ℕ
  with_number n = (16 ∷ (key ++ 0 ∷ four n)) ++ rest

  -- they are so many
  count_is : (n : ℕ) → length (with_number n) ≡ 12 + length rest
  count_is n = omega (arith, length-append (16 ∷ (key ++ 0 ∷ four n)) rest, length-append key (0 ∷ four n), six)

  -- the bytes before the number, and those behind it
  abbrev before : List ℕ
  before = four (length (with_number 0) + 5) ++ (16 ∷ (key ++ 0 ∷ []))

  abbrev behind : List ℕ
  behind = rest ++ 0 ∷ []

  before_is : length before ≡ 12
  before_is = omega (arith, length-append (four (length (with_number 0) + 5)) (16 ∷ (key ++ 0 ∷ [])), length-append key (0 ∷ []), six)

  -- the spelling of such an op by these parts
  parts : (n : ℕ) → spelling (field key (bson.Int32 (pos n)) ∷ fields) ≡ before ++ (four n ++ behind)
  parts n =
      ap (λ (value : ℕ × List ℕ). framed (element key value ++ rest)) (number_spelled n)
      ∙ ap (λ (count : ℕ). four (count + 5) ++ (with_number n ++ 0 ∷ [])) (count_is n ∙ sym (count_is 0))
      ∙ ap (λ (xs : List ℕ). four (length (with_number 0) + 5) ++ (16 ∷ xs)) (shift key (four n) rest (0 ∷ []))
      ∙ sym (append_assoc (four (length (with_number 0) + 5)) (16 ∷ (key ++ 0 ∷ [])) (four n ++ behind))

  -- and with another number written into it
  pub numbered_parts : (n : ℕ) → numbered n (spelling (field key (bson.Int32 (pos 0)) ∷ fields)) ≡ spelling (field key (bson.Int32 (pos n)) ∷ fields)
  numbered_parts n =
      let long : length (before ++ four 0) ≡ 16 = length-append before (four 0) ∙ ap (λ (count : ℕ). count + 4) before_is in
      ap (numbered n) (parts 0)
      ∙ ap (λ (xs : List ℕ). xs ++ (four n ++ drop 16 (before ++ (four 0 ++ behind)))) (take_at before (four 0 ++ behind) 12 before_is)
      ∙ ap (λ (xs : List ℕ). before ++ (four n ++ xs)) (ap (drop 16) (sym (append_assoc before (four 0) behind)) ∙ drop_at (before ++ four 0) behind 16 long)
      ∙ sym (parts n)

  -- it has a spelling where the op on the namespace of number 0 has one
  numbered_has : (n : ℕ) → n < 2147483648 → HasSpelling (field key (bson.Int32 (pos 0)) ∷ fields) → HasSpelling (field key (bson.Int32 (pos n)) ∷ fields)
  numbered_has n small has = record {
    nests = subst (λ (d : ℕ). suc (max d (deepest_pair (map (on_value depth) fields))) ≤ 100) (number_deep 0 ∙ sym (number_deep n)) has.nests;
    zero_free = ap (λ (b : Bool). (holds_zero key || b) || zero_in_pairs (map (on_value zero_within) fields)) (number_zero n ∙ sym (number_zero 0)) ∙ has.zero_free;
    well_formed = subst (λ (b : Bool). ((is_utf8 key && b) && valid_pairs fields) ≡ true) (number_valid 0 (omega arith) ∙ sym (number_valid n small)) has.well_formed;
    short = subst (λ (count : ℕ). count ≤ 2147483647) (same_length n) has.short;
  }
    where
      same_length : (n : ℕ) → length (spelling (field key (bson.Int32 (pos 0)) ∷ fields)) ≡ length (spelling (field key (bson.Int32 (pos n)) ∷ fields))
      same_length n = ap length (parts 0) ∙ length-append before (four 0 ++ behind) ∙ sym (ap length (parts n) ∙ length-append before (four n ++ behind))

  -- so its bytes spell it
  pub numbered_spells : (n : ℕ) (bytes : List ℕ) → n < 2147483648 → Spells (field key (bson.Int32 (pos 0)) ∷ fields) bytes → Spells (field key (bson.Int32 (pos n)) ∷ fields) (numbered n bytes)
  numbered_spells n bytes small spells = record { has = numbered_has n small spells.has; is = ap (numbered n) spells.is ∙ numbered_parts n }

-- the bytes before the number of a short op, and those behind it
pub before_short : (op : List ℕ) → length op ≤ 12 → op ≡ take 12 op
before_short op few = sym (take_all 12 op few)

pub behind_long : (op : List ℕ) → 16 < length op → take (length op - 16) (drop 16 op) ≡ drop 16 op
behind_long op more = take_all (length op - 16) (drop 16 op) (omega (arith, length-drop 16 op))

pub behind_short : (op : List ℕ) → length op ≤ 16 → take (length op - length op) (drop (length op) op) ≡ drop 16 op
behind_short op few =
    take_all (length op - length op) (drop (length op) op) (omega (arith, length-drop (length op) op)) ∙ drop_all (length op) op (omega arith) ∙ sym (drop_all 16 op few)

-- the parts of an op with a number, one behind the other
pub joined_parts : (number : ℕ) (op first given last : List ℕ) → first ≡ take 12 op → given ≡ four number → last ≡ drop 16 op → (first ++ given) ++ last ≡ numbered number op
joined_parts number op first given last first_is given_is last_is =
    (λ i. (first_is i ++ given_is i) ++ last_is i) ∙ append_assoc (take 12 op) (four number) (drop 16 op)
