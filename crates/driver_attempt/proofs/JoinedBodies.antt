-- A document with more fields behind its own: why it has a spelling, and that this has their elements behind its own.
use Rattle.std.proofs.Common.{◌≡◌, ℕ, ◌+◌, ◌-◌, ◌≤◌, Bool, true, false, ◌||◌, ◌&&◌, List, [], ◌∷◌, ◌++◌, map, length, take, length-append, append_assoc, refl, sym, ap, ◌∙◌, arith}
use Rattle.std.specs.Str.{is_utf8}
use Rattle.std.proofs.lemmas.Bool.{and_parts, or_from, or_parts}
use Rattle.std.proofs.lemmas.List.{drop_at, take_at}
use Rattle.bson_lite.specs.declared.bson.Bson.{Bson}
use Rattle.bson_lite.specs.declared.document.Pair.{Pair}
use Rattle.bson_lite.specs.Spelling.{Spells, body_of, deepest_pair, depth, element, four, framed, holds_zero, nesting, on_value, spelled, spelling, valid, valid_pairs, zero_in, zero_within}
use Rattle.driver_attempt.specs.inside.JoinedBodies.{JoinsElements, elements_in}

-- fields that nest two levels at most and have no zero byte where none may stand, of values in their ranges
pub record AreSound (fields : List (Pair Bson)) : Type 0 where
  pub deep : deepest_pair (map (on_value depth) fields) ≤ 2
  pub zeros : zero_in fields ≡ false
  pub valids : valid_pairs fields ≡ true

-- what holds of two documents holds of both together
deep_join : (most : ℕ) (a b : List (Pair Bson)) → deepest_pair (map (on_value depth) a) ≤ most → deepest_pair (map (on_value depth) b) ≤ most
    → deepest_pair (map (on_value depth) (a ++ b)) ≤ most
deep_join most [] b first second = second
deep_join most (pair ∷ a) b first second =
    let here : depth pair.value ≤ most = omega (arith, first) in
    let rest : deepest_pair (map (on_value depth) (a ++ b)) ≤ most = deep_join most a b (omega (arith, first)) second in
    omega (arith, here, rest)

zero_join : (a b : List (Pair Bson)) → zero_in a ≡ false → zero_in b ≡ false → zero_in (a ++ b) ≡ false
zero_join [] b first second = second
zero_join (pair ∷ a) b first second =
    let parts = or_parts (holds_zero pair.key || zero_within pair.value) (zero_in a) first in
    or_from (holds_zero pair.key || zero_within pair.value) (zero_in (a ++ b)) parts.0 (zero_join a b parts.1 second)

valid_join : (a b : List (Pair Bson)) → valid_pairs a ≡ true → valid_pairs b ≡ true → valid_pairs (a ++ b) ≡ true
valid_join [] b first second = second
valid_join (pair ∷ a) b first second =
    let parts = and_parts (is_utf8 pair.key && valid pair.value) (valid_pairs a) first in
    ap (λ (here : Bool). here && valid_pairs (a ++ b)) parts.0 ∙ valid_join a b parts.1 second

pub joined : (a b : List (Pair Bson)) → AreSound a → AreSound b → AreSound (a ++ b)
joined a b first second = record {
  deep = deep_join 2 a b first.deep second.deep;
  zeros = zero_join a b first.zeros second.zeros;
  valids = valid_join a b first.valids second.valids;
}

-- the elements of two documents
pub body_join : (a b : List (Pair Bson)) → body_of (a ++ b) ≡ body_of a ++ body_of b
body_join [] b = refl
body_join (pair ∷ a) b =
    ap (λ (rest : List ℕ). element pair.key (spelled pair.value) ++ rest) (body_join a b)
    ∙ sym (append_assoc (element pair.key (spelled pair.value)) (body_of a) (body_of b))

-- a document in bytes is five longer than its elements
framed_length : (elements : List ℕ) → length (framed elements) ≡ length elements + 5
framed_length elements = omega (arith, length-append (four (length elements + 5)) (elements ++ 0 ∷ []), length-append elements (0 ∷ []))

-- and has them between its length and its last byte
elements_are : (elements : List ℕ) → elements_in (framed elements) ≡ elements
elements_are elements =
    ap (λ (bytes : List ℕ). take (length (framed elements) - 1 - 4) bytes) (drop_at (four (length elements + 5)) (elements ++ 0 ∷ []) 4 refl)
    ∙ take_at elements (0 ∷ []) (length (framed elements) - 1 - 4) (omega (arith, framed_length elements))

-- so their bytes spell both together
pub spells_join : (body fields : List (Pair Bson)) (own more bytes : List ℕ) → Spells body own → more ≡ body_of fields → AreSound fields → JoinsElements own more bytes
    → Spells (body ++ fields) bytes
spells_join body fields own more bytes spells fields_are sound joins =
    let elements : List ℕ = body_of body in
    let all : body_of (body ++ fields) ≡ elements ++ more = body_join body fields ∙ ap (λ (rest : List ℕ). body_of body ++ rest) (sym fields_are) in
    let inside : elements_in own ≡ elements = ap elements_in spells.is ∙ elements_are elements in
    let size : length own ≡ length elements + 5 = ap length spells.is ∙ framed_length elements in
    let count : length own + length more ≡ length (elements ++ more) + 5 = omega (arith, size, length-append elements more) in
    let deep : nesting body ≤ 100 = spells.has.nests in
    let levels : deepest_pair (map (on_value depth) (body ++ fields)) ≤ 99 = deep_join 99 body fields (omega (arith, deep)) (omega (arith, sound.deep)) in
    let whole : length (spelling (body ++ fields)) ≡ length (elements ++ more) + 5 = ap (λ (parts : List ℕ). length (framed parts)) all ∙ framed_length (elements ++ more) in
    let short : length own + length more ≤ 2147483647 = joins.short in
    record {
      has = record {
        nests = omega (arith, levels);
        zero_free = zero_join body fields spells.has.zero_free sound.zeros;
        well_formed = valid_join body fields spells.has.well_formed sound.valids;
        short = omega (arith, whole, count, short);
      };
      is = joins.is
          ∙ ap (λ (n : ℕ). four n ++ ((elements_in own ++ more) ++ 0 ∷ [])) count
          ∙ ap (λ (parts : List ℕ). four (length (elements ++ more) + 5) ++ ((parts ++ more) ++ 0 ∷ [])) inside
          ∙ ap (λ (parts : List ℕ). framed parts) (sym all);
    }

-- a part between two
pub regrouped : (first second third last : List ℕ) → ((first ++ second) ++ third) ++ last ≡ first ++ ((second ++ third) ++ last)
regrouped first second third last =
    ap (λ (parts : List ℕ). parts ++ last) (append_assoc first second third) ∙ append_assoc first (second ++ third) last
