-- What is spelled is read again: documents and arrays, by the levels that they nest.
use Rattle.std.proofs.Common.{◌≡◌, ℕ, zero, suc, ◌+◌, ◌-◌, ◌%◌, ◌≤◌, ◌<◌, ◌^◌, Bool, true, false, ◌||◌, ◌&&◌, eqb, List, [], ◌∷◌, ◌++◌, length, map, Some, Result, Ok, refl, sym, ap, subst, ◌∙◌, append_assoc, arith}
use Rattle.std.specs.Prelude.{decimal}
use Rattle.std.specs.List.{list_any}
use Rattle.std.specs.Str.{is_utf8}
use Rattle.std.proofs.lemmas.Bool.{or_from, or_parts, and_parts, ne_eqb}
use Rattle.std.proofs.lemmas.Fmt.{decimal_by_steps}
use Rattle.std.proofs.lemmas.List.{append-nil, length-append}
use Rattle.std.proofs.lemmas.List.Folds.{list_any-append}
use Rattle.bson_lite.specs.declared.bson.Bson as bson
use Rattle.bson_lite.specs.declared.bson.Bson.{Bson, map-Bson, roll-Bson, out-Bson, roll-out-Bson, fold-roll-Bson}
use Rattle.bson_lite.specs.declared.bson.Bson.TheOpen.{Bson-F}
use Rattle.bson_lite.specs.declared.bson.Bson.TheVariants.{rolls-Document, rolls-Array}
use Rattle.bson_lite.specs.declared.document.Pair.{Pair}
use Rattle.bson_lite.specs.Parts.{place_at, is_type, frame_at, whole_at}
use Rattle.bson_lite.specs.Reading.{◌>>=◌, or_at, value_with, pair_with, item_with, many_with, pairs_with, items_with, inside_with, framed_with, nested_at, read}
use Rattle.bson_lite.specs.Spelling.{four, framed, on_value, numbered, step, spelled, body_of, depth_step, depth, deepest, deepest_pair, zero_step, zero_within, zero_in, zero_in_values, holds_zero, valid_step, valid, valid_pairs, valid_values, spelling, HasSpelling}
use Rattle.bson_lite.proofs.Numbers.{bytes_eq-same}
use Rattle.bson_lite.proofs.Loops.{ends, step as one_step}
use Rattle.bson_lite.proofs.Again.{IsLeaf, laid, zero_laid, valid_laid, leaf_again, zero_again, type_again, ascii_utf8, frame_again}

-- what is asked of a value that is to be read again, below so many levels
pub record Fit (levels : ℕ) (value : Bson) : Type 0 where
  pub nests : depth value ≤ levels
  pub zero_free : zero_within value ≡ false
  pub well_formed : valid value ≡ true
  pub short : length (spelled value).1 ≤ 2147483647

-- the value is read again from the front of bytes that begin with its spelling
pub record AgainAt (levels : ℕ) (value : Bson) (spelling : ℕ × List ℕ) : Type 0 where
  pub typed : is_type spelling.0 ≡ true
  pub read : (end : ℕ) (rest : List ℕ) → value_with (nested_at levels) spelling.0 end (spelling.1 ++ rest) ≡ Ok (value, rest)

abbrev pub Again : ℕ → Bson → Type 0
Again levels value = AgainAt levels value (spelled value)

pub length-element : (key text rest : List ℕ) → length ((key ++ 0 ∷ text) ++ rest) ≡ length key + length text + length rest + 1
length-element key text rest = omega (arith, length-append (key ++ 0 ∷ text) rest, length-append key (0 ∷ text))

pub decimal_free : (place : ℕ) → place < 2 ^ 64 → holds_zero (decimal place) ≡ false
decimal_free place h =
    decimal_by_steps (λ n ds. holds_zero ds ≡ false)
    (λ n lt. or_from (eqb (48 + n) 0) false (ne_eqb (48 + n) 0 (λ e. omega arith)) refl)
    (λ n ds le free. list_any-append (λ byte. eqb byte 0) ds ((48 + n % 10) ∷ []) ∙ or_from (list_any (λ byte. eqb byte 0) ds) (list_any (λ byte. eqb byte 0) ((48 + n % 10) ∷ [])) free
    (or_from (eqb (48 + n % 10) 0) false (ne_eqb (48 + n % 10) 0 (λ e. omega arith)) refl))
    place h

-- ---- elements

pair_read : (nested : ℕ → ℕ → List ℕ → Result (Bson × List ℕ) ℕ) (end kind : ℕ) (key text rest : List ℕ) (value : Bson) → is_type kind ≡ true → holds_zero key ≡ false → is_utf8 key ≡ true
    → ((r : List ℕ) → value_with nested kind end (text ++ r) ≡ Ok (value, r)) → pair_with nested end (kind ∷ ((key ++ 0 ∷ text) ++ rest)) ≡ Ok (record { key = key; value = value }, rest)
unfolding pair_with
pair_read nested end kind key text rest value t z u again =
    rw (type_again kind ((key ++ 0 ∷ text) ++ rest) t, append_assoc key (0 ∷ text) rest, zero_again key (text ++ rest) z u, again rest) refl

item_read : (nested : ℕ → ℕ → List ℕ → Result (Bson × List ℕ) ℕ) (end place kind : ℕ) (key text rest : List ℕ) (value : Bson) → is_type kind ≡ true → key ≡ decimal place → holds_zero key ≡ false → is_utf8 key ≡ true
    → ((r : List ℕ) → value_with nested kind end (text ++ r) ≡ Ok (value, r)) → item_with nested end place (kind ∷ ((key ++ 0 ∷ text) ++ rest)) ≡ Ok (value, rest)
unfolding item_with place_at
item_read nested end place kind key text rest value t e z u again =
    rw (type_again kind ((key ++ 0 ∷ text) ++ rest) t, append_assoc key (0 ∷ text) rest, zero_again key (text ++ rest) z u, ← e, bytes_eq-same key, again rest) refl

pub pairs_again : (levels : ℕ) → ((v : Bson) → Fit levels v → Again levels v) → (pairs : List (Pair Bson)) (turns place end : ℕ)
    → deepest_pair (map (on_value depth) pairs) ≤ levels → zero_in pairs ≡ false → valid_pairs pairs ≡ true → length (body_of pairs) ≤ 2147483647 → length (body_of pairs) ≤ turns
    → many_with (λ place. pair_with (nested_at levels) end) turns place (body_of pairs) ≡ Ok pairs
pairs_again levels again [] turns place end d z v s t = ends (λ place. pair_with (nested_at levels) end) turns place [] (omega arith)
pairs_again levels again (pair ∷ pairs) zero place end d z v s t = absurd (omega arith)
pairs_again levels again (pair ∷ pairs) (suc turns) place end d z v s t =
    let kind = (spelled pair.value).0 in
    let text = (spelled pair.value).1 in
    let rest = body_of pairs in
    let whole : List ℕ = kind ∷ ((pair.key ++ 0 ∷ text) ++ rest) in
    let len : length ((pair.key ++ 0 ∷ text) ++ rest) ≡ length pair.key + length text + length rest + 1 = length-element pair.key text rest in
    let zeros = or_parts (holds_zero pair.key || zero_within pair.value) (zero_in pairs) z in
    let zeros_here = or_parts (holds_zero pair.key) (zero_within pair.value) zeros.0 in
    let valids = and_parts (is_utf8 pair.key && valid pair.value) (valid_pairs pairs) v in
    let valids_here = and_parts (is_utf8 pair.key) (valid pair.value) valids.0 in
    let fit : Fit levels pair.value = record { nests = omega arith; zero_free = zeros_here.1; well_formed = valids_here.1; short = omega arith } in
    let value = again pair.value fit in
    let first : pair_with (nested_at levels) end whole ≡ Ok (pair, rest) = pair_read (nested_at levels) end kind pair.key text rest pair.value value.typed zeros_here.0 valids_here.0 (value.read end) in
    let more : many_with (λ place. pair_with (nested_at levels) end) turns (place + 1) rest ≡ Ok pairs = pairs_again levels again pairs turns (place + 1) end (omega arith) zeros.1 valids.1 (omega arith) (omega arith) in
    one_step (λ place. pair_with (nested_at levels) end) turns place whole pair rest (omega arith) (omega arith) first ∙ ap (λ (others : Result (List (Pair Bson)) ℕ). others >>= λ xs. Ok (pair ∷ xs)) more

pub values_again : (levels : ℕ) → ((v : Bson) → Fit levels v → Again levels v) → (values : List Bson) (turns place end : ℕ)
    → deepest (map depth values) ≤ levels → zero_in_values (map zero_within values) ≡ false → valid_values (map valid values) ≡ true
    → length (numbered place (map spelled values)) ≤ 2147483647 → length (numbered place (map spelled values)) ≤ turns → place + length (numbered place (map spelled values)) < 2 ^ 64
    → many_with (item_with (nested_at levels) end) turns place (numbered place (map spelled values)) ≡ Ok values
values_again levels again [] turns place end d z v s t b = ends (item_with (nested_at levels) end) turns place [] (omega arith)
values_again levels again (value ∷ values) zero place end d z v s t b = absurd (omega arith)
values_again levels again (value ∷ values) (suc turns) place end d z v s t b =
    let kind = (spelled value).0 in
    let text = (spelled value).1 in
    let key = decimal place in
    let rest = numbered (place + 1) (map spelled values) in
    let whole : List ℕ = kind ∷ ((key ++ 0 ∷ text) ++ rest) in
    let len : length ((key ++ 0 ∷ text) ++ rest) ≡ length key + length text + length rest + 1 = length-element key text rest in
    let zeros = or_parts (zero_within value) (zero_in_values (map zero_within values)) z in
    let valids = and_parts (valid value) (valid_values (map valid values)) v in
    let fit : Fit levels value = record { nests = omega arith; zero_free = zeros.0; well_formed = valids.0; short = omega arith } in
    let read = again value fit in
    let small : place < 2 ^ 64 = omega arith in
    let first : item_with (nested_at levels) end place whole ≡ Ok (value, rest) = item_read (nested_at levels) end place kind key text rest value read.typed refl (decimal_free place small) (ascii_utf8 place small) (read.read end) in
    let more : many_with (item_with (nested_at levels) end) turns (place + 1) rest ≡ Ok values = values_again levels again values turns (place + 1) end (omega arith) zeros.1 valids.1 (omega arith) (omega arith) (omega arith) in
    one_step (item_with (nested_at levels) end) turns place whole value rest (omega arith) (omega arith) first ∙ ap (λ (others : Result (List Bson) ℕ). others >>= λ xs. Ok (value ∷ xs)) more

-- ---- frames

pub frame_read : {A : Type 0} (inside : ℕ → List ℕ → Result A ℕ) (end : ℕ) (head body rest : List ℕ) (x : A) → head ≡ four (length body + 5) → length body + 5 ≤ 2147483647
    → ((e : ℕ) → inside e body ≡ Ok x) → framed_with inside end ((head ++ (body ++ 0 ∷ [])) ++ rest) ≡ Ok (x, rest)
unfolding framed_with inside_with
frame_read inside end head body rest x e short read = rw (frame_again head body rest e short, read (end - length rest - 1)) refl

length-framed : (body : List ℕ) → length (framed body) ≡ length body + 5
length-framed body = omega (arith, length-append body (0 ∷ []))

document_read : (levels : ℕ) → ((v : Bson) → Fit levels v → Again levels v) → (pairs : List (Pair Bson)) (end : ℕ) (rest : List ℕ)
    → deepest_pair (map (on_value depth) pairs) ≤ levels → zero_in pairs ≡ false → valid_pairs pairs ≡ true → length (framed (body_of pairs)) ≤ 2147483647
    → value_with (nested_at (suc levels)) 3 end (framed (body_of pairs) ++ rest) ≡ Ok (bson.Document pairs, rest)
unfolding value_with nested_at pairs_with
document_read levels again pairs end rest d z v s =
    let len : length (framed (body_of pairs)) ≡ length (body_of pairs) + 5 = length-framed (body_of pairs) in
    let read : framed_with (pairs_with (nested_at levels)) end (framed (body_of pairs) ++ rest) ≡ Ok (pairs, rest) =
    frame_read (pairs_with (nested_at levels)) end (four (length (body_of pairs) + 5)) (body_of pairs) rest pairs refl (omega arith)
    (λ e. pairs_again levels again pairs (length (body_of pairs)) 0 e d z v (omega arith) (omega arith)) in
    ap (λ (r : Result (List (Pair Bson) × List ℕ) ℕ). r >>= λ x. Ok (bson.Document x.0, x.1)) read

array_read : (levels : ℕ) → ((v : Bson) → Fit levels v → Again levels v) → (values : List Bson) (end : ℕ) (rest : List ℕ)
    → deepest (map depth values) ≤ levels → zero_in_values (map zero_within values) ≡ false → valid_values (map valid values) ≡ true → length (framed (numbered 0 (map spelled values))) ≤ 2147483647
    → value_with (nested_at (suc levels)) 4 end (framed (numbered 0 (map spelled values)) ++ rest) ≡ Ok (bson.Array values, rest)
unfolding value_with nested_at items_with
array_read levels again values end rest d z v s =
    let body = numbered 0 (map spelled values) in
    let len : length (framed body) ≡ length body + 5 = length-framed body in
    let read : framed_with (items_with (nested_at levels)) end (framed body ++ rest) ≡ Ok (values, rest) =
    frame_read (items_with (nested_at levels)) end (four (length body + 5)) body rest values refl (omega arith)
    (λ e. values_again levels again values (length body) 0 e d z v (omega arith) (omega arith) (omega arith)) in
    ap (λ (r : Result (List Bson × List ℕ) ℕ). r >>= λ x. Ok (bson.Array x.0, x.1)) read

-- ---- values

-- what the four folds say of a value that is made of this layer
pub record Folded (value : Bson) (spelling : ℕ × List ℕ) (deep : ℕ) (zero valid_here : Bool) : Type 0 where
  pub spells : spelled value ≡ spelling
  pub nests : depth value ≡ deep
  pub zeros : zero_within value ≡ zero
  pub valids : valid value ≡ valid_here

pub folded : (b : Bson-F Bson) → Folded (roll-Bson b) (laid b) (depth_step (map-Bson Bson ℕ depth b)) (zero_laid b) (valid_laid b)
folded b = record {
  spells = fold-roll-Bson (ℕ × List ℕ) step b;
  nests = fold-roll-Bson ℕ depth_step b;
  zeros = fold-roll-Bson Bool zero_step b;
  valids = fold-roll-Bson Bool valid_step b;
}

leaf_facts : (b : Bson-F Bson) → IsLeaf b → (is_type (laid b).0 ≡ true) × ((eqb (laid b).0 3 || eqb (laid b).0 4) ≡ false)
leaf_facts (Bson-F.Document pairs) l = absurd l
leaf_facts (Bson-F.Array values) l = absurd l
leaf_facts b l = (refl, refl)

leaf_read : (levels : ℕ) (b : Bson-F Bson) → IsLeaf b → Fit levels (roll-Bson b) → AgainAt levels (roll-Bson b) (laid b)
unfolding value_with
leaf_read levels b leaf fit =
    let f = folded b in
    let facts = leaf_facts b leaf in
    let short : length (laid b).1 ≤ 2147483647 = subst (λ (s : ℕ × List ℕ). length s.1 ≤ 2147483647) f.spells fit.short in
    record {
      typed = facts.0;
      read = λ end rest. rw facts.1 (ap (or_at (end - length ((laid b).1 ++ rest))) (leaf_again b rest leaf (sym f.zeros ∙ fit.zero_free) (sym f.valids ∙ fit.well_formed) short));
    }

layer_zero : (b : Bson-F Bson) → Fit 0 (roll-Bson b) → AgainAt 0 (roll-Bson b) (laid b)
layer_zero (Bson-F.Document pairs) fit = let f = folded (Bson-F.Document pairs) in absurd (omega (arith, f.nests, fit.nests))
layer_zero (Bson-F.Array values) fit = let f = folded (Bson-F.Array values) in absurd (omega (arith, f.nests, fit.nests))
layer_zero b fit = leaf_read 0 b tt fit

layer_suc : (levels : ℕ) → ((v : Bson) → Fit levels v → Again levels v) → (b : Bson-F Bson) → Fit (suc levels) (roll-Bson b) → AgainAt (suc levels) (roll-Bson b) (laid b)
layer_suc levels again (Bson-F.Document pairs) fit =
    let f = folded (Bson-F.Document pairs) in
    let deep : deepest_pair (map (on_value depth) pairs) ≤ levels = omega (arith, f.nests, fit.nests) in
    let short : length (framed (body_of pairs)) ≤ 2147483647 = subst (λ (s : ℕ × List ℕ). length s.1 ≤ 2147483647) f.spells fit.short in
    subst (λ (v : Bson). AgainAt (suc levels) v (laid (Bson-F.Document pairs))) (sym (rolls-Document pairs)) (record {
      typed = refl;
      read = λ end rest. document_read levels again pairs end rest deep (sym f.zeros ∙ fit.zero_free) (sym f.valids ∙ fit.well_formed) short;
    })
layer_suc levels again (Bson-F.Array values) fit =
    let f = folded (Bson-F.Array values) in
    let deep : deepest (map depth values) ≤ levels = omega (arith, f.nests, fit.nests) in
    let short : length (framed (numbered 0 (map spelled values))) ≤ 2147483647 = subst (λ (s : ℕ × List ℕ). length s.1 ≤ 2147483647) f.spells fit.short in
    subst (λ (v : Bson). AgainAt (suc levels) v (laid (Bson-F.Array values))) (sym (rolls-Array values)) (record {
      typed = refl;
      read = λ end rest. array_read levels again values end rest deep (sym f.zeros ∙ fit.zero_free) (sym f.valids ∙ fit.well_formed) short;
    })
layer_suc levels again b fit = leaf_read (suc levels) b tt fit

from_layer : (levels : ℕ) → ((b : Bson-F Bson) → Fit levels (roll-Bson b) → AgainAt levels (roll-Bson b) (laid b)) → (v : Bson) → Fit levels v → Again levels v
from_layer levels layer v =
    let P : Bson → Type 0 = λ w. Fit levels w → Again levels w in
    subst P (roll-out-Bson v) (λ fit. subst (λ (s : ℕ × List ℕ). AgainAt levels (roll-Bson (out-Bson v)) s) (sym (folded (out-Bson v)).spells) (layer (out-Bson v) fit))

pub value_again : (levels : ℕ) (v : Bson) → Fit levels v → Again levels v
value_again zero = from_layer 0 layer_zero
value_again (suc levels) = from_layer (suc levels) (layer_suc levels (value_again levels))

-- the law: what has a spelling is read again
pub read_again : (document : List (Pair Bson)) → HasSpelling document → read (spelling document) ≡ Ok document
unfolding read whole_at inside_with pairs_with
read_again document has =
    let body = body_of document in
    let len : length (framed body) ≡ length body + 5 = length-framed body in
    let short : length (framed body) ≤ 2147483647 = has.short in
    let deep : deepest_pair (map (on_value depth) document) ≤ 99 = omega (arith, has.nests) in
    let frame : frame_at (framed body) ≡ Some (record { elements = body; last = 0 }, []) =
    ap frame_at (sym (append-nil (framed body))) ∙ frame_again (four (length body + 5)) body [] refl (omega arith) in
    let pairs : many_with (λ place. pair_with (nested_at 99) (length (framed body) - 1)) (length body) 0 body ≡ Ok document =
    pairs_again 99 (value_again 99) document (length body) 0 (length (framed body) - 1) deep has.zero_free has.well_formed (omega arith) (omega arith) in
    rw (frame, pairs) refl
