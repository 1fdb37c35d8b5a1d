-- What is read was spelled so: documents and arrays, by the levels that they nest.
use Rattle.std.proofs.Common.{◌≡◌, ℕ, zero, suc, ◌+◌, ◌-◌, ◌≤◌, ◌<◌, true, false, ◌||◌, ◌&&◌, ltb, eqb, cond, List, [], ◌∷◌, ◌++◌, length, map, Some, None, Result, Ok, refl, sym, ap, subst, ◌∙◌, append_assoc, arith, inl, inr}
use Rattle.std.specs.Prelude.{decimal}
use Rattle.std.specs.Str.{is_utf8, bytes_eq}
use Rattle.std.proofs.lemmas.Bool.{ltb-false, eqb-true, or_from, or_parts, or_cases, and_from, both_ways}
use Rattle.std.proofs.lemmas.List.{length-append, nil_from_length}
use Rattle.std.specs.Int.{w32}
use Rattle.bson_lite.specs.declared.bson.Bson as bson
use Rattle.bson_lite.specs.declared.bson.Bson.{Bson, map-Bson, roll-Bson}
use Rattle.bson_lite.specs.declared.bson.Bson.TheOpen.{Bson-F}
use Rattle.bson_lite.specs.declared.bson.Bson.TheVariants.{rolls-Document, rolls-Array}
use Rattle.bson_lite.specs.declared.document.Pair.{Pair}
use Rattle.bson_lite.specs.Parts.{number_at, some_at, byte_at, zero_ended, place_at, is_type, type_at, Frame, frame_at, whole_at, leaf_at}
use Rattle.bson_lite.specs.Reading.{or_at, closed, value_with, pair_with, item_with, many_with, pairs_with, items_with, inside_with, framed_with, nested_at, read}
use Rattle.bson_lite.specs.Spelling.{four, framed, on_value, numbered, spelled, body_of, depth_step, depth, deepest, deepest_pair, zero_within, zero_in, zero_in_values, holds_zero, valid, valid_pairs, valid_values, spelling, Spells}
use Rattle.bson_lite.proofs.Numbers.{same-bytes_eq}
use Rattle.bson_lite.proofs.Again.{laid, zero_laid, valid_laid}
use Rattle.bson_lite.proofs.Nested.{folded, length-element}
use Rattle.bson_reading.proofs.Steps.{some_is, ok_is, then_some, then_ok, by_some, by_ok, by_at, at_some, chosen, unless, when, by_closed}
use Rattle.bson_reading.proofs.Takes.{some_took, byte_took, number_took, zero_took, regrouped, LeafTook, leaf_took}

-- a value of this type, below so many levels, with its spelling in front of the bytes
pub record Took (levels kind : ℕ) (bytes : List ℕ) (x : Bson × List ℕ) : Type 0 where
  pub typed : (spelled x.0).0 ≡ kind
  pub parts : bytes ≡ (spelled x.0).1 ++ x.1
  pub nests : depth x.0 ≤ levels
  pub zero_free : zero_within x.0 ≡ false
  pub well_formed : valid x.0 ≡ true

-- every value that the reader for so many levels gives was taken so
abbrev pub Takes : ℕ → Type 0
Takes levels = (kind end : ℕ) (bytes : List ℕ) (x : Bson × List ℕ) → value_with (nested_at levels) kind end bytes ≡ Ok x → Took levels kind bytes x

-- ---- elements

type_took : (bytes : List ℕ) (x : ℕ × List ℕ) → type_at bytes ≡ Some x → bytes ≡ x.0 ∷ x.1
unfolding type_at
type_took bytes x e =
    by_some (byte_at bytes) (λ byte. cond (is_type byte.0) (Some byte) None) x e (λ byte b rest.
    when (is_type byte.0) (Some byte) x rest (λ _ is. subst (λ (y : ℕ × List ℕ). bytes ≡ y.0 ∷ y.1) (some_is byte x is) (byte_took bytes byte b)))

pub record PairTook (levels : ℕ) (bytes : List ℕ) (x : Pair Bson × List ℕ) : Type 0 where
  pub parts : bytes ≡ (spelled x.0.value).0 ∷ ((x.0.key ++ 0 ∷ (spelled x.0.value).1) ++ x.1)
  pub nests : depth x.0.value ≤ levels
  pub zero_free : (holds_zero x.0.key || zero_within x.0.value) ≡ false
  pub well_formed : (is_utf8 x.0.key && valid x.0.value) ≡ true

element_parts : (bytes after key more text rest : List ℕ) (kind type : ℕ) → bytes ≡ kind ∷ after → after ≡ key ++ 0 ∷ more → more ≡ text ++ rest → type ≡ kind → bytes ≡ type ∷ ((key ++ 0 ∷ text) ++ rest)
element_parts bytes after key more text rest kind type e f g k =
    e ∙ ap (λ (t : List ℕ). kind ∷ t) (f ∙ ap (λ (t : List ℕ). key ++ 0 ∷ t) g ∙ sym (append_assoc key (0 ∷ text) rest)) ∙ ap (λ (t : ℕ). t ∷ ((key ++ 0 ∷ text) ++ rest)) (sym k)

pair_took : (levels end : ℕ) → Takes levels → (bytes : List ℕ) (x : Pair Bson × List ℕ) → pair_with (nested_at levels) end bytes ≡ Ok x → PairTook levels bytes x
unfolding pair_with
pair_took levels end takes bytes x e =
    by_at (end - length bytes) (type_at bytes) (λ type. then_ok (or_at (end - length type.1) (zero_ended type.1)) (λ key. then_ok (value_with (nested_at levels) type.0 end key.1) (λ value. Ok (record { key = key.0; value = value.0 }, value.1)))) x e (λ type t rest.
    by_at (end - length type.1) (zero_ended type.1) (λ key. then_ok (value_with (nested_at levels) type.0 end key.1) (λ value. Ok (record { key = key.0; value = value.0 }, value.1))) x rest (λ key k more.
    by_ok (value_with (nested_at levels) type.0 end key.1) (λ value. Ok (record { key = key.0; value = value.0 }, value.1)) x more (λ value v is.
    let z = zero_took type.1 key k in
    let took = takes type.0 end key.1 value v in
    subst (PairTook levels bytes) (ok_is (record { key = key.0; value = value.0 }, value.1) x is) (record {
      parts = element_parts bytes type.1 key.0 key.1 (spelled value.0).1 value.1 type.0 (spelled value.0).0 (type_took bytes type t) z.parts took.parts took.typed;
      nests = took.nests;
      zero_free = or_from (holds_zero key.0) (zero_within value.0) z.zero_free took.zero_free;
      well_formed = and_from (is_utf8 key.0) (valid value.0) z.utf8 took.well_formed;
    }))))

pub record ItemTook (levels place : ℕ) (bytes : List ℕ) (x : Bson × List ℕ) : Type 0 where
  pub parts : bytes ≡ (spelled x.0).0 ∷ ((decimal place ++ 0 ∷ (spelled x.0).1) ++ x.1)
  pub nests : depth x.0 ≤ levels
  pub zero_free : zero_within x.0 ≡ false
  pub well_formed : valid x.0 ≡ true

pub place_took : (place : ℕ) (bytes after : List ℕ) → place_at place bytes ≡ Some after → bytes ≡ decimal place ++ 0 ∷ after
unfolding place_at
place_took place bytes after e =
    by_some (zero_ended bytes) (λ key. cond (bytes_eq key.0 (decimal place)) (Some key.1) None) after e (λ key k rest.
    when (bytes_eq key.0 (decimal place)) (Some key.1) after rest (λ same is.
    (zero_took bytes key k).parts ∙ ap (λ (t : List ℕ). t ++ 0 ∷ key.1) (same-bytes_eq key.0 (decimal place) same) ∙ ap (λ (t : List ℕ). decimal place ++ 0 ∷ t) (some_is key.1 after is)))

item_took : (levels end place : ℕ) → Takes levels → (bytes : List ℕ) (x : Bson × List ℕ) → item_with (nested_at levels) end place bytes ≡ Ok x → ItemTook levels place bytes x
unfolding item_with
item_took levels end place takes bytes x e =
    by_at (end - length bytes) (type_at bytes) (λ type. then_ok (or_at (end - length type.1) (place_at place type.1)) (λ after. value_with (nested_at levels) type.0 end after)) x e (λ type t rest.
    by_at (end - length type.1) (place_at place type.1) (λ after. value_with (nested_at levels) type.0 end after) x rest (λ after a v.
    let took = takes type.0 end after x v in
    record {
      parts = element_parts bytes type.1 (decimal place) after (spelled x.0).1 x.1 type.0 (spelled x.0).0 (type_took bytes type t) (place_took place type.1 after a) took.parts took.typed;
      nests = took.nests;
      zero_free = took.zero_free;
      well_formed = took.well_formed;
    }))

-- ---- all elements

pub record PairsTook (levels : ℕ) (bytes : List ℕ) (pairs : List (Pair Bson)) : Type 0 where
  pub parts : bytes ≡ body_of pairs
  pub nests : deepest_pair (map (on_value depth) pairs) ≤ levels
  pub zero_free : zero_in pairs ≡ false
  pub well_formed : valid_pairs pairs ≡ true

-- no pairs take no bytes
pairs_none : (levels : ℕ) → PairsTook levels [] []
pairs_none levels = record { parts = refl; nests = omega arith; zero_free = refl; well_formed = refl }

-- an element takes a byte at least
shorter : (bytes key text rest : List ℕ) (kind : ℕ) → bytes ≡ kind ∷ ((key ++ 0 ∷ text) ++ rest) → length rest < length bytes
shorter bytes key text rest kind e = omega (arith, ap length e, length-element key text rest)

-- what holds of no bytes, and of a first element where it holds of those after it, holds of all elements
pub many_took : {A : Type 0} (Holds : ℕ → List ℕ → List A → Type 0) (one : ℕ → List ℕ → Result (A × List ℕ) ℕ) → ((place : ℕ) → Holds place [] [])
    → ((place : ℕ) (bytes : List ℕ) (first : A × List ℕ) → one place bytes ≡ Ok first
    → (length first.1 < length bytes) × ((others : List A) → Holds (place + 1) first.1 others → Holds place bytes (first.0 ∷ others)))
    → (turns place : ℕ) (bytes : List ℕ) (all : List A) → length bytes ≤ turns → many_with one turns place bytes ≡ Ok all → Holds place bytes all
unfolding many_with
many_took Holds one none more zero place [] all enough e = subst (Holds place []) (ok_is [] all e) (none place)
many_took Holds one none more zero place (byte ∷ bytes) all enough e = absurd (omega arith)
many_took Holds one none more (suc turns) place [] all enough e = subst (Holds place []) (ok_is [] all e) (none place)
many_took Holds one none more (suc turns) place (byte ∷ bytes) all enough e =
    by_ok (one place (byte ∷ bytes)) (λ first. then_ok (many_with one turns (place + 1) first.1) (λ others. Ok (first.0 ∷ others))) all e (λ first f rest.
    by_ok (many_with one turns (place + 1) first.1) (λ others. Ok (first.0 ∷ others)) all rest (λ others o is.
    let here = more place (byte ∷ bytes) first f in
    let less : length first.1 < length (byte ∷ bytes) = here.0 in
    let there = many_took Holds one none more turns (place + 1) first.1 others (omega arith) o in
    subst (Holds place (byte ∷ bytes)) (ok_is (first.0 ∷ others) all is) (here.1 others there)))

-- a pair in front of others
pair_more : (levels end : ℕ) → Takes levels → (bytes : List ℕ) (first : Pair Bson × List ℕ) → pair_with (nested_at levels) end bytes ≡ Ok first
    → (length first.1 < length bytes) × ((others : List (Pair Bson)) → PairsTook levels first.1 others → PairsTook levels bytes (first.0 ∷ others))
pair_more levels end takes bytes first f =
    let here = pair_took levels end takes bytes first f in (
      shorter bytes first.0.key (spelled first.0.value).1 first.1 (spelled first.0.value).0 here.parts,
      λ others there. record {
        parts = here.parts ∙ ap (λ (t : List ℕ). (spelled first.0.value).0 ∷ ((first.0.key ++ 0 ∷ (spelled first.0.value).1) ++ t)) there.parts;
        nests = omega (arith, here.nests, there.nests);
        zero_free = or_from (holds_zero first.0.key || zero_within first.0.value) (zero_in others) here.zero_free there.zero_free;
        well_formed = and_from (is_utf8 first.0.key && valid first.0.value) (valid_pairs others) here.well_formed there.well_formed;
      },
    )

pub pairs_took : (levels end : ℕ) → Takes levels → (turns place : ℕ) (bytes : List ℕ) (pairs : List (Pair Bson)) → length bytes ≤ turns
    → many_with (λ place. pair_with (nested_at levels) end) turns place bytes ≡ Ok pairs → PairsTook levels bytes pairs
pairs_took levels end takes =
    many_took (λ place. PairsTook levels) (λ place. pair_with (nested_at levels) end) (λ place. pairs_none levels) (λ place. pair_more levels end takes)

pub record ItemsTook (levels place : ℕ) (bytes : List ℕ) (values : List Bson) : Type 0 where
  pub parts : bytes ≡ numbered place (map spelled values)
  pub nests : deepest (map depth values) ≤ levels
  pub zero_free : zero_in_values (map zero_within values) ≡ false
  pub well_formed : valid_values (map valid values) ≡ true

-- no items take no bytes
items_none : (levels place : ℕ) → ItemsTook levels place [] []
items_none levels place = record { parts = refl; nests = omega arith; zero_free = refl; well_formed = refl }

-- an item in front of others
item_more : (levels end : ℕ) → Takes levels → (place : ℕ) (bytes : List ℕ) (first : Bson × List ℕ) → item_with (nested_at levels) end place bytes ≡ Ok first
    → (length first.1 < length bytes) × ((others : List Bson) → ItemsTook levels (place + 1) first.1 others → ItemsTook levels place bytes (first.0 ∷ others))
item_more levels end takes place bytes first f =
    let here = item_took levels end place takes bytes first f in (
      shorter bytes (decimal place) (spelled first.0).1 first.1 (spelled first.0).0 here.parts,
      λ others there. record {
        parts = here.parts ∙ ap (λ (t : List ℕ). (spelled first.0).0 ∷ ((decimal place ++ 0 ∷ (spelled first.0).1) ++ t)) there.parts;
        nests = omega (arith, here.nests, there.nests);
        zero_free = or_from (zero_within first.0) (zero_in_values (map zero_within others)) here.zero_free there.zero_free;
        well_formed = and_from (valid first.0) (valid_values (map valid others)) here.well_formed there.well_formed;
      },
    )

pub items_took : (levels end : ℕ) → Takes levels → (turns place : ℕ) (bytes : List ℕ) (values : List Bson) → length bytes ≤ turns
    → many_with (item_with (nested_at levels) end) turns place bytes ≡ Ok values → ItemsTook levels place bytes values
items_took levels end takes =
    many_took (ItemsTook levels) (item_with (nested_at levels) end) (items_none levels) (item_more levels end takes)

-- ---- frames

pub record FrameTook (bytes : List ℕ) (x : Frame × List ℕ) : Type 0 where
  pub parts : bytes ≡ four (length x.0.elements + 5) ++ (x.0.elements ++ x.0.last ∷ x.1)
  pub short : length x.0.elements + 5 ≤ 2147483647

pub frame_took : (bytes : List ℕ) (x : Frame × List ℕ) → frame_at bytes ≡ Some x → FrameTook bytes x
unfolding frame_at
frame_took bytes x e =
    by_some (number_at w32 bytes) (λ count. cond (ltb count.0 5 || ltb 2147483647 count.0) None (then_some (some_at (count.0 - 5) count.1) (λ part. then_some (byte_at part.1) (λ last. Some (record { elements = part.0; last = last.0 }, last.1))))) x e (λ count c rest.
    unless (ltb count.0 5 || ltb 2147483647 count.0) (then_some (some_at (count.0 - 5) count.1) (λ part. then_some (byte_at part.1) (λ last. Some (record { elements = part.0; last = last.0 }, last.1)))) x rest (λ test more.
    by_some (some_at (count.0 - 5) count.1) (λ part. then_some (byte_at part.1) (λ last. Some (record { elements = part.0; last = last.0 }, last.1))) x more (λ part p tail.
    by_some (byte_at part.1) (λ last. Some (record { elements = part.0; last = last.0 }, last.1)) x tail (λ last l is.
    let n = number_took w32 bytes count c in
    let s = some_took (count.0 - 5) count.1 part p in
    let tests = or_parts (ltb count.0 5) (ltb 2147483647 count.0) test in
    let large : 5 ≤ count.0 = ltb-false count.0 5 tests.0 in
    let small : count.0 ≤ 2147483647 = ltb-false 2147483647 count.0 tests.1 in
    let len : count.0 ≡ length part.0 + 5 = omega (arith, s.1) in
    subst (FrameTook bytes) (some_is (record { elements = part.0; last = last.0 }, last.1) x is) (record {
      parts = n.parts ∙ ap (λ (t : List ℕ). four count.0 ++ t) (s.0 ∙ ap (λ (t : List ℕ). part.0 ++ t) (byte_took part.1 last l)) ∙ ap (λ (k : ℕ). four k ++ (part.0 ++ last.0 ∷ last.1)) len;
      short = omega arith;
    })))))

-- what is inside a frame, and that its last byte is zero
inside_took : {A P : Type 0} (inside : ℕ → List ℕ → Result A ℕ) (end : ℕ) (frame : Frame) (x : A) → inside_with inside end frame ≡ Ok x
    → (inside (end - 1) frame.elements ≡ Ok x → frame.last ≡ 0 → P) → P
unfolding inside_with
inside_took inside end frame x e k =
    by_ok (inside (end - 1) frame.elements) (closed (end - 1) frame.last) x e (λ y i rest.
    by_closed (eqb frame.last 0) (end - 1) y x rest (λ zero_last is. k (i ∙ ap (λ z. Ok z) is) (eqb-true frame.last 0 zero_last)))

-- a frame and what is inside it
framed_took : {A P : Type 0} (inside : ℕ → List ℕ → Result A ℕ) (end : ℕ) (bytes : List ℕ) (x : A × List ℕ) → framed_with inside end bytes ≡ Ok x
    → ((elements : List ℕ) (e : ℕ) → inside e elements ≡ Ok x.0 → bytes ≡ framed elements ++ x.1 → P) → P
unfolding framed_with
framed_took {A} inside end bytes x e k =
    by_at (end - length bytes) (frame_at bytes) (λ frame. then_ok (inside_with inside (end - length frame.1) frame.0) (λ y. Ok (y, frame.1))) x e (λ frame f rest.
    by_ok (inside_with inside (end - length frame.1) frame.0) (λ y. Ok (y, frame.1)) x rest (λ y i is.
    inside_took inside (end - length frame.1) frame.0 y i (λ got zero_last.
    let t = frame_took bytes frame f in
    let same = ok_is (y, frame.1) x is in
    let spelt : bytes ≡ framed frame.0.elements ++ frame.1 =
    t.parts ∙ ap (λ (b : ℕ). four (length frame.0.elements + 5) ++ (frame.0.elements ++ b ∷ frame.1)) zero_last ∙ sym (regrouped (four (length frame.0.elements + 5)) frame.0.elements frame.1 0) in
    k frame.0.elements (end - length frame.1 - 1) (got ∙ ap (λ (z : A × List ℕ). Ok z.0) same) (spelt ∙ ap (λ (z : A × List ℕ). framed frame.0.elements ++ z.1) same))))

-- ---- values

-- a value is taken where its layer's type and bytes are met, and the layer nests, holds and spells as it may
layer_took : (levels kind : ℕ) (bytes rest : List ℕ) (layer : Bson-F Bson) (value : Bson) → roll-Bson layer ≡ value
    → (laid layer).0 ≡ kind → bytes ≡ (laid layer).1 ++ rest → depth_step (map-Bson Bson ℕ depth layer) ≤ levels → zero_laid layer ≡ false → valid_laid layer ≡ true
    → Took levels kind bytes (value, rest)
layer_took levels kind bytes rest layer value is typed parts nests zero_free well_formed =
    let f = folded layer in
    subst (λ (v : Bson). Took levels kind bytes (v, rest)) is (record {
      typed = ap (λ (s : ℕ × List ℕ). s.0) f.spells ∙ typed;
      parts = parts ∙ ap (λ (s : ℕ × List ℕ). s.1 ++ rest) (sym f.spells);
      nests = omega (arith, f.nests, nests);
      zero_free = f.zeros ∙ zero_free;
      well_formed = f.valids ∙ well_formed;
    })

-- the same of a leaf
from_leaf : (levels kind : ℕ) (bytes : List ℕ) (x : Bson × List ℕ) → LeafTook kind bytes x → Took levels kind bytes x
from_leaf levels kind bytes x t =
    layer_took levels kind bytes x.1 t.layer x.0 (sym t.made_of) t.typed t.parts (omega (arith, t.flat)) t.zero_free t.well_formed

-- what is inside a frame, made into a value
nest_took : {A : Type 0} (levels kind end : ℕ) (inside : ℕ → List ℕ → Result A ℕ) (make : A → Bson) (bytes : List ℕ) (x : Bson × List ℕ)
    → then_ok (framed_with inside end bytes) (λ y. Ok (make y.0, y.1)) ≡ Ok x
    → ((elements rest : List ℕ) (place : ℕ) (y : A) → inside place elements ≡ Ok y → bytes ≡ framed elements ++ rest → Took levels kind bytes (make y, rest)) → Took levels kind bytes x
nest_took levels kind end inside make bytes x e took =
    by_ok (framed_with inside end bytes) (λ y. Ok (make y.0, y.1)) x e (λ y f is.
    framed_took inside end bytes y f (λ elements place got spelt.
    subst (Took levels kind bytes) (ok_is (make y.0, y.1) x is) (took elements y.1 place y.0 got spelt)))

document_took : (levels kind end : ℕ) → Takes levels → (bytes : List ℕ) (x : Bson × List ℕ) → kind ≡ 3
    → then_ok (framed_with (pairs_with (nested_at levels)) end bytes) (λ y. Ok (bson.Document y.0, y.1)) ≡ Ok x → Took (suc levels) kind bytes x
unfolding pairs_with
document_took levels kind end takes bytes x k e =
    nest_took (suc levels) kind end (pairs_with (nested_at levels)) (λ pairs. bson.Document pairs) bytes x e (λ elements rest place pairs got spelt.
    let t = pairs_took levels place takes (length elements) 0 elements pairs (omega arith) got in
    layer_took (suc levels) kind bytes rest (Bson-F.Document pairs) (bson.Document pairs) (rolls-Document pairs) (sym k)
    (spelt ∙ ap (λ (b : List ℕ). framed b ++ rest) t.parts) (omega (arith, t.nests)) t.zero_free t.well_formed)

array_took : (levels kind end : ℕ) → Takes levels → (bytes : List ℕ) (x : Bson × List ℕ) → kind ≡ 4
    → then_ok (framed_with (items_with (nested_at levels)) end bytes) (λ y. Ok (bson.Array y.0, y.1)) ≡ Ok x → Took (suc levels) kind bytes x
unfolding items_with
array_took levels kind end takes bytes x k e =
    nest_took (suc levels) kind end (items_with (nested_at levels)) (λ values. bson.Array values) bytes x e (λ elements rest place values got spelt.
    let t = items_took levels place takes (length elements) 0 elements values (omega arith) got in
    layer_took (suc levels) kind bytes rest (Bson-F.Array values) (bson.Array values) (rolls-Array values) (sym k)
    (spelt ∙ ap (λ (b : List ℕ). framed b ++ rest) t.parts) (omega (arith, t.nests)) t.zero_free t.well_formed)

-- what documents and arrays take
abbrev NestedTakes : ℕ → Type 0
NestedTakes levels = (kind end : ℕ) (bytes : List ℕ) (x : Bson × List ℕ) → (eqb kind 3 || eqb kind 4) ≡ true → nested_at levels kind end bytes ≡ Ok x → Took levels kind bytes x

nested_zero : NestedTakes 0
unfolding nested_at
nested_zero kind end bytes x nest e = absurd cc

nested_suc : (levels : ℕ) → Takes levels → NestedTakes (suc levels)
unfolding nested_at
nested_suc levels takes kind end bytes x nest e =
    chosen (eqb kind 3) (then_ok (framed_with (pairs_with (nested_at levels)) end bytes) (λ y. Ok (bson.Document y.0, y.1))) (then_ok (framed_with (items_with (nested_at levels)) end bytes) (λ y. Ok (bson.Array y.0, y.1))) (Ok x) e
    (λ three d. document_took levels kind end takes bytes x (eqb-true kind 3 three) d)
    (λ other a. array_took levels kind end takes bytes x (elim (or_cases (eqb kind 3) (eqb kind 4) nest) [
      | inl three ↦ absurd (both_ways (eqb kind 3) other three)
      | inr four_is ↦ eqb-true kind 4 four_is
    ]) a)

takes_by : (levels : ℕ) → NestedTakes levels → Takes levels
unfolding value_with
takes_by levels nested kind end bytes x e =
    chosen (eqb kind 3 || eqb kind 4) (nested_at levels kind end bytes) (or_at (end - length bytes) (leaf_at kind bytes)) (Ok x) e
    (λ nest n. nested kind end bytes x nest n)
    (λ _ leaf. from_leaf levels kind bytes x (leaf_took kind bytes x (at_some (end - length bytes) (leaf_at kind bytes) x leaf)))

pub takes_at : (levels : ℕ) → Takes levels
takes_at zero = takes_by 0 nested_zero
takes_at (suc levels) = takes_by (suc levels) (nested_suc levels (takes_at levels))

pub whole_took : (bytes : List ℕ) (frame : Frame) → whole_at bytes ≡ Some frame → (bytes ≡ four (length frame.elements + 5) ++ (frame.elements ++ frame.last ∷ [])) × (length frame.elements + 5 ≤ 2147483647)
unfolding whole_at
whole_took bytes frame e =
    by_some (frame_at bytes) (λ f. cond (eqb (length f.1) 0) (Some f.0) None) frame e (λ f ff rest.
    when (eqb (length f.1) 0) (Some f.0) frame rest (λ empty is.
    let t = frame_took bytes f ff in
    let none : f.1 ≡ [] = nil_from_length f.1 (eqb-true (length f.1) 0 empty) in
    subst (λ (g : Frame). (bytes ≡ four (length g.elements + 5) ++ (g.elements ++ g.last ∷ [])) × (length g.elements + 5 ≤ 2147483647)) (some_is f.0 frame is)
    (t.parts ∙ ap (λ (r : List ℕ). four (length f.0.elements + 5) ++ (f.0.elements ++ f.0.last ∷ r)) none, t.short)))

-- the law: what is read was spelled so
pub read_took : (bytes : List ℕ) (document : List (Pair Bson)) → read bytes ≡ Ok document → Spells document bytes
unfolding read pairs_with
read_took bytes document e =
    by_at 0 (whole_at bytes) (λ frame. inside_with (pairs_with (nested_at 99)) (length bytes) frame) document e (λ frame w rest.
    inside_took (pairs_with (nested_at 99)) (length bytes) frame document rest (λ got zero_last.
    let whole = whole_took bytes frame w in
    let t = pairs_took 99 (length bytes - 1) (takes_at 99) (length frame.elements) 0 frame.elements document (omega arith) got in
    let spelt : bytes ≡ spelling document = whole.0 ∙ ap (λ (b : ℕ). four (length frame.elements + 5) ++ (frame.elements ++ b ∷ [])) zero_last ∙ ap framed t.parts in
    let len : length (body_of document) ≡ length frame.elements = ap length (sym t.parts) in
    record {
      has = record {
        nests = omega (arith, t.nests);
        zero_free = t.zero_free;
        well_formed = t.well_formed;
        short = omega (arith, whole.1, length-append (body_of document) (0 ∷ []));
      };
      is = spelt;
    }))
