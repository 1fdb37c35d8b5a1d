-- Where the first broken item stands, reading breaks off.
use Rattle.std.proofs.Common.{◌≡◌, ◌↔◌, ℕ, zero, suc, ◌+◌, ◌-◌, ◌≤◌, ◌<◌, true, false, ◌||◌, eqb, List, [], ◌∷◌, ◌++◌, length, Option, None, Result, Ok, Err, refl, sym, ap, subst, ◌∙◌, arith}
use Rattle.std.proofs.lemmas.Bool.{ne_eqb, or_from}
use Rattle.std.proofs.lemmas.List.{length-append}
use Rattle.bson_lite.specs.declared.bson.Bson as bson
use Rattle.bson_lite.specs.declared.bson.Bson.{Bson}
use Rattle.bson_lite.specs.declared.document.Pair.{Pair}
use Rattle.bson_lite.specs.Parts.{is_type, zero_ended, place_at, Frame, frame_at, leaf_at}
use Rattle.bson_lite.specs.Reading.{or_at, value_with, pair_with, item_with, many_with, pairs_with, items_with, inside_with, framed_with, nested_at, read}
use Rattle.bson_lite.specs.Spelling.{spelled}
use Rattle.bson_reading.specs.FirstBroken.{Form, a_document, an_array, type_of, IsKey, IsValue, AreWhole, no_more, one_more, IsFrame, IsValueAt, IsBrokenInside, its_type, its_key, its_value, too_deep, its_length, inside_it, its_last, IsFirstBroken, whole_length, inside_whole}
use Rattle.bson_lite.proofs.Again.{type_again}
use Rattle.bson_lite.proofs.Loops.{step, stops, ends}
use Rattle.bson_reading.proofs.Steps.{then_ok}
use Rattle.bson_reading.proofs.Sound.{takes_at}
use Rattle.bson_reading.proofs.Wholeness.{none_from, type_missing, no_key, no_place, whole_value, paired, element_shorter, more_behind, pair_goes, item_goes, ReadsElements, pair_reads, item_reads, frame_stands, frame_size, no_length, whole_stands, no_whole_length}
use Rattle.bson_reading.proofs.Breaking.{err_from, read_breaks}

-- ---- an element

-- the reader of elements of this form breaks off at the offset
abbrev ElementErr : ℕ → Form → ℕ → ℕ → List ℕ → ℕ → Type 0
ElementErr levels a_document end place bytes offset = pair_with (nested_at levels) end bytes ≡ Err offset
ElementErr levels an_array end place bytes offset = item_with (nested_at levels) end place bytes ≡ Err offset

pair_type_err : (nested : ℕ → ℕ → List ℕ → Result (Bson × List ℕ) ℕ) (end type : ℕ) (rest : List ℕ) → is_type type ≡ false → pair_with nested end (type ∷ rest) ≡ Err (end - length (type ∷ rest))
unfolding pair_with
pair_type_err nested end type rest unknown = rw (type_missing type rest unknown) refl

item_type_err : (nested : ℕ → ℕ → List ℕ → Result (Bson × List ℕ) ℕ) (end place type : ℕ) (rest : List ℕ) → is_type type ≡ false → item_with nested end place (type ∷ rest) ≡ Err (end - length (type ∷ rest))
unfolding item_with
item_type_err nested end place type rest unknown = rw (type_missing type rest unknown) refl

pair_key_err : (nested : ℕ → ℕ → List ℕ → Result (Bson × List ℕ) ℕ) (end type : ℕ) (rest : List ℕ) → is_type type ≡ true → zero_ended rest ≡ None → pair_with nested end (type ∷ rest) ≡ Err (end - length rest)
unfolding pair_with
pair_key_err nested end type rest known none = rw (type_again type rest known, none) refl

item_key_err : (nested : ℕ → ℕ → List ℕ → Result (Bson × List ℕ) ℕ) (end place type : ℕ) (rest : List ℕ) → is_type type ≡ true → place_at place rest ≡ None → item_with nested end place (type ∷ rest) ≡ Err (end - length rest)
unfolding item_with
item_key_err nested end place type rest known none = rw (type_again type rest known, none) refl

type_err : (levels : ℕ) (form : Form) (end place type : ℕ) (rest : List ℕ) → is_type type ≡ false → ElementErr levels form end place (type ∷ rest) (end - length (type ∷ rest))
type_err levels a_document end place type rest unknown = pair_type_err (nested_at levels) end type rest unknown
type_err levels an_array end place type rest unknown = item_type_err (nested_at levels) end place type rest unknown

key_err : (levels : ℕ) (form : Form) (end place type : ℕ) (rest : List ℕ) → is_type type ≡ true → ((key others : List ℕ) → rest ≡ key ++ 0 ∷ others → IsKey form place key → ⊥)
    → ElementErr levels form end place (type ∷ rest) (end - length rest)
key_err levels a_document end place type rest known lacks = pair_key_err (nested_at levels) end type rest known (no_key place rest lacks)
key_err levels an_array end place type rest known lacks = item_key_err (nested_at levels) end place type rest known (no_place place rest lacks)

value_err : (levels : ℕ) (form : Form) (end place type : ℕ) (key rest : List ℕ) (offset : ℕ) → is_type type ≡ true → IsKey form place key
    → value_with (nested_at levels) type end rest ≡ Err offset → ElementErr levels form end place (type ∷ (key ++ 0 ∷ rest)) offset
value_err levels a_document end place type key rest offset known k e =
    pair_goes (nested_at levels) end type place key rest known k ∙ ap (λ (r : Result (Bson × List ℕ) ℕ). then_ok r (λ value. Ok (paired key value))) e
value_err levels an_array end place type key rest offset known k e = item_goes (nested_at levels) end type place key rest known k ∙ e

-- ---- all elements

-- an element that the reader breaks off at, first of all
stops_here : {A : Type 0} (one : ℕ → List ℕ → Result (A × List ℕ) ℕ) (turns place : ℕ) (rest : List ℕ) (offset : ℕ) → 0 < length rest → length rest ≤ turns → one place rest ≡ Err offset
    → many_with one turns place rest ≡ Err offset
stops_here one zero place rest offset some enough e = absurd (omega arith)
stops_here one (suc turns) place rest offset some enough e = stops one turns place rest offset some e

-- the same behind an element that is read
stops_later : {A : Type 0} (one : ℕ → List ℕ → Result (A × List ℕ) ℕ) (turns place : ℕ) (bytes : List ℕ) (x : A) (after : List ℕ) (offset : ℕ) → length after < length bytes → length bytes ≤ turns
    → one place bytes ≡ Ok (x, after) → ((fewer : ℕ) → length after ≤ fewer → many_with one fewer (place + 1) after ≡ Err offset) → many_with one turns place bytes ≡ Err offset
stops_later one zero place bytes x after offset less enough e later = absurd (omega arith)
stops_later {A} one (suc turns) place bytes x after offset less enough e later =
    step one turns place bytes x after (omega arith) enough e ∙ ap (λ (r : Result (List A) ℕ). then_ok r (λ others. Ok (x ∷ others))) (later turns (omega arith))

-- where nothing stands before
stops_at_once : {A : Type 0} (one : ℕ → List ℕ → Result (A × List ℕ) ℕ) (turns place next : ℕ) (front rest : List ℕ) (offset : ℕ) → next ≡ place → front ≡ [] → 0 < length rest
    → length (front ++ rest) ≤ turns → one next rest ≡ Err offset → many_with one turns place (front ++ rest) ≡ Err offset
stops_at_once one turns place next front rest offset same none some enough e =
    let size : length rest ≤ turns = omega (arith, length-append front rest, enough) in
    subst (λ (f : List ℕ). many_with one turns place (f ++ rest) ≡ Err offset) (sym none)
    (stops_here one turns place rest offset some size (subst (λ (k : ℕ). one k rest ≡ Err offset) same e))

-- whole elements, and then one that the reader breaks off at
elements_err : {A : Type 0} (levels : ℕ) (form : Form) (one : ℕ → List ℕ → Result (A × List ℕ) ℕ) → ReadsElements levels form one → (rest : List ℕ) (offset : ℕ) → 0 < length rest
    → (place next : ℕ) (front : List ℕ) → AreWhole levels form place next front → (turns : ℕ) → length (front ++ rest) ≤ 2147483647 → length (front ++ rest) ≤ turns → one next rest ≡ Err offset
    → many_with one turns place (front ++ rest) ≡ Err offset
elements_err levels form one reads rest offset some _ _ _ (no_more place next front same none) turns short enough e =
    stops_at_once one turns place next front rest offset same none some enough e
elements_err levels form one reads rest offset some _ _ _ (one_more place next front others element later) turns short enough e =
    let whole = more_behind levels form place front others rest element in
    let less : length (others ++ rest) < length (front ++ rest) = element_shorter levels form place (front ++ rest) (others ++ rest) whole in
    let here = reads.stands place (front ++ rest) (others ++ rest) short whole in
    stops_later one turns place (front ++ rest) here.item (others ++ rest) offset less enough here.is
    (λ fewer left. elements_err levels form one reads rest offset some (place + 1) next others later fewer (omega (arith, less, short)) left e)

-- all that was read
record ReadsAll {A : Type 0} (result : Result A ℕ) : Type 0 where
  all : A
  is : result ≡ Ok all

reads_later : {A : Type 0} (one : ℕ → List ℕ → Result (A × List ℕ) ℕ) (turns place : ℕ) (bytes : List ℕ) (x : A) (after : List ℕ) → length after < length bytes → length bytes ≤ turns
    → one place bytes ≡ Ok (x, after) → ((fewer : ℕ) → length after ≤ fewer → ReadsAll (many_with one fewer (place + 1) after)) → ReadsAll (many_with one turns place bytes)
reads_later one zero place bytes x after less enough e later = absurd (omega arith)
reads_later {A} one (suc turns) place bytes x after less enough e later =
    let there = later turns (omega arith) in
    record {
      all = x ∷ there.all;
      is = step one turns place bytes x after (omega arith) enough e ∙ ap (λ (r : Result (List A) ℕ). then_ok r (λ others. Ok (x ∷ others))) there.is;
    }

-- whole elements are all read
elements_read : {A : Type 0} (levels : ℕ) (form : Form) (one : ℕ → List ℕ → Result (A × List ℕ) ℕ) → ReadsElements levels form one
    → (place next : ℕ) (bytes : List ℕ) → AreWhole levels form place next bytes → (turns : ℕ) → length bytes ≤ 2147483647 → length bytes ≤ turns → ReadsAll (many_with one turns place bytes)
elements_read levels form one reads _ _ _ (no_more place next bytes same none) turns short enough =
    record { all = []; is = ends one turns place bytes (omega (arith, ap length none)) }
elements_read levels form one reads _ _ _ (one_more place next bytes others element later) turns short enough =
    let less : length others < length bytes = element_shorter levels form place bytes others element in
    let here = reads.stands place bytes others short element in
    reads_later one turns place bytes here.item others less enough here.is
    (λ fewer left. elements_read levels form one reads (place + 1) next others later fewer (omega (arith, less, short)) left)

-- ---- frames

-- the reader of what a frame of this form holds breaks off at the offset
abbrev InsideErr : ℕ → Form → ℕ → Frame → ℕ → Type 0
InsideErr levels a_document end frame offset = inside_with (pairs_with (nested_at levels)) end frame ≡ Err offset
InsideErr levels an_array end frame offset = inside_with (items_with (nested_at levels)) end frame ≡ Err offset

inside_err : {A : Type 0} (inside : ℕ → List ℕ → Result A ℕ) (end : ℕ) (frame : Frame) (offset : ℕ) → inside (end - 1) frame.elements ≡ Err offset → inside_with inside end frame ≡ Err offset
unfolding inside_with
inside_err inside end frame offset e = rw e refl

inside_last : {A : Type 0} (inside : ℕ → List ℕ → Result A ℕ) (end : ℕ) (frame : Frame) (x : A) → inside (end - 1) frame.elements ≡ Ok x → (frame.last ≡ 0 → ⊥) → inside_with inside end frame ≡ Err (end - 1)
unfolding inside_with
inside_last inside end frame x e nonzero = rw (e, ne_eqb frame.last 0 nonzero) refl

-- an element that breaks off behind whole ones
element_inside : (levels : ℕ) (form : Form) (end place : ℕ) (frame : Frame) (front rest : List ℕ) (offset : ℕ) → AreWhole levels form 0 place front → frame.elements ≡ front ++ rest → 0 < length rest
    → length frame.elements ≤ 2147483647 → ElementErr levels form (end - 1) place rest offset → InsideErr levels form end frame offset
unfolding pairs_with items_with
element_inside levels a_document end place frame front rest offset whole parts some short e =
    let size : length (front ++ rest) ≡ length frame.elements = ap length (sym parts) in
    inside_err (pairs_with (nested_at levels)) end frame offset
    (ap (λ (t : List ℕ). many_with (λ turn. pair_with (nested_at levels) (end - 1)) (length frame.elements) 0 t) parts
    ∙ elements_err levels a_document (λ turn. pair_with (nested_at levels) (end - 1)) (pair_reads levels (end - 1)) rest offset some 0 place front whole (length frame.elements) (omega (arith, size, short)) (omega (arith, size)) e)
element_inside levels an_array end place frame front rest offset whole parts some short e =
    let size : length (front ++ rest) ≡ length frame.elements = ap length (sym parts) in
    inside_err (items_with (nested_at levels)) end frame offset
    (ap (λ (t : List ℕ). many_with (item_with (nested_at levels) (end - 1)) (length frame.elements) 0 t) parts
    ∙ elements_err levels an_array (item_with (nested_at levels) (end - 1)) (item_reads levels (end - 1)) rest offset some 0 place front whole (length frame.elements) (omega (arith, size, short)) (omega (arith, size)) e)

-- a last byte that is not zero behind whole elements
last_inside : (levels : ℕ) (form : Form) (end place : ℕ) (frame : Frame) → AreWhole levels form 0 place frame.elements → (frame.last ≡ 0 → ⊥) → length frame.elements ≤ 2147483647 → InsideErr levels form end frame (end - 1)
unfolding pairs_with items_with
last_inside levels a_document end place frame whole nonzero short =
    let got = elements_read levels a_document (λ turn. pair_with (nested_at levels) (end - 1)) (pair_reads levels (end - 1)) 0 place frame.elements whole (length frame.elements) short (omega arith) in
    inside_last (pairs_with (nested_at levels)) end frame got.all got.is nonzero
last_inside levels an_array end place frame whole nonzero short =
    let got = elements_read levels an_array (item_with (nested_at levels) (end - 1)) (item_reads levels (end - 1)) 0 place frame.elements whole (length frame.elements) short (omega arith) in
    inside_last (items_with (nested_at levels)) end frame got.all got.is nonzero

-- ---- values

nothing_read : {A : Type 0} (offset : ℕ) (o : Option A) → o ≡ None → or_at offset o ≡ Err offset
nothing_read offset o e = ap (or_at offset) e

-- where no value of a type that holds no others stands
leaf_err : (levels type end : ℕ) (rest : List ℕ) → ((nested : Form) → type ≡ type_of nested → ⊥) → ((value others : List ℕ) → rest ≡ value ++ others → IsValue levels type value → ⊥)
    → value_with (nested_at levels) type end rest ≡ Err (end - length rest)
unfolding value_with
leaf_err levels type end rest other lacks =
    let test : (eqb type 3 || eqb type 4) ≡ false = or_from (eqb type 3) (eqb type 4) (ne_eqb type 3 (other a_document)) (ne_eqb type 4 (other an_array)) in
    let none : leaf_at type rest ≡ None = none_from (leaf_at type rest) (λ x e.
    let took = takes_at levels type end rest x (rw test (ap (or_at (end - length rest)) e)) in
    lacks (spelled x.0).1 x.1 took.parts (whole_value levels type rest x took)) in
    rw test (nothing_read (end - length rest) (leaf_at type rest) none)

-- where no more levels may nest
deep_err : (nested : Form) (end : ℕ) (rest : List ℕ) → value_with (nested_at zero) (type_of nested) end rest ≡ Err (end - length rest)
unfolding value_with nested_at
deep_err a_document end rest = refl
deep_err an_array end rest = refl

-- a frame that is not there, and one whose inside the reader breaks off at
framed_none : {A : Type 0} (inside : ℕ → List ℕ → Result A ℕ) (end : ℕ) (rest : List ℕ) → frame_at rest ≡ None → framed_with inside end rest ≡ Err (end - length rest)
unfolding framed_with
framed_none inside end rest none = rw none refl

framed_err : {A : Type 0} (inside : ℕ → List ℕ → Result A ℕ) (end : ℕ) (inner : Frame) (rest others : List ℕ) (offset : ℕ) → IsFrame inner rest others
    → inside_with inside (end - length others) inner ≡ Err offset → framed_with inside end rest ≡ Err offset
unfolding framed_with
framed_err inside end inner rest others offset f e = rw (frame_stands inner rest others f, e) refl

-- what breaks off in its frame breaks off as a value
document_err : (below end : ℕ) (rest : List ℕ) (offset : ℕ) → framed_with (pairs_with (nested_at below)) end rest ≡ Err offset → value_with (nested_at (suc below)) 3 end rest ≡ Err offset
unfolding value_with nested_at
document_err below end rest offset e = ap (λ (r : Result (List (Pair Bson) × List ℕ) ℕ). then_ok r (λ x. Ok (bson.Document x.0, x.1))) e

array_err : (below end : ℕ) (rest : List ℕ) (offset : ℕ) → framed_with (items_with (nested_at below)) end rest ≡ Err offset → value_with (nested_at (suc below)) 4 end rest ≡ Err offset
unfolding value_with nested_at
array_err below end rest offset e = ap (λ (r : Result (List Bson × List ℕ) ℕ). then_ok r (λ x. Ok (bson.Array x.0, x.1))) e

-- where a length is broken
length_err : (below : ℕ) (nested : Form) (end : ℕ) (rest : List ℕ) → frame_at rest ≡ None → value_with (nested_at (suc below)) (type_of nested) end rest ≡ Err (end - length rest)
length_err below a_document end rest none = document_err below end rest (end - length rest) (framed_none (pairs_with (nested_at below)) end rest none)
length_err below an_array end rest none = array_err below end rest (end - length rest) (framed_none (items_with (nested_at below)) end rest none)

-- where a document or an array is broken inside
nested_err : (below : ℕ) (nested : Form) (end : ℕ) (inner : Frame) (rest others : List ℕ) (offset : ℕ) → IsFrame inner rest others → InsideErr below nested (end - length others) inner offset
    → value_with (nested_at (suc below)) (type_of nested) end rest ≡ Err offset
nested_err below a_document end inner rest others offset f e = document_err below end rest offset (framed_err (pairs_with (nested_at below)) end inner rest others offset f e)
nested_err below an_array end inner rest others offset f e = array_err below end rest offset (framed_err (items_with (nested_at below)) end inner rest others offset f e)

-- ---- the rules

-- a value's own offset, told by the bytes that are left
value_offset : (levels : ℕ) (form : Form) (start end : ℕ) (elements : List ℕ) (type : ℕ) (rest : List ℕ) (offset : ℕ) → end ≡ start + length elements + 5
    → IsValueAt levels form start elements type rest offset → end - 1 - length rest ≡ offset
value_offset levels form start end elements type rest offset stop here =
    omega (arith, stop, here.stands, ap length here.parts, length-append here.front (type ∷ (here.key ++ 0 ∷ rest)), length-append here.key (0 ∷ rest))

-- a value's bytes have room among the elements
value_room : (levels : ℕ) (form : Form) (start : ℕ) (elements : List ℕ) (type : ℕ) (rest : List ℕ) (offset : ℕ) → IsValueAt levels form start elements type rest offset → length rest ≤ length elements
value_room levels form start elements type rest offset here =
    omega (arith, ap length here.parts, length-append here.front (type ∷ (here.key ++ 0 ∷ rest)), length-append here.key (0 ∷ rest))

-- a value that the reader breaks off at, in its frame
value_inside : (levels : ℕ) (form : Form) (start end : ℕ) (frame : Frame) (type : ℕ) (rest : List ℕ) (begin offset : ℕ) → IsValueAt levels form start frame.elements type rest begin
    → length frame.elements ≤ 2147483647 → value_with (nested_at levels) type (end - 1) rest ≡ Err offset → InsideErr levels form end frame offset
value_inside levels form start end frame type rest begin offset here short e =
    element_inside levels form end here.place frame here.front (type ∷ (here.key ++ 0 ∷ rest)) offset here.whole here.parts (omega arith) short
    (value_err levels form (end - 1) here.place type here.key rest offset here.known here.has_key e)

-- each rule is one that the reader breaks off by
inside_refused : (levels : ℕ) (form : Form) (start : ℕ) (frame : Frame) (offset : ℕ) → IsBrokenInside levels form start frame offset
    → (end : ℕ) → end ≡ start + length frame.elements + 5 → length frame.elements ≤ 2147483647 → InsideErr levels form end frame offset
inside_refused _ _ _ _ _ (its_type levels form start frame offset place type front rest whole parts unknown is) end stop short =
    let begin : end - 1 - length (type ∷ rest) ≡ offset = omega (arith, is, stop, ap length parts, length-append front (type ∷ rest)) in
    element_inside levels form end place frame front (type ∷ rest) offset whole parts (omega arith) short
    (subst (λ (q : ℕ). ElementErr levels form (end - 1) place (type ∷ rest) q) begin (type_err levels form (end - 1) place type rest unknown))
inside_refused _ _ _ _ _ (its_key levels form start frame offset place type front rest whole parts known lacks is) end stop short =
    let begin : end - 1 - length rest ≡ offset = omega (arith, is, stop, ap length parts, length-append front (type ∷ rest)) in
    element_inside levels form end place frame front (type ∷ rest) offset whole parts (omega arith) short
    (subst (λ (q : ℕ). ElementErr levels form (end - 1) place (type ∷ rest) q) begin (key_err levels form (end - 1) place type rest known lacks))
inside_refused _ _ _ _ _ (its_value levels form start frame offset type rest here other lacks) end stop short =
    value_inside levels form start end frame type rest offset offset here short
    (leaf_err levels type (end - 1) rest other lacks ∙ err_from (end - 1 - length rest) offset (value_offset levels form start end frame.elements type rest offset stop here))
inside_refused _ _ _ _ _ (too_deep form start frame offset nested rest here) end stop short =
    value_inside zero form start end frame (type_of nested) rest offset offset here short
    (deep_err nested (end - 1) rest ∙ err_from (end - 1 - length rest) offset (value_offset zero form start end frame.elements (type_of nested) rest offset stop here))
inside_refused _ _ _ _ _ (its_length below form start frame offset nested rest here lacks) end stop short =
    value_inside (suc below) form start end frame (type_of nested) rest offset offset here short
    (length_err below nested (end - 1) rest (no_length rest lacks) ∙ err_from (end - 1 - length rest) offset (value_offset (suc below) form start end frame.elements (type_of nested) rest offset stop here))
inside_refused _ _ _ _ _ (inside_it below form start frame offset nested begin inner rest others here stands broken) end stop short =
    let begins : end - 1 - length rest ≡ begin = value_offset (suc below) form start end frame.elements (type_of nested) rest begin stop here in
    let size : length rest ≡ length inner.elements + length others + 5 = frame_size inner rest others stands in
    let room : length rest ≤ length frame.elements = value_room (suc below) form start frame.elements (type_of nested) rest begin here in
    value_inside (suc below) form start end frame (type_of nested) rest begin offset here short
    (nested_err below nested (end - 1) inner rest others offset stands
    (inside_refused below nested begin inner offset broken (end - 1 - length others) (omega (arith, begins, size, room, stop)) (omega (arith, size, room, short))))
inside_refused _ _ _ _ _ (its_last levels form start frame offset place whole nonzero is) end stop short =
    let last : end - 1 ≡ offset = omega (arith, is, stop) in
    subst (λ (q : ℕ). InsideErr levels form end frame q) last (last_inside levels form end place frame whole nonzero short)

-- where the first broken item stands, reading breaks off
pub read_refused : (bytes : List ℕ) (offset : ℕ) → IsFirstBroken bytes offset → read bytes ≡ Err offset
unfolding read
read_refused bytes _ (whole_length offset lacks is) = rw (no_whole_length bytes lacks) (err_from 0 offset (sym is))
read_refused bytes _ (inside_whole offset frame stands broken) =
    let size : length bytes ≡ 0 + length frame.elements + 5 = omega (arith, frame_size frame bytes [] stands) in
    rw (whole_stands frame bytes stands) (inside_refused 99 a_document 0 frame offset broken (length bytes) size (omega (arith, stands.stated)))

-- the law: reading breaks off exactly where the first broken item stands
pub breaks_exactly : (bytes : List ℕ) (offset : ℕ) → read bytes ≡ Err offset ↔ IsFirstBroken bytes offset
breaks_exactly bytes offset = (read_breaks bytes offset, read_refused bytes offset)
