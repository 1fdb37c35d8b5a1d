-- Whole parts of a document, as they stand in its bytes, and what the readers make of them.
use Rattle.std.proofs.Common.{◌≡◌, ℕ, ◌+◌, ◌-◌, ◌≤◌, ◌<◌, Bool, true, false, ◌||◌, ltb, eqb, cond, List, [], ◌∷◌, ◌++◌, length, take, drop, Option, Some, None, Result, Ok, refl, sym, ap, subst, ◌∙◌, append_assoc, arith, inl, inr}
use Rattle.std.specs.Prelude.{decimal}
use Rattle.std.specs.Str.{bytes_eq}
use Rattle.std.proofs.lemmas.Bool.{le-ltb, eqb-true, eqb-false, or_parts, or_cases}
use Rattle.std.proofs.lemmas.List.{length-append, length-drop, length-take-le, take-append-drop, take_at, nil_from_length}
use Rattle.bson_lite.specs.declared.bson.Bson.{Bson}
use Rattle.bson_lite.specs.declared.document.Pair.{Pair}
use Rattle.bson_lite.specs.Parts.{byte_at, zero_ended, is_type, type_at, place_at, Frame, frame_at, whole_at}
use Rattle.bson_lite.specs.Reading.{or_at, value_with, pair_with, item_with, nested_at}
use Rattle.bson_lite.specs.Spelling.{four, spelled}
use Rattle.bson_reading.specs.FirstBroken.{Form, a_document, an_array, type_of, IsKey, IsValue, IsElement, IsLength, IsFrame}
use Rattle.bson_lite.proofs.Numbers.{bytes_eq-same, same-bytes_eq, some_again, four_again}
use Rattle.bson_lite.proofs.Again.{zero_again, type_again}
use Rattle.bson_lite.proofs.Nested.{value_again}
use Rattle.bson_reading.proofs.Steps.{some_is, ok_is, then_ok, by_some, by_ok, by_at, when}
use Rattle.bson_reading.proofs.Takes.{byte_took, zero_took}
use Rattle.bson_reading.proofs.Sound.{Took, takes_at, frame_took, whole_took}

-- what is not there is not there
pub never : {A : Type 0} (x : A) → ◌≡◌ {A = Option A} None (Some x) → ⊥
never x e = cc

pub none_from : {A : Type 0} (o : Option A) → ((x : A) → o ≡ Some x → ⊥) → o ≡ None
none_from None h = refl
none_from (Some x) h = absurd (h x refl)

-- ---- type bytes

-- a type byte that was read is one of the table
pub type_known : (bytes : List ℕ) (x : ℕ × List ℕ) → type_at bytes ≡ Some x → (bytes ≡ x.0 ∷ x.1) × (is_type x.0 ≡ true)
unfolding type_at
type_known bytes x e =
    by_some (byte_at bytes) (λ byte. cond (is_type byte.0) (Some byte) None) x e (λ byte b rest.
    when (is_type byte.0) (Some byte) x rest (λ known is.
    subst (λ (y : ℕ × List ℕ). (bytes ≡ y.0 ∷ y.1) × (is_type y.0 ≡ true)) (some_is byte x is) (byte_took bytes byte b, known)))

none_when : {A : Type 0} (b : Bool) (x : A) → ◌≡◌ {A = Option A} (cond b (Some x) None) None → b ≡ false
none_when true x e = absurd cc
none_when false x e = refl

pub type_unknown : (byte : ℕ) (bytes : List ℕ) → type_at (byte ∷ bytes) ≡ None → is_type byte ≡ false
unfolding type_at byte_at
type_unknown byte bytes e = none_when (is_type byte) (byte, bytes) e

pub type_missing : (byte : ℕ) (bytes : List ℕ) → is_type byte ≡ false → type_at (byte ∷ bytes) ≡ None
unfolding type_at byte_at
type_missing byte bytes e = rw e refl

-- the form of a nested value of this type
pub record NestedForm (type : ℕ) : Type 0 where
  pub form : Form
  pub is : type ≡ type_of form

pub form_of : (type : ℕ) → (eqb type 3 || eqb type 4) ≡ true → NestedForm type
form_of type nest = elim (or_cases (eqb type 3) (eqb type 4) nest) [
  | inl three ↦ record { form = a_document; is = eqb-true type 3 three }
  | inr four_is ↦ record { form = an_array; is = eqb-true type 4 four_is }
]

pub no_form : (type : ℕ) → (eqb type 3 || eqb type 4) ≡ false → (nested : Form) → type ≡ type_of nested → ⊥
no_form type e a_document is = eqb-false type 3 (or_parts (eqb type 3) (eqb type 4) e).0 is
no_form type e an_array is = eqb-false type 4 (or_parts (eqb type 3) (eqb type 4) e).1 is

-- ---- keys

-- a key in front of the bytes, and what is after it
pub record KeyFound (form : Form) (place : ℕ) (bytes after : List ℕ) : Type 0 where
  pub key : List ℕ
  pub parts : bytes ≡ key ++ 0 ∷ after
  pub has_key : IsKey form place key

pub key_found : (place : ℕ) (bytes : List ℕ) (x : List ℕ × List ℕ) → zero_ended bytes ≡ Some x → IsKey a_document place x.0
key_found place bytes x e = let z = zero_took bytes x e in record { utf8 = z.utf8; zero_free = z.zero_free; numbered = tt }

pub place_found : (place : ℕ) (bytes after : List ℕ) → place_at place bytes ≡ Some after → KeyFound an_array place bytes after
unfolding place_at
place_found place bytes after e =
    by_some (zero_ended bytes) (λ key. cond (bytes_eq key.0 (decimal place)) (Some key.1) None) after e (λ key k rest.
    when (bytes_eq key.0 (decimal place)) (Some key.1) after rest (λ same is.
    let z = zero_took bytes key k in
    record {
      key = key.0;
      parts = z.parts ∙ ap (λ (t : List ℕ). key.0 ++ 0 ∷ t) (some_is key.1 after is);
      has_key = record { utf8 = z.utf8; zero_free = z.zero_free; numbered = same-bytes_eq key.0 (decimal place) same };
    }))

pub place_again : (place : ℕ) (key others : List ℕ) → IsKey an_array place key → place_at place (key ++ 0 ∷ others) ≡ Some others
unfolding place_at
place_again place key others k =
    let number : key ≡ decimal place = k.numbered in
    rw (zero_again key others k.zero_free k.utf8, ← number, bytes_eq-same key) refl

-- where the reader of keys finds none, none stands
pub key_missing : (form : Form) (place : ℕ) (bytes : List ℕ) → zero_ended bytes ≡ None → (key others : List ℕ) → bytes ≡ key ++ 0 ∷ others → IsKey form place key → ⊥
key_missing form place bytes none key others e k =
    never (key, others) (sym none ∙ ap zero_ended e ∙ zero_again key others k.zero_free k.utf8)

pub place_missing : (place : ℕ) (bytes : List ℕ) → place_at place bytes ≡ None → (key others : List ℕ) → bytes ≡ key ++ 0 ∷ others → IsKey an_array place key → ⊥
place_missing place bytes none key others e k =
    never others (sym none ∙ ap (place_at place) e ∙ place_again place key others k)

-- where no key stands, the reader of keys finds none
pub no_key : (place : ℕ) (bytes : List ℕ) → ((key others : List ℕ) → bytes ≡ key ++ 0 ∷ others → IsKey a_document place key → ⊥) → zero_ended bytes ≡ None
no_key place bytes lacks = none_from (zero_ended bytes) (λ x e. lacks x.0 x.1 (zero_took bytes x e).parts (key_found place bytes x e))

pub no_place : (place : ℕ) (bytes : List ℕ) → ((key others : List ℕ) → bytes ≡ key ++ 0 ∷ others → IsKey an_array place key → ⊥) → place_at place bytes ≡ None
no_place place bytes lacks = none_from (place_at place bytes) (λ after e. let f = place_found place bytes after e in lacks f.key after f.parts f.has_key)

-- ---- values

-- what was taken is a whole value
pub whole_value : (levels type : ℕ) (bytes : List ℕ) (x : Bson × List ℕ) → Took levels type bytes x → IsValue levels type (spelled x.0).1
whole_value levels type bytes x t = record {
  value = x.0;
  typed = t.typed;
  spells = refl;
  nests = t.nests;
  zero_free = t.zero_free;
  well_formed = t.well_formed;
}

-- a whole value is read where it stands, and its type is one of the table
pub record ValueStands (levels type : ℕ) (bytes : List ℕ) : Type 0 where
  pub known : is_type type ≡ true
  pub value : Bson
  pub reads : (end : ℕ) (others : List ℕ) → value_with (nested_at levels) type end (bytes ++ others) ≡ Ok (value, others)

pub value_stands : (levels type : ℕ) (bytes : List ℕ) → IsValue levels type bytes → length bytes ≤ 2147483647 → ValueStands levels type bytes
value_stands levels type bytes v short =
    let again = value_again levels v.value (record { nests = v.nests; zero_free = v.zero_free; well_formed = v.well_formed; short = omega (arith, ap length v.spells, short) }) in
    record {
      known = subst (λ (k : ℕ). is_type k ≡ true) v.typed again.typed;
      value = v.value;
      reads = λ end others. subst (λ (k : ℕ). value_with (nested_at levels) k end (bytes ++ others) ≡ Ok (v.value, others)) v.typed
          (subst (λ (t : List ℕ). value_with (nested_at levels) (spelled v.value).0 end (t ++ others) ≡ Ok (v.value, others)) v.spells (again.read end others));
    }

-- ---- elements

-- a pair from its key and a value
abbrev pub paired : List ℕ → Bson × List ℕ → Pair Bson × List ℕ
paired key value = (record { key = key; value = value.0 }, value.1)

pub element_shorter : (levels : ℕ) (form : Form) (place : ℕ) (bytes others : List ℕ) → IsElement levels form place bytes others → length others < length bytes
element_shorter levels form place bytes others e =
    omega (arith, ap length e.parts, length-append e.key (0 ∷ (e.value ++ others)), length-append e.value others)

-- bytes behind an element, and behind what is in front of them
pub spread : (type : ℕ) (key value front rest : List ℕ) → (type ∷ (key ++ 0 ∷ (value ++ front))) ++ rest ≡ type ∷ (key ++ 0 ∷ (value ++ (front ++ rest)))
spread type key value front rest =
    ap (λ (t : List ℕ). type ∷ t) (append_assoc key (0 ∷ (value ++ front)) rest ∙ ap (λ (t : List ℕ). key ++ 0 ∷ t) (append_assoc value front rest))

-- a whole element stays one in front of more bytes
pub more_behind : (levels : ℕ) (form : Form) (place : ℕ) (bytes others rest : List ℕ) → IsElement levels form place bytes others → IsElement levels form place (bytes ++ rest) (others ++ rest)
more_behind levels form place bytes others rest e = record {
  type = e.type;
  key = e.key;
  value = e.value;
  parts = ap (λ (t : List ℕ). t ++ rest) e.parts ∙ spread e.type e.key e.value others rest;
  has_key = e.has_key;
  has_value = e.has_value;
}

-- after its type byte and its key an element goes on with its value
pub pair_goes : (nested : ℕ → ℕ → List ℕ → Result (Bson × List ℕ) ℕ) (end type place : ℕ) (key after : List ℕ) → is_type type ≡ true → IsKey a_document place key
    → pair_with nested end (type ∷ (key ++ 0 ∷ after)) ≡ then_ok (value_with nested type end after) (λ value. Ok (paired key value))
unfolding pair_with
pair_goes nested end type place key after known k = rw (type_again type (key ++ 0 ∷ after) known, zero_again key after k.zero_free k.utf8) refl

pub item_goes : (nested : ℕ → ℕ → List ℕ → Result (Bson × List ℕ) ℕ) (end type place : ℕ) (key after : List ℕ) → is_type type ≡ true → IsKey an_array place key
    → item_with nested end place (type ∷ (key ++ 0 ∷ after)) ≡ value_with nested type end after
unfolding item_with
item_goes nested end type place key after known k = rw (type_again type (key ++ 0 ∷ after) known, place_again place key after k) refl

-- what was read, with these bytes left
pub record Reads {A : Type 0} (result : Result (A × List ℕ) ℕ) (others : List ℕ) : Type 0 where
  pub item : A
  pub is : result ≡ Ok (item, others)

value_short : (levels : ℕ) (form : Form) (place : ℕ) (bytes others : List ℕ) (e : IsElement levels form place bytes others) → length bytes ≤ 2147483647 → length e.value ≤ 2147483647
value_short levels form place bytes others e short =
    omega (arith, ap length e.parts, length-append e.key (0 ∷ (e.value ++ others)), length-append e.value others, short)

pair_stands : (levels end place : ℕ) (bytes others : List ℕ) → length bytes ≤ 2147483647 → IsElement levels a_document place bytes others → Reads (pair_with (nested_at levels) end bytes) others
pair_stands levels end place bytes others short e =
    let v = value_stands levels e.type e.value e.has_value (value_short levels a_document place bytes others e short) in
    record {
      item = record { key = e.key; value = v.value };
      is = ap (pair_with (nested_at levels) end) e.parts
          ∙ pair_goes (nested_at levels) end e.type place e.key (e.value ++ others) v.known e.has_key
          ∙ ap (λ (r : Result (Bson × List ℕ) ℕ). then_ok r (λ value. Ok (paired e.key value))) (v.reads end others);
    }

item_stands : (levels end place : ℕ) (bytes others : List ℕ) → length bytes ≤ 2147483647 → IsElement levels an_array place bytes others → Reads (item_with (nested_at levels) end place bytes) others
item_stands levels end place bytes others short e =
    let v = value_stands levels e.type e.value e.has_value (value_short levels an_array place bytes others e short) in
    record {
      item = v.value;
      is = ap (item_with (nested_at levels) end place) e.parts
          ∙ item_goes (nested_at levels) end e.type place e.key (e.value ++ others) v.known e.has_key
          ∙ v.reads end others;
    }

pair_whole : (levels end place : ℕ) (bytes : List ℕ) (x : Pair Bson × List ℕ) → pair_with (nested_at levels) end bytes ≡ Ok x → IsElement levels a_document place bytes x.1
unfolding pair_with
pair_whole levels end place bytes x e =
    by_at (end - length bytes) (type_at bytes) (λ type. then_ok (or_at (end - length type.1) (zero_ended type.1)) (λ key. then_ok (value_with (nested_at levels) type.0 end key.1) (λ value. Ok (paired key.0 value)))) x e (λ type byte rest.
    by_at (end - length type.1) (zero_ended type.1) (λ key. then_ok (value_with (nested_at levels) type.0 end key.1) (λ value. Ok (paired key.0 value))) x rest (λ key k more.
    by_ok (value_with (nested_at levels) type.0 end key.1) (λ value. Ok (paired key.0 value)) x more (λ value v is.
    let z = zero_took type.1 key k in
    let took = takes_at levels type.0 end key.1 value v in
    subst (λ (y : Pair Bson × List ℕ). IsElement levels a_document place bytes y.1) (ok_is (paired key.0 value) x is) (record {
      type = type.0;
      key = key.0;
      value = (spelled value.0).1;
      parts = (type_known bytes type byte).0 ∙ ap (λ (t : List ℕ). type.0 ∷ t) (z.parts ∙ ap (λ (t : List ℕ). key.0 ++ 0 ∷ t) took.parts);
      has_key = key_found place type.1 key k;
      has_value = whole_value levels type.0 key.1 value took;
    }))))

item_whole : (levels end place : ℕ) (bytes : List ℕ) (x : Bson × List ℕ) → item_with (nested_at levels) end place bytes ≡ Ok x → IsElement levels an_array place bytes x.1
unfolding item_with
item_whole levels end place bytes x e =
    by_at (end - length bytes) (type_at bytes) (λ type. then_ok (or_at (end - length type.1) (place_at place type.1)) (λ after. value_with (nested_at levels) type.0 end after)) x e (λ type byte rest.
    by_at (end - length type.1) (place_at place type.1) (λ after. value_with (nested_at levels) type.0 end after) x rest (λ after a v.
    let found = place_found place type.1 after a in
    let took = takes_at levels type.0 end after x v in
    record {
      type = type.0;
      key = found.key;
      value = (spelled x.0).1;
      parts = (type_known bytes type byte).0 ∙ ap (λ (t : List ℕ). type.0 ∷ t) (found.parts ∙ ap (λ (t : List ℕ). found.key ++ 0 ∷ t) took.parts);
      has_key = found.has_key;
      has_value = whole_value levels type.0 after x took;
    }))

-- a reader of elements reads what is whole, and only that
pub record ReadsElements {A : Type 0} (levels : ℕ) (form : Form) (one : ℕ → List ℕ → Result (A × List ℕ) ℕ) : Type 0 where
  pub took : (place : ℕ) (bytes : List ℕ) (x : A × List ℕ) → one place bytes ≡ Ok x → IsElement levels form place bytes x.1
  pub stands : (place : ℕ) (bytes others : List ℕ) → length bytes ≤ 2147483647 → IsElement levels form place bytes others → Reads (one place bytes) others

pub pair_reads : (levels end : ℕ) → ReadsElements levels a_document (λ place. pair_with (nested_at levels) end)
pair_reads levels end = record { took = pair_whole levels end; stands = pair_stands levels end }

pub item_reads : (levels end : ℕ) → ReadsElements levels an_array (item_with (nested_at levels) end)
item_reads levels end = record { took = item_whole levels end; stands = item_stands levels end }

-- ---- lengths and frames

pub frame_stands : (frame : Frame) (bytes rest : List ℕ) → IsFrame frame bytes rest → frame_at bytes ≡ Some (frame, rest)
unfolding frame_at byte_at
frame_stands frame bytes rest f =
    let many : ltb (length frame.elements + 5) 5 ≡ false = le-ltb (length frame.elements + 5) 5 (omega arith) in
    let few : ltb 2147483647 (length frame.elements + 5) ≡ false = le-ltb 2147483647 (length frame.elements + 5) f.stated in
    let less : length frame.elements + 5 - 5 ≡ length frame.elements = omega arith in
    rw (f.parts, four_again (four (length frame.elements + 5)) (frame.elements ++ frame.last ∷ rest) (length frame.elements + 5) refl (omega (arith, f.stated)), many, few, less, some_again frame.elements (frame.last ∷ rest) (length frame.elements) refl) refl

pub frame_is : (bytes : List ℕ) (x : Frame × List ℕ) → frame_at bytes ≡ Some x → IsFrame x.0 bytes x.1
frame_is bytes x e = let t = frame_took bytes x e in record { parts = t.parts; stated = t.short }

pub frame_size : (frame : Frame) (bytes rest : List ℕ) → IsFrame frame bytes rest → length bytes ≡ length frame.elements + length rest + 5
frame_size frame bytes rest f = omega (arith, ap length f.parts, length-append frame.elements (frame.last ∷ rest))

-- a frame has a whole length
pub frame_length : (frame : Frame) (bytes rest : List ℕ) → IsFrame frame bytes rest → IsLength (length frame.elements + 5) bytes
frame_length frame bytes rest f = record {
  held = ap (take 4) f.parts ∙ take_at (four (length frame.elements + 5)) (frame.elements ++ frame.last ∷ rest) 4 refl;
  least = omega arith;
  most = omega (arith, frame_size frame bytes rest f);
  stated = f.stated;
}

-- a frame with this length
pub record Framed (count : ℕ) (bytes : List ℕ) : Type 0 where
  pub frame : Frame
  pub rest : List ℕ
  pub is_frame : IsFrame frame bytes rest
  pub counts : length frame.elements + 5 ≡ count

framed_before : (count : ℕ) (bytes elements tail : List ℕ) → bytes ≡ four count ++ (elements ++ tail) → length elements + 5 ≡ count → 0 < length tail → count ≤ 2147483647 → Framed count bytes
framed_before count bytes elements [] e c some stated = absurd (omega arith)
framed_before count bytes elements (last ∷ rest) e c some stated = record {
  frame = record { elements = elements; last = last };
  rest = rest;
  is_frame = record {
    parts = e ∙ ap (λ (k : ℕ). four k ++ (elements ++ last ∷ rest)) (sym c);
    stated = omega (arith, c, stated);
  };
  counts = c;
}

-- a whole length has a frame
pub framed_by : (count : ℕ) (bytes : List ℕ) → IsLength count bytes → Framed count bytes
framed_by count bytes l =
    let whole : bytes ≡ four count ++ drop 4 bytes = sym (take-append-drop 4 bytes) ∙ ap (λ (t : List ℕ). t ++ drop 4 bytes) l.held in
    let behind : length (drop 4 bytes) ≡ length bytes - 4 = length-drop 4 bytes in
    let size : length (take (count - 5) (drop 4 bytes)) ≡ count - 5 = length-take-le (count - 5) (drop 4 bytes) (omega (arith, behind, l.least, l.most)) in
    let left : length (drop (count - 5) (drop 4 bytes)) ≡ length (drop 4 bytes) - (count - 5) = length-drop (count - 5) (drop 4 bytes) in
    framed_before count bytes (take (count - 5) (drop 4 bytes)) (drop (count - 5) (drop 4 bytes))
    (whole ∙ ap (λ (t : List ℕ). four count ++ t) (sym (take-append-drop (count - 5) (drop 4 bytes))))
    (omega (arith, size, l.least)) (omega (arith, left, behind, l.least, l.most)) l.stated

-- where the reader of frames finds none, no length is whole, and the other way round
pub length_missing : (bytes : List ℕ) → frame_at bytes ≡ None → (count : ℕ) → IsLength count bytes → ⊥
length_missing bytes none count l =
    let f = framed_by count bytes l in
    never (f.frame, f.rest) (sym none ∙ frame_stands f.frame bytes f.rest f.is_frame)

pub no_length : (bytes : List ℕ) → ((count : ℕ) → IsLength count bytes → ⊥) → frame_at bytes ≡ None
no_length bytes lacks = none_from (frame_at bytes) (λ x e. lacks (length x.0.elements + 5) (frame_length x.0 bytes x.1 (frame_is bytes x e)))

-- the same of a frame that is all of the bytes
pub whole_stands : (frame : Frame) (bytes : List ℕ) → IsFrame frame bytes [] → whole_at bytes ≡ Some frame
unfolding whole_at
whole_stands frame bytes f = rw (frame_stands frame bytes [] f) refl

pub whole_is : (bytes : List ℕ) (frame : Frame) → whole_at bytes ≡ Some frame → IsFrame frame bytes []
whole_is bytes frame e = let w = whole_took bytes frame e in record { parts = w.0; stated = w.1 }

pub whole_length_missing : (bytes : List ℕ) → whole_at bytes ≡ None → IsLength (length bytes) bytes → ⊥
whole_length_missing bytes none l =
    let f = framed_by (length bytes) bytes l in
    let nothing : f.rest ≡ [] = nil_from_length f.rest (omega (arith, frame_size f.frame bytes f.rest f.is_frame, f.counts)) in
    never f.frame (sym none ∙ whole_stands f.frame bytes (subst (λ (t : List ℕ). IsFrame f.frame bytes t) nothing f.is_frame))

pub no_whole_length : (bytes : List ℕ) → (IsLength (length bytes) bytes → ⊥) → whole_at bytes ≡ None
no_whole_length bytes lacks = none_from (whole_at bytes) (λ frame e.
    let f = whole_is bytes frame e in
    let size : length frame.elements + 5 ≡ length bytes = omega (arith, frame_size frame bytes [] f) in
    lacks (subst (λ (count : ℕ). IsLength count bytes) size (frame_length frame bytes [] f)))
