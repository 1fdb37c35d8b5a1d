-- Where reading breaks off, the first broken item stands.
use Rattle.std.proofs.Common.{◌≡◌, ℕ, zero, suc, ◌+◌, ◌-◌, ◌≤◌, Bool, true, false, ◌||◌, eqb, cond, List, [], ◌∷◌, ◌++◌, length, Option, Some, None, Result, Ok, Err, refl, sym, ap, subst, ◌∙◌, arith, inl, inr}
use Rattle.std.proofs.lemmas.Bool.{eqb-true, eqb-false, or_cases, both_ways}
use Rattle.std.proofs.lemmas.List.{length-append}
use Rattle.bson_lite.specs.declared.bson.Bson as bson
use Rattle.bson_lite.specs.declared.bson.Bson.{Bson}
use Rattle.bson_lite.specs.declared.document.Pair.{Pair}
use Rattle.bson_lite.specs.Parts.{zero_ended, is_type, type_at, place_at, Frame, frame_at, whole_at, leaf_at}
use Rattle.bson_lite.specs.Reading.{or_at, closed, value_with, pair_with, item_with, many_with, pairs_with, items_with, inside_with, framed_with, nested_at, read}
use Rattle.bson_reading.specs.FirstBroken.{Form, a_document, an_array, type_of, IsKey, IsValue, IsElement, AreWhole, no_more, one_more, IsLength, IsFrame, IsValueAt, IsBrokenInside, its_type, its_key, its_value, too_deep, its_length, inside_it, its_last, IsFirstBroken, whole_length, inside_whole}
use Rattle.bson_reading.proofs.Steps.{then_ok, chosen}
use Rattle.bson_reading.proofs.Takes.{zero_took}
use Rattle.bson_reading.proofs.Sound.{many_took}
use Rattle.bson_reading.proofs.Wholeness.{type_known, type_unknown, form_of, no_form, key_found, place_found, key_missing, place_missing, value_stands, paired, element_shorter, spread, ReadsElements, pair_reads, item_reads, frame_is, frame_size, length_missing, whole_is, whole_length_missing}

-- ---- what is known of a step that broke off

pub err_is : {A : Type 0} (p q : ℕ) → ◌≡◌ {A = Result A ℕ} (Err p) (Err q) → p ≡ q
err_is p q e = cc

pub err_from : {A : Type 0} (p q : ℕ) → p ≡ q → ◌≡◌ {A = Result A ℕ} (Err p) (Err q)
err_from {A} p q e = ap (λ (r : ℕ). Err r) e

-- either the first step broke off, or the second did
by_err : {A B P : Type 0} (r : Result A ℕ) (f : A → Result B ℕ) (p : ℕ) → then_ok r f ≡ Err p → (r ≡ Err p → P) → ((x : A) → r ≡ Ok x → f x ≡ Err p → P) → P
by_err (Err offset) f p e k j = k (err_from offset p (err_is offset p e))
by_err (Ok x) f p e k j = j x refl e

by_at_err : {A B P : Type 0} (offset : ℕ) (o : Option A) (f : A → Result B ℕ) (p : ℕ) → then_ok (or_at offset o) f ≡ Err p → (o ≡ None → p ≡ offset → P) → ((x : A) → o ≡ Some x → f x ≡ Err p → P) → P
by_at_err offset None f p e k j = k refl (sym (err_is offset p e))
by_at_err offset (Some x) f p e k j = j x refl e

at_err : {A : Type 0} (offset : ℕ) (o : Option A) (p : ℕ) → or_at offset o ≡ Err p → p ≡ offset
at_err offset None p e = sym (err_is offset p e)
at_err offset (Some x) p e = absurd cc

-- a second step that only makes something of the first breaks off nowhere
only_err : {A B : Type 0} (r : Result A ℕ) (f : A → B) (p : ℕ) → then_ok r (λ x. Ok (f x)) ≡ Err p → r ≡ Err p
only_err (Err offset) f p e = err_from offset p (err_is offset p e)
only_err (Ok x) f p e = absurd cc

by_open : {A P : Type 0} (b : Bool) (offset : ℕ) (x : A) (p : ℕ) → ◌≡◌ {A = Result A ℕ} (cond b (Ok x) (Err offset)) (Err p) → (b ≡ false → p ≡ offset → P) → P
by_open true offset x p e k = absurd cc
by_open false offset x p e k = k refl (sym (err_is offset p e))

ok_is_no_err : {A : Type 0} (x : A) (p : ℕ) → ◌≡◌ {A = Result A ℕ} (Ok x) (Err p) → ⊥
ok_is_no_err x p e = cc

-- ---- the rules of a value, and of an element

-- a value of this type, in front of the bytes at this place, is broken at the offset
data ValueBreaks (type place : ℕ) (bytes : List ℕ) (offset : ℕ) : ℕ → Type 0 where
  lacks_value : (levels : ℕ) → ((nested : Form) → type ≡ type_of nested → ⊥)
      → ((value others : List ℕ) → bytes ≡ value ++ others → IsValue levels type value → ⊥) → offset ≡ place → ValueBreaks type place bytes offset levels
  is_deep : (nested : Form) → type ≡ type_of nested → offset ≡ place → ValueBreaks type place bytes offset zero
  lacks_length : (below : ℕ) (nested : Form) → type ≡ type_of nested → ((count : ℕ) → IsLength count bytes → ⊥) → offset ≡ place → ValueBreaks type place bytes offset (suc below)
  breaks_inside : (below : ℕ) (nested : Form) (inner : Frame) (others : List ℕ) → type ≡ type_of nested → IsFrame inner bytes others
      → IsBrokenInside below nested place inner offset → ValueBreaks type place bytes offset (suc below)

-- an element that begins at this offset is broken at the other; its place among the elements is the first number
data ElementBreaks (levels : ℕ) (form : Form) (place begin : ℕ) (bytes : List ℕ) (offset : ℕ) : Type 0 where
  lacks_type : (type : ℕ) (rest : List ℕ) → bytes ≡ type ∷ rest → is_type type ≡ false → offset ≡ begin → ElementBreaks levels form place begin bytes offset
  lacks_key : (type : ℕ) (rest : List ℕ) → bytes ≡ type ∷ rest → is_type type ≡ true
      → ((key others : List ℕ) → rest ≡ key ++ 0 ∷ others → IsKey form place key → ⊥) → offset ≡ begin + 1 → ElementBreaks levels form place begin bytes offset
  breaks_value : (type : ℕ) (key rest : List ℕ) → bytes ≡ type ∷ (key ++ 0 ∷ rest) → is_type type ≡ true → IsKey form place key
      → ValueBreaks type (begin + 1 + length key + 1) rest offset levels → ElementBreaks levels form place begin bytes offset

-- the same of a type that is given by its form
of_form : (levels : ℕ) (form : Form) (start : ℕ) (elements : List ℕ) (type : ℕ) (rest : List ℕ) (begin : ℕ) (nested : Form) → type ≡ type_of nested
    → IsValueAt levels form start elements type rest begin → IsValueAt levels form start elements (type_of nested) rest begin
of_form levels form start elements type rest begin nested e here = subst (λ (t : ℕ). IsValueAt levels form start elements t rest begin) e here

-- where the offset is the value's own
at_offset : (levels : ℕ) (form : Form) (start : ℕ) (elements : List ℕ) (type : ℕ) (rest : List ℕ) (begin offset : ℕ) → offset ≡ begin
    → IsValueAt levels form start elements type rest begin → IsValueAt levels form start elements type rest offset
at_offset levels form start elements type rest begin offset e here = subst (λ (q : ℕ). IsValueAt levels form start elements type rest q) (sym e) here

-- a broken value breaks what it stands in
value_breaks_it : (form : Form) (start : ℕ) (frame : Frame) (offset type : ℕ) (rest : List ℕ) (begin levels : ℕ) → ValueBreaks type begin rest offset levels
    → IsValueAt levels form start frame.elements type rest begin → IsBrokenInside levels form start frame offset
value_breaks_it form start frame offset type rest begin _ (lacks_value levels other lacks is) here =
    its_value levels form start frame offset type rest (at_offset levels form start frame.elements type rest begin offset is here) other lacks
value_breaks_it form start frame offset type rest begin _ (is_deep nested typed is) here =
    too_deep form start frame offset nested rest (of_form zero form start frame.elements type rest offset nested typed (at_offset zero form start frame.elements type rest begin offset is here))
value_breaks_it form start frame offset type rest begin _ (lacks_length below nested typed lacks is) here =
    its_length below form start frame offset nested rest (of_form (suc below) form start frame.elements type rest offset nested typed (at_offset (suc below) form start frame.elements type rest begin offset is here)) lacks
value_breaks_it form start frame offset type rest begin _ (breaks_inside below nested inner others typed stands broken) here =
    inside_it below form start frame offset nested begin inner rest others (of_form (suc below) form start frame.elements type rest begin nested typed here) stands broken

-- an element that breaks after whole ones breaks what it stands in
element_breaks_it : (levels : ℕ) (form : Form) (start : ℕ) (frame : Frame) (offset place : ℕ) (front bytes : List ℕ) → AreWhole levels form 0 place front → frame.elements ≡ front ++ bytes
    → ElementBreaks levels form place (start + 4 + length front) bytes offset → IsBrokenInside levels form start frame offset
element_breaks_it levels form start frame offset place front bytes whole parts (lacks_type type rest e unknown is) =
    its_type levels form start frame offset place type front rest whole (parts ∙ ap (λ (t : List ℕ). front ++ t) e) unknown is
element_breaks_it levels form start frame offset place front bytes whole parts (lacks_key type rest e known lacks is) =
    its_key levels form start frame offset place type front rest whole (parts ∙ ap (λ (t : List ℕ). front ++ t) e) known lacks is
element_breaks_it levels form start frame offset place front bytes whole parts (breaks_value type key rest e known has_key broken) =
    value_breaks_it form start frame offset type rest (start + 4 + length front + 1 + length key + 1) levels broken (record {
      place = place;
      front = front;
      key = key;
      whole = whole;
      parts = parts ∙ ap (λ (t : List ℕ). front ++ t) e;
      known = known;
      has_key = has_key;
      stands = refl;
    })

-- ---- values

-- every value that the reader for so many levels breaks off at is broken there
abbrev ValuesBreak : ℕ → Type 0
ValuesBreak levels = (type end : ℕ) (bytes : List ℕ) (offset : ℕ) → length bytes ≤ end → length bytes ≤ 2147483647
    → value_with (nested_at levels) type end bytes ≡ Err offset → ValueBreaks type (end - length bytes) bytes offset levels

-- where the reader breaks off, no whole value stands
no_value : (levels type end : ℕ) (bytes : List ℕ) (offset : ℕ) → length bytes ≤ 2147483647 → value_with (nested_at levels) type end bytes ≡ Err offset
    → (value others : List ℕ) → bytes ≡ value ++ others → IsValue levels type value → ⊥
no_value levels type end bytes offset short e value others parts v =
    let stands = value_stands levels type value v (omega (arith, ap length parts, length-append value others, short)) in
    ok_is_no_err (stands.value, others) offset (sym (ap (value_with (nested_at levels) type end) parts ∙ stands.reads end others) ∙ e)

-- ---- elements

-- every element that this reader breaks off at is broken there
abbrev ElementsBreak : {A : Type 0} → ℕ → Form → ℕ → (ℕ → List ℕ → Result (A × List ℕ) ℕ) → Type 0
ElementsBreak levels form end one = (place byte : ℕ) (bytes : List ℕ) (offset : ℕ) → length (byte ∷ bytes) ≤ end → length (byte ∷ bytes) ≤ 2147483647
    → one place (byte ∷ bytes) ≡ Err offset → ElementBreaks levels form place (end - length (byte ∷ bytes)) (byte ∷ bytes) offset

-- a broken value after a type byte and a key
value_breaks_element : (levels : ℕ) (form : Form) (place end : ℕ) (bytes after : List ℕ) (type : ℕ) (key rest : List ℕ) (offset : ℕ) → length bytes ≤ end
    → bytes ≡ type ∷ after → after ≡ key ++ 0 ∷ rest → is_type type ≡ true → IsKey form place key
    → ValueBreaks type (end - length rest) rest offset levels → ElementBreaks levels form place (end - length bytes) bytes offset
value_breaks_element levels form place end bytes after type key rest offset within e f known k broken =
    let size : length bytes ≡ length key + length rest + 2 = omega (arith, ap length e, ap length f, length-append key (0 ∷ rest)) in
    let begin : end - length rest ≡ end - length bytes + 1 + length key + 1 = omega (arith, size, within) in
    breaks_value type key rest (e ∙ ap (λ (t : List ℕ). type ∷ t) f) known k (subst (λ (q : ℕ). ValueBreaks type q rest offset levels) begin broken)

pairs_break : (levels end : ℕ) → ValuesBreak levels → ElementsBreak levels a_document end (λ place. pair_with (nested_at levels) end)
unfolding pair_with
pairs_break levels end values place byte bytes offset within short e =
    by_at_err (end - length (byte ∷ bytes)) (type_at (byte ∷ bytes)) (λ type. then_ok (or_at (end - length type.1) (zero_ended type.1)) (λ key. then_ok (value_with (nested_at levels) type.0 end key.1) (λ value. Ok (paired key.0 value)))) offset e
    (λ none is. lacks_type byte bytes refl (type_unknown byte bytes none) is)
    (λ type first rest.
    let known = type_known (byte ∷ bytes) type first in
    let size : length (byte ∷ bytes) ≡ length type.1 + 1 = omega (arith, ap length known.0) in
    by_at_err (end - length type.1) (zero_ended type.1) (λ key. then_ok (value_with (nested_at levels) type.0 end key.1) (λ value. Ok (paired key.0 value))) offset rest
    (λ none is.
    let next : end - length type.1 ≡ end - length (byte ∷ bytes) + 1 = omega (arith, size, within) in
    lacks_key type.0 type.1 known.0 known.1 (key_missing a_document place type.1 none) (is ∙ next))
    (λ key k more.
    let parts = (zero_took type.1 key k).parts in
    let left : length type.1 ≡ length key.0 + length key.1 + 1 = omega (arith, ap length parts, length-append key.0 (0 ∷ key.1)) in
    value_breaks_element levels a_document place end (byte ∷ bytes) type.1 type.0 key.0 key.1 offset within known.0 parts known.1 (key_found place type.1 key k)
    (values type.0 end key.1 offset (omega (arith, size, left, within)) (omega (arith, size, left, short)) (only_err (value_with (nested_at levels) type.0 end key.1) (paired key.0) offset more))))

items_break : (levels end : ℕ) → ValuesBreak levels → ElementsBreak levels an_array end (item_with (nested_at levels) end)
unfolding item_with
items_break levels end values place byte bytes offset within short e =
    by_at_err (end - length (byte ∷ bytes)) (type_at (byte ∷ bytes)) (λ type. then_ok (or_at (end - length type.1) (place_at place type.1)) (λ after. value_with (nested_at levels) type.0 end after)) offset e
    (λ none is. lacks_type byte bytes refl (type_unknown byte bytes none) is)
    (λ type first rest.
    let known = type_known (byte ∷ bytes) type first in
    let size : length (byte ∷ bytes) ≡ length type.1 + 1 = omega (arith, ap length known.0) in
    by_at_err (end - length type.1) (place_at place type.1) (λ after. value_with (nested_at levels) type.0 end after) offset rest
    (λ none is.
    let next : end - length type.1 ≡ end - length (byte ∷ bytes) + 1 = omega (arith, size, within) in
    lacks_key type.0 type.1 known.0 known.1 (place_missing place type.1 none) (is ∙ next))
    (λ after a more.
    let found = place_found place type.1 after a in
    let left : length type.1 ≡ length found.key + length after + 1 = omega (arith, ap length found.parts, length-append found.key (0 ∷ after)) in
    value_breaks_element levels an_array place end (byte ∷ bytes) type.1 type.0 found.key after offset within known.0 found.parts known.1 found.has_key
    (values type.0 end after offset (omega (arith, size, left, within)) (omega (arith, size, left, short)) more)))

-- ---- all elements

-- whole elements from this place on
record Wholly (levels : ℕ) (form : Form) (place : ℕ) (bytes : List ℕ) : Type 0 where
  next : ℕ
  whole : AreWhole levels form place next bytes

-- elements that are all read are whole
all_whole : {A : Type 0} (levels : ℕ) (form : Form) (one : ℕ → List ℕ → Result (A × List ℕ) ℕ) → ReadsElements levels form one
    → (turns place : ℕ) (bytes : List ℕ) (all : List A) → length bytes ≤ turns → many_with one turns place bytes ≡ Ok all → Wholly levels form place bytes
all_whole {A} levels form one reads =
    many_took {A = A} (λ place bytes all. Wholly levels form place bytes) one
    (λ place. record { next = place; whole = no_more place place [] refl refl })
    (λ place bytes first f.
    let element = reads.took place bytes first f in
    (element_shorter levels form place bytes first.1 element, λ others there. record { next = there.next; whole = one_more place there.next bytes first.1 element there.whole }))

-- whole elements, and then one that the reader breaks off at
record BreaksAfter {A : Type 0} (levels : ℕ) (form : Form) (one : ℕ → List ℕ → Result (A × List ℕ) ℕ) (place : ℕ) (bytes : List ℕ) (offset : ℕ) : Type 0 where
  next : ℕ
  front : List ℕ
  byte : ℕ
  more : List ℕ
  parts : bytes ≡ front ++ byte ∷ more
  whole : AreWhole levels form place next front
  breaks : one next (byte ∷ more) ≡ Err offset

-- the same with one whole element before
breaks_later : {A : Type 0} (levels : ℕ) (form : Form) (one : ℕ → List ℕ → Result (A × List ℕ) ℕ) (place : ℕ) (bytes others : List ℕ) (offset : ℕ)
    → IsElement levels form place bytes others → BreaksAfter levels form one (place + 1) others offset → BreaksAfter levels form one place bytes offset
breaks_later levels form one place bytes others offset e there = record {
  next = there.next;
  front = e.type ∷ (e.key ++ 0 ∷ (e.value ++ there.front));
  byte = there.byte;
  more = there.more;
  parts = e.parts ∙ ap (λ (t : List ℕ). e.type ∷ (e.key ++ 0 ∷ (e.value ++ t))) there.parts ∙ sym (spread e.type e.key e.value there.front (there.byte ∷ there.more));
  whole = one_more place there.next (e.type ∷ (e.key ++ 0 ∷ (e.value ++ there.front))) there.front
      (record { type = e.type; key = e.key; value = e.value; parts = refl; has_key = e.has_key; has_value = e.has_value }) there.whole;
  breaks = there.breaks;
}

breaks_after : {A : Type 0} (levels : ℕ) (form : Form) (one : ℕ → List ℕ → Result (A × List ℕ) ℕ) → ReadsElements levels form one
    → (turns place : ℕ) (bytes : List ℕ) (offset : ℕ) → many_with one turns place bytes ≡ Err offset → BreaksAfter levels form one place bytes offset
unfolding many_with
breaks_after levels form one reads zero place bytes offset e = absurd cc
breaks_after levels form one reads (suc turns) place [] offset e = absurd cc
breaks_after levels form one reads (suc turns) place (byte ∷ bytes) offset e =
    by_err (one place (byte ∷ bytes)) (λ first. then_ok (many_with one turns (place + 1) first.1) (λ others. Ok (first.0 ∷ others))) offset e
    (λ here. record { next = place; front = []; byte = byte; more = bytes; parts = refl; whole = no_more place place [] refl refl; breaks = here })
    (λ first f rest.
    breaks_later levels form one place (byte ∷ bytes) first.1 offset (reads.took place (byte ∷ bytes) first f)
    (breaks_after levels form one reads turns (place + 1) first.1 offset (only_err (many_with one turns (place + 1) first.1) (λ others. first.0 ∷ others) offset rest)))

-- ---- frames

-- elements that break off, in what begins at `start` and whose elements end at `end`
elements_break : {A : Type 0} (levels : ℕ) (form : Form) (one : ℕ → List ℕ → Result (A × List ℕ) ℕ) (start end : ℕ) (frame : Frame) (offset : ℕ) → ReadsElements levels form one → ElementsBreak levels form end one
    → end ≡ start + length frame.elements + 4 → length frame.elements ≤ 2147483647 → many_with one (length frame.elements) 0 frame.elements ≡ Err offset → IsBrokenInside levels form start frame offset
elements_break levels form one start end frame offset reads breaks stop short e =
    let b = breaks_after levels form one reads (length frame.elements) 0 frame.elements offset e in
    let size : length frame.elements ≡ length b.front + length (b.byte ∷ b.more) = ap length b.parts ∙ length-append b.front (b.byte ∷ b.more) in
    let begin : end - length (b.byte ∷ b.more) ≡ start + 4 + length b.front = omega (arith, stop, size) in
    element_breaks_it levels form start frame offset b.next b.front (b.byte ∷ b.more) b.whole b.parts
    (subst (λ (q : ℕ). ElementBreaks levels form b.next q (b.byte ∷ b.more) offset) begin (breaks b.next b.byte b.more offset (omega (arith, stop, size)) (omega (arith, size, short)) b.breaks))

-- either the elements break off, or they are all read and the last byte is not zero
inside_split : {A P : Type 0} (inside : ℕ → List ℕ → Result A ℕ) (end : ℕ) (frame : Frame) (offset : ℕ) → inside_with inside end frame ≡ Err offset
    → (inside (end - 1) frame.elements ≡ Err offset → P) → ((x : A) → inside (end - 1) frame.elements ≡ Ok x → eqb frame.last 0 ≡ false → offset ≡ end - 1 → P) → P
unfolding inside_with
inside_split inside end frame offset e k j =
    by_err (inside (end - 1) frame.elements) (closed (end - 1) frame.last) offset e k (λ x i rest.
    by_open (eqb frame.last 0) (end - 1) x offset rest (λ nonzero is. j x i nonzero is))

-- what the frame's last byte breaks
last_breaks : (levels : ℕ) (form : Form) (start end : ℕ) (frame : Frame) (offset : ℕ) → Wholly levels form 0 frame.elements → eqb frame.last 0 ≡ false
    → end ≡ start + length frame.elements + 5 → offset ≡ end - 1 → IsBrokenInside levels form start frame offset
last_breaks levels form start end frame offset w nonzero stop is =
    its_last levels form start frame offset w.next w.whole (eqb-false frame.last 0 nonzero) (omega (arith, stop, is))

-- a reader of frames breaks off where the first broken item stands
abbrev FramesBreak : {A : Type 0} → ℕ → Form → (ℕ → List ℕ → Result A ℕ) → Type 0
FramesBreak levels form inside = (start end : ℕ) (frame : Frame) (offset : ℕ) → end ≡ start + length frame.elements + 5 → length frame.elements ≤ 2147483647
    → inside_with inside end frame ≡ Err offset → IsBrokenInside levels form start frame offset

documents_break : (levels : ℕ) → ValuesBreak levels → FramesBreak levels a_document (pairs_with (nested_at levels))
unfolding pairs_with
documents_break levels values start end frame offset stop short e =
    inside_split (pairs_with (nested_at levels)) end frame offset e
    (λ broken. elements_break levels a_document (λ place. pair_with (nested_at levels) (end - 1)) start (end - 1) frame offset (pair_reads levels (end - 1)) (pairs_break levels (end - 1) values) (omega (arith, stop)) short broken)
    (λ pairs got nonzero is. last_breaks levels a_document start end frame offset (all_whole levels a_document (λ place. pair_with (nested_at levels) (end - 1)) (pair_reads levels (end - 1)) (length frame.elements) 0 frame.elements pairs (omega arith) got) nonzero stop is)

arrays_break : (levels : ℕ) → ValuesBreak levels → FramesBreak levels an_array (items_with (nested_at levels))
unfolding items_with
arrays_break levels values start end frame offset stop short e =
    inside_split (items_with (nested_at levels)) end frame offset e
    (λ broken. elements_break levels an_array (item_with (nested_at levels) (end - 1)) start (end - 1) frame offset (item_reads levels (end - 1)) (items_break levels (end - 1) values) (omega (arith, stop)) short broken)
    (λ array got nonzero is. last_breaks levels an_array start end frame offset (all_whole levels an_array (item_with (nested_at levels) (end - 1)) (item_reads levels (end - 1)) (length frame.elements) 0 frame.elements array (omega arith) got) nonzero stop is)

-- ---- documents and arrays

-- a thing and the bytes that are left
abbrev beside : {A : Type 0} → List ℕ → A → A × List ℕ
beside rest x = (x, rest)

-- a length and what it frames
framed_breaks : {A : Type 0} (levels : ℕ) (form : Form) (type end : ℕ) (inside : ℕ → List ℕ → Result A ℕ) (bytes : List ℕ) (offset : ℕ) → length bytes ≤ end → length bytes ≤ 2147483647
    → type ≡ type_of form → FramesBreak levels form inside → framed_with inside end bytes ≡ Err offset → ValueBreaks type (end - length bytes) bytes offset (suc levels)
unfolding framed_with
framed_breaks levels form type end inside bytes offset within short typed law e =
    by_at_err (end - length bytes) (frame_at bytes) (λ frame. then_ok (inside_with inside (end - length frame.1) frame.0) (λ x. Ok (beside frame.1 x))) offset e
    (λ none is. lacks_length levels form typed (length_missing bytes none) is)
    (λ frame f rest.
    let stands = frame_is bytes frame f in
    let size : length bytes ≡ length frame.0.elements + length frame.1 + 5 = frame_size frame.0 bytes frame.1 stands in
    breaks_inside levels form frame.0 frame.1 typed stands
    (law (end - length bytes) (end - length frame.1) frame.0 offset (omega (arith, size, within)) (omega (arith, size, short)) (only_err (inside_with inside (end - length frame.1) frame.0) (beside frame.1) offset rest)))

-- what documents and arrays break at
abbrev NestedBreak : ℕ → Type 0
NestedBreak levels = (type end : ℕ) (bytes : List ℕ) (offset : ℕ) → length bytes ≤ end → length bytes ≤ 2147483647 → (eqb type 3 || eqb type 4) ≡ true
    → nested_at levels type end bytes ≡ Err offset → ValueBreaks type (end - length bytes) bytes offset levels

nested_zero : NestedBreak 0
unfolding nested_at
nested_zero type end bytes offset within short nest e =
    let form = form_of type nest in is_deep form.form form.is (sym (err_is (end - length bytes) offset e))

-- a document and an array from what is framed
abbrev document_of : List (Pair Bson) × List ℕ → Bson × List ℕ
document_of x = (bson.Document x.0, x.1)

abbrev array_of : List Bson × List ℕ → Bson × List ℕ
array_of x = (bson.Array x.0, x.1)

nested_suc : (levels : ℕ) → ValuesBreak levels → NestedBreak (suc levels)
unfolding nested_at
nested_suc levels values type end bytes offset within short nest e =
    chosen (eqb type 3) (then_ok (framed_with (pairs_with (nested_at levels)) end bytes) (λ x. Ok (document_of x))) (then_ok (framed_with (items_with (nested_at levels)) end bytes) (λ x. Ok (array_of x))) (Err offset) e
    (λ three d. framed_breaks levels a_document type end (pairs_with (nested_at levels)) bytes offset within short (eqb-true type 3 three) (documents_break levels values) (only_err (framed_with (pairs_with (nested_at levels)) end bytes) document_of offset d))
    (λ other a. framed_breaks levels an_array type end (items_with (nested_at levels)) bytes offset within short (elim (or_cases (eqb type 3) (eqb type 4) nest) [
      | inl three ↦ absurd (both_ways (eqb type 3) other three)
      | inr four_is ↦ eqb-true type 4 four_is
    ]) (arrays_break levels values) (only_err (framed_with (items_with (nested_at levels)) end bytes) array_of offset a))

values_by : (levels : ℕ) → NestedBreak levels → ValuesBreak levels
unfolding value_with
values_by levels nested type end bytes offset within short e =
    let lacks = no_value levels type end bytes offset short e in
    chosen (eqb type 3 || eqb type 4) (nested_at levels type end bytes) (or_at (end - length bytes) (leaf_at type bytes)) (Err offset) e
    (λ nest n. nested type end bytes offset within short nest n)
    (λ leaf l. lacks_value levels (no_form type leaf) lacks (at_err (end - length bytes) (leaf_at type bytes) offset l))

values_break : (levels : ℕ) → ValuesBreak levels
values_break zero = values_by 0 nested_zero
values_break (suc levels) = values_by (suc levels) (nested_suc levels (values_break levels))

-- where reading breaks off, the first broken item stands
pub read_breaks : (bytes : List ℕ) (offset : ℕ) → read bytes ≡ Err offset → IsFirstBroken bytes offset
unfolding read
read_breaks bytes offset e =
    by_at_err 0 (whole_at bytes) (λ frame. inside_with (pairs_with (nested_at 99)) (length bytes) frame) offset e
    (λ none is. whole_length offset (whole_length_missing bytes none) is)
    (λ frame w rest.
    let stands = whole_is bytes frame w in
    let size : length bytes ≡ 0 + length frame.elements + 5 = omega (arith, frame_size frame bytes [] stands) in
    inside_whole offset frame stands (documents_break 99 (values_break 99) 0 (length bytes) frame offset size (omega (arith, stands.stated)) rest))
