-- Ids by the indexes of documents: which documents they are of, in entries, in statements and in what was gathered.
use Rattle.std.proofs.Common.{◌≡◌, ℕ, zero, suc, ◌+◌, ◌<◌, Bool, true, false, cond, List, [], ◌∷◌, length, take, refl, sym, ap, subst, ◌∙◌, inl, inr, arith}
use Rattle.std.specs.Prelude.{ℤ, Option, None, Some, ◌⊎◌, ◌==◌, slice_get, if◌then◌else◌}
use Rattle.std.specs.FinMap as finite
use Rattle.std.specs.Cmp.{nat_cmp_total, unsigned_ties}
use Rattle.std.specs.Ordering.{nat_cmp}
use Rattle.std.proofs.lemmas.Bool.{ne_eqb}
use Rattle.std.proofs.lemmas.Bool.Decides.{Decides-eqb}
use Rattle.bson_lite.specs.declared.bson.Bson.{Bson}
use Rattle.bson_lite.specs.declared.document.Pair.{Pair}
use Rattle.bson_lite.specs.declared.namespace.Namespace.{Namespace}
use Rattle.bson_lite.specs.Fields.{id_key, value_of}
use Rattle.bson_lite.proofs.FinMaps.{get_inserted}
use Rattle.driver_link.specs.declared.machine.Counted.{Counted}
use Rattle.driver_link.specs.declared.machine.Entry.{Entry}
use Rattle.driver_link.specs.declared.machine.Place.{Place}
use Rattle.driver_link.specs.declared.machine.PlacedWrite.{PlacedWrite}
use Rattle.driver_link.specs.declared.machine.Statement.{Statement}
use Rattle.driver_link.specs.declared.machine.Statement.TheVariants.{Kept, Ran, Failed}
use Rattle.driver_link.specs.Replies.{result_of}
use Rattle.driver_link.specs.Settled.{Has}
use Rattle.driver_link.specs.Statements.{entry_of, is_failed}
use Rattle.driver_link.proofs.Lists.{none_is_some, some_is_some}
use Rattle.driver_ops.specs.Inserts.{insert_write, insert_writes}
use Rattle.driver_ops.specs.Served.{AreEntries, entries_counted, entry_counted}
use Rattle.write_ops.specs.declared.own_document.OwnDocument.{OwnDocument}
use Rattle.write_ops.specs.InsertAnswers.{ids_where}
use Rattle.write_ops.specs.InsertLaw.{ids_ended}
use Rattle.write_ops.specs.InsertSpec.{AreOwn, id_beside, ids_from}
use Rattle.many_actions.specs.Batches.{places_from}
use Rattle.many_actions.specs.ManyAnswers.{put_ids}
use Rattle.many_actions.proofs.BatchWrites.{place_in}

-- ids by indexes
abbrev pub Ids : Type 0
Ids = finite.FinMap nat_cmp Bson

-- an id that was put at its index
pub get_here : (ids : Ids) (at : ℕ) (id : Bson) → finite.get (finite.insert ids at id) at ≡ Some id
get_here ids at id = get_inserted nat_cmp_total ids at id

-- what is found at another index was there before
pub get_other : (ids : Ids) (at q : ℕ) (id : Bson) → (q ≡ at → ⊥) → finite.get (finite.insert ids at id) q ≡ finite.get ids q
get_other ids at q id differs =
    finite.get-insert nat_cmp_total ids at id q ∙ ap (λ b. cond b (Some id) (finite.get ids q)) (sym (unsigned_ties q at) ∙ ne_eqb q at differs)

-- a number is another or not
one_or_other : (a b : ℕ) → (a ≡ b) ⊎ (a ≡ b → ⊥)
one_or_other a b = by_test (a == b) refl
  where
    by_test : (test : Bool) → (a == b) ≡ test → (a ≡ b) ⊎ (a ≡ b → ⊥)
    by_test true is = inl ((Decides-eqb a b).0 is)
    by_test false is = inr (λ same. let e : ◌≡◌ {A = Bool} true false = sym ((Decides-eqb a b).1 same) ∙ is in cc)

-- a position before the end is the last one or before it
last_or_before : (at count : ℕ) → at < suc count → (at ≡ count) ⊎ (at < count)
last_or_before zero zero below = inl refl
last_or_before zero (suc count) below = inr (omega arith)
last_or_before (suc at) zero below = absurd (omega (arith, below))
last_or_before (suc at) (suc count) below = elim (last_or_before at count (omega (arith, below))) [
  | inl same ↦ inl (ap suc same)
  | inr less ↦ inr (omega (arith, less))
]

-- an id that is found beside others is the one that was put, or one of those
beside_either : (at : ℕ) (put : Option Bson) (ids : Ids) (q : ℕ) (id : Bson) → finite.get (id_beside at put ids) q ≡ Some id → ((q ≡ at) × (put ≡ Some id)) ⊎ (finite.get ids q ≡ Some id)
beside_either at None ids q id is = inr is
beside_either at (Some found) ids q id is = elim (one_or_other q at) [
  | inl same ↦ inl (same, sym (get_here ids at found) ∙ ap (finite.get (finite.insert ids at found)) (sym same) ∙ is)
  | inr other ↦ inr (sym (get_other ids at q found other) ∙ is)
]

-- an index that has an id has one beside another
beside_keeps : (at : ℕ) (put : Option Bson) (ids : Ids) (q : ℕ) (id : Bson) → finite.get ids q ≡ Some id → (found : Bson) × (finite.get (id_beside at put ids) q ≡ Some found)
beside_keeps at None ids q id is = (id, is)
beside_keeps at (Some put) ids q id is = elim (one_or_other q at) [
  | inl same ↦ (put, ap (finite.get (finite.insert ids at put)) same ∙ get_here ids at put)
  | inr other ↦ (id, get_other ids at q put other ∙ is)
]

-- an id of a batch at its position, whose document has this index
pub record IsPut (from count : ℕ) (ids : Ids) (q : ℕ) (id : Bson) : Type 0 where
  pub at : ℕ
  pub below : at < count
  pub index : q ≡ from + at
  pub found : finite.get ids at ≡ Some id

-- an id that is found once those of a batch were put is one of these, or was there before
pub put_either : (from count : ℕ) (ids all : Ids) (q : ℕ) (id : Bson) → finite.get (put_ids from count ids all) q ≡ Some id → IsPut from count ids q id ⊎ (finite.get all q ≡ Some id)
put_either from zero ids all q id is = inr is
put_either from (suc count) ids all q id is = elim (beside_either (from + count) (finite.get ids count) (put_ids from count ids all) q id is) [
  | inl here ↦ inl (record { at = count; below = omega arith; index = here.0; found = here.1 })
  | inr rest ↦ elim (put_either from count ids all q id rest) [
    | inl put ↦ inl (record { at = put.at; below = omega (arith, put.below); index = put.index; found = put.found })
    | inr before ↦ inr before
  ]
]

-- an index that had an id has one then
pub put_keeps : (from count : ℕ) (ids all : Ids) (q : ℕ) (id : Bson) → finite.get all q ≡ Some id → (found : Bson) × (finite.get (put_ids from count ids all) q ≡ Some found)
put_keeps from zero ids all q id is = (id, is)
put_keeps from (suc count) ids all q id is =
    let before = put_keeps from count ids all q id is in
    beside_keeps (from + count) (finite.get ids count) (put_ids from count ids all) q before.0 before.1

-- so has each that is put
pub put_there : (from count : ℕ) (ids all : Ids) (at : ℕ) (id : Bson) → at < count → finite.get ids at ≡ Some id → (found : Bson) × (finite.get (put_ids from count ids all) (from + at) ≡ Some found)
put_there from zero ids all at id below is = absurd (omega (arith, below))
put_there from (suc count) ids all at id below is = elim (last_or_before at count below) [
  | inl same ↦
      let here : finite.get ids count ≡ Some id = ap (finite.get ids) (sym same) ∙ is in
      let rest = put_ids from count ids all in (
        id,
        ap (λ put. finite.get (id_beside (from + count) put rest) (from + at)) here
            ∙ ap (λ n. finite.get (finite.insert rest (from + count) id) (from + n)) same ∙ get_here rest (from + count) id,
      )
  | inr less ↦
      let before = put_there from count ids all at id less is in
      beside_keeps (from + count) (finite.get ids count) (put_ids from count ids all) (from + at) before.0 before.1
]

-- an id of entries is that of the document of one of them, by its position
pub record InEntries (at : ℕ) (entries : List Entry) (q : ℕ) (id : Bson) : Type 0 where
  pub position : ℕ
  pub index : q ≡ at + position
  pub entry : Entry
  pub stands : slice_get entries position ≡ Some entry
  pub is : value_of id_key entry.written.document ≡ Some id

pub from_entries : (at : ℕ) (entries : List Entry) (q : ℕ) (id : Bson) → finite.get (ids_from at entries) q ≡ Some id → InEntries at entries q id
from_entries at [] q id is = absurd (none_is_some id (sym (finite.get-empty nat_cmp q) ∙ is))
from_entries at (entry ∷ entries) q id is = elim (beside_either at (value_of id_key entry.written.document) (ids_from (at + 1) entries) q id is) [
  | inl here ↦ let on : at ≡ at + 0 = omega arith in record { position = 0; index = here.0 ∙ on; entry = entry; stands = refl; is = here.1 }
  | inr rest ↦
      let found = from_entries (at + 1) entries q id rest in
      let on : at + 1 + found.position ≡ at + suc found.position = omega arith in
      record { position = suc found.position; index = found.index ∙ on; entry = found.entry; stands = found.stands; is = found.is }
]

-- among the ids of all documents each has its id
pub all_there : (at : ℕ) (own : List OwnDocument) (position : ℕ) (document : OwnDocument) → slice_get own position ≡ Some document
    → (found : Bson) × (finite.get (ids_where (λ n. true) at own) (at + position) ≡ Some found)
unfolding ids_where
all_there at [] position document is = absurd (none_is_some document is)
all_there at (front ∷ own) zero document is =
    let on : at + 0 ≡ at = omega arith in
    let rest = ids_where (λ n. true) (at + 1) own in
    (front.id, ap (finite.get (finite.insert rest at front.id)) on ∙ get_here rest at front.id)
all_there at (front ∷ own) (suc position) document is =
    let on : at + suc position ≡ at + 1 + position = omega arith in
    let rest = ids_where (λ n. true) (at + 1) own in
    let before = all_there (at + 1) own position document is in
    let kept = beside_keeps at (Some front.id) rest (at + 1 + position) before.0 before.1 in
    (kept.0, ap (finite.get (finite.insert rest at front.id)) on ∙ kept.1)

-- an id beside those of later statements
ended_either : (failed : Bool) (ids : Ids) (at : ℕ) (put : Bson) (q : ℕ) (id : Bson) → finite.get (if failed then ids else finite.insert ids at put) q ≡ Some id
    → ((failed ≡ false) × ((q ≡ at) × (put ≡ id))) ⊎ (finite.get ids q ≡ Some id)
ended_either true ids at put q id is = inr is
ended_either false ids at put q id is = elim (beside_either at (Some put) ids q id is) [
  | inl here ↦ inl (refl, (here.0, some_is_some put id here.1))
  | inr rest ↦ inr rest
]

-- an id of statements that ended well is that of a document whose statement did not fail, by its position
pub record InStatements (at : ℕ) (done : List Statement) (own : List OwnDocument) (q : ℕ) (id : Bson) : Type 0 where
  pub position : ℕ
  pub index : q ≡ at + position
  pub statement : Statement
  pub document : OwnDocument
  pub stands : slice_get done position ≡ Some statement
  pub unfailed : is_failed statement ≡ false
  pub owned : slice_get own position ≡ Some document
  pub is : document.id ≡ id

pub from_statements : (at : ℕ) (done : List Statement) (own : List OwnDocument) (q : ℕ) (id : Bson) → finite.get (ids_ended at done own) q ≡ Some id → InStatements at done own q id
unfolding ids_ended
from_statements at [] own q id is = absurd (none_is_some id (sym (finite.get-empty nat_cmp q) ∙ is))
from_statements at (statement ∷ done) [] q id is = absurd (none_is_some id (sym (finite.get-empty nat_cmp q) ∙ is))
from_statements at (statement ∷ done) (document ∷ own) q id is = elim (ended_either (is_failed statement) (ids_ended (at + 1) done own) at document.id q id is) [
  | inl here ↦
      let on : at ≡ at + 0 = omega arith in
      record { position = 0; index = here.1.0 ∙ on; statement = statement; document = document; stands = refl; unfailed = here.0; owned = refl; is = here.1.1 }
  | inr rest ↦
      let found = from_statements (at + 1) done own q id rest in
      let on : at + 1 + found.position ≡ at + suc found.position = omega arith in
      record {
        position = suc found.position;
        index = found.index ∙ on;
        statement = found.statement;
        document = found.document;
        stands = found.stands;
        unfailed = found.unfailed;
        owned = found.owned;
        is = found.is;
      }
]

-- a statement that did not fail has a result
pub result_there : (statement : Statement) → is_failed statement ≡ false → (result : Counted) × (result_of statement ≡ Some result)
result_there (Kept result) unfailed = (result, refl)
result_there (Ran result) unfailed = (result, refl)
result_there (Failed code) unfailed = absurd (let e : ◌≡◌ {A = Bool} true false = unfailed in cc)

-- an entry stands behind that of another write, if it has one
counted_later : (session : Option (List ℕ)) (number : Option ℤ) (write : PlacedWrite) (counted : Option Counted) (rest : List Entry) (entry : Entry) → Has rest entry
    → Has (entry_counted session number write counted rest) entry
counted_later session number write (Some result) rest entry has = inr has
counted_later session number write None rest entry has = has

-- a write whose statement has a result has its entry
pub counted_has : (session : Option (List ℕ)) (number : Option ℤ) (writes : List PlacedWrite) (done : List Statement) (position : ℕ) (write : PlacedWrite) (statement : Statement) (result : Counted)
    → slice_get writes position ≡ Some write → slice_get done position ≡ Some statement → result_of statement ≡ Some result
    → Has (entries_counted session number writes done) (entry_of session number write result)
counted_has session number [] done position write statement result at also counts = absurd (none_is_some write at)
counted_has session number (front ∷ writes) [] position write statement result at also counts = absurd (none_is_some statement also)
counted_has session number (front ∷ writes) (told ∷ done) zero write statement result at also counts =
    let rest = entries_counted session number writes done in
    let told_counts : result_of told ≡ Some result = ap result_of (some_is_some told statement also) ∙ counts in
    subst (λ w. Has (entry_counted session number front (result_of told) rest) (entry_of session number w result)) (some_is_some front write at)
    (subst (λ o. Has (entry_counted session number front o rest) (entry_of session number front result)) (sym told_counts) (inl refl))
counted_has session number (front ∷ writes) (told ∷ done) (suc position) write statement result at also counts =
    counted_later session number front (result_of told) (entries_counted session number writes done) (entry_of session number write result)
    (counted_has session number writes done position write statement result at also counts)

-- the write of an entry, by its position
pub record EntryOf (session : Option (List ℕ)) (number : Option ℤ) (writes : List PlacedWrite) (position : ℕ) (entry : Entry) : Type 0 where
  pub write : PlacedWrite
  pub stands : slice_get writes position ≡ Some write
  pub is : entry ≡ entry_of session number write entry.result

pub entry_write : (session : Option (List ℕ)) (number : Option ℤ) (writes : List PlacedWrite) (entries : List Entry) (position : ℕ) (entry : Entry) → AreEntries session number writes entries
    → slice_get entries position ≡ Some entry → EntryOf session number writes position entry
entry_write session number [] [] position entry are at = absurd (none_is_some entry at)
entry_write session number [] (told ∷ entries) position entry are at = absurd are
entry_write session number (write ∷ writes) [] position entry are at = absurd are
entry_write session number (write ∷ writes) (told ∷ entries) zero entry are at =
    record { write = write; stands = refl; is = subst (λ e. e ≡ entry_of session number write e.result) (some_is_some told entry at) are.0 }
entry_write session number (write ∷ writes) (told ∷ entries) (suc position) entry are at =
    let rest = entry_write session number writes entries position entry are.1 at in
    record { write = rest.write; stands = rest.stands; is = rest.is }

-- the document of an own one, by its position
pub record DocumentOf (documents : List (List (Pair Bson))) (position : ℕ) (own : OwnDocument) : Type 0 where
  pub document : List (Pair Bson)
  pub stands : slice_get documents position ≡ Some document
  pub id_is : value_of id_key document ≡ Some own.id

pub document_of : (documents : List (List (Pair Bson))) (own : List OwnDocument) (position : ℕ) (found : OwnDocument) → AreOwn documents own → slice_get own position ≡ Some found
    → DocumentOf documents position found
document_of [] [] position found are at = absurd (none_is_some found at)
document_of [] (front ∷ own) position found are at = absurd are
document_of (document ∷ documents) [] position found are at = absurd are
document_of (document ∷ documents) (front ∷ own) zero found are at =
    record { document = document; stands = refl; id_is = are.1 ∙ ap (λ (o : OwnDocument). Some o.id) (some_is_some front found at) }
document_of (document ∷ documents) (front ∷ own) (suc position) found are at =
    let rest = document_of documents own position found are.2 at in
    record { document = rest.document; stands = rest.stands; id_is = rest.id_is }

-- what stands in a list before the end of its front stands in that
pub front_has : {A : Type 0} (count : ℕ) (xs : List A) (position : ℕ) (x : A) → position < count → slice_get xs position ≡ Some x → slice_get (take count xs) position ≡ Some x
front_has zero xs position x below is = absurd (omega (arith, below))
front_has (suc count) [] position x below is = absurd (none_is_some x is)
front_has (suc count) (y ∷ xs) zero x below is = is
front_has (suc count) (y ∷ xs) (suc position) x below is = front_has count xs position x (omega (arith, below)) is

-- what stands in a list stands before its end
pub before_end : {A : Type 0} (xs : List A) (position : ℕ) (x : A) → slice_get xs position ≡ Some x → position < length xs
before_end [] position x is = absurd (none_is_some x is)
before_end (y ∷ xs) zero x is = omega arith
before_end (y ∷ xs) (suc position) x is = let rest = before_end xs position x is in omega (arith, rest)

-- a place behind the first by its position
pub place_there : (call index count position : ℕ) → position < count → slice_get (places_from call index count) position ≡ Some (place_in call (index + position))
place_there call index zero position below = absurd (omega (arith, below))
place_there call index (suc count) zero below = let on : index ≡ index + 0 = omega arith in ap (λ n. Some (place_in call n)) on
place_there call index (suc count) (suc position) below =
    let on : index + 1 + position ≡ index + suc position = omega arith in
    place_there call (index + 1) count position (omega (arith, below)) ∙ ap (λ n. Some (place_in call n)) on

-- the write of a document in a place
pub write_there : (namespace : Namespace) (documents : List (List (Pair Bson))) (places : List Place) (position : ℕ) (document : List (Pair Bson)) (place : Place)
    → slice_get documents position ≡ Some document → slice_get places position ≡ Some place → slice_get (insert_writes namespace documents places) position ≡ Some (insert_write namespace document place)
write_there namespace [] places position document place is also = absurd (none_is_some document is)
write_there namespace (front ∷ documents) [] position document place is also = absurd (none_is_some place also)
write_there namespace (front ∷ documents) (here ∷ places) zero document place is also =
    ap (λ d. Some (insert_write namespace d here)) (some_is_some front document is) ∙ ap (λ p. Some (insert_write namespace document p)) (some_is_some here place also)
write_there namespace (front ∷ documents) (here ∷ places) (suc position) document place is also = write_there namespace documents places position document place is also
