-- The ids of documents by their indexes, where they were inserted.
use Rattle.std.proofs.Common.{◌≡◌, ℕ, zero, suc, ◌+◌, ◌<◌, ◌≤◌, List, [], ◌∷◌, ◌++◌, Bool, true, false, ◌&&◌, length, drop, take, get_or, add-one, length-take-le, take-suc, take_all, arith, refl, sym, ap, ◌∙◌}
use Rattle.std.proofs.lemmas.Bool.{le-ltb, lt-ltb}
use Rattle.std.proofs.lemmas.List.{at_drop_all, drop_more}
use Rattle.std.specs.Prelude.{if◌then◌else◌, nat_lt}
use Rattle.std.specs.Cmp.{nat_cmp_total}
use Rattle.std.specs.FinMap as finite
use Rattle.std.specs.Ordering.{nat_cmp}
use Rattle.bson_lite.proofs.FinMaps.{insert_swapped}
use Rattle.bson_lite.proofs.Rising.{apart}
use Rattle.bson_lite.specs.declared.bson.Bson.{Bson}
use Rattle.driver_error.specs.declared.write.IndexedWriteError.{IndexedWriteError}
use Rattle.write_ops.specs.declared.own_document.OwnDocument.{OwnDocument}
use Rattle.write_ops.specs.InsertAnswers.{ids_where, is_inserted}

-- the same documents have the same ids
pub ids_alike : (these those : ℕ → Bool) → ((index : ℕ) → these index ≡ those index) → (documents : List OwnDocument) (at : ℕ)
    → ids_where these at documents ≡ ids_where those at documents
unfolding ids_where
ids_alike these those same [] at = refl
ids_alike these those same (own ∷ rest) at =
    ap (λ (here : Bool). if here then finite.insert (ids_where these (at + 1) rest) at own.id else ids_where these (at + 1) rest) (same at)
    ∙ ap (λ (ids : finite.FinMap nat_cmp Bson). if those at then finite.insert ids at own.id else ids) (ids_alike these those same rest (at + 1))

-- no document was passed, and none has an id
pub ids_none : (inserted : ℕ → Bool) (documents : List OwnDocument) → finite.empty ≡ ids_where inserted 0 (take 0 documents)
unfolding ids_where
ids_none inserted documents = refl

-- an id put behind others, where those before it were put after it or before
ids_past : (here there : Bool) (ids : finite.FinMap nat_cmp Bson) (at last : ℕ) (first_id last_id : Bson) → at < last
    → (if here then finite.insert (if there then finite.insert ids last last_id else ids) at first_id else (if there then finite.insert ids last last_id else ids))
    ≡ (if there then finite.insert (if here then finite.insert ids at first_id else ids) last last_id else (if here then finite.insert ids at first_id else ids))
ids_past false there ids at last first_id last_id before = refl
ids_past true false ids at last first_id last_id before = refl
ids_past true true ids at last first_id last_id before =
    sym (insert_swapped nat_cmp_total finite.nat_cmp-IsAntisymmetric ids at last first_id last_id (apart at last before))

-- the id of a document behind others
ids_behind_others : (inserted : ℕ → Bool) (at last : ℕ) (documents : List OwnDocument) (own : OwnDocument) → last ≡ at + length documents
    → ids_where inserted at (documents ++ own ∷ []) ≡ (if inserted last then finite.insert (ids_where inserted at documents) last own.id else ids_where inserted at documents)
unfolding ids_where
ids_behind_others inserted at last [] own is =
    let same : at ≡ last = omega (arith, is) in
    let none : finite.FinMap nat_cmp Bson = finite.empty in
    ap (λ (place : ℕ). if inserted place then finite.insert none place own.id else none) same
ids_behind_others inserted at last (first ∷ rest) own is =
    ap (λ (ids : finite.FinMap nat_cmp Bson). if inserted at then finite.insert ids at first.id else ids)
    (ids_behind_others inserted (at + 1) last rest own (omega (arith, is)))
    ∙ ids_past (inserted at) (inserted last) (ids_where inserted (at + 1) rest) at last first.id own.id (omega (arith, is))

-- the document behind those whose ids were put
pub ids_more : (inserted : ℕ → Bool) (documents : List OwnDocument) (at : ℕ) (own : OwnDocument) (ids now : finite.FinMap nat_cmp Bson) → at < length documents
    → own ≡ get_or documents at own → ids ≡ ids_where inserted 0 (take at documents)
    → now ≡ (if inserted at then finite.insert ids at own.id else ids) → now ≡ ids_where inserted 0 (take (at + 1) documents)
ids_more inserted documents at own ids now within read so_far puts =
    let passed : take (at + 1) documents ≡ take at documents ++ own ∷ [] =
    ap (λ (count : ℕ). take count documents) (add-one at) ∙ take-suc documents at own within
    ∙ ap (λ (found : OwnDocument). take at documents ++ found ∷ []) (sym read) in
    let last : at ≡ 0 + length (take at documents) = let count = length-take-le at documents (omega (arith, within)) in omega (arith, count) in
    puts
    ∙ ap (λ (found : finite.FinMap nat_cmp Bson). if inserted at then finite.insert found at own.id else found) so_far
    ∙ sym (ids_behind_others inserted 0 at (take at documents) own last)
    ∙ ap (λ documents_passed. ids_where inserted 0 documents_passed) (sym passed)

-- all documents were passed
pub ids_passed : (inserted : ℕ → Bool) (documents : List OwnDocument) (at : ℕ) (ids : finite.FinMap nat_cmp Bson) → length documents ≤ at
    → ids ≡ ids_where inserted 0 (take at documents) → ids ≡ ids_where inserted 0 documents
ids_passed inserted documents at ids past so_far = so_far ∙ ap (λ passed. ids_where inserted 0 passed) (take_all at documents past)

-- none of documents that stand behind an index
ids_behind : (inserted : ℕ → Bool) (stop at : ℕ) (documents : List OwnDocument) → stop ≤ at
    → ids_where (λ index. nat_lt index stop && inserted index) at documents ≡ finite.empty
unfolding ids_where
ids_behind inserted stop at [] behind = refl
ids_behind inserted stop at (own ∷ rest) behind =
    let others = ids_where (λ index. nat_lt index stop && inserted index) (at + 1) rest in
    ap (λ (here : Bool). if here && inserted at then finite.insert others at own.id else others) (le-ltb at stop behind)
    ∙ ids_behind inserted stop (at + 1) rest (omega arith)

-- those of documents before an index are those of the front
ids_front : (inserted : ℕ → Bool) (stop at count : ℕ) (documents : List OwnDocument) → stop ≡ at + count
    → ids_where (λ index. nat_lt index stop && inserted index) at documents ≡ ids_where inserted at (take count documents)
unfolding ids_where
ids_front inserted stop at zero documents is = ids_behind inserted stop at documents (omega arith)
ids_front inserted stop at (suc count) [] is = refl
ids_front inserted stop at (suc count) (own ∷ rest) is =
    let others = ids_where (λ index. nat_lt index stop && inserted index) (at + 1) rest in
    ap (λ (here : Bool). if here && inserted at then finite.insert others at own.id else others) (lt-ltb at stop (omega arith))
    ∙ ap (λ (ids : finite.FinMap nat_cmp Bson). if inserted at then finite.insert ids at own.id else ids)
    (ids_front inserted stop (at + 1) count rest (omega arith))

-- an ordered insert stops at a write error
ids_stop : (error : IndexedWriteError) (errors : List IndexedWriteError) (documents : List OwnDocument)
    → ids_where (is_inserted true (error ∷ errors)) 0 documents ≡ ids_where (is_inserted true errors) 0 (take error.index documents)
ids_stop error errors documents = ids_front (is_inserted true errors) error.index 0 error.index documents (omega arith)

-- one write error less that is left
pub ids_before : (errors : List IndexedWriteError) (at : ℕ) (error : IndexedWriteError) (before now : List OwnDocument) (all : finite.FinMap nat_cmp Bson)
    → at < length errors → error ≡ get_or errors at error → now ≡ take error.index before
    → ids_where (is_inserted true (drop at errors)) 0 before ≡ all → ids_where (is_inserted true (drop (at + 1) errors)) 0 now ≡ all
ids_before errors at error before now all within read is so_far =
    let rest = drop (at + 1) errors in
    let left : drop at errors ≡ error ∷ rest = drop_more errors at error within ∙ ap (λ first. first ∷ rest) (sym read) in
    ap (λ own. ids_where (is_inserted true rest) 0 own) is
    ∙ sym (ids_stop error rest before)
    ∙ ap (λ errors_left. ids_where (is_inserted true errors_left) 0 before) (sym left)
    ∙ so_far

-- none is left
pub ids_all : (errors : List IndexedWriteError) (at : ℕ) (inserted : List OwnDocument) (all : finite.FinMap nat_cmp Bson) → length errors ≤ at
    → ids_where (is_inserted true (drop at errors)) 0 inserted ≡ all → ids_where (λ index. true) 0 inserted ≡ all
ids_all errors at inserted all past so_far =
    sym (at_drop_all (λ errors_left. ids_where (is_inserted true errors_left) 0 inserted) errors at past) ∙ so_far
