-- The places of a call's writes, of which the first are left out, and the documents that are left.
use Rattle.std.proofs.Common.{◌≡◌, ℕ, zero, suc, ◌+◌, ◌-◌, ◌<◌, ◌≤◌, List, [], ◌∷◌, ◌++◌, drop, length, take, refl, sym, ap, ◌∙◌, arith}
use Rattle.std.proofs.lemmas.List.{length-drop, take_all}
use Rattle.bson_lite.specs.declared.bson.Bson.{Bson}
use Rattle.bson_lite.specs.declared.document.Pair.{Pair}
use Rattle.driver_link.specs.declared.machine.Place.{Place}
use Rattle.write_ops.specs.declared.own_document.OwnDocument.{OwnDocument}
use Rattle.write_ops.specs.InsertSpec.{AreOwn}
use Rattle.many_actions.specs.Batches.{places_from}
use Rattle.many_actions.specs.inside.Batches.{AreSpelled}

-- what is left of a list is taken whole
pub left_whole : {A : Type 0} (at : ℕ) (list : List A) → take (length list - at) (drop at list) ≡ drop at list
left_whole at list = take_all (length list - at) (drop at list) (omega (arith, length-drop at list))

-- where the index is one of the list something is left
pub some_left : {A : Type 0} (at : ℕ) (list : List A) → at < length list → 0 < length (drop at list)
some_left at list within = omega (arith, length-drop at list, within)

-- the place of a call at an index
abbrev place_at : ℕ → ℕ → Place
place_at call index = record { call = call; index = index }

-- one place more at the end
places_last : (call start count : ℕ) → places_from call start count ++ place_at call (start + count) ∷ [] ≡ places_from call start (suc count)
places_last call start zero =
    let here : start + 0 ≡ start = omega arith in
    ap (λ n. place_at call n ∷ []) here
places_last call start (suc count) =
    let there : start + suc count ≡ (start + 1) + count = omega arith in
    ap (λ n. place_at call start ∷ (places_from call (start + 1) count ++ place_at call n ∷ [])) there ∙ ap (λ rest. place_at call start ∷ rest) (places_last call (start + 1) count)

-- the same of those from the first one on
pub places_more : (call count : ℕ) → places_from call 0 count ++ place_at call count ∷ [] ≡ places_from call 0 (count + 1)
places_more call count =
    let here : count ≡ 0 + count = omega arith in
    let next : suc count ≡ count + 1 = omega arith in
    ap (λ n. places_from call 0 count ++ place_at call n ∷ []) here ∙ places_last call 0 count ∙ ap (places_from call 0) next

-- there are as many as were asked for
pub places_length : (call start count : ℕ) → length (places_from call start count) ≡ count
places_length call start zero = refl
places_length call start (suc count) = ap suc (places_length call (start + 1) count)

-- so an index of the writes is one of theirs
pub covers : {W : Type 0} (call at : ℕ) (own : List W) (places : List Place) → places ≡ places_from call 0 (length own) → at < length own → at ≤ length places
covers call at own places is within =
    let same : length places ≡ length own = ap length is ∙ places_length call 0 (length own) in
    omega (arith, same, within)

-- those that are left begin further on
places_behind : (call start index count : ℕ) → drop index (places_from call start count) ≡ places_from call (start + index) (count - index)
places_behind call start zero count =
    let here : start ≡ start + 0 = omega arith in
    let all : count ≡ count - 0 = omega arith in
    ap (λ n. places_from call n count) here ∙ ap (places_from call (start + 0)) all
places_behind call start (suc index) zero =
    let none : 0 ≡ 0 - suc index = omega arith in
    ap (places_from call (start + suc index)) none
places_behind call start (suc index) (suc count) =
    let there : (start + 1) + index ≡ start + suc index = omega arith in
    let fewer : count - index ≡ suc count - suc index = omega arith in
    places_behind call (start + 1) index count ∙ ap (λ n. places_from call n (count - index)) there ∙ ap (places_from call (start + suc index)) fewer

-- the places of the writes that are left
pub places_left : {W : Type 0} (call index : ℕ) (own : List W) → drop index (places_from call 0 (length own)) ≡ places_from call index (length (drop index own))
places_left call index own =
    let here : 0 + index ≡ index = omega arith in
    places_behind call 0 index (length own) ∙ ap (λ n. places_from call n (length own - index)) here ∙ ap (places_from call index) (sym (length-drop index own))

-- the documents that are left are the caller's own
own_left : (index : ℕ) (documents : List (List (Pair Bson))) (own : List OwnDocument) → AreOwn documents own → AreOwn (drop index documents) (drop index own)
own_left zero documents own are = are
own_left (suc index) [] [] are = tt
own_left (suc index) [] (one ∷ own) are = absurd are
own_left (suc index) (document ∷ documents) [] are = absurd are
own_left (suc index) (document ∷ documents) (one ∷ own) are = own_left index documents own are.2

pub spelled_left : (index : ℕ) (own : List OwnDocument) → AreSpelled own → AreSpelled (drop index own)
spelled_left index own spelled = record { documents = drop index spelled.documents; are_own = own_left index spelled.documents own spelled.are_own }
