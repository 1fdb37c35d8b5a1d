-- A frame whose length is written last.
use Rattle.std.proofs.Common.{◌≡◌, ℕ, ◌+◌, ◌-◌, ◌≤◌, List, [], ◌∷◌, ◌++◌, length, take, drop, refl, sym, ap, ◌∙◌, append_assoc, arith}
use Rattle.std.proofs.lemmas.List.{take_at, drop_at, take-append-le, drop-append-le, take-append-drop, length-append, length-take-le, length-drop}
use Rattle.bson_lite.specs.Spelling.{four, framed}
use Rattle.bson_lite.specs.Writing.{Puts}

-- four bytes over those at a place, where the zero byte stands already
frame_closed : (front behind count : List ℕ) (at : ℕ) → at + 4 ≤ length front → length count ≡ 4
    → take (length front + 1) (take at (front ++ 0 ∷ behind) ++ (count ++ drop (at + 4) (front ++ 0 ∷ behind))) ≡ take at front ++ (count ++ (drop (at + 4) front ++ 0 ∷ []))
frame_closed front behind count at room four =
    let len : length (take at front ++ (count ++ (drop (at + 4) front ++ 0 ∷ []))) ≡ length front + 1 =
    omega (arith, length-append (take at front) (count ++ (drop (at + 4) front ++ 0 ∷ [])), length-append count (drop (at + 4) front ++ 0 ∷ []), length-append (drop (at + 4) front) (0 ∷ []), length-take-le at front (omega (arith, room)), length-drop (at + 4) front, four, room) in
    let regroup : take at front ++ (count ++ (drop (at + 4) front ++ 0 ∷ behind)) ≡ (take at front ++ (count ++ (drop (at + 4) front ++ 0 ∷ []))) ++ behind = simp append_assoc in
    rw (take-append-le at front (0 ∷ behind) (omega (arith, room)), drop-append-le (at + 4) front (0 ∷ behind) room, regroup) (take_at (take at front ++ (count ++ (drop (at + 4) front ++ 0 ∷ []))) behind (length front + 1) len)

-- a shorter beginning of a beginning
take_within : (at end : ℕ) (bytes : List ℕ) → at ≤ end → end ≤ length bytes → take at (take end bytes) ≡ take at bytes
take_within at end bytes le fits =
    sym (take-append-le at (take end bytes) (drop end bytes) (omega (arith, length-take-le end bytes fits))) ∙ ap (take at) (take-append-drop end bytes)

pub closed : (old mid new : List ℕ) (at end after : ℕ) → at + 4 ≤ end → end + 1 ≤ length old → Puts (0 ∷ []) end old mid after
    → new ≡ take at mid ++ (four (after - at) ++ drop (at + 4) mid) → length new ≡ length old → Puts (framed (drop (at + 4) (take end old))) at old new after
closed old mid new at end after room fits puts e size =
    let front : length (take end old) ≡ end = length-take-le end old (omega (arith, fits)) in
    let inside : length (drop (at + 4) (take end old)) ≡ end - (at + 4) = length-drop (at + 4) (take end old) ∙ ap (λ (n : ℕ). n - (at + 4)) front in
    let place : after ≡ at + (length (drop (at + 4) (take end old)) + 5) = omega (arith, puts.0, inside, room) in
    let count : after - at ≡ length (drop (at + 4) (take end old)) + 5 = omega (arith, place) in
    let whole : mid ≡ take end old ++ 0 ∷ drop after mid = sym (take-append-drop after mid) ∙ ap (λ (xs : List ℕ). xs ++ drop after mid) puts.1 ∙ append_assoc (take end old) (0 ∷ []) (drop after mid) in
    let after_is : after ≡ length (take end old) + 1 = omega (arith, puts.0, front) in
    let closes : take (length (take end old) + 1) (take at (take end old ++ 0 ∷ drop after mid) ++ (four (after - at) ++ drop (at + 4) (take end old ++ 0 ∷ drop after mid))) ≡ take at (take end old) ++ (four (after - at) ++ (drop (at + 4) (take end old) ++ 0 ∷ [])) =
    frame_closed (take end old) (drop after mid) (four (after - at)) at (omega (arith, front, room)) refl in
    let rebuilt : take at (take end old ++ 0 ∷ drop after mid) ++ (four (after - at) ++ drop (at + 4) (take end old ++ 0 ∷ drop after mid)) ≡ new = sym (e ∙ ap (λ (xs : List ℕ). take at xs ++ (four (after - at) ++ drop (at + 4) xs)) whole) in
    let bytes : take after new ≡ take at old ++ (four (after - at) ++ (drop (at + 4) (take end old) ++ 0 ∷ [])) =
    ap (λ (n : ℕ). take n new) after_is ∙ ap (take (length (take end old) + 1)) (sym rebuilt) ∙ closes ∙ ap (λ (xs : List ℕ). xs ++ (four (after - at) ++ (drop (at + 4) (take end old) ++ 0 ∷ []))) (take_within at end old (omega (arith, room)) (omega (arith, fits))) in
    let same : four (after - at) ≡ four (length (drop (at + 4) (take end old)) + 5) = ap four count in
    let spread : length (drop (at + 4) (take end old) ++ 0 ∷ []) ≡ length (drop (at + 4) (take end old)) + 1 = length-append (drop (at + 4) (take end old)) (0 ∷ []) in
    (omega (arith, place, spread), bytes ∙ ap (λ (xs : List ℕ). take at old ++ (xs ++ (drop (at + 4) (take end old) ++ 0 ∷ []))) same, size)

-- a frame round elements that were written from four bytes after its place on
pub framed_there : (old mid new elements : List ℕ) (at end after : ℕ) → at + 4 ≤ length old → end ≤ length mid → Puts elements (at + 4) old mid end
    → Puts (framed (drop (at + 4) (take end mid))) at mid new after → Puts (framed elements) at old new after
framed_there old mid new elements at end after room fits written frame =
    let front : length (take (at + 4) old) ≡ at + 4 = length-take-le (at + 4) old room in
    let inside : drop (at + 4) (take end mid) ≡ elements = ap (drop (at + 4)) written.1 ∙ drop_at (take (at + 4) old) elements (at + 4) front in
    let beginning : take at (take end mid) ≡ take at old = ap (take at) written.1 ∙ take-append-le at (take (at + 4) old) elements (omega (arith, front)) ∙ take_within at (at + 4) old (omega arith) room in
    let before : take at mid ≡ take at old = sym (take_within at end mid (omega (arith, written.0)) fits) ∙ beginning in
    let frame' : Puts (framed elements) at mid new after = rw (← inside) frame in
    (frame'.0, frame'.1 ∙ ap (λ (xs : List ℕ). xs ++ framed elements) before, frame'.2 ∙ written.2)
