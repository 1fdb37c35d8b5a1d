-- Reading elements one after the other, as a loop does.
use Rattle.std.proofs.Common.{◌≡◌, ℕ, zero, suc, ◌+◌, ◌≤◌, ◌<◌, List, [], ◌∷◌, ◌++◌, length, Result, Ok, Err, refl, sym, ap, ◌∙◌, append_assoc, arith}
use Rattle.std.proofs.lemmas.List.{append-nil, length_push}
use Rattle.bson_lite.specs.declared.fault.DecodeFault.{DecodeFault}
use Rattle.bson_lite.specs.declared.fault.DecodeFault.TheVariants.{At, Memory}
use Rattle.bson_lite.specs.Reading.{◌>>=◌, Failed, many_with}

-- what was read before, and what is still read
abbrev pub with_front : {A : Type 0} → List A → Result (List A) ℕ → Result (List A) ℕ
with_front front others = others >>= λ rest. Ok (front ++ rest)

-- the front is read, and reading the rest gives the whole
pub record Going {A : Type 0} (one : ℕ → List ℕ → Result (A × List ℕ) ℕ) (total : Result (List A) ℕ) (front : List A) (rest : List ℕ) : Type 0 where
  pub turns : ℕ
  pub enough : length rest ≤ turns
  pub whole : with_front front (many_with one turns (length front) rest) ≡ total

regroup : {A : Type 0} (front : List A) (x : A) (others : Result (List A) ℕ) → with_front front (others >>= λ rest. Ok (x ∷ rest)) ≡ with_front (front ++ x ∷ []) others
regroup {A} front x (Ok rest) = ap (λ (xs : List A). Ok xs) (simp append_assoc)
regroup front x (Err offset) = refl

front-nil : {A : Type 0} (others : Result (List A) ℕ) → with_front [] others ≡ others
front-nil (Ok rest) = refl
front-nil (Err offset) = refl

pub starts : {A : Type 0} (one : ℕ → List ℕ → Result (A × List ℕ) ℕ) (bytes : List ℕ) → Going one (many_with one (length bytes) 0 bytes) [] bytes
starts one bytes = record { turns = length bytes; enough = omega arith; whole = front-nil (many_with one (length bytes) 0 bytes) }

pub step : {A : Type 0} (one : ℕ → List ℕ → Result (A × List ℕ) ℕ) (turns place : ℕ) (rest : List ℕ) (x : A) (after : List ℕ) → 0 < length rest → length rest ≤ suc turns → one place rest ≡ Ok (x, after)
    → many_with one (suc turns) place rest ≡ (many_with one turns (place + 1) after >>= λ others. Ok (x ∷ others))
unfolding many_with
step one turns place [] x after some enough e = absurd (omega arith)
step one turns place (byte ∷ bytes) x after some enough e = rw e refl

pub stops : {A : Type 0} (one : ℕ → List ℕ → Result (A × List ℕ) ℕ) (turns place : ℕ) (rest : List ℕ) (offset : ℕ) → 0 < length rest → one place rest ≡ Err offset
    → many_with one (suc turns) place rest ≡ Err offset
unfolding many_with
stops one turns place [] offset some e = absurd (omega arith)
stops one turns place (byte ∷ bytes) offset some e = rw e refl

pub ends : {A : Type 0} (one : ℕ → List ℕ → Result (A × List ℕ) ℕ) (turns place : ℕ) (rest : List ℕ) → length rest ≤ 0 → many_with one turns place rest ≡ Ok []
unfolding many_with
ends one zero place rest none = refl
ends one (suc turns) place [] none = refl
ends one (suc turns) place (byte ∷ bytes) none = absurd (omega arith)

goes_with : {A : Type 0} (one : ℕ → List ℕ → Result (A × List ℕ) ℕ) (total : Result (List A) ℕ) (front : List A) (rest : List ℕ) (x : A) (after : List ℕ) (turns : ℕ)
    → length rest ≤ turns → with_front front (many_with one turns (length front) rest) ≡ total
    → 0 < length rest → length after + 1 ≤ length rest → one (length front) rest ≡ Ok (x, after) → Going one total (front ++ x ∷ []) after
goes_with one total front rest x after zero enough whole some shorter e = absurd (omega arith)
goes_with one total front rest x after (suc turns) enough whole some shorter e =
    let len : length (front ++ x ∷ []) ≡ length front + 1 = length_push front x in
    let same : with_front front (many_with one (suc turns) (length front) rest) ≡ with_front (front ++ x ∷ []) (many_with one turns (length front + 1) after) =
    rw (step one turns (length front) rest x after some enough e) (regroup front x (many_with one turns (length front + 1) after)) in
    record { turns = turns; enough = omega arith; whole = rw len (sym same ∙ whole) }

some_left : (rest : List ℕ) → (rest ≡ [] → ⊥) → 0 < length rest
some_left [] h = absurd (h refl)
some_left (byte ∷ bytes) h = omega arith

pub goes_on : {A : Type 0} (one : ℕ → List ℕ → Result (A × List ℕ) ℕ) (total : Result (List A) ℕ) (front : List A) (rest : List ℕ) (x : A) (after : List ℕ)
    → 0 < length rest → length after + 1 ≤ length rest → one (length front) rest ≡ Ok (x, after) → Going one total front rest → Going one total (front ++ x ∷ []) after
goes_on one total front rest x after some shorter e going = goes_with one total front rest x after going.turns going.enough going.whole some shorter e

fails_with : {A : Type 0} (one : ℕ → List ℕ → Result (A × List ℕ) ℕ) (total : Result (List A) ℕ) (front : List A) (rest : List ℕ) (offset turns : ℕ)
    → length rest ≤ turns → with_front front (many_with one turns (length front) rest) ≡ total
    → 0 < length rest → one (length front) rest ≡ Err offset → total ≡ Err offset
fails_with one total front rest offset zero enough whole some e = absurd (omega arith)
fails_with one total front rest offset (suc turns) enough whole some e =
    let same : with_front front (many_with one (suc turns) (length front) rest) ≡ Err offset = rw (stops one turns (length front) rest offset some e) refl in
    sym whole ∙ same

fails : {A : Type 0} (one : ℕ → List ℕ → Result (A × List ℕ) ℕ) (total : Result (List A) ℕ) (front : List A) (rest : List ℕ) (offset : ℕ)
    → 0 < length rest → one (length front) rest ≡ Err offset → Going one total front rest → total ≡ Err offset
fails one total front rest offset some e going = fails_with one total front rest offset going.turns going.enough going.whole some e

pub exits : {A : Type 0} (one : ℕ → List ℕ → Result (A × List ℕ) ℕ) (total : Result (List A) ℕ) (front : List A) (rest : List ℕ) (fault : DecodeFault)
    → 0 < length rest → Failed fault (one (length front) rest) → Going one total front rest → Failed fault total
exits one total front rest Memory some e going = tt
exits one total front rest (At offset) some e going = fails one total front rest offset some e going

pub is_done : {A : Type 0} (one : ℕ → List ℕ → Result (A × List ℕ) ℕ) (total : Result (List A) ℕ) (front : List A) (rest : List ℕ)
    → length rest ≤ 0 → Going one total front rest → total ≡ Ok front
is_done {A} one total front rest none going =
    let same : with_front front (many_with one going.turns (length front) rest) ≡ Ok front = rw (ends one going.turns (length front) rest none) (ap (λ (xs : List A). Ok xs) (append-nil front)) in
    sym going.whole ∙ same
