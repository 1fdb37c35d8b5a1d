-- Where the newest connection of a number is out.
use Rattle.std.proofs.Common.{◌≡◌, ℕ, suc, ◌+◌, ◌<◌, true, false, List, [], ◌∷◌, ◌++◌, length, take, drop, refl, sym, ap, ◌∙◌, arith, drop-cons, get_or}
use Rattle.std.specs.Prelude.{◌==◌}
use Rattle.std.proofs.lemmas.Bool.{cond-false, or_parts}
use Rattle.std.proofs.lemmas.List.{take-append-drop}
use Rattle.driver_options.specs.declared.options.Conn.{Conn}
use Rattle.driver_link.specs.LinkState.{has_number, without_newest}
use Rattle.driver_link.proofs.ConnectionsOut.{newest_between}

-- where none has the number, nothing is handed back
pub none_newest : (number : ℕ) (out : List Conn) → has_number number out ≡ false → without_newest number out ≡ out
none_newest number [] none = refl
none_newest number (conn ∷ out) none =
    let parts = or_parts (conn.number == number) (has_number number out) none in
    cond-false (has_number number out) _ _ parts.1 ∙ cond-false (conn.number == number) _ _ parts.0

-- a list before, at and behind a place
parts_at : (out : List Conn) (at : ℕ) (conn : Conn) → at < length out → conn ≡ get_or out at conn → out ≡ take at out ++ conn ∷ drop (at + 1) out
parts_at out at conn within is =
    let next : suc at ≡ at + 1 = omega arith in
    sym (take-append-drop at out)
    ∙ ap (λ rest. take at out ++ rest) (drop-cons out at conn within ∙ λ i. sym is i ∷ drop (next i) out)

-- the connection at a place, with none of its number behind it, is the newest of that
pub newest_at : (number : ℕ) (out : List Conn) (at : ℕ) (conn : Conn) → at < length out → conn ≡ get_or out at conn → (conn.number == number) ≡ true
    → has_number number (drop (at + 1) out) ≡ false → take at out ++ drop (at + 1) out ≡ without_newest number out
newest_at number out at conn within there is none =
    sym (ap (without_newest number) (parts_at out at conn within there) ∙ newest_between number (take at out) (drop (at + 1) out) conn is none)
