-- The connections that are out, once the newest of a number was handed back.
use Rattle.std.proofs.Common.{◌≡◌, ℕ, true, false, List, [], ◌∷◌, ◌++◌, refl, ap, ◌∙◌, arith}
use Rattle.std.specs.Prelude.{◌==◌, ◌||◌}
use Rattle.std.proofs.lemmas.Bool.{cond-true, cond-false, or_right}
use Rattle.std.proofs.lemmas.Bool.Decides.{nat_tests}
use Rattle.std.proofs.lemmas.List.{append-nil}
use Rattle.driver_options.specs.declared.options.Conn.{Conn}
use Rattle.driver_link.specs.LinkState.{has_number, without_newest}

-- equal numbers are told to be equal
pub same_number : (a b : ℕ) → a ≡ b → (a == b) ≡ true
same_number a b same = grind (arith, nat_tests)

-- where one has it, one has it among more
has_later : (number : ℕ) (front rest : List Conn) → has_number number rest ≡ true → has_number number (front ++ rest) ≡ true
has_later number [] rest there = there
has_later number (conn ∷ front) rest there = ap (λ b. (conn.number == number) || b) (has_later number front rest there) ∙ or_right (conn.number == number) true refl

-- the newest of a number stands before others alone
pub newest_between : (number : ℕ) (front rest : List Conn) (conn : Conn) → (conn.number == number) ≡ true → has_number number rest ≡ false
    → without_newest number (front ++ conn ∷ rest) ≡ front ++ rest
newest_between number [] rest conn is none = cond-false (has_number number rest) _ _ none ∙ cond-true (conn.number == number) _ _ is
newest_between number (first ∷ front) rest conn is none =
    let there : has_number number (conn ∷ rest) ≡ true = ap (λ b. b || has_number number rest) is in
    cond-true (has_number number (front ++ conn ∷ rest)) _ _ (has_later number front (conn ∷ rest) there) ∙ ap (λ out. first ∷ out) (newest_between number front rest conn is none)

-- a connection that was checked out last is the newest of its number
pub handed_back_last : (out : List Conn) (conn : Conn) → (conn.number == conn.number) ≡ true → without_newest conn.number (out ++ conn ∷ []) ≡ out
handed_back_last out conn same = newest_between conn.number out [] conn same refl ∙ append-nil out
