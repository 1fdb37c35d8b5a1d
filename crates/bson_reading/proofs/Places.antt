-- The key of an array's value, told by the digits of its place.
use Rattle.std.proofs.Common.{◌≡◌, ℕ, ◌+◌, ◌≤◌, ◌<◌, ◌^◌, List, ◌∷◌, ◌++◌, length, drop, Option, Some, None, IfNone, IfSome, refl, sym, ap, ◌∙◌, arith}
use denote.Ref.{Bor}
use Rattle.std.proofs.lemmas.List.{drop_at, length-append}
use Rattle.std.specs.Prelude.{decimal}
use Rattle.bson_lite.specs.Parts.{place_at}
use Rattle.bson_lite.proofs.Again.{ascii_utf8}
use Rattle.bson_lite.proofs.Nested.{decimal_free}
use Rattle.bson_reading.proofs.Sound.{place_took}
use Rattle.bson_reading.proofs.Wholeness.{none_from, place_again}

-- behind the digits and a zero byte stands what is read behind the key
pub place_is : (place : ℕ) (bytes rest : List ℕ) → place < 2 ^ 64 → bytes ≡ decimal place ++ 0 ∷ rest → place_at place bytes ≡ Some rest
place_is place bytes rest small is =
    ap (place_at place) is
    ∙ place_again place (decimal place) rest (record { utf8 = ascii_utf8 place small; zero_free = decimal_free place small; numbered = refl })

-- where these do not stand, the key is not there
pub place_is_not : (place : ℕ) (bytes : List ℕ) → ((rest : List ℕ) → bytes ≡ decimal place ++ 0 ∷ rest → ⊥) → place_at place bytes ≡ None
place_is_not place bytes never = none_from (place_at place bytes) (λ rest is. never rest (place_took place bytes rest is))

-- they stand before what is behind them
pub behind_shorter : (bytes key rest : List ℕ) → bytes ≡ key ++ 0 ∷ rest → length rest + 1 ≤ length bytes
behind_shorter bytes key rest is = omega (arith, ap length is, length-append key (0 ∷ rest))

-- what stands behind a key is one list
behind_same : (bytes key one other : List ℕ) → bytes ≡ key ++ one → bytes ≡ key ++ other → one ≡ other
behind_same bytes key one other is same =
    sym (drop_at key one (length key) refl) ∙ ap (drop (length key)) (sym is ∙ same) ∙ drop_at key other (length key) refl

-- a zero byte that is found there ends the key
pub behind_some : (bytes key behind : List ℕ) (found : Option (Bor (List ℕ))) → bytes ≡ key ++ behind
    → IfSome found (λ rest. behind ≡ 0 ∷ rest.now) → IfSome found (λ rest. bytes ≡ key ++ 0 ∷ rest.now)
behind_some bytes key behind None is first = tt
behind_some bytes key behind (Some rest) is first = is ∙ ap (λ (after : List ℕ). key ++ after) first

-- where none is found, none does
pub behind_none : (bytes key behind : List ℕ) (found : Option (Bor (List ℕ))) → bytes ≡ key ++ behind
    → IfNone found ((rest : List ℕ) → behind ≡ 0 ∷ rest → ⊥) → IfNone found ((rest : List ℕ) → bytes ≡ key ++ 0 ∷ rest → ⊥)
behind_none bytes key behind None is none = λ rest other. none rest (behind_same bytes key behind (0 ∷ rest) is other)
behind_none bytes key behind (Some rest) is none = tt
