-- Tokens that nest no deeper than a script may, and whose numbers are in range.
use Rattle.std.specs.Prelude.{ℕ, suc, ◌-◌, Bool, true, false, List, [], ◌∷◌, Option, None, Some, is_some, nat_lt, if◌then◌else◌}
use Rattle.json.specs.Token.{Token}
use Rattle.serde_json.specs.Read.{number_of}

-- the level of nesting behind a token, where the token may stand at this one
abbrev pub level_after : ℕ → Token → Option ℕ
level_after level Token.begin_object = if nat_lt level 127 then Some (suc level) else None
level_after level Token.begin_array = if nat_lt level 127 then Some (suc level) else None
level_after level Token.end_object = Some (level - 1)
level_after level Token.end_array = Some (level - 1)
level_after level (Token.number text) = if is_some (number_of text) then Some level else None
level_after level (Token.key text) = Some level
level_after level (Token.string text) = Some level
level_after level (Token.boolean flag) = Some level
level_after level Token.null = Some level
level_after level Token.bad = Some level

-- each token may stand at its level
unfoldable pub are_fit : Option ℕ → List Token → Bool
are_fit None tokens = false
are_fit (Some level) [] = true
are_fit (Some level) (token ∷ tokens) = are_fit (level_after level token) tokens
