-- The text of a value that is printed only where it may be.
use Rattle.std.specs.Prelude.{ℕ, Bool, true, false, List, codes, Option, Some}

-- what stands in place of a value
unfoldable pub hidden_text : List ℕ
hidden_text = codes "<redacted>"

-- the text of a value, or what stands in its place
abbrev pub shown : Bool → Option (List ℕ) → Option (List ℕ)
shown true text = Some hidden_text
shown false text = text
