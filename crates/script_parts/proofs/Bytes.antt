-- Bytes as the value that they are read as.
use Rattle.std.specs.Prelude.{◌≡◌, ℕ, List, Bool, true, false, refl, None}
use Rattle.std.specs.Str.{is_utf8, IsUtf8}
use Rattle.std.proofs.lemmas.Str.{is_utf8-from_IsUtf8, IsUtf8-from_is_utf8}
use Rattle.script_parts.specs.Json.{value_read}
use Rattle.serde_json.specs.Read.{read}

-- UTF-8 is what is read of it
pub value_read_text : (bytes : List ℕ) → IsUtf8 bytes → value_read bytes ≡ read bytes
value_read_text bytes text = rw (is_utf8-from_IsUtf8 bytes text) refl

-- bytes that are no UTF-8 have no value
pub value_read_none : (bytes : List ℕ) → ¬ IsUtf8 bytes → value_read bytes ≡ None
value_read_none bytes not_text = by (is_utf8 bytes) refl
  where
    by : (test : Bool) → is_utf8 bytes ≡ test → value_read bytes ≡ None
    by true is = absurd (not_text (IsUtf8-from_is_utf8 bytes is))
    by false is = rw is refl
