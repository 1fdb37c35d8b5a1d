-- The number that a text is.
use Rattle.std.proofs.Common.{◌≡◌, ℕ, List, Some, None, sym, ap}
use Rattle.std.specs.Prelude.{unwrap_or}
use Rattle.std.specs.Float.Ieee.{nan}
use Rattle.script_parts.specs.inside.Tree.{number_read}
use Rattle.serde_json.specs.Data.{Num, float}
use Rattle.serde_json.specs.Read.{number_of}

-- one that is in range is what is read of it
pub some_read : (text : List ℕ) (n : Num) → Some n ≡ number_of text → number_read text ≡ n
unfolding number_read
some_read text n is = ap (λ found. unwrap_or found (float nan)) (sym is)

-- one that is not is no whole number
pub none_read : (text : List ℕ) → None ≡ number_of text → number_read text ≡ float nan
unfolding number_read
none_read text is = ap (λ found. unwrap_or found (float nan)) (sym is)
