-- Lists of different lengths are not the same.
use Rattle.std.proofs.Common.{◌≡◌, ℕ, false, List, length, ap}
use Rattle.std.specs.Prelude.{◌==◌}
use Rattle.std.specs.Str.{bytes_eq}
use Rattle.std.proofs.lemmas.Bool.{false_from_ne_true, eqb-false}
use Rattle.bson_lite.proofs.Numbers.{same-bytes_eq}

pub unlike_lengths : (xs ys : List ℕ) → (length xs == length ys) ≡ false → bytes_eq xs ys ≡ false
unlike_lengths xs ys unlike =
    false_from_ne_true (bytes_eq xs ys) (λ same. eqb-false (length xs) (length ys) unlike (ap length (same-bytes_eq xs ys same)))
