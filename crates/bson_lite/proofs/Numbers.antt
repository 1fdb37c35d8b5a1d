-- Numbers as their bytes: what was written is read again.
use Rattle.std.proofs.Common.{◌≡◌, ℕ, ◌≤◌, ◌<◌, ◌^◌, true, List, ◌++◌, get_or, length, take, drop, inl, inr, Some, refl, sym, ap, ◌∙◌, arith}
use Rattle.std.specs.Int.{Width, w32, w64, byte_len, to_le_bytes, from_le_bytes}
use Rattle.std.specs.Str.{bytes_eq}
use Rattle.std.proofs.lemmas.Bool.{le-ltb, cases_lt}
use Rattle.std.proofs.lemmas.Slice.Eq.{bytes_eq-Decides}
use Rattle.std.proofs.lemmas.List.{take_at, drop_at, length-append, length-take, get_or-take, get_or_past}
use Rattle.std.proofs.lemmas.Nat.{from_le_bytes-to_le_bytes_4, from_le_bytes-to_le_bytes_8}
use Rattle.bson_lite.specs.Parts.{some_at, number_of, number_at}

pub bytes_eq-same : (bytes : List ℕ) → bytes_eq bytes bytes ≡ true
bytes_eq-same bytes = (bytes_eq-Decides bytes bytes).1 refl

pub same-bytes_eq : (xs ys : List ℕ) → bytes_eq xs ys ≡ true → xs ≡ ys
same-bytes_eq xs ys e = (bytes_eq-Decides xs ys).0 e

pub IsBytes-taken : (n : ℕ) (bytes part : List ℕ) → ((i : ℕ) → get_or bytes i 0 < 256) → part ≡ take n bytes → (i : ℕ) → get_or part i 0 < 256
IsBytes-taken n bytes part h e i =
    rw e (elim (cases_lt i n) [
      | inl lt ↦ rw (get_or-take n bytes i 0 lt) (h i)
      | inr le ↦ rw (get_or_past (take n bytes) i 0 (omega (arith, length-take n bytes))) (omega arith)
    ])

pub some_at-is : (count : ℕ) (bytes : List ℕ) → count ≤ length bytes → some_at count bytes ≡ Some (take count bytes, drop count bytes)
unfolding some_at
some_at-is count bytes h = rw (le-ltb (length bytes) count h) refl

pub some_again : (part rest : List ℕ) (count : ℕ) → length part ≡ count → some_at count (part ++ rest) ≡ Some (part, rest)
some_again part rest count e =
    rw (some_at-is count (part ++ rest) (omega (arith, length-append part rest)), take_at part rest count e, drop_at part rest count e) refl

pub number_of-is : (w : Width) (bytes : List ℕ) (n : ℕ) → to_le_bytes w n ≡ bytes → n ≡ from_le_bytes w bytes → number_of w bytes ≡ Some n
unfolding number_of
number_of-is w bytes n e f = rw (← f, e, bytes_eq-same bytes) refl

pub number_at-is : (w : Width) (bytes chunk rest : List ℕ) (n : ℕ) → byte_len w ≤ length bytes → chunk ≡ take (byte_len w) bytes → rest ≡ drop (byte_len w) bytes → to_le_bytes w n ≡ chunk → n ≡ from_le_bytes w chunk → number_at w bytes ≡ Some (n, rest)
unfolding number_at
number_at-is w bytes chunk rest n le front back e f =
    rw (some_at-is (byte_len w) bytes le, ← front, ← back, number_of-is w chunk n e f) refl

number_again : (w : Width) (part rest : List ℕ) (n : ℕ) → length part ≡ byte_len w → to_le_bytes w n ≡ part → n ≡ from_le_bytes w part → number_at w (part ++ rest) ≡ Some (n, rest)
unfolding number_at
number_again w part rest n len e f = rw (some_again part rest (byte_len w) len, number_of-is w part n e f) refl

pub four_again : (part rest : List ℕ) (n : ℕ) → part ≡ to_le_bytes w32 n → n < 2 ^ 32 → number_at w32 (part ++ rest) ≡ Some (n, rest)
four_again part rest n e lt = number_again w32 part rest n (ap length e) (sym e) (sym (from_le_bytes-to_le_bytes_4 n lt) ∙ ap (from_le_bytes w32) (sym e))

pub eight_again : (part rest : List ℕ) (n : ℕ) → part ≡ to_le_bytes w64 n → n < 2 ^ 64 → number_at w64 (part ++ rest) ≡ Some (n, rest)
eight_again part rest n e lt = number_again w64 part rest n (ap length e) (sym e) (sym (from_le_bytes-to_le_bytes_8 n lt) ∙ ap (from_le_bytes w64) (sym e))
