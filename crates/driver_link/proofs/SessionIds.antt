-- Session ids as keys: their `==` and their order tie the same ids.
use Rattle.std.proofs.Common.{◌≡◌, ℕ, nat_eq, List}
use Rattle.std.specs.Cmp.Lexicographic.{slice_cmp, pointwise, texts_ties}
use Rattle.std.specs.Ordering.{eq_by_cmp, nat_cmp}

pub ids_tie : (k q : List ℕ) → pointwise nat_eq k q ≡ eq_by_cmp (slice_cmp nat_cmp) k q
ids_tie k q = texts_ties k q
