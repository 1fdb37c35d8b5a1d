-- Two finite maps put together.
use Rattle.std.specs.Prelude.{◌≡◌, ℕ, ◌++◌, ◌⊎◌, None}
use Rattle.std.specs.Ordering.{nat_cmp}
use Rattle.std.specs.FinMap as finite

-- what either map has; at an index that both have, the value of the later one
unfoldable pub union : {X : Type 0} → finite.FinMap nat_cmp X → finite.FinMap nat_cmp X → finite.FinMap nat_cmp X
union before later = finite.from_entries (finite.entries later ++ finite.entries before)

-- no index has a value in both maps
abbrev pub AreDisjoint : {X : Type 0} → finite.FinMap nat_cmp X → finite.FinMap nat_cmp X → Type 0
AreDisjoint m n = (index : ℕ) → (finite.get m index ≡ None) ⊎ (finite.get n index ≡ None)
