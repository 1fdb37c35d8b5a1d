-- Many values put into a finite map, and entries in the order of their indexes.
use Rattle.std.specs.Prelude.{◌≡◌, ℕ, ◌<◌, ◌≤◌, List, [], ◌∷◌, T, length, map, slice_index_or}
use Rattle.std.specs.Ordering.{nat_cmp}
use Rattle.std.specs.FinMap as finite

-- the map once each value was put at its index, in turn
unfoldable pub insert_each : {X : Type 0} → finite.FinMap nat_cmp X → List (ℕ × X) → finite.FinMap nat_cmp X
insert_each m [] = m
insert_each m (entry ∷ entries) = insert_each (finite.insert m entry.0 entry.1) entries

-- entries with each value changed
abbrev pub changed_entries : {X Y : Type 0} → (X → Y) → List (ℕ × X) → List (ℕ × Y)
changed_entries change entries = map (λ entry. (entry.0, change entry.1)) entries

-- the map with each value changed
abbrev pub changed : {X Y : Type 0} → (X → Y) → finite.FinMap nat_cmp X → finite.FinMap nat_cmp Y
changed change m = finite.from_entries (changed_entries change (finite.entries m))

-- the indexes of entries rise
pub record IsRising {X : Type 0} (entries : List (ℕ × X)) : Type 0 where
  pub rises : T (finite.is_sorted nat_cmp entries)

-- the entry at a place has this index
pub record IsAt {X : Type 0} (index : ℕ) (entries : List (ℕ × X)) (at : ℕ) : Type 0 where
  pub within : at < length entries
  pub has_index : (other : ℕ × X) → (slice_index_or entries at other).0 ≡ index

-- no entry has this index, and one that had it would stand at a place
pub record IsGap {X : Type 0} (index : ℕ) (entries : List (ℕ × X)) (at : ℕ) : Type 0 where
  pub within : at ≤ length entries
  pub below : (place : ℕ) (other : ℕ × X) → place < at → (slice_index_or entries place other).0 < index
  pub above : (place : ℕ) (other : ℕ × X) → at ≤ place → place < length entries → index < (slice_index_or entries place other).0
