-- A set of indexes, and what `not` says of a test.
use Rattle.std.proofs.Common.{◌≡◌, ℕ, Bool, true, false, not, ap}
use Rattle.std.specs.HashSet as bag
use Rattle.std.specs.declared.hash.FoldHasher.{FoldHasher}
use Rattle.std.specs.declared.hash.BuildHasherDefault.{BuildHasherDefault}

-- a set of indexes
abbrev pub Indexes : Type 0
Indexes = bag.HashSet ℕ (BuildHasherDefault FoldHasher)

-- what `not` says of a test
pub not_back : {b c : Bool} → not b ≡ c → b ≡ not c
not_back {b} {c} is = back b c is
  where
    back : (b c : Bool) → not b ≡ c → b ≡ not c
    back true c is = ap not is
    back false c is = ap not is
