-- Counts of faults: a call answers a fault only where its count rose; a read or a write that fails raises its by one.
use Rattle.std.specs.Prelude.{◌≡◌, ℕ, ◌+◌, ◌-◌, ◌^◌, ◌≤◌, min, Result, Ok, Err}
use Rattle.link_faults.specs.declared.fault.LinkError.{LinkError}
use Rattle.link_faults.specs.declared.fault.LinkError.TheVariants.{Fault, Memory}

-- the count rose, or stands at the greatest u64
abbrev pub Rose : ℕ → ℕ → Type 0
Rose before now = min (before + 1) (2 ^ 64 - 1) ≤ now

-- the count is one more, or stands at the greatest u64
abbrev pub RoseByOne : ℕ → ℕ → Type 0
RoseByOne before now = now ≡ min (before + 1) (2 ^ 64 - 1)

-- the count tells the failures: it stands where there is none, and rose by one where there is one
abbrev pub FailsByCount : {A E : Type 0} → ℕ → ℕ → Result A E → Type 0
FailsByCount before now (Ok answer) = now ≡ before
FailsByCount before now (Err failed) = RoseByOne before now × (before ≤ now)

-- a count of a link never falls, and a fault comes only where it rose; want of memory has no cause
abbrev pub HasLinkCause : {A : Type 0} → ℕ → ℕ → Result A LinkError → Type 0
HasLinkCause before now (Ok answer) = before ≤ now
HasLinkCause before now (Err (Fault fault labels)) = Rose before now × (before ≤ now)
HasLinkCause before now (Err Memory) = before ≤ now
