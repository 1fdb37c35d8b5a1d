-- A fault stays one beside others.
use Rattle.std.proofs.Common.{◌≡◌, Bool, true, false, refl}
use Rattle.std.specs.Prelude.{Option, None, Some}
use Rattle.bson_lite.specs.declared.fault.EncodeFault.{EncodeFault}
use Rattle.bson_lite.specs.declared.fault.EncodeFault.TheVariants.{Memory, TooDeep, TooLong, ZeroByte}
use Rattle.bson_lite.proofs.Named.{by_tests}
use Rattle.driver_inputs.specs.Faults.{before_length, before_zero, first_of}

-- no fault is told where there is one
zero_told : (other : Option EncodeFault) → before_zero other ≡ None → ⊥
zero_told None is = let e : ◌≡◌ {A = Option EncodeFault} (Some ZeroByte) None = is in cc
zero_told (Some Memory) is = let e : ◌≡◌ {A = Option EncodeFault} (Some ZeroByte) None = is in cc
zero_told (Some TooDeep) is = let e : ◌≡◌ {A = Option EncodeFault} (Some TooDeep) None = is in cc
zero_told (Some ZeroByte) is = let e : ◌≡◌ {A = Option EncodeFault} (Some ZeroByte) None = is in cc
zero_told (Some TooLong) is = let e : ◌≡◌ {A = Option EncodeFault} (Some ZeroByte) None = is in cc

length_told : (other : Option EncodeFault) → before_length other ≡ None → ⊥
length_told None is = let e : ◌≡◌ {A = Option EncodeFault} (Some TooLong) None = is in cc
length_told (Some Memory) is = let e : ◌≡◌ {A = Option EncodeFault} (Some TooLong) None = is in cc
length_told (Some TooDeep) is = let e : ◌≡◌ {A = Option EncodeFault} (Some TooDeep) None = is in cc
length_told (Some ZeroByte) is = let e : ◌≡◌ {A = Option EncodeFault} (Some ZeroByte) None = is in cc
length_told (Some TooLong) is = let e : ◌≡◌ {A = Option EncodeFault} (Some TooLong) None = is in cc

pub both_none : (deep holed long : Bool) (other : Option EncodeFault) → first_of (by_tests deep holed long) other ≡ None
    → (by_tests deep holed long ≡ None) × (other ≡ None)
both_none true holed long other is = absurd (let e : ◌≡◌ {A = Option EncodeFault} (Some TooDeep) None = is in cc)
both_none false true long other is = absurd (zero_told other is)
both_none false false true other is = absurd (length_told other is)
both_none false false false other is = (refl, is)
