-- What an operation says of one of its options.
use Rattle.std.specs.Prelude.{Bool, true, false, Option, None, Some}
use denote.Ref.{Bor}
use Rattle.driver_ops.specs.declared.feature.Feature.{Feature}
use Rattle.driver_ops.specs.declared.feature.Feature.TheVariants.{Set, Inherit, NotSupported}

-- an option that has a value or takes another's
abbrev pub feature_of : {T : Type 0} → Option T → Feature T
feature_of (Some value) = Set value
feature_of None = Inherit

-- it has a value of its own
abbrev pub is_set : {T : Type 0} → Feature T → Bool
is_set (Set value) = true
is_set other = false

-- the command has such an option
abbrev pub is_supported : {T : Type 0} → Feature T → Bool
is_supported NotSupported = false
is_supported other = true

-- the value behind the reference
abbrev pub feature_told : {T : Type 0} → Feature (Bor T) → Feature T
feature_told (Set value) = Set value.now
feature_told Inherit = Inherit
feature_told NotSupported = NotSupported
