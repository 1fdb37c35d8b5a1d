-- The texts that were found, then those of the values that are left.
use Rattle.std.proofs.Common.{◌≡◌, ◌++◌, drop}
use Rattle.std.specs.Option.{option_map}
use Rattle.driver_ops.specs.Readings.{texts_in}
use Rattle.driver_ops.proofs.reply_fields.texts_in.Given as goal

abbrev pub invariant-loop-value : goal.invariant-loop-value
invariant-loop-value l = option_map (λ rest. l.texts ++ rest) (texts_in (drop l.value-index l.values)) ≡ texts_in l.values
