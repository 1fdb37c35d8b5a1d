-- The number of JSON that a number holds.
use Rattle.script_parts.specs.declared.numbers.Number.{Number}
use Rattle.script_parts.specs.declared.numbers.Number.TheVariants.{Whole, Negative, Float}
use Rattle.serde_json.specs.Data.{Num, unsigned, negative, float}

abbrev pub num_of : Number → Num
num_of (Whole n) = unsigned n
num_of (Negative z) = negative z
num_of (Float x) = float x
