-- A write concern as a command carries it.
use Rattle.std.specs.Prelude.{ℕ, ◌^◌, pos, List, [], ◌∷◌, ◌++◌, Option, None, Some, nat_lt, if◌then◌else◌}
use Rattle.bson_lite.specs.declared.bson.Bson.{Bson}
use Rattle.bson_lite.specs.declared.bson.Bson as bson
use Rattle.bson_lite.specs.declared.document.Pair.{Pair}
use Rattle.driver_options.specs.declared.concerns.Acknowledgment.{Acknowledgment}
use Rattle.driver_options.specs.declared.concerns.Acknowledgment.TheVariants.{Custom, Majority, Nodes}
use Rattle.driver_options.specs.declared.concerns.WriteConcern.{WriteConcern}
use Rattle.driver_ops.specs.declared.keys.TheConstants.{JOURNAL, MAJORITY, W, W_TIMEOUT}
use Rattle.driver_ops.specs.OptionFields.{flag_of, option_field}

-- a number of 32 bits as a command has it: an Int32 where it fits, else an Int64
abbrev pub number_value : ℕ → Bson
number_value n = if nat_lt n (2 ^ 31) then bson.Int32 (pos n) else bson.Int64 (pos n)

-- the same of an option
abbrev pub number_of : Option ℕ → Option Bson
number_of None = None
number_of (Some n) = Some (number_value n)

-- which servers acknowledge a write, as a value
abbrev pub acknowledgment_value : Acknowledgment → Bson
acknowledgment_value (Nodes nodes) = number_value nodes
acknowledgment_value Majority = bson.String MAJORITY.now
acknowledgment_value (Custom name) = bson.String name

-- the same of an option
abbrev pub acknowledgment_of : Option Acknowledgment → Option Bson
acknowledgment_of None = None
acknowledgment_of (Some w) = Some (acknowledgment_value w)

-- the fields of a concern that are set, in their order
unfoldable pub concern_document : WriteConcern → List (Pair Bson)
concern_document concern =
    (option_field W.now (acknowledgment_of concern.w) ++ option_field W_TIMEOUT.now (number_of concern.w_timeout)) ++ option_field JOURNAL.now (flag_of concern.journal)

-- a document as a value, where it has a field
abbrev pub filled : List (Pair Bson) → Option Bson
filled [] = None
filled (first ∷ rest) = Some (bson.Document (first ∷ rest))

-- a concern as a value: none where there is none, or where none of its fields is set
abbrev pub concern_value : Option WriteConcern → Option Bson
concern_value None = None
concern_value (Some concern) = filled (concern_document concern)
