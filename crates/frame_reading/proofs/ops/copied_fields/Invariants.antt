-- What was copied so far is the front of the fields.
use Rattle.std.proofs.Common.{◌≡◌, ◌++◌, drop}
use Rattle.frame_reading.proofs.ops.copied_fields.Given as goal

abbrev pub invariant-loop-field : goal.invariant-loop-field
invariant-loop-field l = l.copy ++ drop l.field-index l.fields ≡ l.fields
