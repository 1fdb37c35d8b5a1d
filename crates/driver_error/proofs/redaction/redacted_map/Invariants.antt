-- What was redacted so far with the entries that are left is all of it.
use Rattle.std.proofs.Common.{◌≡◌, drop}
use Rattle.bson_lite.specs.Indexed.{insert_each, changed_entries, changed}
use Rattle.driver_error.specs.Redaction.{redacted_write}
use Rattle.driver_error.proofs.redaction.redacted_map.Given as goal

abbrev pub invariant-loop-pair : goal.invariant-loop-pair
invariant-loop-pair l = insert_each l.copies (changed_entries redacted_write (drop l.pair-index l.pairs)) ≡ changed redacted_write l.errors
