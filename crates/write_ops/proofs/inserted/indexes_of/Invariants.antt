-- The indexes so far, before those of the write errors that are left.
use Rattle.std.proofs.Common.{◌≡◌, ◌++◌, drop}
use Rattle.write_ops.specs.inside.InsertAnswers.{indexes_of}
use Rattle.write_ops.proofs.inserted.indexes_of.Given as goal

abbrev pub invariant-loop-error : goal.invariant-loop-error
invariant-loop-error l = l.indexes.items ++ indexes_of (drop l.error-index l.errors) ≡ indexes_of l.errors
