-- The documents so far, by the write errors that are left, have the ids of all of them by all write errors.
use Rattle.std.proofs.Common.{◌≡◌, true, drop}
use Rattle.write_ops.specs.InsertAnswers.{ids_where, is_inserted}
use Rattle.write_ops.proofs.inserted.ids_before.Given as goal

abbrev pub invariant-loop-error : goal.invariant-loop-error
invariant-loop-error l =
    ids_where (is_inserted true (drop l.error-index l.errors)) 0 l.inserted ≡ ids_where (is_inserted true l.errors) 0 l.documents
