-- What was copied so far is the front of what is copied.
use Rattle.std.proofs.Common.{◌≡◌, ◌++◌, drop}
use Rattle.model_replies.proofs.copying.copied_entries.Given as goal

abbrev pub invariant-loop-entry : goal.invariant-loop-entry
invariant-loop-entry l = l.copies ++ drop l.entry-index l.entries ≡ l.entries
