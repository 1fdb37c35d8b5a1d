-- The write errors so far, then those that are left.
use Rattle.std.proofs.Common.{◌≡◌, ◌++◌, drop, map}
use Rattle.many_actions.specs.ManyAnswers.{moved_error}
use Rattle.many_actions.proofs.gathered.push_errors.Given as goal

abbrev pub invariant-loop-error : goal.invariant-loop-error
invariant-loop-error l =
    l.all ++ map (moved_error l.first) (drop l.error-index l.errors) ≡ l.fn.all ++ map (moved_error l.first) l.errors
