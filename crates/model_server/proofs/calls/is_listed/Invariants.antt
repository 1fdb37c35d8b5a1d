-- The number is not among those that were looked at.
use Rattle.std.proofs.Common.{◌≡◌, drop}
use Rattle.driver_link.specs.Counting.{is_listed}
use Rattle.model_server.proofs.calls.is_listed.Given as goal

abbrev pub invariant-loop-number : goal.invariant-loop-number
invariant-loop-number l = is_listed (drop l.number-index l.numbers) l.at ≡ is_listed l.numbers l.at
