-- A run that has made no call stands over whatever is new.
use Rattle.std.proofs.Common.{[]}
use Rattle.call_runs.proofs.StandingRuns.{stands_none}
use Rattle.call_runs.proofs.call_run.CallRun.begin.Goals as goal

pub returns-clause-stands : goal.returns-clause-stands
returns-clause-stands c =
    let none = c.in_ok-with_capacity.ensures in
    stands_none c.args.room _ (λ i. record { made = none.len i; room = none.exact i; outcomes = none.items i; slots = [] })
