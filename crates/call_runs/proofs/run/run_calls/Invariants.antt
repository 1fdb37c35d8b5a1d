-- The calls that were made have their outcomes and their causes, and the run stands.
use Rattle.std.proofs.Common.{◌≡◌, ◌≤◌, ◌-◌, length, take}
use Rattle.driver_attempt.specs.Moment.{DrawsInOrder, HasFreshServer, KeepsClient, KeepsLent, moment_of}
use Rattle.driver_actions.specs.CallParts.{IsReplayed, KeepsMaking}
use Rattle.call_runs.specs.CallByCall.{HaveCauses}
use Rattle.call_runs.specs.MainTheorem.{Begins, HaveEnded}
use Rattle.call_runs.specs.Standing.{RunInvariant, last_number}
use Rattle.call_runs.proofs.run.run_calls.Given as goal

abbrev pub invariant-calls : goal.invariant-calls
invariant-calls g l =
    let first = moment_of g.S.SessionStore.tells g.L.Link.tells g.K.Clock.tells g.R.Rng.stream l.fn.client l.fn.outside in
    let now = moment_of g.S.SessionStore.tells g.L.Link.tells g.K.Clock.tells g.R.Rng.stream l.client l.outside in
    record {
      within : l.run.made ≤ length l.calls;
      room : l.run.room ≡ length l.calls;
      client : KeepsClient first now;
      stands : Begins first now → RunInvariant l.run l.calls now;
      ended : Begins first now → HaveEnded (take l.run.made l.calls) l.run.outcomes first now;
      replayed : HasFreshServer first → IsReplayed now;
      making : KeepsMaking first now;
      drawn : DrawsInOrder first now;
      lent : KeepsLent first now;
      causes : HaveCauses (take l.run.made l.calls) l.run.outcomes first now;
      call : l.outside.call ≡ last_number l.fn.outside.call l.run.made;
    }

abbrev pub decreases-calls : goal.decreases-calls
decreases-calls g l = length l.calls - l.run.made
