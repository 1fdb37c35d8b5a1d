-- The id is not among those that were passed.
use Rattle.std.proofs.Common.{◌≡◌, ◌++◌, take, drop}
use Rattle.driver_session.specs.Pool.{is_lent, without_first}
use Rattle.driver_session.proofs.pool.place_of.Given as goal

abbrev pub invariant-loop-at : goal.invariant-loop-at
invariant-loop-at l =
    (is_lent l.id (drop l.at l.lent) ≡ is_lent l.id l.lent)
    × (take l.at l.lent ++ without_first l.id (drop l.at l.lent) ≡ without_first l.id l.lent)
