-- The batches so far, each of which lets the next one be begun.
use Rattle.std.proofs.Common.{◌≡◌, ◌-◌, ◌≤◌, length}
use Rattle.driver_ops.specs.declared.target.OperationTarget.TheVariants as target
use Rattle.driver_attempt.specs.Client.{options_of}
use Rattle.driver_attempt.specs.Moment.{moment_of}
use Rattle.many_actions.specs.Batches.{places_from}
use Rattle.many_actions.proofs.BatchSequence.{SoFar}
use Rattle.many_actions.proofs.batches.gather_batches.Given as goal

abbrev pub invariant-batches : goal.invariant-batches
invariant-batches g l =
    let before = moment_of g.S.SessionStore.tells g.L.Link.tells g.K.Clock.tells g.R.Rng.stream l.fn.client l.fn.outside in
    let now = moment_of g.S.SessionStore.tells g.L.Link.tells g.K.Clock.tells g.R.Rng.stream l.client l.outside in
    record {
      far : SoFar (target.Collection l.collection) l.options l.fn.outside.call l.own before now l.first l.gathered;
      within : l.first ≤ length l.own;
      placed : l.places ≡ places_from l.outside.call 0 (length l.own);
      options : options_of l.client ≡ options_of l.fn.client;
      call : l.outside.call ≡ l.fn.outside.call;
    }

abbrev pub decreases-batches : goal.decreases-batches
decreases-batches g l = length l.own - l.first
