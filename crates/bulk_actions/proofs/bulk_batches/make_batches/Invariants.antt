-- The batches so far, each of which lets the next one be made.
use Rattle.std.proofs.Common.{◌≡◌, ◌-◌, ◌≤◌, length, true}
use Rattle.bulk_outcomes.specs.Status.{Stands, goes_on}
use Rattle.bulk_fronts.specs.BulkWrites.{bulk_is_ordered}
use Rattle.driver_attempt.specs.Client.{options_of}
use Rattle.driver_attempt.specs.Moment.{moment_of}
use Rattle.many_actions.specs.BatchPlans.{places_from}
use Rattle.bulk_actions.proofs.BulkSequence.{SoFar}
use Rattle.bulk_actions.proofs.bulk_batches.make_batches.Given as goal

abbrev pub invariant-batches : goal.invariant-batches
invariant-batches g l =
    let before = moment_of g.S.SessionStore.tells g.L.Link.tells g.K.Clock.tells g.R.Rng.stream l.fn.client l.fn.outside in
    let now = moment_of g.S.SessionStore.tells g.L.Link.tells g.K.Clock.tells g.R.Rng.stream l.client l.outside in
    record {
      far : SoFar g.T.BulkWriteResult.tells l.options l.fn.outside.call l.own before now l.first l.standing;
      within : l.first ≤ length l.own;
      placed : l.places ≡ places_from l.outside.call 0 (length l.own);
      stands : Stands g.T.BulkWriteResult.tells l.standing;
      goes : goes_on (bulk_is_ordered l.options) l.standing ≡ true;
      options : options_of l.client ≡ options_of l.fn.client;
      call : l.outside.call ≡ l.fn.outside.call;
    }

abbrev pub decreases-batches : goal.decreases-batches
decreases-batches g l = length l.own - l.first
