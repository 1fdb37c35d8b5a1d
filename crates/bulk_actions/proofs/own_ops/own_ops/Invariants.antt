-- The ops so far are sent with their ids.
use Rattle.std.proofs.Common.{◌≡◌, take}
use Rattle.driver_attempt.specs.Client.{options_of, store_of}
use Rattle.bulk_actions.specs.BulkIds.{OwnsOps}
use Rattle.bulk_actions.proofs.own_ops.own_ops.Given as goal

abbrev pub invariant-loop-model : goal.invariant-loop-model
invariant-loop-model g l =
    record {
      owns : OwnsOps (g.S.SessionStore.tells (store_of l.fn.client)) (g.S.SessionStore.tells (store_of l.client)) (take l.model-index l.models) l.own;
      options : options_of l.client ≡ options_of l.fn.client;
    }
