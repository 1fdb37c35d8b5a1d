-- The documents so far are sent with their ids.
use Rattle.std.proofs.Common.{◌≡◌, take}
use Rattle.driver_attempt.specs.Client.{options_of, store_of}
use Rattle.driver_actions.specs.ManyIds.{OwnsAll}
use Rattle.driver_actions.proofs.own_ids.own_documents.Given as goal

abbrev pub invariant-loop-document : goal.invariant-loop-document
invariant-loop-document g l =
    record {
      owns : OwnsAll (g.S.SessionStore.tells (store_of l.fn.client)) (g.S.SessionStore.tells (store_of l.client)) (take l.document-index l.documents) l.own;
      options : options_of l.client ≡ options_of l.fn.client;
    }
