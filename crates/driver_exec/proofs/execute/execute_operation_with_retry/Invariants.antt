-- The failures so far, and what is kept of them.
use Rattle.std.proofs.Common.{◌≡◌, ℕ}
use Rattle.std.specs.Prelude.{◌⊎◌, IsSome}
use Rattle.driver_ops.specs.Operations.{HasBodies, IsFixed, SameSpec, StaysFixed, batch_of}
use Rattle.driver_attempt.specs.Attempting.{attempted_operation}
use Rattle.driver_attempt.specs.Client.{options_of, store_of}
use Rattle.driver_attempt.specs.Concerns.{concern_of}
use Rattle.driver_attempt.specs.Holding.{holds_nothing}
use Rattle.driver_attempt.proofs.AttemptSequence.{AtMostOne, SoFar, attempts_left}
use Rattle.driver_attempt.specs.inside.Attempting.{attempt_state}
use Rattle.driver_exec.proofs.execute.execute_operation_with_retry.Given as goal

abbrev pub invariant-attempts : goal.invariant-attempts
invariant-attempts g l = record {
  far : (statements : ℕ) → IsFixed (g.O.Operation.built l.op) statements
      → SoFar (attempted_operation (g.O.Operation.spec l.fn.op) (batch_of l.places statements) (g.O.Operation.next l.fn.op) ((g.O.Operation.spec l.fn.op).retryability (options_of l.fn.client))
      (concern_of (g.O.Operation.spec l.fn.op) (g.O.Operation.next l.fn.op) (options_of l.fn.client))) l.sharded
      (attempt_state (g.S.SessionStore.tells (store_of l.fn.client)) (g.L.Link.tells l.fn.outside.link) (g.K.Clock.tells l.fn.outside.clock) holds_nothing l.fn.sends (g.O.Operation.built l.fn.op))
      l.kept
      (attempt_state (g.S.SessionStore.tells (store_of l.client)) (g.L.Link.tells l.outside.link) (g.K.Clock.tells l.outside.clock) l.held l.sends (g.O.Operation.built l.op));
  spec : SameSpec (g.O.Operation.spec l.fn.op) (g.O.Operation.spec l.op);
  fixed : StaysFixed (g.O.Operation.built l.fn.op) (g.O.Operation.built l.op);
  next : g.O.Operation.next l.op ≡ g.O.Operation.next l.fn.op;
  bodies : HasBodies (g.O.Operation.spec l.op) l.places;
  retryability : l.retryability ≡ (g.O.Operation.spec l.fn.op).retryability (options_of l.fn.client);
  options : options_of l.client ≡ options_of l.fn.client;
  out : (g.L.Link.tells l.outside.link).out ≡ (g.L.Link.tells l.fn.outside.link).out;
  words : l.outside.words ≡ l.fn.outside.words;
  call : l.outside.call ≡ l.fn.outside.call;
  once : AtMostOne l.kept;
  counted : (l.sends ≡ l.fn.sends) ⊎ IsSome (g.O.Operation.built l.op);
}

abbrev pub decreases-attempts : goal.decreases-attempts
decreases-attempts g l = attempts_left l.kept
