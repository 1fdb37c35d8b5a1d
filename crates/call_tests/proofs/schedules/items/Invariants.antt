-- Each step so far has an item that a model server takes.
use Rattle.std.specs.List.{All}
use Rattle.driver_link.specs.WellFormed.{IsItem}
use Rattle.call_tests.proofs.schedules.items.Given as goal

abbrev pub invariant-items : goal.invariant-items
invariant-items g l = All (λ step. IsItem step.item) l.steps
