-- The further pages so far: each came, and left a cursor open.
use Rattle.std.proofs.Common.{◌≡◌, ℕ, List, [], ◌∷◌, ◌++◌}
use Rattle.std.specs.Prelude.{ℤ, Some, Ok}
use Rattle.bson_lite.specs.declared.namespace.Namespace.{Namespace}
use Rattle.driver_ops.specs.declared.operation.Reading.TheVariants.{Page as Further}
use Rattle.driver_ops.specs.Operations.{Page, SameSpec}
use Rattle.driver_attempt.specs.Attempting.{besides_out}
use Rattle.driver_attempt.specs.inside.AttemptExchanges.{AsksFor}
use Rattle.driver_attempt.proofs.ReadingPages.{PagesSoFar}
use Rattle.driver_attempt.proofs.pages.read_pages.Given as goal

abbrev pub invariant-pages : goal.invariant-pages
invariant-pages g l = record {
  far : (page : Page) → g.O.Operation.has_read l.fn.op (page ∷ []) → (pages : List Page) × (g.O.Operation.has_read l.op (pages ++ page ∷ [])
      × ((statements : ℕ) → g.O.Operation.built l.fn.op ≡ Some statements → (namespace : Namespace) (cursor : ℤ) → AsksFor namespace cursor l.fn.first
      → (g.O.Operation.spec l.fn.op).reads statements (page ∷ []) (Ok (Further cursor namespace))
      → PagesSoFar (g.O.Operation.spec l.fn.op) statements page l.conn (besides_out (g.L.Link.tells l.fn.link)) (besides_out (g.L.Link.tells l.link)) l.fn.held l.held pages l.more));
  some : (page : Page) × g.O.Operation.has_read l.fn.op (page ∷ []);
  spec : SameSpec (g.O.Operation.spec l.fn.op) (g.O.Operation.spec l.op);
  built : g.O.Operation.built l.op ≡ g.O.Operation.built l.fn.op;
  next : g.O.Operation.next l.op ≡ g.O.Operation.next l.fn.op;
  out : (g.L.Link.tells l.link).out ≡ (g.L.Link.tells l.fn.link).out;
}

abbrev pub decreases-pages : goal.decreases-pages
decreases-pages g l = g.O.Operation.left l.op
