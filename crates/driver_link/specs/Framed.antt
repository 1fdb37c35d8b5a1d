-- What a frame holds.
use Rattle.std.specs.Prelude.{ℕ, List}
use Rattle.driver_link.specs.declared.frame.Sequence.{Sequence}

-- a database name, the bytes of a body, and named lists of the bytes of documents
pub record Framed : Type 0 where
  pub database : List ℕ
  pub body : List ℕ
  pub sequences : List Sequence
