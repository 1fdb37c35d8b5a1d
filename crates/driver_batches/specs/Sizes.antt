-- Writes that are told by their sizes in bytes.
use Rattle.std.specs.Prelude.{ℕ, ◌≤◌, List, All, length, sum}
use Rattle.driver_batches.specs.declared.sizes.Limits.{Limits}

-- a run within limits: at most so many writes, each of at most so many bytes, and of at most so many bytes together
pub record Fits (limits : Limits) (sizes : List ℕ) : Type 0 where
  pub items : length sizes ≤ limits.items
  pub each : All (λ size. size ≤ limits.each) sizes
  pub bytes : sum sizes ≤ limits.bytes
