-- What is left of a run still fits when writes go from its front.
use Rattle.std.proofs.Common.{◌≤◌, arith, inr}
use Rattle.std.proofs.lemmas.List.Elements.{All-tail}
use Rattle.std.proofs.lemmas.List.Sums.{sum_by-cons}
use Rattle.driver_batches.specs.Fronts.{KeepsFitting}
use Rattle.driver_batches.specs.Sizes.{Fits}
use Rattle.driver_batches.specs.declared.sizes.Limits.{Limits}

-- a write less is no write more, and no byte more
pub sizes_keep : (limits : Limits) → KeepsFitting (Fits limits)
sizes_keep limits write rest fits = inr (record {
  items = omega (arith, fits.items);
  each = All-tail (λ size. size ≤ limits.each) write rest fits.each;
  bytes = omega (arith, fits.bytes, sum_by-cons (λ x. x) write rest);
})
