-- What a build takes of a found front, or where it stops.
use Rattle.std.proofs.Common.{◌≡◌, ℕ, ◌<◌, ◌≤◌, List, length, length-take, length-take-le, min, take, take-take, take_all, refl, sym, subst, ◌∙◌, arith}
use Rattle.std.specs.Prelude.{None, Some}
use Rattle.driver_batches.specs.declared.sizes.Limits.{Limits}
use Rattle.bulk_fronts.specs.declared.bulk_front.OpFront.{OpFront}
use Rattle.bulk_fronts.specs.declared.own_op.OwnOp.{OwnOp}
use Rattle.bulk_fronts.specs.BulkFronts.{FitsOps, IsOpFront, sized_ops}
use Rattle.bulk_fronts.specs.inside.BulkFronts.{IsFoundFront, IsSpelled, IsTakenFront, StopsAtOp}
use Rattle.bulk_fronts.proofs.BulkFronts.{length_sized}

-- a front that ended at a place
pub found_front : (limits : Limits) (ops : List OwnOp) (i : ℕ) (front : OpFront) → IsOpFront limits ops i → i ≤ length ops → IsSpelled (take i ops) front → IsFoundFront limits ops front
found_front limits ops i front longest within spelled =
    let count : length front.ops ≡ i = spelled.count ∙ length-take-le i ops within in
    record {
      longest = subst (λ n. IsOpFront limits ops n) (sym count) longest;
      within = omega (arith, count, within);
      spelled = subst (λ n. IsSpelled (take n ops) front) (sym count) spelled;
    }

-- a first build takes it, where it is not empty
pub first_front : (limits : Limits) (ops : List OwnOp) (front : OpFront) → IsFoundFront limits ops front → (length front.ops ≡ 0 → ⊥) → IsTakenFront limits ops None front
first_front limits ops front found some =
    let more : 0 < length front.ops = omega (arith, some) in
    record { takes = (found.longest, more); some = more; within = found.within; spelled = found.spelled }

-- and where it is, not even the first op goes out
pub first_none : (limits : Limits) (ops : List OwnOp) (front : OpFront) → IsFoundFront limits ops front → length front.ops ≡ 0 → StopsAtOp limits ops None 0
first_none limits ops front found none = (refl, subst (λ n. IsOpFront limits ops n) none found.longest)

-- there are at most so many sized ops in a front
few_sized : (ops : List OwnOp) (fixed : ℕ) → length (sized_ops (take fixed ops)) ≡ min fixed (length ops)
few_sized ops fixed = length_sized (take fixed ops) ∙ length-take fixed ops

-- a later build takes as many as are fixed, where the whole front goes out
pub again_front : (limits : Limits) (ops part : List OwnOp) (fixed : ℕ) (front : OpFront) → part ≡ take fixed ops → IsFoundFront limits part front → length front.ops ≡ fixed → 0 < fixed
    → IsTakenFront limits ops (Some fixed) front
again_front limits ops part fixed front part_is found whole more =
    let all : IsFoundFront limits (take fixed ops) front = subst (λ own. IsFoundFront limits own front) part_is found in
    let as_many : length (sized_ops (take fixed ops)) ≡ min fixed (length ops) = few_sized ops fixed in
    let within : length front.ops ≤ length (sized_ops (take fixed ops)) = all.longest.within in
    let few : length (sized_ops (take fixed ops)) ≤ length front.ops = omega (arith, as_many, whole) in
    let same : take (length front.ops) (take fixed ops) ≡ take (length front.ops) ops = take-take (length front.ops) fixed ops (omega (arith, whole)) in
    record {
      takes = (whole, subst (λ sizes. FitsOps limits sizes) (take_all (length front.ops) (sized_ops (take fixed ops)) few) all.longest.fits);
      some = omega (arith, whole, more);
      within = omega (arith, within, as_many);
      spelled = subst (λ own. IsSpelled own front) same all.spelled;
    }

-- and where it does not, the first op that does not go out stands in it
pub again_none : (limits : Limits) (ops part : List OwnOp) (fixed : ℕ) (front : OpFront) → part ≡ take fixed ops → IsFoundFront limits part front → (length front.ops ≡ fixed → ⊥)
    → StopsAtOp limits ops (Some fixed) (length front.ops)
again_none limits ops part fixed front part_is found other =
    let all : IsFoundFront limits (take fixed ops) front = subst (λ own. IsFoundFront limits own front) part_is found in
    let as_many : length (sized_ops (take fixed ops)) ≡ min fixed (length ops) = few_sized ops fixed in
    let within : length front.ops ≤ length (sized_ops (take fixed ops)) = all.longest.within in
    (omega (arith, within, as_many, other), all.longest)
