-- The front of ops that is found while it is spelled: one op more joins it, or it ends before that op, or behind the last.
use Rattle.std.proofs.Common.{◌≡◌, ℕ, ◌+◌, ◌<◌, ◌≤◌, List, get_or, length, take, sym, ap, subst, ◌∙◌, arith}
use Rattle.std.specs.Prelude.{Option}
use Rattle.driver_batches.specs.declared.sizes.Limits.{Limits}
use Rattle.bulk_fronts.specs.declared.bulk_front.OpFront.{OpFront}
use Rattle.bulk_fronts.specs.declared.own_op.OwnOp.{OwnOp}
use Rattle.bulk_fronts.specs.BulkFronts.{FitsOps, bytes_of, sized_ops}
use Rattle.bulk_fronts.specs.BulkWrites.{op_namespaces}
use Rattle.bulk_fronts.specs.Distinct.{number_in}
use Rattle.bulk_fronts.specs.inside.BulkFronts.{FindsNumbers, IsFoundFront, IsSpelled, NumbersOp, PushesOp, added_bytes}
use Rattle.bulk_fronts.proofs.BulkFronts.{fits_more, longest_all, longest_here, same_namespaces}
use Rattle.bulk_fronts.proofs.BulkSpelled.{joins}
use Rattle.bulk_fronts.proofs.TakenFronts.{found_front}

-- what is known of the first so many ops: they go out together, with these bytes, they are spelled, and their namespaces are found
pub record IsFoundSoFar (limits : Limits) (ops : List OwnOp) (i total : ℕ) (front : OpFront) (found : List ℕ → Option ℕ) : Type 0 where
  pub fits : FitsOps limits (take i (sized_ops ops))
  pub summed : total ≡ bytes_of (take i (sized_ops ops))
  pub spelled : IsSpelled (take i ops) front
  pub finds : FindsNumbers found (op_namespaces (take i ops))

module _ (limits : Limits) (ops : List OwnOp) (i total added : ℕ) (own : OwnOp) (text : List ℕ) (number : Option ℕ) (front : OpFront) (found : List ℕ → Option ℕ)
    (within : i < length ops) (read : own ≡ get_or ops i own) (text_is : text ≡ own.namespace) (number_is : number ≡ found text) (adds : added ≡ added_bytes number own)
    (so_far : IsFoundSoFar limits ops i total front found) where
  -- the number that was found is that of the op's namespace
  number_known : number ≡ number_in (op_namespaces (take i ops)) own.namespace
  number_known = number_is ∙ so_far.finds text ∙ ap (λ (name : List ℕ). number_in (op_namespaces (take i ops)) name) text_is

  -- the front ends here where the op does not go out with it
  pub ends_here : (i < limits.items → 0 < limits.each → total + added ≤ limits.bytes → ⊥) → IsFoundFront limits ops front
  ends_here none =
      found_front limits ops i front
      (longest_here limits ops i total own number within read
      (subst (λ (texts : List (List ℕ)). number ≡ number_in texts own.namespace) (sym (same_namespaces ops i)) number_known)
      so_far.fits so_far.summed
      (λ room some few. none room some (subst (λ (more : ℕ). total + more ≤ limits.bytes) (sym adds) few)))
      (omega (arith, within)) so_far.spelled

  -- else it goes on with the op
  pub goes_on : (sum given : ℕ) (mid new : OpFront) (found_now : List ℕ → Option ℕ) → sum ≡ total + added → (i < limits.items) × (0 < limits.each) × (sum ≤ limits.bytes)
      → NumbersOp number own front mid found found_now given → PushesOp own given mid new → IsFoundSoFar limits ops (i + 1) sum new found_now
  goes_on sum given mid new found_now summed room numbers pushes =
      let more = fits_more limits ops i total sum own number within read
      (subst (λ (texts : List (List ℕ)). number ≡ number_in texts own.namespace) (sym (same_namespaces ops i)) number_known)
      so_far.fits so_far.summed (summed ∙ ap (λ (n : ℕ). total + n) adds) room.0 room.1 room.2 in
      let one = joins ops i own within read front mid new found found_now given so_far.spelled so_far.finds pushes number number_known numbers in
      record { fits = more.0; summed = more.1; spelled = one.spelled; finds = one.finds }

-- it has all ops where each goes out
pub ends_behind : (limits : Limits) (ops : List OwnOp) (i total : ℕ) (front : OpFront) (found : List ℕ → Option ℕ) → length ops ≤ i → i ≤ length ops → IsFoundSoFar limits ops i total front found
    → IsFoundFront limits ops front
ends_behind limits ops i total front found past within so_far = found_front limits ops i front (longest_all limits ops i past within so_far.fits) within so_far.spelled
