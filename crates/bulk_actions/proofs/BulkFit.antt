-- A batch of models of which each fits alone, and whose namespaces have numbers, is refused no build.
use Rattle.std.proofs.Common.{◌≡◌, ℕ, zero, suc, ◌<◌, ◌≤◌, List, [], ◌∷◌, drop, length, take, refl, sym, subst, ap, arith, inl, inr}
use Rattle.std.specs.Prelude.{true, Option, None, Some, IfSome}
use Rattle.std.proofs.lemmas.List.{length-take-le, take_all}
use Rattle.driver_error.specs.declared.error.Error.{Error}
use Rattle.bulk_outcomes.specs.BulkResults.{ResultSpec}
use Rattle.driver_options.specs.declared.models.WriteModel.{WriteModel}
use Rattle.driver_options.specs.declared.options.Description.{Description}
use Rattle.driver_options.specs.declared.write_options.BulkWriteOptions.{BulkWriteOptions}
use Rattle.driver_batches.specs.declared.sizes.Limits.{Limits}
use Rattle.driver_batches.specs.Fronts.{IsLongestFront}
use Rattle.driver_link.specs.declared.machine.Setup.{Setup}
use Rattle.driver_ops.specs.Operations.{OperationSpec, Refuses}
use Rattle.bulk_fronts.specs.declared.own_op.OwnOp.{OwnOp}
use Rattle.bulk_fronts.specs.declared.own_op.SizedOp.{SizedOp}
use Rattle.bulk_fronts.specs.BulkFronts.{AreNumbered, FitsOps, IsOpFront, RefusesBulk, RefusesFor, RefusesOps, bulk_limits, sized_namespaces, sized_ops}
use Rattle.bulk_ops.specs.BulkSpec.{admin_target, bulk_spec, is_verbose}
use Rattle.bulk_ops.specs.lawful.ToldResults.{drop_head}
use Rattle.bulk_fronts.proofs.BulkFronts.{length_sized, same_namespaces}
use Rattle.driver_exec.specs.OperationCauses.{TakesFirst}
use Rattle.driver_exec.proofs.FixedNumbers.{MayBeFixed}
use Rattle.driver_exec.proofs.HeldSessions.{IsOf}
use Rattle.bulk_actions.specs.BulkCompleteness.{HaveFewNamespaces, TakesModels}
use Rattle.bulk_actions.specs.BulkNumbers.{sized_with_ids}

-- the sizes of a front are the front of the sizes
front_sizes : (count : ℕ) (own : List OwnOp) → sized_ops (take count own) ≡ take count (sized_ops own)
front_sizes zero own = refl
front_sizes (suc count) [] = refl
front_sizes (suc count) (op ∷ own) = ap (λ rest. record { namespace = op.namespace; size = length op.bytes } ∷ rest) (front_sizes count own)

-- a front that fits is refused no later build
later_fits : (limits : Limits) (own : List OwnOp) (count at : ℕ) → IsOpFront limits own count → at < count → IsOpFront limits (take count own) at → ⊥
later_fits limits own count at front less longest =
    let sizes = front_sizes count own in
    let long : length (take count (sized_ops own)) ≡ count = length-take-le count (sized_ops own) front.within in
    let all : take count (take count (sized_ops own)) ≡ take count (sized_ops own) = take_all count (take count (sized_ops own)) (omega (arith, long)) in
    longest.longest count less (subst (λ s. count ≤ length s) (sym sizes) (omega (arith, long)))
    (subst (λ s. FitsOps limits (take count s)) (sym sizes) (subst (λ s. FitsOps limits s) (sym all) front.fits))

module _ {R : Type 0} (tells : ResultSpec R) (options : BulkWriteOptions) (models : List WriteModel) (setup : Setup) (takes : TakesModels setup.description options (is_verbose tells) models) (few : HaveFewNamespaces models)
    (index : ℕ) (own : List OwnOp) (sizes : sized_ops own ≡ drop index (sized_with_ids models)) (some : 0 < length own) where
  abbrev limits : Limits
  limits = bulk_limits options (is_verbose tells) setup.description

  abbrev spec : OperationSpec R
  spec = bulk_spec tells admin_target index own options

  -- the namespaces of each front have numbers
  all_numbered : (statements : ℕ) → AreNumbered (take statements own)
  all_numbered statements =
      subst (λ texts. length texts ≤ 2147483648) (same_namespaces own statements)
      (subst (λ ops. length (sized_namespaces (take statements ops)) ≤ 2147483648) (sym sizes) (few index statements))

  -- the first op goes out
  first_goes : (ops : List SizedOp) → ops ≡ drop index (sized_with_ids models) → 0 < length ops → IsLongestFront (FitsOps limits) ops 0 → ⊥
  first_goes [] is there front = omega (arith, there)
  first_goes (op ∷ ops) is there front = front.longest 1 (omega arith) (omega arith) (takes.alone index op (drop_head index (sized_with_ids models) op ops (sym is)))

  none_first : IsOpFront limits own 0 → ⊥
  none_first front = first_goes (sized_ops own) sizes (subst (λ n. 0 < n) (sym (length_sized own)) some) front

  -- so no size is refused
  sizes_none : (told : Option Setup) → told ≡ Some setup → (statements : ℕ) (number : Option ℕ) → MayBeFixed spec None told statements number → (error : Error) → RefusesOps limits index own number error → ⊥
  sizes_none told told_is statements number fixed error refused = elim fixed [
    | inl begun ↦ none_first (subst (λ n. RefusesOps limits index own n error) begun refused).0
    | inr sent ↦
        let taken : TakesFirst spec None told statements = sent.0 in
        let same : taken.description ≡ setup.description = subst (λ t. IfSome t (λ found. taken.description ≡ found.description)) told_is taken.told in
        let front : IsOpFront limits own statements = subst (λ (d : Description). IsOpFront (bulk_limits options (is_verbose tells) d) own statements) same taken.takes.front.0 in
        let late = subst (λ n. RefusesOps limits index own n error) sent.1 refused in
        later_fits limits own statements late.0 front late.1 late.2
  ]

  pub bulk_unrefused : (told : Option Setup) → told ≡ Some setup → (description : Description) → IsOf told description → (statements : ℕ) (number : Option ℕ) → MayBeFixed spec None told statements number
      → (error : Error) → Refuses spec number description error → ⊥
  bulk_unrefused told told_is description is statements number fixed error refuses =
      let same : description ≡ setup.description = subst (λ t. IsOf t description) told_is is in
      let refused : RefusesFor true limits index own number error
      = subst (λ b. RefusesFor b limits index own number error) takes.serves (subst (λ d. RefusesBulk options (is_verbose tells) index own number d error) same refuses.refused) in
      elim refused [
        | inl by_size ↦ sizes_none told told_is statements number fixed error by_size
        | inr numbers ↦ numbers.past (all_numbered numbers.statements)
      ]
