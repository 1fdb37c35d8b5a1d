-- A batch of documents of which each fits alone is refused no build.
use Rattle.std.proofs.Common.{◌≡◌, ℕ, zero, suc, ◌<◌, ◌≤◌, List, [], ◌∷◌, length, take, refl, sym, ap, subst, arith, inl, inr}
use Rattle.std.specs.Prelude.{Option, None, Some, IfSome}
use Rattle.std.proofs.lemmas.List.{length-take-le, take_all}
use Rattle.bson_lite.specs.declared.bson.Bson.{Bson}
use Rattle.bson_lite.specs.declared.document.Pair.{Pair}
use Rattle.bson_lite.specs.Spelling.{spelling}
use Rattle.driver_error.specs.declared.error.Error.{Error}
use Rattle.driver_options.specs.declared.options.Description.{Description}
use Rattle.driver_options.specs.declared.write_options.InsertManyOptions.{InsertManyOptions}
use Rattle.driver_batches.specs.declared.sizes.Limits.{Limits}
use Rattle.driver_batches.specs.Fronts.{IsLongestFront}
use Rattle.driver_batches.specs.Sizes.{Fits}
use Rattle.driver_link.specs.declared.machine.Setup.{Setup}
use Rattle.driver_ops.specs.declared.target.OperationTarget.{OperationTarget}
use Rattle.driver_ops.specs.Operations.{Refuses}
use Rattle.driver_ops.specs.Targets.{namespace_of}
use Rattle.write_ops.specs.declared.own_document.OwnDocument.{OwnDocument}
use Rattle.write_ops.specs.InsertFronts.{IsFrontOf, RefusesFront, insert_limits, sizes_of}
use Rattle.write_ops.specs.InsertSpec.{AreOwn, insert_spec, statements_fixed}
use Rattle.driver_exec.specs.OperationCauses.{TakesFirst}
use Rattle.driver_exec.proofs.FixedNumbers.{MayBeFixed}
use Rattle.driver_exec.proofs.HeldSessions.{IsOf}
use Rattle.many_actions.proofs.BatchSizes.{takes_longest}
use Rattle.many_actions.proofs.BatchWrites.{EachIs}

-- the sizes of a front are the front of the sizes
front_sizes : (count : ℕ) (own : List OwnDocument) → sizes_of (take count own) ≡ take count (sizes_of own)
front_sizes zero own = refl
front_sizes (suc count) [] = refl
front_sizes (suc count) (front ∷ own) = ap (λ sizes. length front.bytes ∷ sizes) (front_sizes count own)

-- documents that begin with one that fits have a front
front_some : (limits : Limits) (front : OwnDocument) (own : List OwnDocument) → Fits limits (length front.bytes ∷ []) → IsFrontOf limits (front ∷ own) 0 → ⊥
front_some limits front own fits longest = longest.longest 1 (omega arith) (omega arith) fits

-- a front that fits is refused no later build
front_fits : (limits : Limits) (index : ℕ) (own : List OwnDocument) (count : ℕ) → IsLongestFront (Fits limits) (sizes_of own) count → (error : Error)
    → RefusesFront limits index own (Some count) error → ⊥
front_fits limits index own count front error refused =
    let sizes : sizes_of (take count own) ≡ take count (sizes_of own) = front_sizes count own in
    let long : length (take count (sizes_of own)) ≡ count = length-take-le count (sizes_of own) front.within in
    let whole : take count (take count (sizes_of own)) ≡ take count (sizes_of own) = take_all count (take count (sizes_of own)) (omega (arith, long)) in
    refused.2.longest count refused.1 (subst (λ s. count ≤ length s) (sym sizes) (omega (arith, long)))
    (subst (λ s. Fits limits (take count s)) (sym sizes) (subst (λ s. Fits limits s) (sym whole) front.fits))

-- documents that begin with one that fits are refused no first build
begun_unrefused : (limits : Limits) (index : ℕ) (front : OwnDocument) (own : List OwnDocument) → Fits limits (length front.bytes ∷ []) → (error : Error)
    → RefusesFront limits index (front ∷ own) (statements_fixed (front ∷ own) None) error → ⊥
begun_unrefused limits index front [] fits error refused =
    front_fits limits index (front ∷ []) 1 (record {
      within = omega arith;
      fits = fits;
      longest = λ longer above within too_long. omega (arith, above, within);
    }) error refused
begun_unrefused limits index front (next ∷ own) fits error refused = front_some limits front (next ∷ own) fits refused.0

module _ (target : OperationTarget) (options : InsertManyOptions) (setup : Setup) where
  -- the limits of the setup's connections
  abbrev pub setup_limits : Limits
  setup_limits = insert_limits (namespace_of target) options setup.description

  -- a document fits alone, whichever index it has
  abbrev pub FitsOne : ℕ → List (Pair Bson) → Type 0
  FitsOne index document = Fits setup_limits (length (spelling document) ∷ [])

  module _ (index : ℕ) (told : Option Setup) (told_is : told ≡ Some setup) (description : Description) (is : IsOf told description) where
    -- the description of a connection is the setup's
    described : description ≡ setup.description
    described = subst (λ t. IsOf t description) told_is is

    -- documents that begin with one that fits are refused no build
    front_unrefused : (front : OwnDocument) (own : List OwnDocument) → Fits setup_limits (length front.bytes ∷ []) → (statements : ℕ) (number : Option ℕ)
        → MayBeFixed (insert_spec target index (front ∷ own) options) (statements_fixed (front ∷ own) None) told statements number
        → (error : Error) → Refuses (insert_spec target index (front ∷ own) options) number description error → ⊥
    front_unrefused front own fits statements number fixed error refuses =
        let refused : RefusesFront setup_limits index (front ∷ own) number error
        = subst (λ d. RefusesFront (insert_limits (namespace_of target) options d) index (front ∷ own) number error) described refuses.refused in
        elim fixed [
          | inl begun ↦ begun_unrefused setup_limits index front own fits error (subst (λ n. RefusesFront setup_limits index (front ∷ own) n error) begun refused)
          | inr sent ↦
              let taken : TakesFirst (insert_spec target index (front ∷ own) options) (statements_fixed (front ∷ own) None) told statements = sent.0 in
              let same : taken.description ≡ setup.description = subst (λ t. IfSome t (λ found. taken.description ≡ found.description)) told_is taken.told in
              let longest : IsLongestFront (Fits setup_limits) (sizes_of (front ∷ own)) statements
              = subst (λ d. IsLongestFront (Fits (insert_limits (namespace_of target) options d)) (sizes_of (front ∷ own)) statements) same
              (takes_longest (insert_limits (namespace_of target) options taken.description) (front ∷ own) statements taken.takes) in
              front_fits setup_limits index (front ∷ own) statements longest error (subst (λ n. RefusesFront setup_limits index (front ∷ own) n error) sent.1 refused)
        ]

    -- so a batch of such documents is refused none
    pub batch_unrefused : (documents : List (List (Pair Bson))) (own : List OwnDocument) → AreOwn documents own → EachIs FitsOne index documents → 0 < length own → (statements : ℕ) (number : Option ℕ)
        → MayBeFixed (insert_spec target index own options) (statements_fixed own None) told statements number
        → (error : Error) → Refuses (insert_spec target index own options) number description error → ⊥
    batch_unrefused [] [] are each left statements number fixed error refuses = absurd (omega (arith, left))
    batch_unrefused [] (front ∷ own) are each left statements number fixed error refuses = absurd are
    batch_unrefused (document ∷ documents) [] are each left statements number fixed error refuses = absurd are
    batch_unrefused (document ∷ documents) (front ∷ own) are each left statements number fixed error refuses =
        let fits : Fits setup_limits (length front.bytes ∷ []) = subst (λ bytes. Fits setup_limits (length bytes ∷ [])) (sym are.0.is) (each 0 document refl) in
        front_unrefused front own fits statements number fixed error refuses
