-- Why cutting longest fronts gives the fewest batches.
use Rattle.std.proofs.Common.{◌≡◌, ◌+◌, ◌<◌, ◌≤◌, ◌⊎◌, List, [], ◌∷◌, ◌++◌, length, take, suc, arith, refl, sym, ap, subst, ◌∙◌, inl, inr, ⊎_elim}
use Rattle.std.proofs.lemmas.List.{length-append, take_at}
use Rattle.std.specs.List.{AllByRecursion, flat_map}
use Rattle.driver_batches.specs.Batches.{IsGreedyCut, LongestFrontsAreFewest}
use Rattle.driver_batches.specs.Fronts.{IsLongestFront, KeepsFitting}

-- one list in two cuts: the first front is the second and more
abbrev FirstGoesOn : {W : Type 0} → List W → List W → List W → List W → Type 0
FirstGoesOn {W} a b c d = (more : List W) × (a ≡ c ++ more) × (d ≡ more ++ b)

-- the second front is the first and at least one write more
abbrev SecondGoesOn : {W : Type 0} → List W → List W → List W → List W → Type 0
SecondGoesOn {W} a b c d = (write : W) × (more : List W) × (c ≡ a ++ write ∷ more) × (b ≡ write ∷ (more ++ d))

-- of two cuts of one list, one of the fronts goes on where the other ends
cuts : {W : Type 0} (a b c d : List W) → a ++ b ≡ c ++ d → FirstGoesOn a b c d ⊎ SecondGoesOn a b c d
cuts a b [] d e = inl (a, refl, sym e)
cuts [] b (y ∷ c) d e = inr (y, c, refl, e)
cuts (x ∷ a) b (y ∷ c) d e = next x a b y c d (cc) (cuts a b c d (cc))
  where
    next : {W : Type 0} (x : W) (a b : List W) (y : W) (c d : List W) → x ≡ y → FirstGoesOn a b c d ⊎ SecondGoesOn a b c d → FirstGoesOn (x ∷ a) b (y ∷ c) d ⊎ SecondGoesOn (x ∷ a) b (y ∷ c) d
    next x a b y c d same (inl w) = inl (w.0, (cc), w.2)
    next x a b y c d same (inr w) = inr (w.0, w.1, (cc), w.3)

-- a list with a write in it is not empty
no_end : {W : Type 0} (front : List W) (write : W) (rest : List W) → front ++ write ∷ rest ≡ [] → ⊥
no_end [] write rest e = cc
no_end (x ∷ front) write rest e = cc

-- a front of nothing is nothing
front_of_nothing : {W : Type 0} (behind list run rest : List W) → [] ≡ behind ++ list → list ≡ run ++ rest → run ≡ []
front_of_nothing [] list [] rest e f = refl
front_of_nothing [] list (x ∷ run) rest e f = cc
front_of_nothing (x ∷ behind) list run rest e f = cc

module _ {W : Type 0} (Fits : List W → Type 0) where
  -- of a run that is empty or fits, one that is not empty fits
  not_empty : (run : List W) → (run ≡ [] → ⊥) → (run ≡ []) ⊎ Fits run → Fits run
  not_empty run some (inl e) = absurd (some e)
  not_empty run some (inr fits) = fits

  -- an end of a run that fits does too, where it is not empty
  end_fits : KeepsFitting Fits → (front : List W) (write : W) (rest : List W) → Fits (front ++ write ∷ rest) → Fits (write ∷ rest)
  end_fits keeps [] write rest fits = fits
  end_fits keeps (first ∷ front) write rest fits =
      end_fits keeps front write rest (not_empty (front ++ write ∷ rest) (no_end front write rest) (keeps first (front ++ write ∷ rest) fits))

  -- what fits at the front of the list is no longer than the longest front
  longest_of : (list batch front rest : List W) → IsLongestFront Fits list (length batch) → list ≡ front ++ rest → Fits front → length front ≤ length batch
  longest_of list batch front rest longest e fits =
      let front_is : take (length front) list ≡ front = ap (take (length front)) e ∙ take_at front rest (length front) refl in
      let whole : length list ≡ length front + length rest = ap length e ∙ length-append front rest in
      let none : length batch < length front → ⊥ = λ longer. longest.longest (length front) longer (omega arith) (subst Fits (sym front_is) fits) in
      omega arith

  -- the batches stay ahead of a partition, which has still to cut some writes, behind, that the batches have cut
  StayAhead : List (List W) → Type 0
  StayAhead runs = (batches : List (List W)) (behind list : List W) → IsGreedyCut Fits list batches →
      flat_map (λ run. run) runs ≡ behind ++ list → length batches ≤ length runs

  -- after a run of the partition that ends within what the batches have cut nothing has changed; after one that ends beyond it, the next batch ends no earlier
  one_run : KeepsFitting Fits → (other : List W) (runs : List (List W)) → Fits other → StayAhead runs → StayAhead (other ∷ runs)
  unfolding StayAhead
  one_run keeps other runs fits ahead [] behind list cut e = omega arith
  one_run keeps other runs fits ahead (batch ∷ batches) behind list cut e =
      ⊎_elim within beyond (cuts behind list other (flat_map (λ run. run) runs) (sym e))
    where
      within : FirstGoesOn behind list other (flat_map (λ run. run) runs) → suc (length batches) ≤ suc (length runs)
      within w = let fewer : suc (length batches) ≤ length runs = ahead (batch ∷ batches) w.0 list cut w.2 in omega arith

      beyond : SecondGoesOn behind list other (flat_map (λ run. run) runs) → suc (length batches) ≤ suc (length runs)
      beyond w =
          let tail_fits : Fits (w.0 ∷ w.1) = end_fits keeps behind w.0 w.1 (subst Fits w.2 fits) in
          let no_longer : suc (length w.1) ≤ length batch = longest_of list batch (w.0 ∷ w.1) (flat_map (λ run. run) runs) cut.1.longest w.3 tail_fits in
          ⊎_elim
          (λ (v : FirstGoesOn batch cut.0 (w.0 ∷ w.1) (flat_map (λ run. run) runs)). let fewer : length batches ≤ length runs = ahead batches v.0 cut.0 cut.2 v.2 in omega arith)
          (λ (v : SecondGoesOn batch cut.0 (w.0 ∷ w.1) (flat_map (λ run. run) runs)). absurd (omega (arith, ap length v.2, length-append batch (v.0 ∷ v.1))))
          (cuts batch cut.0 (w.0 ∷ w.1) (flat_map (λ run. run) runs) (sym cut.1.whole ∙ w.3))

  -- so they stay ahead of all its runs
  stay_ahead : KeepsFitting Fits → (runs : List (List W)) → AllByRecursion Fits runs → StayAhead runs
  unfolding StayAhead
  stay_ahead keeps [] each [] behind list cut e = omega arith
  stay_ahead keeps [] each (batch ∷ batches) behind list cut e = absurd (cut.1.some (front_of_nothing behind list batch cut.0 e cut.1.whole))
  stay_ahead keeps (other ∷ runs) each batches behind list cut e = one_run keeps other runs each.0 (stay_ahead keeps runs each.1) batches behind list cut e

  -- the batches one after another are the list
  batches_whole : (batches : List (List W)) (list : List W) → IsGreedyCut Fits list batches → flat_map (λ run. run) batches ≡ list
  batches_whole [] list cut = sym cut
  batches_whole (batch ∷ batches) list cut = ap (λ rest. batch ++ rest) (batches_whole batches cut.0 cut.2) ∙ sym cut.1.whole

  -- a batch that is the longest front fits
  batch_fits : (list batch rest : List W) → list ≡ batch ++ rest → IsLongestFront Fits list (length batch) → Fits batch
  batch_fits list batch rest e longest = subst Fits (ap (take (length batch)) e ∙ take_at batch rest (length batch) refl) longest.fits

  -- each batch fits
  batches_fit : (batches : List (List W)) (list : List W) → IsGreedyCut Fits list batches → AllByRecursion Fits batches
  batches_fit [] list cut = tt
  batches_fit (batch ∷ batches) list cut = (batch_fits list batch cut.0 cut.1.whole cut.1.longest, batches_fit batches cut.0 cut.2)

  -- the law for any rule that keeps fitting
  pub greedy_law : KeepsFitting Fits → LongestFrontsAreFewest Fits
  unfolding StayAhead
  greedy_law keeps list batches cut = record {
    partition = record { whole = batches_whole batches list cut; each = batches_fit batches list cut };
    fewest = λ runs partition. stay_ahead keeps runs partition.each batches [] list cut partition.whole;
  }
