-- A list of writes that is cut into batches. Fits says which runs may go out together.
use Rattle.std.specs.Prelude.{◌≡◌, ◌≢◌, ◌≤◌, List, [], ◌∷◌, ◌++◌, length}
use Rattle.std.specs.List.{AllByRecursion, flat_map}
use Rattle.driver_batches.specs.Fronts.{IsLongestFront}

-- the runs one after another are the list, and each fits
pub record IsPartition {W : Type 0} (Fits : List W → Type 0) (list : List W) (runs : List (List W)) : Type 0 where
  pub whole : flat_map (λ run. run) runs ≡ list
  pub each : AllByRecursion Fits runs

-- the batch is the longest front of the list that fits, it is not empty, and this is the rest
pub record CutsFront {W : Type 0} (Fits : List W → Type 0) (list batch rest : List W) : Type 0 where
  pub whole : list ≡ batch ++ rest
  pub some : batch ≢ []
  pub longest : IsLongestFront Fits list (length batch)

-- each batch is cut as the longest front of what the batches before it left, until nothing is left
abbrev pub IsGreedyCut : {W : Type 0} → (List W → Type 0) → List W → List (List W) → Type 0
IsGreedyCut Fits list [] = list ≡ []
IsGreedyCut {W} Fits list (batch ∷ batches) = (rest : List W) × CutsFront Fits list batch rest × IsGreedyCut Fits rest batches

-- the batches are a partition, and no partition has fewer runs
pub record IsFewest {W : Type 0} (Fits : List W → Type 0) (list : List W) (batches : List (List W)) : Type 0 where
  pub partition : IsPartition Fits list batches
  pub fewest : (runs : List (List W)) → IsPartition Fits list runs → length batches ≤ length runs

-- cutting longest fronts one after another gives a partition, and no partition has fewer runs
abbrev pub LongestFrontsAreFewest : {W : Type 0} → (List W → Type 0) → Type 0
LongestFrontsAreFewest {W} Fits = (list : List W) (batches : List (List W)) → IsGreedyCut Fits list batches → IsFewest Fits list batches
