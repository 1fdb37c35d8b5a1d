-- A call that makes batches of its writes, one after another, each as an operation over the writes that are left: what each
-- batch is, and after which end the next is begun.
use Rattle.std.specs.Prelude.{◌≡◌, ℕ, zero, suc, ◌+◌, ◌<◌, ◌≤◌, Bool, true, false, List, [], ◌∷◌, drop, length, Option, Some, Result, Ok, ◌⊎◌}
use Rattle.driver_error.specs.declared.error.Error.{Error}
use Rattle.driver_link.specs.declared.machine.Place.{Place}
use Rattle.driver_ops.specs.Operations.{Batch, IsFixed, OperationSpec, batch_of}
use Rattle.driver_ops.specs.SendKinds.{first}
use Rattle.driver_attempt.specs.Causes.{end_of}
use Rattle.driver_attempt.specs.Executing.{Executes}
use Rattle.driver_attempt.specs.Moment.{Moment}
use Rattle.driver_exec.specs.OperationCauses.{Caused}
use Rattle.driver_exec.specs.Resending.{SendsOneCommand}

-- how a call makes batches of its writes: what the operation tells that makes a batch of the writes that are left from an index on,
-- how many statements are fixed before it is built, and after which end the next batch is begun
pub record BatchPlan (W A : Type 0) : Type 1 where
  pub spec : ℕ → List W → OperationSpec A
  pub fixed : List W → Option ℕ
  pub goes_on : Result A Error → Bool

-- how a batch ended: the index of its first write in the caller's list, how many writes its command has, where that was fixed, and
-- what its operation came to
pub record PlannedEnd (A : Type 0) : Type 0 where
  pub first : ℕ
  pub statements : Option ℕ
  pub result : Result A Error

-- so many of these writes are in a command: one at least
pub record IsCount {W : Type 0} (own : List W) (statements : Option ℕ) (count : ℕ) : Type 0 where
  pub told : statements ≡ Some count
  pub some : 0 < count
  pub within : count ≤ length own

-- the places of so many writes of a call, from an index on
abbrev pub places_from : ℕ → ℕ → ℕ → List Place
places_from call index zero = []
places_from call index (suc count) = record { call = call; index = index } ∷ places_from call (index + 1) count

-- the remaining writes of a call, with so many of them in the command
abbrev pub rest_of : {W : Type 0} → ℕ → ℕ → List W → ℕ → Batch
rest_of call index own statements = batch_of (places_from call index (length own)) statements

-- the operation over the writes that remain of a caller's list, of which there are some, was executed, with two sends of one command
-- at most, and ended with its cause: of the first build that is Ok depends how many of them are in it
pub record MakesPlanned {W A : Type 0} (plan : BatchPlan W A) (call index : ℕ) (own : List W) (before now : Moment) (end : PlannedEnd A) : Type 0 where
  pub begins : end.first ≡ index
  pub left : 0 < length own
  pub count : ℕ
  pub twice : count ≤ 2
  pub executes : (statements : ℕ) → IsFixed end.statements statements
      → Executes (plan.spec index own) (rest_of call index own statements) first before now 0 count (plan.fixed own) end.statements end.result
  pub one_command : (statements : ℕ) → IsFixed end.statements statements → SendsOneCommand (plan.spec index own) (rest_of call index own statements) before now end.result
  pub caused : Caused (plan.spec index own) first (plan.fixed own) before now (end_of end.result)

-- the rest of a call was done, where a batch's end lets it go on: the batch told how many writes it has, and what remains behind them is so
pub record GoesOnBehind {W A : Type 0} (goes_on : Result A Error → Bool) (Rest : ℕ → List W → Type 0) (index : ℕ) (own : List W) (end : PlannedEnd A) : Type 0 where
  pub on : goes_on end.result ≡ true
  pub statements : ℕ
  pub told : end.statements ≡ Some statements
  pub rest : Rest (index + statements) (drop statements own)

-- no further batch was begun
pub record EndsBehind {A : Type 0} (goes_on : Result A Error → Bool) (ends : List (PlannedEnd A)) (mid now : Moment) (end : PlannedEnd A) : Type 0 where
  pub over : goes_on end.result ≡ false
  pub none : ends ≡ []
  pub same : now ≡ mid

-- batches one after another, each begun at the first write that is left and on what the one before left, as long as there are
-- writes and the batch before lets it go on; where the call ended short, for want of memory say, none may be made although some are left
abbrev pub MakesAllPlanned : {W A : Type 0} → Type 0 → BatchPlan W A → ℕ → ℕ → List W → List (PlannedEnd A) → Moment → Moment → Type 0
MakesAllPlanned short plan call index own [] before now = (now ≡ before) × ((own ≡ []) ⊎ short)
MakesAllPlanned short plan call index own (end ∷ ends) before now =
    (mid : Moment) × (MakesPlanned plan call index own before mid end
    × (GoesOnBehind plan.goes_on (λ later left. MakesAllPlanned short plan call later left ends mid now) index own end
    ⊎ EndsBehind plan.goes_on ends mid now end))

-- each end is Ok
abbrev pub AllDone : {A : Type 0} → List (PlannedEnd A) → Type 0
AllDone [] = Unit {0}
AllDone {A} (end ∷ ends) = ((output : A) × (end.result ≡ Ok output)) × AllDone ends
