-- A batch of a plan was made where its operation was executed.
use Rattle.std.proofs.Common.{ℕ, ◌+◌, ◌<◌, ◌≤◌, List, length, refl, arith}
use Rattle.std.specs.Prelude.{Option, Result}
use Rattle.driver_error.specs.declared.error.Error.{Error}
use Rattle.driver_ops.specs.Operations.{IsFixed}
use Rattle.driver_ops.specs.SendKinds as send
use Rattle.driver_attempt.specs.Causes.{end_of}
use Rattle.driver_attempt.specs.Executing.{Executes}
use Rattle.driver_attempt.specs.Moment.{Moment}
use Rattle.driver_attempt.proofs.CommandParts.{fixed_some}
use Rattle.driver_exec.specs.OperationCauses.{Caused}
use Rattle.driver_exec.specs.Resending.{SendsOneCommand}
use Rattle.driver_exec.proofs.WholeOperation.{executes_few}
use Rattle.many_actions.specs.BatchPlans.{BatchPlan, MakesPlanned, rest_of}

-- two sends more than none are two
two_at_most : (count : ℕ) → count ≤ 0 + 2 → count ≤ 2
two_at_most count within = omega (arith, within)

module _ {W A : Type 0} (plan : BatchPlan W A) (call index : ℕ) (own : List W) (before now : Moment) (sends : ℕ) (fixed_now : Option ℕ) (came : Result A Error)
    (executes : (statements : ℕ) → IsFixed fixed_now statements → Executes (plan.spec index own) (rest_of call index own statements) send.first before now 0 sends (plan.fixed own) fixed_now came) where
  -- two sends at most
  made_few : sends ≤ 2
  made_few =
      let some = fixed_some fixed_now in
      two_at_most sends (executes_few (plan.spec index own) (rest_of call index own some.0) send.first before now 0 sends (plan.fixed own) fixed_now came (executes some.0 some.1))

  -- with one command, and a cause
  pub planned_made : 0 < length own
      → ((statements : ℕ) → IsFixed fixed_now statements → SendsOneCommand (plan.spec index own) (rest_of call index own statements) before now came)
      → Caused (plan.spec index own) send.first (plan.fixed own) before now (end_of came)
      → MakesPlanned plan call index own before now (record { first = index; statements = fixed_now; result = came })
  planned_made left one_command caused = record {
    begins = refl;
    left = left;
    count = sends;
    twice = made_few;
    executes = executes;
    one_command = one_command;
    caused = caused;
  }
