-- What a step of a session has to do.
use Rattle.std.specs.Prelude.{◌≡◌, List, ◌++◌}
use Rattle.driver_link.specs.Gathered.{entries_in}
use Rattle.driver_link.specs.Serving.{log_gains}
use Rattle.driver_link.specs.declared.machine.Entry.{Entry}
use Rattle.driver_link.specs.declared.machine.KnownSession.{KnownSession}
use Rattle.driver_link.specs.declared.machine.Statement.{Statement}
use Rattle.model_effects.specs.Changes.{stepped, logged_by}
use Rattle.model_effects.specs.Parts.{Makes}
use Rattle.model_effects.specs.Seen.{seen}
use Rattle.model_effects.specs.declared.cases.Case.{Case}
use Rattle.model_effects.specs.declared.change.SessionStep.{SessionStep}

-- a step does to a session what a case makes of it, and to the log what the case adds, by what its statements
-- came to and the entries of those that ran
pub record Does (makes : Makes) (step : SessionStep) (case : Case) (done : List Statement) (ran : List Entry) (known : KnownSession) : Type 0 where
  pub session : stepped step known ≡ makes (seen case (entries_in known.transaction)) done ran known
  pub log : (log : List Entry) → logged_by step known log ≡ log ++ log_gains (seen case (entries_in known.transaction)) ran
