-- What a send in its case makes of sessions and log, for serving and for interrupting alike.
use Rattle.std.specs.Prelude.{ℕ, ℤ, List, ◌++◌, Option}
use Rattle.driver_link.specs.Cases.{Case, known_as, writes_of}
use Rattle.driver_link.specs.Gathered.{gathered_by}
use Rattle.driver_link.specs.Serving.{log_gains, sessions_as}
use Rattle.driver_link.specs.Statements.{entries_of}
use Rattle.driver_link.specs.declared.machine.Entry.{Entry}
use Rattle.driver_link.specs.declared.machine.KnownSession.{KnownSession}
use Rattle.driver_link.specs.declared.machine.Send.{Send}
use Rattle.driver_link.specs.declared.machine.Server.{Server}
use Rattle.driver_link.specs.declared.machine.Statement.{Statement}
use Rattle.model_effects.specs.Seen.{seen}
use Rattle.model_effects.specs.declared.cases.Case.{Case as Met}

-- what a case makes of a session, by what its statements came to and the entries of those that ran
abbrev pub Makes : Type 0
Makes = Case → List Statement → List Entry → KnownSession → KnownSession

-- sessions and log once a send under a session and a number was taken in its case
unfoldable pub parts_as : Makes → Option (List ℕ) → Option ℤ → Met → List Statement → List Entry → Server → Send → Server
parts_as makes session number case done ran server send =
    let whole = seen case (gathered_by (known_as session number server send)) in
    record server {
      sessions = sessions_as session number whole (makes whole done ran) server send;
      log = server.log ++ log_gains whole ran;
    }

-- the entries of those of a send's statements that ran
abbrev pub ran_of : Send → List Statement → List Entry
ran_of send done = entries_of send.session send.number (writes_of send) done

-- sessions and log once a send was taken in its case
abbrev pub parts_of : Makes → Met → List Statement → Server → Send → Server
parts_of makes case done server send = parts_as makes send.session send.number case done (ran_of send done) server send
