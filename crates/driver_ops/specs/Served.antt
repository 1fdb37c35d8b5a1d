-- What one exchange made of the statements of its send on a model server, and the entries that stand for its writes.
use Rattle.std.specs.Prelude.{◌≡◌, ℕ, ℤ, false, List, [], ◌∷◌, Option, None, Some}
use Rattle.driver_link.specs.declared.machine.Counted.{Counted}
use Rattle.driver_link.specs.declared.machine.Entry.{Entry}
use Rattle.driver_link.specs.declared.machine.Item.{Item}
use Rattle.driver_link.specs.declared.machine.Item.TheVariants.{Serve}
use Rattle.driver_link.specs.declared.machine.PlacedWrite.{PlacedWrite}
use Rattle.driver_link.specs.declared.machine.Scheduled.{Scheduled}
use Rattle.driver_link.specs.declared.machine.Send.{Send}
use Rattle.driver_link.specs.declared.machine.Server.{Server}
use Rattle.driver_link.specs.declared.machine.Statement.{Statement}
use Rattle.driver_link.specs.Cases.{Case, case_of, known_of, outside, results_of, writes_of}
use Rattle.driver_link.specs.Exchange.{after_picks, plan_of, traced}
use Rattle.driver_link.specs.Replies.{result_of}
use Rattle.driver_link.specs.Serving.{Plan, done_in}
use Rattle.driver_link.specs.Statements.{entry_of, has_failed}

-- the statements of a send that is served by a plan, in its case: outside transactions alone
abbrev pub case_statements : Case → Plan → Server → Send → Option (List Statement)
case_statements outside plan server send = Some (done_in outside plan (results_of (known_of server send)) send.body)
case_statements other plan server send = None

-- the statements of a send that meets an item: there are some where it is served
abbrev pub met_statements : Server → Send → Item → Option (List Statement)
met_statements server send (Serve results fail concern page) = case_statements (case_of server send) (plan_of results fail concern page) server send
met_statements server send other = None

-- the statements of the send of one exchange, where it was served outside transactions and answered
unfoldable pub statements_in : Server → Send → Scheduled → Option (List Statement)
statements_in server send step = met_statements (traced (after_picks server step.deliver) send) send step.item

-- the entry of a write by what its statement counts, before others; one that failed counts nothing and has none
abbrev pub entry_counted : Option (List ℕ) → Option ℤ → PlacedWrite → Option Counted → List Entry → List Entry
entry_counted session number write (Some result) rest = entry_of session number write result ∷ rest
entry_counted session number write None rest = rest

-- the entries of the writes whose statements ran now or had their kept results, in order
abbrev pub entries_counted : Option (List ℕ) → Option ℤ → List PlacedWrite → List Statement → List Entry
entries_counted session number [] done = []
entries_counted session number (write ∷ writes) [] = []
entries_counted session number (write ∷ writes) (statement ∷ done) =
    entry_counted session number write (result_of statement) (entries_counted session number writes done)

-- in one exchange each statement of a send ran now or had its kept result, and these are the entries of its writes
pub record RanOrKept (server : Server) (send : Send) (step : Scheduled) (entries : List Entry) : Type 0 where
  pub done : List Statement
  pub told : statements_in server send step ≡ Some done
  pub unfailed : has_failed done ≡ false
  pub entries_are : entries ≡ entries_counted send.session send.number (writes_of send) done

-- one entry for each write, in order, under a session and a number
abbrev pub AreEntries : Option (List ℕ) → Option ℤ → List PlacedWrite → List Entry → Type 0
AreEntries session number [] [] = Unit {0}
AreEntries session number (write ∷ writes) (entry ∷ entries) = (entry ≡ entry_of session number write entry.result) × AreEntries session number writes entries
AreEntries session number writes entries = ⊥
