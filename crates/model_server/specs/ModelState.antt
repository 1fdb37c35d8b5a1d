-- What contracts see of the model server.
use Rattle.std.specs.Prelude.{◌≡◌, ℕ, List, [], ◌∷◌, ◌++◌, Option, None, Some, Result, Ok, Err}
use Rattle.driver_options.specs.declared.options.Address.{Address}
use Rattle.driver_options.specs.declared.options.SelectionCriteria.{SelectionCriteria}
use Rattle.driver_options.specs.declared.options.SelectionCriteria.TheVariants as criteria
use Rattle.link_faults.specs.declared.fault.Answered.{Answered}
use Rattle.link_faults.specs.declared.fault.Answered.TheVariants as answer
use Rattle.link_faults.specs.declared.fault.LinkCall.{LinkCall}
use Rattle.link_faults.specs.declared.fault.LinkError.{LinkError}
use Rattle.link_faults.specs.declared.fault.LinkError.TheVariants.{Fault, Memory}
use Rattle.driver_link.specs.declared.machine.Schedule.{Schedule}
use Rattle.driver_link.specs.declared.machine.Send.{Send}
use Rattle.driver_link.specs.declared.machine.Server.{Server}
use Rattle.driver_link.specs.declared.machine.Setup.{Setup}
use Rattle.driver_link.specs.Counting.{Listed, one_more}
use Rattle.driver_link.specs.Exchange.{answered, exchanged, next_step}
use Rattle.driver_link.specs.LinkState.{LinkState, Served}
use Rattle.driver_link.specs.ServerRun.{CallCounts, ServerRun}
use Rattle.model_server.specs.Meets.{IsSpelled, note_of}
use Rattle.model_server.specs.declared.server.TheConstants.{HOST, PORT}

-- the server, what it was made with, how many calls it has had beside exchanges, what it answered, and how
-- many of its answers were faults
pub record ModelState : Type 0 where
  pub server : Server
  pub setup : Setup
  pub schedule : Schedule
  pub counts : CallCounts
  pub answers : List Answered
  pub faults : ℕ

-- no calls
abbrev pub no_calls : CallCounts
no_calls = record { selects = 0; supports = 0; check_outs = 0; reauthentications = 0 }

-- its server with what it was made with, and how many calls it has had
abbrev pub server_run_of : ModelState → ServerRun
server_run_of model = record { server = model.server; setup = model.setup; schedule = model.schedule; counts = model.counts }

-- what the model server tells as a link: its server and its answers
abbrev pub model_tells : ModelState → LinkState
model_tells model = record {
  making = Served (server_run_of model);
  answers = Some model.answers;
  frames = None;
  over = None;
  asked = None;
  addresses = None;
  connections = None;
  out = None;
  faults = model.faults;
}

-- the address of the model server
abbrev pub model_address : Address
model_address = record { host = HOST.now; port = PORT }

-- the address that is selected: the one that is asked for, else that of the model server
abbrev pub address_for : Option SelectionCriteria → Address
address_for (Some (criteria.Address address)) = address
address_for criteria = model_address

-- the count of faults after a call: one more exactly where it answered a fault
abbrev pub faults_after : {A : Type 0} → ℕ → Result A LinkError → ℕ
faults_after faults (Err (Fault fault labels)) = one_more faults
faults_after faults result = faults

-- a fault is noted and counted
abbrev pub failed : LinkCall → Listed → ModelState → ModelState
failed call listed model =
    record model { answers = model.answers ++ answer.Fault call listed.fault listed.labels ∷ []; faults = one_more model.faults }

-- a call that is counted, and fails where the schedule lists it
abbrev pub Called : {A : Type 0} → (CallCounts → CallCounts) → (ServerRun → Option Listed) → LinkCall → ModelState → ModelState → Result A LinkError → Type 0
Called next fault call old now (Ok given) = (now ≡ record old { counts = next old.counts }) × (fault (server_run_of old) ≡ None)
Called next fault call old now (Err (Fault found labels)) =
    (now ≡ failed call (record { fault = found; labels = labels }) (record old { counts = next old.counts }))
    × (fault (server_run_of old) ≡ Some (record { fault = found; labels = labels }))
Called next fault call old now (Err Memory) = now ≡ record old { counts = next old.counts }

-- the counts after one more call of a kind: a selection, a question about transactions, a check-out, a reauthentication
abbrev pub one_select : CallCounts → CallCounts
one_select counts = record counts { selects = one_more counts.selects }

abbrev pub one_support : CallCounts → CallCounts
one_support counts = record counts { supports = one_more counts.supports }

abbrev pub one_check_out : CallCounts → CallCounts
one_check_out counts = record counts { check_outs = one_more counts.check_outs }

abbrev pub one_reauthentication : CallCounts → CallCounts
one_reauthentication counts = record counts { reauthentications = one_more counts.reauthentications }

-- one exchange of the machine, with the bytes of its reply, or none where the connection was reset
pub record Stepped (old now : ModelState) (send : Send) (bytes : Option (List ℕ)) : Type 0 where
  pub reply : IsSpelled (answered old.server send (next_step old.schedule old.server)) bytes
  pub is : now ≡ record old {
    server = exchanged old.server send (next_step old.schedule old.server);
    answers = old.answers ++ note_of bytes ∷ [];
  }
