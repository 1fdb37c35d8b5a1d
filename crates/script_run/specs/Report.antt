-- The report of a run.
use Rattle.std.specs.Prelude.{ℕ, List, [], ◌++◌, length, codes, decimal, Option, None, Some, is_some, is_ok, count_by, if◌then◌else◌}
use Rattle.driver_link.specs.declared.machine.Send.{Send}
use Rattle.driver_link.specs.declared.machine.Server.{Server}
use Rattle.memory_links.specs.CountingIds.{IdsDrawn}
use Rattle.driver_link.specs.Exchange.{empty_server}
use Rattle.driver_session.specs.Pool.{StorePool}
use Rattle.model_server.specs.ModelState.{ModelState}
use Rattle.driver_attempt.specs.declared.client.Client.{Client}
use Rattle.driver_attempt.specs.Client.{store_of}
use Rattle.driver_script.specs.declared.script.Script.{Script}
use Rattle.report_lines.specs.Distinct.{distinct}
use Rattle.report_lines.specs.Lines.{call_lines, send_lines, entry_lines, newline}
use Rattle.script_run.specs.declared.running.Run.{Run}
use Rattle.driver_inputs.specs.declared.call.Call.{Call}
use Rattle.driver_inputs.specs.declared.call.Outcome.{Outcome}

-- the calls of a script, or none
abbrev pub calls_of : Option Script → List Call
calls_of None = []
calls_of (Some script) = script.calls

-- the outcomes, or none
abbrev pub outcomes_of : Option (List Outcome) → List Outcome
outcomes_of None = []
outcomes_of (Some outcomes) = outcomes

-- the session ids that a client's store drew, or none
abbrev pub drawn_of : Option (Client (StorePool IdsDrawn)) → List (List ℕ)
drawn_of None = []
drawn_of (Some client) = (store_of client).pool.drawn

-- the state of a server, or of one that has seen nothing
abbrev pub state_of : Option ModelState → Server
state_of None = empty_server
state_of (Some model) = model.server

-- the line that says whether ids repeat
unfoldable pub ids_line : List (List ℕ) → List ℕ
ids_line ids = (if distinct ids then codes "ids: distinct" else codes "ids: repeated") ++ newline

-- the line that counts the waiting sends
unfoldable pub waiting_line : List (Option Send) → List ℕ
waiting_line waiting = codes "waiting: " ++ decimal (count_by is_some waiting) ++ newline

-- the line that counts calls, those that are Ok, sends and entries
unfoldable pub totals_line : List Outcome → Server → List ℕ
totals_line outcomes server =
    codes "totals: calls=" ++ decimal (length outcomes) ++ codes " ok=" ++ decimal (count_by (λ outcome. is_ok outcome.result) outcomes)
    ++ codes " sends=" ++ decimal (length server.trace) ++ codes " entries=" ++ decimal (length server.log) ++ newline

-- what a report says of a server, of the session ids that were drawn, and in all
unfoldable pub server_lines : List Outcome → Server → List (List ℕ) → List ℕ
server_lines outcomes server drawn =
    send_lines 0 server.trace ++ entry_lines 0 server.log ++ ids_line drawn ++ waiting_line server.waiting ++ totals_line outcomes server

-- the report of a run; a part that the run lacks has no lines and counts nothing
unfoldable pub report : Run → List ℕ
report run =
    call_lines 0 (calls_of run.script) (outcomes_of run.outcomes)
    ++ server_lines (outcomes_of run.outcomes) (state_of run.server) (drawn_of run.client)
