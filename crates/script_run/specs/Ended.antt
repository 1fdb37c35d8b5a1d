-- How a run of the program ends: for each status what was read, what was written and what was made.
use Rattle.std.specs.Prelude.{◌≡◌, ℕ, ◌<◌, ◌≤◌, List, [], ◌∷◌, ◌++◌, length, ◌⊎◌, codes, Option, None, Some, Ok, Err, bytes_eq, if◌then◌else◌}
use Rattle.memory_links.specs.CountingIds.{IdsDrawn, counted_ids, none_drawn}
use Rattle.driver_link.specs.Exchange.{after_picks, replayed, empty_server}
use Rattle.driver_link.specs.Faults.{RoseByOne}
use Rattle.memory_links.specs.MemClock.{readings_from}
use Rattle.driver_link.specs.Streams.{Appends}
use Rattle.driver_session.specs.Pool.{StorePool, empty_pool}
use Rattle.driver_session.specs.StoreTells.{StoreTells}
use Rattle.model_server.specs.ModelState.{ModelState, model_tells, no_calls}
use Rattle.driver_attempt.specs.Client.{options_of, store_of}
use Rattle.driver_attempt.specs.Moment.{Moment}
use Rattle.driver_attempt.specs.declared.client.Client.{Client}
use Rattle.call_runs.specs.MainTheorem.{HaveEnded, MainTheorem}
use Rattle.script_parts.specs.declared.keys.TheConstants.{MOST_CALLS}
use Rattle.driver_script.specs.declared.script.Script.{Script}
use Rattle.driver_script.specs.Script.{script}
use Rattle.report_lines.specs.Lines.{newline}
use Rattle.script_run.specs.declared.program.Command.{Command}
use Rattle.script_run.specs.declared.program.Command.TheVariants as command
use Rattle.script_run.specs.declared.running.Run.{Run}
use Rattle.script_run.specs.declared.status.Status.{Status}
use Rattle.script_run.specs.declared.status.Status.TheVariants as status
use Rattle.script_run.specs.declared.streams.TheConstants.{LIMIT}
use Rattle.script_run.specs.Report.{report}
use Rattle.script_run.specs.Streamed.{ReadToEnd, ReadMore, ReadFailed, TookFront}
use Rattle.driver_inputs.specs.declared.call.Outcome.{Outcome}

-- the server of a script that has seen nothing
abbrev pub new_model : Script → ModelState
new_model asked = record { server = empty_server; setup = asked.setup; schedule = asked.schedule; counts = no_calls; answers = []; faults = 0 }

-- what a store over ids that count tells
abbrev pub store_tells : StorePool IdsDrawn → StoreTells
store_tells store = record { pool = Some store.pool; to_come = Some (counted_ids store.ids); caller = 0 }

-- a store over such ids that has not been used
abbrev pub new_store : StorePool IdsDrawn
new_store = record { ids = none_drawn; pool = empty_pool }

-- the moment before the first call of a script, but for the words to come: a store that has not been used, a server that
-- has seen nothing, a clock that was not read, and the script's options
pub record IsFirstMoment (asked : Script) (first : Moment) : Type 0 where
  pub store : first.store ≡ store_tells new_store
  pub link : first.link ≡ model_tells (new_model asked)
  pub clock : first.clock ≡ record { last = 0; slept = 0; to_come = Some (readings_from 0 0) }
  pub client : first.client ≡ record { options = asked.options }

-- a moment that has the store and the options of a client, and a model server for its link
pub record IsMomentOf (client : Client (StorePool IdsDrawn)) (model : ModelState) (last : Moment) : Type 0 where
  pub store : last.store ≡ store_tells (store_of client)
  pub link : last.link ≡ model_tells model
  pub options : last.client ≡ record { options = options_of client }

-- a run of a script: its client and server are made by the script; before the late deliveries the server was
-- the fold of the exchanges over its trace, the main theorem held of the outcomes and the server, and every call
-- ended with its cause, and well where it is valid and its part of the schedule is gentle; then the waiting sends
-- that the script names were served in order, and nothing else changed
pub record IsRunOf (asked : Script) (run : Run) : Type 0 where
  pub outcomes : List Outcome
  pub client : Client (StorePool IdsDrawn)
  pub before : ModelState
  pub model : ModelState
  pub script_kept : run.script ≡ Some asked
  pub outcomes_kept : run.outcomes ≡ Some outcomes
  pub client_kept : run.client ≡ Some client
  pub server_kept : run.server ≡ Some model
  pub options : options_of client ≡ asked.options
  pub setup : model.setup ≡ asked.setup
  pub schedule : model.schedule ≡ asked.schedule
  pub replayed : before.server ≡ replayed asked.schedule empty_server before.server.trace
  pub holds : MainTheorem asked.calls outcomes before.server
  pub first : Moment
  pub last : Moment
  pub begins : IsFirstMoment asked first
  pub comes : IsMomentOf client before last
  pub ended : HaveEnded asked.calls outcomes first last
  pub late : model ≡ record before { server = after_picks before.server asked.late }

-- the input and the output before and now: what is left to read, what was written, how many calls failed
pub record ProgramEnds : Type 0 where
  pub left : Option (List ℕ)
  pub left_now : Option (List ℕ)
  pub reads_failed : ℕ
  pub reads_failed_now : ℕ
  pub contents : Option (List ℕ)
  pub contents_now : Option (List ℕ)
  pub writes_failed : ℕ
  pub writes_failed_now : ℕ

-- the same by its parts
abbrev pub program_ends : Option (List ℕ) → Option (List ℕ) → ℕ → ℕ → Option (List ℕ) → Option (List ℕ) → ℕ → ℕ → ProgramEnds
program_ends left left_now reads_failed reads_failed_now contents contents_now writes_failed writes_failed_now = record {
  left = left;
  left_now = left_now;
  reads_failed = reads_failed;
  reads_failed_now = reads_failed_now;
  contents = contents;
  contents_now = contents_now;
  writes_failed = writes_failed;
  writes_failed_now = writes_failed_now;
}

-- a line was written and no write failed, or a front of it and one write failed
abbrev pub SaysTo : Option (List ℕ) → Option (List ℕ) → ℕ → ℕ → List ℕ → Type 0
SaysTo contents now failed failed_now line =
    (Appends contents now line × (failed_now ≡ failed)) ⊎ (RoseByOne failed failed_now × TookFront contents now line)

-- the same of the input and the output of a run
abbrev pub Said : ProgramEnds → List ℕ → Type 0
Said ends line = SaysTo ends.contents ends.contents_now ends.writes_failed ends.writes_failed_now line

-- no read failed
abbrev pub NoReadFailed : ProgramEnds → Type 0
NoReadFailed ends = ends.reads_failed_now ≡ ends.reads_failed

-- the whole report of a run was written, and no write failed
abbrev pub Reports : Option (List ℕ) → Option (List ℕ) → ℕ → ℕ → Run → Type 0
Reports contents now failed failed_now run = Appends contents now (report run) × (failed_now ≡ failed)

-- a front of it was written, and one write failed
abbrev pub BreaksOff : Option (List ℕ) → Option (List ℕ) → ℕ → ℕ → Run → Type 0
BreaksOff contents now failed failed_now run = RoseByOne failed failed_now × TookFront contents now (report run)

-- nothing was written, and no write failed
abbrev pub IsSilent : Option (List ℕ) → Option (List ℕ) → ℕ → ℕ → Type 0
IsSilent contents now failed failed_now = (now ≡ contents) × (failed_now ≡ failed)

-- the input was read to its end, it is a script, and the run is one of that script
pub record RunIsMade (left left_now : Option (List ℕ)) (run : Run) : Type 0 where
  pub bytes : List ℕ
  pub asked : Script
  pub read : ReadToEnd LIMIT left left_now bytes
  pub is : script bytes ≡ Ok asked
  pub few : length asked.calls ≤ MOST_CALLS
  pub made : IsRunOf asked run

-- the input was read to its end, and it is no script: the path is that of what is wrong
pub record RefusesScript (left left_now : Option (List ℕ)) (path : List ℕ) : Type 0 where
  pub bytes : List ℕ
  pub read : ReadToEnd LIMIT left left_now bytes
  pub is : script bytes ≡ Err path

-- the same for some path
abbrev pub IsRefused : Option (List ℕ) → Option (List ℕ) → Type 0
IsRefused left left_now = (path : List ℕ) × RefusesScript left left_now path

-- the input was read to its end, and it is a script of too many calls
pub record HasManyCalls (left left_now : Option (List ℕ)) : Type 0 where
  pub bytes : List ℕ
  pub asked : Script
  pub read : ReadToEnd LIMIT left left_now bytes
  pub is : script bytes ≡ Ok asked
  pub many : MOST_CALLS < length asked.calls

-- more bytes than a script may have were read, or it has too many calls
abbrev pub IsTooLarge : Option (List ℕ) → Option (List ℕ) → Type 0
IsTooLarge left left_now = ReadMore LIMIT left left_now ⊎ HasManyCalls left left_now

-- the input is told, and it is a script that is not too large
pub record OffersScript (left : Option (List ℕ)) : Type 0 where
  pub bytes : List ℕ
  pub asked : Script
  pub told : left ≡ Some bytes
  pub fits : length bytes ≤ LIMIT
  pub is : script bytes ≡ Ok asked
  pub few : length asked.calls ≤ MOST_CALLS

-- no failure raised a count of faults: it is not one more, and does not stand at its end
abbrev pub Stood : ℕ → ℕ → Type 0
Stood before now = RoseByOne before now → ⊥

-- a script that is offered is run and reported where nothing fails, or memory runs out: the number is that
-- of one of the two statuses
abbrev pub Completes : ℕ → Option (List ℕ) → ℕ → ℕ → ℕ → ℕ → Type 0
Completes number left reads_failed reads_failed_now writes_failed writes_failed_now =
    OffersScript left → Stood reads_failed reads_failed_now → Stood writes_failed writes_failed_now → (number ≡ 0) ⊎ (number ≡ 6)

-- the line that shows the forms of the words
unfoldable pub usage_line : List ℕ
usage_line = codes "usage: run | race N | generate SEED N\n"

-- the line that names the path of what is wrong
unfoldable pub refused_line : List ℕ → List ℕ
refused_line path = codes "script refused at " ++ path ++ newline

-- the line of an input that failed
unfoldable pub failed_line : List ℕ
failed_line = codes "read failed\n"

-- the line of a script that is too large
unfoldable pub large_line : List ℕ
large_line = codes "script too large\n"

-- what each status says; after want of memory nothing was written, and the run is the one before or that of the script
abbrev pub Ended : Status → ProgramEnds → Run → Run → Type 0
Ended status.Done ends run now =
    NoReadFailed ends × RunIsMade ends.left ends.left_now now
    × Reports ends.contents ends.contents_now ends.writes_failed ends.writes_failed_now now
Ended status.Usage ends run now = NoReadFailed ends × Said ends usage_line × (ends.left_now ≡ ends.left) × (now ≡ run)
Ended status.Refused ends run now =
    NoReadFailed ends × ((path : List ℕ) × RefusesScript ends.left ends.left_now path × Said ends (refused_line path)) × (now ≡ run)
Ended status.ReadFailed ends run now =
    ReadFailed LIMIT ends.left ends.left_now ends.reads_failed ends.reads_failed_now × Said ends failed_line × (now ≡ run)
Ended status.WriteFailed ends run now =
    NoReadFailed ends × RunIsMade ends.left ends.left_now now
    × BreaksOff ends.contents ends.contents_now ends.writes_failed ends.writes_failed_now now
Ended status.Memory ends run now =
    NoReadFailed ends × IsSilent ends.contents ends.contents_now ends.writes_failed ends.writes_failed_now
    × ((now ≡ run) ⊎ RunIsMade ends.left ends.left_now now)
Ended status.TooLarge ends run now = NoReadFailed ends × IsTooLarge ends.left ends.left_now × Said ends large_line × (now ≡ run)

-- the number of a status
abbrev pub code : Status → ℕ
code status.Done = 0
code status.Usage = 2
code status.Refused = 3
code status.ReadFailed = 4
code status.WriteFailed = 5
code status.Memory = 6
code status.TooLarge = 7

-- a number is that of a status and says what the status says
abbrev pub EndsWithStatus : ℕ → ProgramEnds → Run → Run → Type 0
EndsWithStatus number ends run now = (status : Status) × (number ≡ code status) × Ended status ends run now

-- what the words ask for
abbrev pub command_of : List (List ℕ) → Option Command
command_of (word ∷ []) = if bytes_eq word (codes "run") then Some command.Run else None
command_of words = None

-- the line of a refused script, where there is memory for it
abbrev pub Refusal : Option (List ℕ) → Option (List ℕ) → ℕ → ℕ → List ℕ → Status → Type 0
Refusal contents now failed failed_now path status.Refused = SaysTo contents now failed failed_now (refused_line path)
Refusal contents now failed failed_now path status.Memory = IsSilent contents now failed failed_now
Refusal contents now failed failed_now path other = ⊥

-- the report of a run, where there is memory for it
abbrev pub Reported : Option (List ℕ) → Option (List ℕ) → ℕ → ℕ → Run → Status → Type 0
Reported contents now failed failed_now run status.Done = Reports contents now failed failed_now run
Reported contents now failed failed_now run status.WriteFailed = BreaksOff contents now failed failed_now run
Reported contents now failed failed_now run status.Memory = IsSilent contents now failed failed_now
Reported contents now failed failed_now run other = ⊥
