-- What a script is: one JSON object, with its defaults.
use Rattle.std.specs.Prelude.{◌≡◌, ℕ, ◌<◌, ◌≤◌, if◌then◌else◌, List, [], ◌∷◌, length, codes, Option, None, Result, Ok, Err, unwrap_or}
use Rattle.std.specs.Option.{option_and_then, option_map, ok_or}
use Rattle.driver_options.specs.declared.options.ClientOptions.{ClientOptions}
use Rattle.driver_link.specs.declared.machine.Scheduled.{Scheduled}
use Rattle.script_parts.specs.declared.keys.TheConstants.{CALLS, FAULTS, LATE, LIMITS, OPTIONS, SCHEDULE}
use Rattle.driver_script.specs.declared.limits.Limits.{Limits}
use Rattle.driver_script.specs.declared.schedule.Faults.{Faults}
use Rattle.script_parts.specs.declared.keys.TheConstants.{MOST_CALLS}
use Rattle.driver_script.specs.declared.script.Script.{Script}
use Rattle.driver_script.specs.declared.script.ScriptFault.{ScriptFault}
use Rattle.driver_script.specs.declared.script.ScriptFault.TheVariants.{Wrong, TooManyCalls, Memory}
use Rattle.driver_script.specs.Calls.{call_of}
use Rattle.script_parts.specs.Json.{has_only, list_of, needed_part, optional_part, value_read}
use Rattle.driver_script.specs.Limits.{limits_of, no_limits, setup_with}
use Rattle.driver_script.specs.Options.{client_options_of}
use Rattle.driver_script.specs.ScheduleSteps.{faults_of, no_faults, schedule_with, step_of}
use Rattle.script_parts.specs.Values.{count_of}
use Rattle.driver_inputs.specs.declared.call.Call.{Call}
use Rattle.serde_json.specs.Data.{Data}

-- the options of a script's client where it sets none; the client is the first
abbrev pub usual_options : ClientOptions
usual_options = record { client_number = 1; retry_writes = None; read_concern = None; write_concern = None }

-- a script with these options, limits and calls
abbrev pub script_with : Option ClientOptions → Option Limits → List Call → Option (List Scheduled) → Option Faults → Option (List ℕ) → Script
script_with options limits calls steps faults late = record {
  options = unwrap_or options usual_options;
  setup = setup_with (unwrap_or limits no_limits);
  calls = calls;
  schedule = schedule_with (unwrap_or steps []) (unwrap_or faults no_faults);
  late = unwrap_or late [];
}

-- what a script may leave out behind its calls: its schedule, the calls of the link that fail, and the waiting sends
-- to serve after the calls
unfoldable pub script_around : Option ClientOptions → Option Limits → List Call → Data → Option Script
script_around options limits calls d =
    option_and_then (λ steps. option_and_then (λ faults. option_map (script_with options limits calls steps faults)
    (optional_part (list_of count_of) LATE.now d)) (optional_part faults_of FAULTS.now d)) (optional_part (list_of step_of) SCHEDULE.now d)

-- a script: an object with its calls, and what it may leave out
unfoldable pub script_of : Data → Option Script
script_of d =
    if has_only (OPTIONS.now ∷ LIMITS.now ∷ CALLS.now ∷ SCHEDULE.now ∷ FAULTS.now ∷ LATE.now ∷ []) d
    then option_and_then (λ options. option_and_then (λ limits. option_and_then (λ calls. script_around options limits calls d)
    (needed_part (list_of call_of) CALLS.now d)) (optional_part limits_of LIMITS.now d)) (optional_part client_options_of OPTIONS.now d)
    else None

-- the script that bytes are, or the path of what is wrong
unfoldable pub script : List ℕ → Result Script (List ℕ)
script bytes = ok_or (option_and_then script_of (value_read bytes)) (codes "$")

-- what was given is a script of so many calls, more than may be made
pub record HasTooMany (count : ℕ) (given : Result Script (List ℕ)) : Type 0 where
  pub asked : Script
  pub is : given ≡ Ok asked
  pub counts : count ≡ length asked.calls
  pub many : MOST_CALLS < count

-- the answer is the one given, or it has too many calls; want of memory says nothing
abbrev pub ReadsScript : Result Script ScriptFault → Result Script (List ℕ) → Type 0
ReadsScript (Ok found) given = (given ≡ Ok found) × (length found.calls ≤ MOST_CALLS)
ReadsScript (Err (Wrong path)) given = given ≡ Err path
ReadsScript (Err (TooManyCalls count)) given = HasTooMany count given
ReadsScript (Err Memory) given = Unit {0}

-- the fault names the path, or memory ran out
abbrev pub IsWrong : List ℕ → ScriptFault → Type 0
IsWrong path (Wrong found) = found ≡ path
IsWrong path (TooManyCalls count) = ⊥
IsWrong path Memory = Unit {0}
