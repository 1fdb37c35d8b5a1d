-- How a script writes what the server does: the steps of its schedule, and the calls of the link that fail.
use Rattle.std.specs.Prelude.{ℕ, ℤ, Bool, ◌&&◌, not, if◌then◌else◌, List, [], ◌∷◌, Option, None, Some, unwrap_or, bytes_eq}
use Rattle.std.specs.List.{list_all}
use Rattle.std.specs.Option.{option_and_then, option_map}
use Rattle.driver_link.specs.declared.machine.Item.{Item}
use Rattle.driver_link.specs.declared.machine.Item.TheVariants.{Lost, Late, ReplyLost, Interrupted, Refused}
use Rattle.driver_link.specs.declared.machine.Schedule.{Schedule}
use Rattle.driver_link.specs.declared.machine.Scheduled.{Scheduled}
use Rattle.driver_link.specs.Exchange.{usual_item}
use Rattle.driver_link.specs.Honesty.{is_overload}
use Rattle.script_parts.specs.declared.keys.TheConstants.{AFTER, CHECK_OUT, CODE, DELIVER, INTERRUPTED, ITEM, LABELS, LATE, LOST, REFUSED, REPLY_LOST, SELECT, SERVE}
use Rattle.driver_script.specs.declared.schedule.ErrorReply.{ErrorReply}
use Rattle.driver_script.specs.declared.schedule.Faults.{Faults}
use Rattle.script_parts.specs.Json.{has_only, list_of, needed_part, optional_part}
use Rattle.driver_script.specs.Plans.{is_built_code, serve_of}
use Rattle.script_parts.specs.Values.{code_of, count_of, text_of}
use Rattle.serde_json.specs.Data.{Data, string, object, no_members, member}

-- a label that an item may answer: labels of overload are not built yet
unfoldable pub is_built_label : List ℕ → Bool
is_built_label label = not (is_overload label)

-- an error reply, where its code and its labels are built
unfoldable pub built_reply : ErrorReply → Option ErrorReply
built_reply reply = if is_built_code reply.code && list_all is_built_label reply.labels then Some reply else None

-- an error reply with these parts
abbrev pub reply_with : ℤ → List (List ℕ) → ErrorReply
reply_with code labels = record { code = code; labels = labels }

-- the code and the labels under their keys of an object
unfoldable pub reply_of : Data → Option ErrorReply
reply_of d = option_and_then (λ code. option_and_then (λ labels. built_reply (reply_with code labels)) (needed_part (list_of text_of) LABELS.now d)) (needed_part code_of CODE.now d)

-- an interrupted send: how many statements run first, and the reply
unfoldable pub interrupted_of : Data → Option Item
interrupted_of d =
    if has_only (AFTER.now ∷ CODE.now ∷ LABELS.now ∷ []) d
    then option_and_then (λ after. option_map (λ reply. Interrupted after reply.code reply.labels) (reply_of d)) (needed_part count_of AFTER.now d)
    else None

-- a refused send: the reply
unfoldable pub refused_of : Data → Option Item
refused_of d =
    if has_only (CODE.now ∷ LABELS.now ∷ []) d
    then option_map (λ reply. Refused reply.code reply.labels) (reply_of d)
    else None

-- the item of a name
unfoldable pub item_named : List ℕ → Option Item
item_named name =
    if bytes_eq name SERVE.now then Some usual_item else (
    if bytes_eq name LOST.now then Some Lost else (
    if bytes_eq name LATE.now then Some Late else (
    if bytes_eq name REPLY_LOST.now then Some ReplyLost else None)))

-- the item whose parts stand under its name
unfoldable pub item_under : List ℕ → Data → Option Item
item_under name d =
    if bytes_eq name SERVE.now then serve_of d else (
    if bytes_eq name INTERRUPTED.now then interrupted_of d else (
    if bytes_eq name REFUSED.now then refused_of d else None))

-- an item: its name, or an object whose one key is its name
unfoldable pub item_in : Data → Option Item
item_in (string name) = item_named name
item_in (object (member name d no_members)) = item_under name d
item_in d = None

-- a step before which these waiting sends are served
abbrev pub step_with : List ℕ → Item → Scheduled
step_with deliver item = record { deliver = deliver; item = item }

-- a step before which waiting sends are served: their numbers, and the item
unfoldable pub delivering_of : Data → Option Scheduled
delivering_of d = option_and_then (λ deliver. option_map (step_with deliver) (needed_part item_in ITEM.now d)) (needed_part (list_of count_of) DELIVER.now d)

-- a step of a schedule: an item, or an item with the waiting sends to serve before it
unfoldable pub step_of : Data → Option Scheduled
step_of d = if has_only (DELIVER.now ∷ ITEM.now ∷ []) d then delivering_of d else option_map (step_with []) (item_in d)

-- the calls of the link that fail, where none is listed
abbrev pub no_faults : Faults
no_faults = record { selects = []; check_outs = [] }

-- the calls of the link that fail: the numbers of selections and of check-outs
abbrev pub faults_with : Option (List ℕ) → Option (List ℕ) → Faults
faults_with selects check_outs = record { selects = unwrap_or selects []; check_outs = unwrap_or check_outs [] }

-- the same, read from a value of a script
unfoldable pub faults_of : Data → Option Faults
faults_of d =
    if has_only (SELECT.now ∷ CHECK_OUT.now ∷ []) d
    then option_and_then (λ selects. option_map (faults_with selects) (optional_part (list_of count_of) CHECK_OUT.now d)) (optional_part (list_of count_of) SELECT.now d)
    else None

-- the schedule of these steps, in which these calls of the link fail
abbrev pub schedule_with : List Scheduled → Faults → Schedule
schedule_with steps faults = record {
  items = steps;
  selects = faults.selects;
  check_outs = faults.check_outs;
  overloaded_check_outs = [];
  reauthentications = [];
  supports = [];
}
