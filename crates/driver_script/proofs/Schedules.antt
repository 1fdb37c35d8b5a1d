-- The schedule of a script is one that a model server takes.
use Rattle.std.proofs.Common.{◌≡◌, ℕ, true, List, [], ◌∷◌, subst}
use Rattle.std.proofs.lemmas.Bool.{and_parts}
use Rattle.std.proofs.lemmas.List.Elements.{All-nil}
use Rattle.std.specs.Prelude.{◌&&◌, Option, Some, bytes_eq}
use Rattle.std.specs.List.{list_all}
use Rattle.std.specs.Option.{option_and_then, option_map}
use Rattle.driver_options.specs.declared.options.ClientOptions.{ClientOptions}
use Rattle.driver_link.specs.declared.machine.Item.{Item}
use Rattle.driver_link.specs.declared.machine.Item.TheVariants.{Lost, Late, ReplyLost, Interrupted, Refused}
use Rattle.driver_link.specs.declared.machine.Scheduled.{Scheduled}
use Rattle.driver_link.specs.Exchange.{usual_item}
use Rattle.driver_link.specs.WellFormed.{IsItem, IsPlan, IsWellFormed}
use Rattle.driver_link.proofs.Lists.{none_is_some, some_is_some}
use Rattle.script_parts.specs.declared.keys.TheConstants.{AFTER, CALLS, CODE, DELIVER, FAULTS, INTERRUPTED, ITEM, LABELS, LATE, LIMITS, LOST, OPTIONS, REFUSED, REPLY_LOST, SCHEDULE, SERVE}
use Rattle.driver_script.specs.declared.limits.Limits.{Limits}
use Rattle.driver_script.specs.declared.schedule.ErrorReply.{ErrorReply}
use Rattle.driver_script.specs.declared.script.Script.{Script}
use Rattle.driver_script.specs.Calls.{call_of}
use Rattle.script_parts.specs.Json.{has_only, list_of, needed_part, optional_part}
use Rattle.driver_script.specs.Limits.{limits_of}
use Rattle.driver_script.specs.Options.{client_options_of}
use Rattle.driver_script.specs.Plans.{is_built_code}
use Rattle.driver_script.specs.ScheduleSteps.{built_reply, delivering_of, faults_of, interrupted_of, is_built_label, item_in, item_named, item_under, refused_of, reply_of, reply_with, step_of, step_with}
use Rattle.driver_script.specs.Script.{script_around, script_of, script_with}
use Rattle.script_parts.specs.Values.{code_of, count_of, text_of}
use Rattle.driver_script.proofs.PlannedResults.{IsOther, other_code, serve_well}
use Rattle.driver_script.proofs.Readings.{chained, either, list_optional, mapped, needed_holds, where_so}
use Rattle.serde_json.specs.Data.{Data, null, boolean, number, string, array, object, no_members, member}
use Rattle.driver_inputs.specs.declared.call.Call.{Call}

-- a step of a schedule that may be scheduled
abbrev IsStep : Scheduled → Type 0
IsStep step = IsItem step.item

-- a reply whose code is built
abbrev IsBuilt : ErrorReply → Type 0
IsBuilt reply = is_built_code reply.code ≡ true

-- a script whose schedule a model server takes
abbrev IsWell : Script → Type 0
IsWell asked = IsWellFormed asked.schedule

built_well : (reply found : ErrorReply) → built_reply reply ≡ Some found → IsBuilt found
unfolding built_reply
built_well reply found is =
    where_so IsBuilt (is_built_code reply.code && list_all is_built_label reply.labels) (Some reply)
    (λ both x here. subst IsBuilt (some_is_some reply x here) (and_parts (is_built_code reply.code) (list_all is_built_label reply.labels) both).0) found is

reply_well : (d : Data) (found : ErrorReply) → reply_of d ≡ Some found → IsBuilt found
unfolding reply_of
reply_well d found is =
    chained IsBuilt (λ code. option_and_then (λ labels. built_reply (reply_with code labels)) (needed_part (list_of text_of) LABELS.now d)) (needed_part code_of CODE.now d)
    (λ code _. chained IsBuilt (λ labels. built_reply (reply_with code labels)) (needed_part (list_of text_of) LABELS.now d)
    (λ labels _. built_well (reply_with code labels))) found is

interrupted_well : (d : Data) (found : Item) → interrupted_of d ≡ Some found → IsItem found
unfolding interrupted_of
interrupted_well d found is =
    where_so IsItem (has_only (AFTER.now ∷ CODE.now ∷ LABELS.now ∷ []) d) _
    (λ _. chained IsItem (λ after. option_map (λ reply. Interrupted after reply.code reply.labels) (reply_of d)) (needed_part count_of AFTER.now d)
    (λ after _. mapped IsItem (λ reply. Interrupted after reply.code reply.labels) (reply_of d)
    (λ reply here. other_code reply.code (reply_well d reply here)))) found is

refused_well : (d : Data) (found : Item) → refused_of d ≡ Some found → IsItem found
unfolding refused_of
refused_well d found is =
    where_so IsItem (has_only (CODE.now ∷ LABELS.now ∷ []) d) _
    (λ _. mapped IsItem (λ reply. Refused reply.code reply.labels) (reply_of d) (λ reply here. tt)) found is

one_well : (made found : Item) → IsItem made → ◌≡◌ {A = Option Item} (Some made) (Some found) → IsItem found
one_well made found well is = subst IsItem (some_is_some made found is) well

named_well : (name : List ℕ) (found : Item) → item_named name ≡ Some found → IsItem found
unfolding item_named
named_well name found is =
    either IsItem (bytes_eq name SERVE.now) _ _ (λ x. one_well usual_item x (All-nil IsPlan, All-nil IsOther, tt))
    (either IsItem (bytes_eq name LOST.now) _ _ (λ x. one_well Lost x tt)
    (either IsItem (bytes_eq name LATE.now) _ _ (λ x. one_well Late x tt)
    (where_so IsItem (bytes_eq name REPLY_LOST.now) _ (λ _ x. one_well ReplyLost x tt)))) found is

under_well : (name : List ℕ) (d : Data) (found : Item) → item_under name d ≡ Some found → IsItem found
unfolding item_under
under_well name d found is =
    either IsItem (bytes_eq name SERVE.now) _ _ (serve_well d)
    (either IsItem (bytes_eq name INTERRUPTED.now) _ _ (interrupted_well d)
    (where_so IsItem (bytes_eq name REFUSED.now) _ (λ _. refused_well d))) found is

item_well : (d : Data) (found : Item) → item_in d ≡ Some found → IsItem found
unfolding item_in
item_well (string name) found is = named_well name found is
item_well (object (member name d no_members)) found is = under_well name d found is
item_well (object (member name d (member _ _ _))) found is = absurd (none_is_some found is)
item_well (object no_members) found is = absurd (none_is_some found is)
item_well null found is = absurd (none_is_some found is)
item_well (boolean flag) found is = absurd (none_is_some found is)
item_well (number n) found is = absurd (none_is_some found is)
item_well (array items) found is = absurd (none_is_some found is)

delivering_well : (d : Data) (step : Scheduled) → delivering_of d ≡ Some step → IsStep step
unfolding delivering_of
delivering_well d step is =
    chained IsStep (λ deliver. option_map (step_with deliver) (needed_part item_in ITEM.now d)) (needed_part (list_of count_of) DELIVER.now d)
    (λ deliver _. mapped IsStep (step_with deliver) (needed_part item_in ITEM.now d) (needed_holds IsItem item_in item_well ITEM.now d)) step is

step_well : (d : Data) (step : Scheduled) → step_of d ≡ Some step → IsStep step
unfolding step_of
step_well d step is =
    either IsStep (has_only (DELIVER.now ∷ ITEM.now ∷ []) d) _ _ (delivering_well d)
    (mapped IsStep (step_with []) (item_in d) (item_well d)) step is

around_well : (options : Option ClientOptions) (limits : Option Limits) (calls : List Call) (d : Data) (asked : Script)
    → script_around options limits calls d ≡ Some asked → IsWell asked
unfolding script_around
around_well options limits calls d asked is =
    chained IsWell _ (optional_part (list_of step_of) SCHEDULE.now d)
    (λ steps here. chained IsWell _ (optional_part faults_of FAULTS.now d)
    (λ faults _. mapped IsWell (script_with options limits calls steps faults) (optional_part (list_of count_of) LATE.now d)
    (λ late _. list_optional IsStep step_of step_well SCHEDULE.now d steps here))) asked is

script_of_well : (d : Data) (asked : Script) → script_of d ≡ Some asked → IsWell asked
unfolding script_of
script_of_well d asked is =
    where_so IsWell (has_only (OPTIONS.now ∷ LIMITS.now ∷ CALLS.now ∷ SCHEDULE.now ∷ FAULTS.now ∷ LATE.now ∷ []) d) _
    (λ _. chained IsWell (λ options. option_and_then (λ limits. option_and_then (λ calls. script_around options limits calls d)
    (needed_part (list_of call_of) CALLS.now d)) (optional_part limits_of LIMITS.now d)) (optional_part client_options_of OPTIONS.now d)
    (λ options _. chained IsWell (λ limits. option_and_then (λ calls. script_around options limits calls d)
    (needed_part (list_of call_of) CALLS.now d)) (optional_part limits_of LIMITS.now d)
    (λ limits _. chained IsWell (λ calls. script_around options limits calls d) (needed_part (list_of call_of) CALLS.now d)
    (λ calls _. around_well options limits calls d)))) asked is

-- the script of a value
pub read_well : (value : Option Data) (asked : Script) → option_and_then script_of value ≡ Some asked → IsWellFormed asked.schedule
read_well value asked is = chained IsWell script_of value (λ d _. script_of_well d) asked is
