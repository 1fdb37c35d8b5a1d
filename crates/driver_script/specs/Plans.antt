-- How a script writes what is planned for a send that is served: its statements' results and failures, and a write
-- concern error.
use Rattle.std.specs.Prelude.{ℕ, ℤ, pos, Bool, true, ◌&&◌, not, if◌then◌else◌, List, [], ◌∷◌, Option, None, Some, is_none, is_some, unwrap_or}
use Rattle.std.specs.Option.{option_and_then, option_map}
use Rattle.std.specs.Ordering.{int_eq}
use Rattle.bson_lite.specs.declared.bson.Bson.{Bson}
use Rattle.bson_lite.specs.declared.document.Pair.{Pair}
use Rattle.bson_lite.specs.Spelling.{refusal_within}
use Rattle.driver_link.specs.declared.machine.Failing.{Failing}
use Rattle.driver_link.specs.declared.machine.Item.{Item}
use Rattle.driver_link.specs.declared.machine.Item.TheVariants.{Serve}
use Rattle.driver_link.specs.declared.machine.Planned.{Planned}
use Rattle.driver_link.specs.declared.machine.PlannedConcern.{PlannedConcern}
use Rattle.driver_link.specs.Exchange.{reauthentication_required}
use Rattle.driver_link.specs.Numbers.{field}
use Rattle.script_parts.specs.declared.keys.TheConstants.{CODE, FAIL, MESSAGE, MODIFIED, N, PAGE, RESULTS, UPSERTED, VALUE, WRITE_CONCERN_ERROR}
use Rattle.script_parts.specs.Json.{has_only, list_of, needed_part, optional_part}
use Rattle.script_parts.specs.Values.{code_of, count_of, document_of, item_of, small_of, text_of, value_of}
use Rattle.serde_json.specs.Data.{Data}
use Rattle.serde_json.specs.Find.{at}

-- a code that an item may answer: the one that asks for another authentication is not built yet, and neither an
-- interrupted send nor one that is served may answer it
unfoldable pub is_built_code : ℤ → Bool
is_built_code code = not (int_eq code reauthentication_required)

-- a code, where it is one that may be answered
unfoldable pub built_code : ℤ → Option ℤ
built_code code = if is_built_code code then Some code else None

-- a document has a spelling, and nests no deeper than so many levels
unfoldable pub is_spelled_within : ℕ → List (Pair Bson) → Bool
is_spelled_within levels document = is_none (refusal_within levels document)

-- a reply can hold this document, which nests at most 95 deep
abbrev pub may_be_found : Option (List (Pair Bson)) → Bool
may_be_found None = true
may_be_found (Some document) = is_spelled_within 95 document

-- a reply can hold this value, around which a document nests one level deeper
abbrev pub may_be_upserted : Option Bson → Bool
may_be_upserted None = true
may_be_upserted (Some value) = is_spelled_within 96 (field [] value ∷ [])

-- what is planned for a statement, where a reply can hold it
unfoldable pub built_plan : Planned → Option Planned
built_plan planned = if may_be_upserted planned.upserted && may_be_found planned.value then Some planned else None

-- a plan of these parts
abbrev pub plan_with : Option ℕ → Option ℕ → Option Bson → Option (List (Pair Bson)) → Planned
plan_with n modified upserted value = record { n = option_map pos n; modified = option_map pos modified; upserted = upserted; value = value }

-- the parts of a plan that are set, under their keys of an object
unfoldable pub plan_in : Data → Option Planned
plan_in d =
    option_and_then (λ n. option_and_then (λ modified. option_and_then (λ upserted. option_and_then (λ value. built_plan (plan_with n modified upserted value))
    (optional_part document_of VALUE.now d)) (optional_part value_of UPSERTED.now d)) (optional_part small_of MODIFIED.now d)) (optional_part small_of N.now d)

-- what is planned for a statement: an object with the parts that are set
unfoldable pub planned_of : Data → Option Planned
planned_of d = if has_only (N.now ∷ MODIFIED.now ∷ UPSERTED.now ∷ VALUE.now ∷ []) d then plan_in d else None

-- a failure of the statement at a position
abbrev pub failing_with : ℕ → ℤ → Failing
failing_with place code = record { at = place; code = code }

-- a position and a code, in a list
unfoldable pub failing_in : Data → Option Failing
failing_in d = option_and_then (λ place. option_and_then (λ code. option_map (failing_with place) (built_code code)) (item_of code_of 1 d)) (item_of count_of 0 d)

-- a statement that fails: a list of its position and the code, and no more
unfoldable pub failing_of : Data → Option Failing
failing_of d = if is_some (at 2 d) then None else failing_in d

-- a write concern error of these parts
abbrev pub concern_error_with : List ℕ → ℤ → PlannedConcern
concern_error_with message code = record { code = code; message = message }

-- the code and the message under their keys of an object
unfoldable pub concern_error_in : Data → Option PlannedConcern
concern_error_in d = option_and_then (λ code. option_and_then (λ message. option_map (concern_error_with message) (built_code code)) (needed_part text_of MESSAGE.now d)) (needed_part code_of CODE.now d)

-- a write concern error: an object with its code and its message
unfoldable pub concern_error_of : Data → Option PlannedConcern
concern_error_of d = if has_only (CODE.now ∷ MESSAGE.now ∷ []) d then concern_error_in d else None

-- a send that is served with these results, failures and write concern error, and a first page of so many results
abbrev pub serve_with : Option (List Planned) → Option (List Failing) → Option PlannedConcern → Option ℕ → Item
serve_with results fail concern page = Serve (unwrap_or results []) (unwrap_or fail []) concern page

-- the parts of a served send that are set, under their keys of an object
unfoldable pub serve_in : Data → Option Item
serve_in d =
    option_and_then (λ results. option_and_then (λ fail. option_and_then (λ concern. option_map (serve_with results fail concern) (optional_part count_of PAGE.now d))
    (optional_part concern_error_of WRITE_CONCERN_ERROR.now d)) (optional_part (list_of failing_of) FAIL.now d)) (optional_part (list_of planned_of) RESULTS.now d)

-- a send that is served: an object with the parts that are set
unfoldable pub serve_of : Data → Option Item
serve_of d = if has_only (RESULTS.now ∷ FAIL.now ∷ WRITE_CONCERN_ERROR.now ∷ PAGE.now ∷ []) d then serve_in d else None
