-- The results of a bulk write, page by page.
use Rattle.std.specs.Prelude.{ℕ, ◌+◌, ◌-◌, ◌==◌, ℤ, pos, negsuc, List, [], ◌∷◌, ◌++◌, length, take, drop, Option, None, Some, slice_get, slice_set, unwrap_or, if◌then◌else◌}
use Rattle.std.specs.Option.{option_and_then, option_map_or}
use Rattle.bson_lite.specs.declared.bson.Bson.{Bson}
use Rattle.bson_lite.specs.declared.bson.Bson as bson
use Rattle.bson_lite.specs.declared.document.Pair.{Pair}
use Rattle.bson_lite.specs.declared.fields.TheConstants.{ID_KEY}
use Rattle.wire_keys.specs.declared.keys.TheConstants.{CODE, ERROR_MESSAGE, N, N_MODIFIED, RESULT_INDEX, SCHEDULED, UPSERTED}
use Rattle.driver_link.specs.declared.machine.Counted.{Counted}
use Rattle.driver_link.specs.declared.machine.PlacedWrite.{PlacedWrite}
use Rattle.driver_link.specs.declared.machine.SendBody.{SendBody}
use Rattle.driver_link.specs.declared.machine.SendBody.TheVariants.{Write, More, Kill}
use Rattle.driver_link.specs.declared.machine.SendCommand.{SendCommand}
use Rattle.driver_link.specs.declared.machine.SendCommand.TheVariants as command
use Rattle.driver_link.specs.declared.machine.Statement.{Statement}
use Rattle.driver_link.specs.declared.machine.Statement.TheVariants.{Kept, Ran, Failed}
use Rattle.driver_link.specs.declared.machine.WriteKind.{WriteKind}
use Rattle.driver_link.specs.declared.machine.WriteKind.TheVariants as kind
use Rattle.driver_link.specs.Numbers.{reply_number, reply_count, field}

-- a document of a reply
abbrev pub Reply : Type 0
Reply = List (Pair Bson)

-- the field with the id of a document that an update inserted, where there is one
abbrev pub upsert_of_row : Option Bson → Reply
upsert_of_row None = []
upsert_of_row (Some id) = field UPSERTED.now (bson.Document (field ID_KEY.now id ∷ [])) ∷ []

-- the field with how many documents an update changed
abbrev pub modified_field : WriteKind → ℤ → Reply
modified_field kind.Update modified = field N_MODIFIED.now (reply_number modified) ∷ []
modified_field other modified = []

-- the document of a result
abbrev pub result_row : ℕ → WriteKind → Counted → Reply
result_row at does result =
    field RESULT_INDEX.now (reply_count at) ∷ field N.now (reply_number result.n) ∷ (modified_field does result.modified ++ upsert_of_row result.upserted)

-- the document of a failure
abbrev pub failure_row : ℕ → ℤ → Reply
failure_row at code =
    field RESULT_INDEX.now (reply_count at) ∷ field CODE.now (bson.Int32 code) ∷ field ERROR_MESSAGE.now (bson.String SCHEDULED.now) ∷ []

-- the document of a statement
abbrev pub row : ℕ → WriteKind → Statement → Reply
row at does (Kept result) = result_row at does result
row at does (Ran result) = result_row at does result
row at does (Failed code) = failure_row at code

-- the documents of the statements of writes, the first at a position
unfoldable pub rows : ℕ → List PlacedWrite → List Statement → List Reply
rows at [] done = []
rows at (write ∷ writes) [] = []
rows at (write ∷ writes) (statement ∷ done) = row at write.written.kind statement ∷ rows (at + 1) writes done

-- the results on the first page, and what is left
abbrev pub first_page : Option ℕ → List Reply → List Reply
first_page None results = results
first_page (Some most) results = take most results

-- the results that the first page does not hold
abbrev pub pages_left : Option ℕ → List Reply → List Reply
pages_left None results = []
pages_left (Some most) results = drop most results

-- the cursors with one more, where something is left; numbers never come again
abbrev pub with_cursor : List Reply → List (Option (List Reply)) → List (Option (List Reply))
with_cursor [] cursors = cursors
with_cursor (result ∷ results) cursors = cursors ++ Some (result ∷ results) ∷ []

-- the cursor's number, from 1, or 0 where nothing is left
abbrev pub cursor_number : List Reply → List (Option (List Reply)) → ℕ
cursor_number [] cursors = 0
cursor_number (result ∷ results) cursors = length cursors + 1

-- the cursors once a command was served: a bulk write opens one where its first page does not hold all
abbrev pub cursors_of : SendCommand → Option ℕ → List PlacedWrite → List Statement → List (Option (List Reply)) → List (Option (List Reply))
cursors_of command.BulkWrite page writes done cursors = with_cursor (pages_left page (rows 0 writes done)) cursors
cursors_of other page writes done cursors = cursors

-- the same by what a send asks for
abbrev pub cursors_with : Option ℕ → List Statement → SendBody → List (Option (List Reply)) → List (Option (List Reply))
cursors_with page done (Write does ordered writes) cursors = cursors_of does page writes done cursors
cursors_with page done other cursors = cursors

-- the place of a cursor by its number
abbrev pub place_of : ℤ → Option ℕ
place_of (pos number) = if number == 0 then None else Some (number - 1)
place_of (negsuc number) = None

-- what is left of a cursor's results, where it is open
unfoldable pub results_left : ℤ → List (Option (List Reply)) → Option (List Reply)
results_left cursor cursors = option_and_then (λ at. unwrap_or (slice_get cursors at) None) (place_of cursor)

-- the cursors with one closed
unfoldable pub closed : ℤ → List (Option (List Reply)) → List (Option (List Reply))
closed cursor cursors = option_map_or (λ at. slice_set cursors at None) (place_of cursor) cursors

-- the cursors once their send was served: the next page gives all that is left, so both close one
abbrev pub without_cursor : SendBody → List (Option (List Reply)) → List (Option (List Reply))
without_cursor (More cursor) cursors = closed cursor cursors
without_cursor (Kill cursor) cursors = closed cursor cursors
without_cursor other cursors = cursors
