-- What the machine's reply to a findAndModify tells, where it is read as done: its one write ran now or had its kept result, and the
-- document that is read is that of the result.
use Rattle.std.proofs.Common.{◌≡◌, List, [], ◌∷◌, ◌++◌, refl, sym, ap, ◌∙◌}
use Rattle.std.specs.Prelude.{ℤ, Option, None, Some, Ok}
use Rattle.std.specs.Option.{option_and_then, option_map, option_map_or}
use denote.Hole.Carrier.{out}
use Rattle.bson_lite.specs.declared.bson.Bson.{Bson, out-Bson}
use Rattle.bson_lite.specs.declared.bson.Bson as bson
use Rattle.bson_lite.specs.declared.bson.Bson.TheOpen.{Bson-F}
use Rattle.bson_lite.specs.declared.document.Pair.{Pair}
use Rattle.bson_lite.specs.Fields.{value_of}
use Rattle.wire_keys.specs.declared.keys.TheConstants.{VALUE, WRITE_ERRORS}
use Rattle.driver_link.specs.declared.machine.Counted.{Counted}
use Rattle.driver_link.specs.declared.machine.PlacedWrite.{PlacedWrite}
use Rattle.driver_link.specs.declared.machine.PlannedConcern.{PlannedConcern}
use Rattle.driver_link.specs.declared.machine.SendCommand.TheVariants as command
use Rattle.driver_link.specs.declared.machine.Server.{Server}
use Rattle.driver_link.specs.declared.machine.Statement.{Statement}
use Rattle.driver_link.specs.declared.machine.Statement.TheVariants.{Kept, Ran, Failed}
use Rattle.driver_link.specs.Commands.{needed}
use Rattle.driver_link.specs.Cursors.{Reply}
use Rattle.driver_link.specs.Numbers.{field}
use Rattle.driver_link.specs.Replies.{concern_field, done_field, errors_field, result_of, value_of_result, write_error, write_errors, write_reply}
use Rattle.driver_link.specs.Serving.{Plan}
use Rattle.driver_link.specs.Values.{as_document}
use Rattle.driver_link.proofs.Forms.{document_is}
use Rattle.driver_link.proofs.Lists.{none_is_some, some_is_some}
use Rattle.driver_link.proofs.OneWriteReplies.{one_reply}
use Rattle.statement_ops.specs.declared.failed_write.FailedWrite.{FailedWrite}
use Rattle.statement_ops.specs.declared.find_and_modify.FindReply.{FindReply}
use Rattle.statement_ops.specs.CountAnswers.{failed_write_in}
use Rattle.statement_ops.specs.FoundAnswers.{AnswersFind, as_found, find_reply, found_by, found_of}
use Rattle.statement_ops.specs.lawful.CountReplies.{errors_fail}

-- a findAndModify that was read as done
pub record IsFindRead (found : Reply) (output : Option (List (Pair Bson))) : Type 0 where
  pub failed : FailedWrite
  pub found_is : needed found_of VALUE.now found ≡ Some output
  pub failed_is : failed_write_in found ≡ Some failed
  pub none : failed.failure ≡ None

-- fields that were read are those that are there
find_found : (value : Option (Option (List (Pair Bson)))) (failed : Option FailedWrite) (told : FindReply)
    → option_and_then (λ found. option_map (λ failed. record { found = found; failed = failed }) failed) value ≡ Some told
    → (value ≡ Some told.found) × (failed ≡ Some told.failed)
find_found (Some value) (Some failed) told is =
    let same : record { found = value; failed = failed } ≡ told = cc is in
    (ap (λ r. Some r.found) same, ap (λ r. Some r.failed) same)
find_found None failed told is = absurd (none_is_some told is)
find_found (Some value) None told is = absurd (none_is_some told is)

find_read_by : (reply : Reply) (output : Option (List (Pair Bson))) (told : Option FindReply) → find_reply reply ≡ told → AnswersFind told (Ok output) → IsFindRead reply output
unfolding find_reply
find_read_by reply output None at answers = absurd answers
find_read_by reply output (Some told) at answers =
    let parts = find_found (needed found_of VALUE.now reply) (failed_write_in reply) told at in
    record { failed = told.failed; found_is = parts.0 ∙ ap (λ found. Some found) (sym answers.1); failed_is = parts.1; none = answers.0 }

-- a reply that is answered by a document, or by none, was read so
pub find_read : (reply : Reply) (output : Option (List (Pair Bson))) → AnswersFind (find_reply reply) (Ok output) → IsFindRead reply output
find_read reply output answers = find_read_by reply output (find_reply reply) refl answers

-- the reply to a findAndModify that failed tells of a write error
find_errors : (plan : Plan) (server : Server) (write : PlacedWrite) (code : ℤ)
    → value_of WRITE_ERRORS.now (one_reply command.FindAndModify plan server write (Failed code)) ≡ Some (bson.Array (write_error 0 code ∷ []))
unfolding write_reply write_errors
find_errors plan server write code = refl

-- so one whose reply tells of no failure has a result
pub find_counts : (plan : Plan) (server : Server) (write : PlacedWrite) (statement : Statement) (failed : FailedWrite)
    → failed_write_in (one_reply command.FindAndModify plan server write statement) ≡ Some failed → failed.failure ≡ None → (result : Counted) × (result_of statement ≡ Some result)
find_counts plan server write (Kept result) failed read none = (result, refl)
find_counts plan server write (Ran result) failed read none = (result, refl)
find_counts plan server write (Failed code) failed read none =
    absurd (errors_fail (one_reply command.FindAndModify plan server write (Failed code)) (write_error 0 code) failed (find_errors plan server write code) read none)

-- a value that is a document tells of it
document_found : (layer : Bson-F Bson) (pairs : List (Pair Bson)) → as_document layer ≡ Some pairs → as_found layer ≡ Some (Some pairs)
document_found (Bson-F.Document given) pairs is = ap (λ found. Some found) is
document_found _ pairs is = absurd (none_is_some pairs is)

-- the value of a result is read as what it found
pub value_read : (value : Option (List (Pair Bson))) → found_of (option_map_or (λ document. bson.Document document) value bson.Null) ≡ Some value
unfolding bson.out-Bson out
value_read None = refl
value_read (Some document) = document_found (out-Bson (bson.Document document)) document (document_is document)

-- the reply to a findAndModify whose write has a result
abbrev pub reply_found : Option PlannedConcern → Counted → Reply
reply_found concern result = done_field ∷ ((field VALUE.now (value_of_result (Some result)) ∷ errors_field []) ++ concern_field concern)

-- what is read in it is what that found
found_told : (concern : Option PlannedConcern) (found result : Counted) (output : Option (List (Pair Bson))) → found ≡ result → IsFindRead (reply_found concern found) output
    → found_by result ≡ Some output
unfolding needed
found_told concern found result output same read = ap found_by (sym same) ∙ (sym (value_read found.value) ∙ read.found_is)

-- what is read in the reply to a findAndModify whose write has a result is what that found
pub find_by : (plan : Plan) (server : Server) (write : PlacedWrite) (statement : Statement) (result : Counted) (output : Option (List (Pair Bson)))
    → result_of statement ≡ Some result → IsFindRead (one_reply command.FindAndModify plan server write statement) output → found_by result ≡ Some output
unfolding write_reply write_errors
find_by plan server write (Kept found) result output counts read = found_told plan.concern found result output (some_is_some _ _ counts) read
find_by plan server write (Ran found) result output counts read = found_told plan.concern found result output (some_is_some _ _ counts) read
find_by plan server write (Failed code) result output counts read = let e : ◌≡◌ {A = Option Counted} None (Some result) = counts in cc
