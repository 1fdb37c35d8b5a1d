-- What the reply to a findAndModify says, where it says that the command was done, and what its entry tells.
use Rattle.std.specs.Prelude.{◌≡◌, ℕ, List, [], ◌∷◌, codes, Option, None, Some, ◌⊎◌, Result, Ok, Err}
use Rattle.std.specs.Option.{option_and_then, option_map}
use Rattle.bson_lite.specs.declared.bson.Bson.{Bson, out-Bson}
use Rattle.bson_lite.specs.declared.bson.Bson.TheOpen.{Bson-F}
use Rattle.bson_lite.specs.declared.document.Pair.{Pair}
use Rattle.driver_error.specs.declared.error.Error.{Error}
use Rattle.driver_error.specs.declared.kind.ErrorKind.TheVariants as kind
use Rattle.driver_error.specs.Conversions.{IsMade}
use Rattle.driver_error.specs.Error.{kind_of}
use Rattle.driver_error.specs.LabelTexts.{no_labels}
use Rattle.wire_keys.specs.declared.keys.TheConstants.{VALUE}
use Rattle.driver_link.specs.declared.machine.Counted.{Counted}
use Rattle.driver_link.specs.declared.machine.Entry.{Entry}
use Rattle.driver_link.specs.Commands.{needed}
use Rattle.statement_ops.specs.declared.find_and_modify.FindReply.{FindReply}
use Rattle.statement_ops.specs.CountAnswers.{AnswersFailed, failed_write_in}

-- a value one level deep tells of a document, or by null of none; no other value tells of either
abbrev pub as_found : Bson-F Bson → Option (Option (List (Pair Bson)))
as_found (Bson-F.Document pairs) = Some (Some pairs)
as_found Bson-F.Null = Some None
as_found _ = None

-- the same of a value
abbrev pub found_of : Bson → Option (Option (List (Pair Bson)))
found_of value = as_found (out-Bson value)

-- the fields of the reply, each in its form
unfoldable pub find_reply : List (Pair Bson) → Option FindReply
find_reply reply =
    option_and_then (λ found.
    option_map (λ failed. record { found = found; failed = failed })
    (failed_write_in reply))
    (needed found_of VALUE.now reply)

-- the message about a reply that tells of no findAndModify
unfoldable pub odd_find_text : List ℕ
odd_find_text = codes "the reply does not tell of a findAndModify"

-- the reply is answered so by its fields
abbrev pub AnswersFind : Option FindReply → Result (Option (List (Pair Bson))) Error → Type 0
AnswersFind None (Ok output) = ⊥
AnswersFind None (Err error) = IsMade (kind.InvalidResponse odd_find_text) no_labels error
AnswersFind (Some reply) result = AnswersFailed reply.failed reply.found result

-- it is read so, unless memory runs out
abbrev pub ReadsFind : List (Pair Bson) → Result (Option (List (Pair Bson))) Error → Type 0
ReadsFind reply (Ok output) = AnswersFind (find_reply reply) (Ok output)
ReadsFind reply (Err error) = (kind_of error ≡ kind.Memory) ⊎ AnswersFind (find_reply reply) (Err error)

-- what a findAndModify found by the result in its entry: the document there, or none
abbrev pub found_by : Counted → Option (Option (List (Pair Bson)))
found_by result = Some result.value

-- the output of a findAndModify is told by its one entry
abbrev pub TellsFound : List Entry → Option (List (Pair Bson)) → Type 0
TellsFound (entry ∷ []) output = found_by entry.result ≡ Some output
TellsFound entries output = ⊥
