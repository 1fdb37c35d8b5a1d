-- Over the machine's own reply a findAndModify is read as done exactly where its one write ran now or had its kept result.
use Rattle.std.proofs.Common.{◌≡◌, ℕ, List, [], ◌∷◌, ◌++◌, refl, sym, ap, subst, ◌∙◌, inl, inr}
use Rattle.std.specs.Prelude.{Option, None, Some, Ok, Err}
use Rattle.std.specs.Option.{option_and_then, option_map}
use denote.Hole.Carrier.{out}
use Rattle.bson_lite.specs.declared.bson.Bson.{Bson}
use Rattle.bson_lite.specs.declared.bson.Bson as bson
use Rattle.bson_lite.specs.declared.document.Pair.{Pair}
use Rattle.bson_lite.specs.Spelling.{Spells}
use Rattle.driver_error.specs.declared.error.Error.{Error}
use Rattle.driver_error.specs.declared.kind.ErrorKind.TheVariants as kind
use Rattle.driver_error.specs.Error.{kind_of}
use Rattle.driver_options.specs.declared.find_options.FindAndModifyOptions.{FindAndModifyOptions}
use Rattle.driver_options.specs.declared.updates.Modification.{Modification}
use Rattle.wire_keys.specs.declared.keys.TheConstants.{VALUE}
use Rattle.driver_link.specs.declared.machine.Counted.{Counted}
use Rattle.driver_link.specs.declared.machine.PlacedWrite.{PlacedWrite}
use Rattle.driver_link.specs.declared.machine.PlannedConcern.{PlannedConcern}
use Rattle.driver_link.specs.declared.machine.Scheduled.{Scheduled}
use Rattle.driver_link.specs.declared.machine.Send.{Send}
use Rattle.driver_link.specs.declared.machine.SendCommand.TheVariants as command
use Rattle.driver_link.specs.declared.machine.Server.{Server}
use Rattle.driver_link.specs.declared.machine.Statement.{Statement}
use Rattle.driver_link.specs.declared.machine.Statement.TheVariants.{Kept, Ran, Failed}
use Rattle.driver_link.specs.declared.machine.WriteKind.TheVariants as write_kind
use Rattle.driver_link.specs.Commands.{needed, optional_value}
use Rattle.driver_link.specs.Cursors.{Reply}
use Rattle.driver_link.specs.Exchange.{after_picks, traced}
use Rattle.driver_link.specs.Numbers.{field, reply_number}
use Rattle.driver_link.specs.Replies.{concern_field, done_field, errors_field, result_of, write_errors, write_reply}
use Rattle.driver_link.specs.Retried.{IsDoneReply}
use Rattle.driver_link.proofs.Lists.{none_is_some, some_is_some}
use Rattle.driver_ops.specs.declared.target.OperationTarget.{OperationTarget}
use Rattle.driver_ops.specs.OperationLaw.{TellsOutput}
use Rattle.driver_ops.specs.Operations.{OperationSpec, ReadsAnswer, ReadsOutput}
use Rattle.driver_ops.specs.Readings.{labels_in}
use Rattle.driver_ops.specs.Responses.{done, said}
use Rattle.driver_ops.specs.Targets.{namespace_of}
use Rattle.driver_ops.specs.WriteReplies.{concern_error_of, write_errors_in}
use Rattle.driver_ops.proofs.PlainReading.{may_be_done, only_memory}
use Rattle.statement_ops.specs.declared.failed_write.FailedWrite.{FailedWrite}
use Rattle.statement_ops.specs.declared.find_and_modify.FindReply.{FindReply}
use Rattle.statement_ops.specs.CountAnswers.{failed_write_in}
use Rattle.statement_ops.specs.FindLawful.{find_reading}
use Rattle.statement_ops.specs.FindingAndModifying.{find_command}
use Rattle.statement_ops.specs.FoundAnswers.{AnswersFind, ReadsFind, find_reply, found_by}
use Rattle.statement_ops.specs.StatementLaw.{CountsStatement, ExchangesStatement, IsReadAsCounted}
use Rattle.statement_ops.specs.StatementSpec.{find_spec, statement_write}
use Rattle.statement_ops.specs.lawful.FindReplies.{reply_found, value_read}
use Rattle.statement_ops.specs.lawful.OneWriteReplies.{IsOneOf}
use Rattle.statement_ops.specs.lawful.StatementReading.{output_told, told_by_reading}
use Rattle.statement_ops.proofs.StatementLaw.{concern_is_failure, counts_one, told_reply, unfailed}

-- the reply to a findAndModify that was done
find_is : (page : Option ℕ) (concern : Option PlannedConcern) (cursors : List (Option (List Reply))) (write : PlacedWrite) (statement : Statement) (result : Counted)
    → result_of statement ≡ Some result → write_reply command.FindAndModify page concern cursors (write ∷ []) (statement ∷ []) ≡ reply_found concern result
unfolding write_reply write_errors
find_is page concern cursors write (Kept found) result counts = ap (reply_found concern) (some_is_some found result counts)
find_is page concern cursors write (Ran found) result counts = ap (reply_found concern) (some_is_some found result counts)
find_is page concern cursors write (Failed code) result counts = absurd (none_is_some result counts)

-- says that its command was done
found_said : (concern : Option PlannedConcern) (result : Counted) → said (reply_found concern result) ≡ done
unfolding said reply_number bson.out-Bson out
found_said None result = refl
found_said (Some concern) result = refl

-- without a write concern error it tells of no failure
found_unfails : (value : Bson) → failed_write_in (done_field ∷ ((field VALUE.now value ∷ errors_field []) ++ concern_field None)) ≡ Some unfailed
unfolding failed_write_in write_errors_in labels_in optional_value
found_unfails value = refl

-- with one it tells of a failure
found_fails : (value : Bson) (concern : PlannedConcern) (failed : FailedWrite)
    → failed_write_in (done_field ∷ ((field VALUE.now value ∷ errors_field []) ++ concern_field (Some concern))) ≡ Some failed → failed.failure ≡ None → ⊥
unfolding failed_write_in write_errors_in labels_in optional_value
found_fails value concern failed read none = concern_is_failure (concern_error_of _) failed read none

-- so one that is read as done has none
found_concern : (concern : Option PlannedConcern) (result : Counted) (failed : FailedWrite) → failed_write_in (reply_found concern result) ≡ Some failed → failed.failure ≡ None → concern ≡ None
found_concern None result failed read none = refl
found_concern (Some concern) result failed read none = absurd (found_fails _ concern failed read none)

-- its fields
abbrev find_of : Option (List (Pair Bson)) → FailedWrite → FindReply
find_of found failed = record { found = found; failed = failed }

found_fields : (result : Counted) → find_reply (reply_found None result) ≡ Some (find_of result.value unfailed)
unfolding find_reply needed
found_fields result =
    let reply = reply_found None result in
    ap (option_and_then (λ found. option_map (λ failed. find_of found failed) (failed_write_in reply))) (value_read result.value)
    ∙ ap (option_map (λ failed. find_of result.value failed)) (found_unfails _)

-- it is read as the document of its result, or as none, and as no error
module _ (result : Counted) where
  found_read : ReadsFind (reply_found None result) (Ok result.value)
  found_read = subst (λ found. AnswersFind found (Ok result.value)) (sym (found_fields result)) (refl, refl)

  found_no_error : (error : Error) → ReadsFind (reply_found None result) (Err error) → kind_of error ≡ kind.Memory
  found_no_error error reads = elim reads [
    | inl memory ↦ memory
    | inr answers ↦ absurd (no_failure (subst (λ found. AnswersFind found (Err error)) (found_fields result) answers))
  ]
    where
      no_failure : AnswersFind (Some (find_of result.value unfailed)) (Err error) → ⊥
      no_failure answers = none_is_some answers.0 answers.1.0

module _ (target : OperationTarget) (filter : List (Pair Bson)) (modification : Modification) (options : FindAndModifyOptions) where
  abbrev spec : OperationSpec (Option (List (Pair Bson)))
  spec = find_spec target filter modification options

  -- a reply that says that a findAndModify was done is read so
  pub find_plain : (write : PlacedWrite) (found : Reply) → IsDoneReply command.FindAndModify write_kind.FindAndModify write found → (bytes : List ℕ) → Spells found bytes
      → (error : Error) → ReadsAnswer spec 1 bytes (Err error) → kind_of error ≡ kind.Memory
  find_plain write found tells bytes spelled error reads =
      let is = tells.is ∙ find_is tells.page None tells.cursors write tells.statement tells.result tells.counts in
      only_memory spec 1 bytes (reply_found None tells.result) (found_said None tells.result) (subst (λ reply. Spells reply bytes) is spelled) (found_no_error tells.result) error reads

  module _ (server : Server) (send : Send) (step : Scheduled) (reply : List ℕ)
      (made : ExchangesStatement command.FindAndModify write_kind.FindAndModify (namespace_of target) (find_command (namespace_of target) filter modification options) server send step reply) where
    abbrev write : PlacedWrite
    write = statement_write write_kind.FindAndModify (namespace_of target) (find_command (namespace_of target) filter modification options) made.asked.place

    one : IsOneOf command.FindAndModify send write
    one = record { out = ap (λ s. s.in_transaction) made.send_is; body = ap (λ s. s.body) made.send_is ∙ made.asked.is }

    -- an output that is read is told by the entry
    only_told : (output : Option (List (Pair Bson))) → ReadsOutput spec 1 reply output → TellsOutput spec server send step output
    only_told output reads = output_told (find_reading target filter modification options) 1 server send step write made.found one made.answer reply made.spelled output reads

    -- and is what the write found
    only_counted : (output : Option (List (Pair Bson))) → ReadsOutput spec 1 reply output → (result : Counted) × (CountsStatement server send step result × (found_by result ≡ Some output))
    only_counted output reads =
        let told = told_by_reading (find_reading target filter modification options) 1 server send step write made.found one made.answer reply made.spelled output reads in
        let plan = told.one.alone.plan in
        let before = traced (after_picks server step.deliver) send in
        let is = told.one.alone.is ∙ find_is plan.page plan.concern before.cursors write told.one.alone.statement told.one.result told.one.counts in
        let none = found_concern plan.concern told.one.result told.read.failed (subst (λ found. failed_write_in found ≡ Some told.read.failed) is told.read.failed_is) told.read.none in
        (told.one.result, (counts_one command.FindAndModify server send step write made.found told.one none, told.counts))

    -- the reply where the write counts so
    spelled_so : (result : Counted) → CountsStatement server send step result → Spells (reply_found None result) reply
    spelled_so result counts =
        let told = told_reply command.FindAndModify server send step write one made.found made.answer result counts in
        subst (λ document. Spells document reply) (told.1.1.1.1 ∙ find_is told.0 None told.1.0 write told.1.1.0 result told.1.1.1.0) made.spelled

    -- it is read as done exactly where its write counts so, and there is no write concern error
    pub find_exactly : IsReadAsCounted spec found_by server send step reply
    find_exactly = record {
      only = λ output reads. (only_counted output reads, only_told output reads);
      done = λ result output counts is.
          may_be_done spec 1 reply (reply_found None result) (found_said None result) (spelled_so result counts) output
          (subst (λ value. ReadsFind (reply_found None result) (Ok value)) (some_is_some result.value output is) (found_read result));
      there = λ result output counts is error reads.
          only_memory spec 1 reply (reply_found None result) (found_said None result) (spelled_so result counts) (found_no_error result) error reads;
    }
