-- What the machine's reply to an insert tells: how its statements ended, and where it is read as done each has a result.
use Rattle.std.proofs.Common.{◌≡◌, ℕ, zero, suc, ◌+◌, Bool, true, false, ◌&&◌, MatchBool, List, [], ◌∷◌, length, take, refl, sym, ap, subst, ◌∙◌, inl, inr}
use Rattle.std.specs.Prelude.{Option, None, Some, Ok, is_none, if◌then◌else◌}
use Rattle.std.specs.Option.{option_map}
use Rattle.std.proofs.lemmas.Bool.{and_parts}
use Rattle.bson_lite.specs.Spelling.{Spells}
use Rattle.server_answers.specs.declared.results.InsertManyResult.{InsertManyResult}
use Rattle.driver_error.specs.declared.write.IndexedWriteError.{IndexedWriteError}
use Rattle.driver_options.specs.declared.write_options.InsertManyOptions.{InsertManyOptions}
use Rattle.wire_keys.specs.declared.keys.TheConstants.{OK}
use Rattle.driver_link.specs.declared.machine.Failing.{Failing}
use Rattle.driver_link.specs.declared.machine.Item.{Item}
use Rattle.driver_link.specs.declared.machine.Item.TheVariants.{Serve}
use Rattle.driver_link.specs.declared.machine.PlacedWrite.{PlacedWrite}
use Rattle.driver_link.specs.declared.machine.Planned.{Planned}
use Rattle.driver_link.specs.declared.machine.PlannedConcern.{PlannedConcern}
use Rattle.driver_link.specs.declared.machine.Scheduled.{Scheduled}
use Rattle.driver_link.specs.declared.machine.Send.{Send}
use Rattle.driver_link.specs.declared.machine.SendBody.TheVariants.{Write}
use Rattle.driver_link.specs.declared.machine.SendCommand.TheVariants as command
use Rattle.driver_link.specs.declared.machine.Server.{Server}
use Rattle.driver_link.specs.declared.machine.Statement.{Statement}
use Rattle.driver_link.specs.declared.machine.Statement.TheVariants.{Kept, Ran, Failed}
use Rattle.driver_link.specs.Cases.{outside, known_of, results_of}
use Rattle.driver_link.specs.Cursors.{Reply}
use Rattle.driver_link.specs.Exchange.{after_picks, answered, reply, traced}
use Rattle.driver_link.specs.Replies.{body_reply, write_reply}
use Rattle.driver_link.specs.Serving.{Plan, done_in}
use Rattle.driver_link.specs.Settled.{IsWrite}
use Rattle.driver_link.specs.Statements.{Results, has_failed, is_failed, statement_at, statements}
use Rattle.driver_ops.specs.declared.target.OperationTarget.{OperationTarget}
use Rattle.driver_ops.specs.Inserts.{insert_is_ordered, int_at, is_one}
use Rattle.driver_ops.specs.Operations.{ReadsOutput}
use Rattle.driver_ops.specs.Served.{met_statements, statements_in}
use Rattle.driver_ops.specs.lawful.ReplyNumbers.{error_not_one}
use Rattle.driver_ops.specs.lawful.InsertRead.{differ, ok_is_one, spells_one}
use Rattle.driver_ops.specs.lawful.Statements.{TellsStatements, reply_of_writes, told_outside, told_reply}
use Rattle.write_ops.specs.declared.insert.InsertReply.{InsertReply}
use Rattle.write_ops.specs.declared.own_document.OwnDocument.{OwnDocument}
use Rattle.write_ops.specs.InsertAnswers.{AnswersFound, AnswersReply, errors_there, insert_reply, is_unfailed}
use Rattle.write_ops.specs.InsertLaw.{concern_told, errors_told}
use Rattle.write_ops.specs.InsertSpec.{insert_spec}
use Rattle.write_ops.specs.lawful.InsertFields.{error_with, fields_told, reply_read, reply_to}

-- how the statements of so many writes end: one stands for each, but for those behind one that failed in an ordered send
abbrev pub EndAs : Bool → ℕ → List Statement → Type 0
EndAs ordered zero [] = Unit {0}
EndAs ordered zero (statement ∷ done) = ⊥
EndAs ordered (suc count) [] = ⊥
EndAs ordered (suc count) (statement ∷ done) = MatchBool (ordered && is_failed statement) (done ≡ []) (EndAs ordered count done)

-- behind one that did not fail stand the others
pub goes_on : (ordered : Bool) (count : ℕ) (statement : Statement) (done : List Statement) → is_failed statement ≡ false → EndAs ordered (suc count) (statement ∷ done)
    → EndAs ordered count done
goes_on true count (Kept result) done unfailed ends = ends
goes_on true count (Ran result) done unfailed ends = ends
goes_on true count (Failed code) done unfailed ends = absurd (differ (sym unfailed))
goes_on false count statement done unfailed ends = ends

-- the statements behind the first, where it stops them and where it does not
rest_ends : (ordered stops : Bool) (count : ℕ) (rest : List Statement) → EndAs ordered count rest
    → MatchBool stops (◌≡◌ {A = List Statement} (if stops then [] else rest) []) (EndAs ordered count (if stops then [] else rest))
rest_ends ordered true count rest ends = refl
rest_ends ordered false count rest ends = ends

-- the statements of writes end so
statements_end : (results : List Planned) (fail : List Failing) (ordered : Bool) (kept : Results) (at : ℕ) (writes : List PlacedWrite)
    → EndAs ordered (length writes) (statements results fail ordered kept at writes)
unfolding statements
statements_end results fail ordered kept at [] = tt
statements_end results fail ordered kept at (write ∷ writes) =
    rest_ends ordered (ordered && is_failed (statement_at results fail kept at write)) (length writes) (statements results fail ordered kept (at + 1) writes)
    (statements_end results fail ordered kept (at + 1) writes)

-- the reply to an insert that was served
reply_is : (page : Option ℕ) (concern : Option PlannedConcern) (cursors : List (Option (List Reply))) (writes : List PlacedWrite) (done : List Statement)
    → write_reply command.Insert page concern cursors writes done ≡ reply_to done concern
unfolding write_reply
reply_is page concern cursors writes done = refl

-- a send of the insert of documents, outside transactions
pub record IsInsertSend (ordered : Bool) (writes : List PlacedWrite) (send : Send) : Type 0 where
  pub out : send.in_transaction ≡ false
  pub body : send.body ≡ Write command.Insert ordered writes

-- the reply to such a send tells how its statements ended
pub record IsInsertTold (ordered : Bool) (writes : List PlacedWrite) (item : Item) (done : List Statement) (found : Reply) : Type 0 where
  pub plan : Plan
  pub item_is : item ≡ Serve plan.results plan.fail plan.concern plan.page
  pub ends : EndAs ordered (length writes) done
  pub is : found ≡ reply_to done plan.concern

-- where its statements are told the reply tells of them
pub insert_told : (ordered : Bool) (writes : List PlacedWrite) (server : Server) (send : Send) → IsInsertSend ordered writes send → (item : Item) (done : List Statement) (found : Reply)
    → met_statements server send item ≡ Some done → reply server send item ≡ Some found → IsInsertTold ordered writes item done found
insert_told ordered writes server send sent item done found told is =
    let served_so = told_outside server send item done told in
    let plan = served_so.plan in
    let kept = results_of (known_of server send) in
    let done_is : done ≡ statements plan.results plan.fail ordered kept 0 writes = served_so.done_is ∙ ap (done_in outside plan kept) sent.body in
    record {
      plan = plan;
      item_is = served_so.item_is;
      ends = subst (EndAs ordered (length writes)) (sym done_is) (statements_end plan.results plan.fail ordered kept 0 writes);
      is =
          told_reply server send item done found served_so is
          ∙ ap (λ body. body_reply body plan server.cursors done) sent.body
          ∙ reply_is plan.page plan.concern server.cursors writes done;
    }

-- one exchange of an insert whose reply is read as done: its statements are told, and its fields are answered by the output
pub record IsInsertRead (ordered : Bool) (writes : List PlacedWrite) (documents : List OwnDocument) (server : Server) (send : Send) (step : Scheduled) (found : Reply) (output : InsertManyResult) : Type 0 where
  pub done : List Statement
  pub told : statements_in server send step ≡ Some done
  pub ended : IsInsertTold ordered writes step.item done found
  pub answers : AnswersFound ordered documents (fields_told done ended.plan.concern) (Ok output)

-- what its fields are answered with
answers_told : (ordered : Bool) (documents : List OwnDocument) (done : List Statement) (concern : Option PlannedConcern) (found : Reply) (bytes : List ℕ) (output : InsertManyResult)
    → found ≡ reply_to done concern → Spells found bytes → AnswersReply ordered documents (insert_reply found) (Ok output) → AnswersFound ordered documents (fields_told done concern) (Ok output)
answers_told ordered documents done concern found bytes output is spelled answers =
    let here = subst (λ (r : Reply). AnswersReply ordered documents (insert_reply r) (Ok output)) is answers in
    subst (λ (fields : Option InsertReply). AnswersReply ordered documents fields (Ok output)) (reply_read done concern bytes (subst (λ (r : Reply). Spells r bytes) is spelled)) here

-- by what its reply tells
read_told : (ordered : Bool) (writes : List PlacedWrite) (documents : List OwnDocument) (server : Server) (send : Send) (step : Scheduled) (found : Reply) (bytes : List ℕ) (output : InsertManyResult)
    → IsInsertSend ordered writes send → reply (traced (after_picks server step.deliver) send) send step.item ≡ Some found → Spells found bytes
    → AnswersReply ordered documents (insert_reply found) (Ok output) → TellsStatements (traced (after_picks server step.deliver) send) send step.item found
    → IsInsertRead ordered writes documents server send step found output
unfolding statements_in
read_told ordered writes documents server send step found bytes output sent answer spelled answers tells =
    let ended = insert_told ordered writes (traced (after_picks server step.deliver) send) send sent step.item tells.done found tells.told answer in
    record {
      done = tells.done;
      told = tells.told;
      ended = ended;
      answers = answers_told ordered documents tells.done ended.plan.concern found bytes output ended.is spelled answers;
    }

-- a reply that is read as done is none that spells an error
read_done : (ordered : Bool) (writes : List PlacedWrite) (documents : List OwnDocument) (server : Server) (send : Send) (step : Scheduled) (found : Reply) (bytes : List ℕ) (output : InsertManyResult)
    → IsInsertSend ordered writes send → answered server send step ≡ Some found → Spells found bytes → is_one (int_at OK.now found) ≡ true
    → AnswersReply ordered documents (insert_reply found) (Ok output) → IsInsertRead ordered writes documents server send step found output
unfolding answered
read_done ordered writes documents server send step found bytes output sent answer spelled one answers =
    let before = traced (after_picks server step.deliver) send in
    elim (reply_of_writes before send step.item found sent.out (subst IsWrite (sym sent.body) tt) answer) [
      | inl error ↦ absurd (differ (sym (ap (λ reply. is_one (int_at OK.now reply)) error.is ∙ error_not_one error.code error.labels) ∙ one))
      | inr tells ↦ read_told ordered writes documents server send step found bytes output sent answer spelled answers tells
    ]

-- an insert is read as done only in such an exchange
pub told_by_reading : (target : OperationTarget) (first : ℕ) (own : List OwnDocument) (options : InsertManyOptions) (count : ℕ) (writes : List PlacedWrite) (server : Server) (send : Send) (step : Scheduled) (found : Reply)
    → IsInsertSend (insert_is_ordered options) writes send → answered server send step ≡ Some found → (bytes : List ℕ) → Spells found bytes → (output : InsertManyResult)
    → ReadsOutput (insert_spec target first own options) count bytes output → IsInsertRead (insert_is_ordered options) writes (take count own) server send step found output
told_by_reading target first own options count writes server send step found sent answer bytes spelled output reads =
    let same = spells_one reads.response.body found bytes reads.done.spelled spelled in
    let one = subst (λ (r : Reply). is_one (int_at OK.now r) ≡ true) same (ok_is_one reads.response.body reads.done.is) in
    let answers = subst (λ (r : Reply). AnswersReply (insert_is_ordered options) (take count own) (insert_reply r) (Ok output)) same reads.reads in
    read_done (insert_is_ordered options) writes (take count own) server send step found bytes output sent answer spelled one answers

-- no write errors are there
no_errors_there : (errors : List IndexedWriteError) → is_none (errors_there errors) ≡ true → errors ≡ []
no_errors_there [] none = refl
no_errors_there (error ∷ errors) none = absurd (differ none)

-- no write concern error is there
no_concern_there : (concern : Option PlannedConcern) → is_none (option_map concern_told concern) ≡ true → concern ≡ None
no_concern_there None none = refl
no_concern_there (Some concern) none = absurd (differ none)

-- where no write error is told no statement failed
none_failed : (at : ℕ) (done : List Statement) → errors_told at done ≡ [] → has_failed done ≡ false
unfolding errors_told
none_failed at [] none = refl
none_failed at (Kept result ∷ done) none = none_failed (at + 1) done none
none_failed at (Ran result ∷ done) none = none_failed (at + 1) done none
none_failed at (Failed code ∷ done) none = absurd (let e : ◌≡◌ {A = List IndexedWriteError} (error_with at code ∷ errors_told (at + 1) done) [] = none in cc)

-- where the fields tell of no failure no statement failed, and there is no write concern error
pub unfailed_told : (done : List Statement) (concern : Option PlannedConcern) → is_unfailed (fields_told done concern) ≡ true → (has_failed done ≡ false) × (concern ≡ None)
unfailed_told done concern unfailed =
    let parts = and_parts (is_none (errors_there (errors_told 0 done))) (is_none (option_map concern_told concern)) unfailed in
    (none_failed 0 done (no_errors_there (errors_told 0 done) parts.0), no_concern_there concern parts.1)
