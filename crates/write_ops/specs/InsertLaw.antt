-- What an insert reads in the model server's own reply to its send.
use Rattle.std.specs.Prelude.{◌≡◌, ℕ, ◌+◌, ◌<◌, ◌≤◌, pos, true, false, List, [], ◌∷◌, length, take, Option, None, Some, IsSome, ◌⊎◌, Ok, Err, if◌then◌else◌}
use Rattle.std.specs.FinMap as finite
use Rattle.std.specs.Option.{option_map}
use Rattle.std.specs.Ordering.{nat_cmp}
use Rattle.bson_lite.specs.declared.bson.Bson.{Bson}
use Rattle.bson_lite.specs.Spelling.{Spells}
use Rattle.driver_error.specs.declared.error.Error.{Error}
use Rattle.driver_error.specs.declared.kind.ErrorKind.TheVariants as kind
use Rattle.server_answers.specs.declared.results.InsertManyResult.{InsertManyResult}
use Rattle.driver_error.specs.declared.write.IndexedWriteError.{IndexedWriteError}
use Rattle.driver_error.specs.declared.write.InsertManyError.{InsertManyError}
use Rattle.driver_error.specs.declared.write.WriteConcernError.{WriteConcernError}
use Rattle.driver_error.specs.Error.{kind_of, labels_of}
use Rattle.driver_error.specs.LabelTexts.{no_labels}
use Rattle.driver_options.specs.declared.write_options.InsertManyOptions.{InsertManyOptions}
use Rattle.wire_keys.specs.declared.keys.TheConstants.{SCHEDULED}
use Rattle.driver_link.specs.declared.machine.Item.{Item}
use Rattle.driver_link.specs.declared.machine.Item.TheVariants.{Serve}
use Rattle.driver_link.specs.declared.machine.Place.{Place}
use Rattle.driver_link.specs.declared.machine.PlannedConcern.{PlannedConcern}
use Rattle.driver_link.specs.declared.machine.Scheduled.{Scheduled}
use Rattle.driver_link.specs.declared.machine.Send.{Send}
use Rattle.driver_link.specs.declared.machine.SendBody.{SendBody}
use Rattle.driver_link.specs.declared.machine.Server.{Server}
use Rattle.driver_link.specs.declared.machine.Statement.{Statement}
use Rattle.driver_link.specs.declared.machine.Statement.TheVariants.{Failed}
use Rattle.driver_link.specs.Cursors.{Reply}
use Rattle.driver_link.specs.Exchange.{answered}
use Rattle.driver_link.specs.Replies.{results_in, sum_of}
use Rattle.driver_link.specs.Statements.{has_failed, is_failed}
use Rattle.driver_ops.specs.declared.target.OperationTarget.{OperationTarget}
use Rattle.driver_ops.specs.Fields.{SendContext}
use Rattle.driver_ops.specs.OperationLaw.{TellsOutput}
use Rattle.driver_ops.specs.Operations.{ReadsAnswer, send_of}
use Rattle.driver_ops.specs.Served.{statements_in}
use Rattle.driver_ops.specs.Targets.{namespace_of}
use Rattle.statement_ops.specs.StatementLaw.{planned_concern}
use Rattle.write_ops.specs.declared.own_document.OwnDocument.{OwnDocument}
use Rattle.write_ops.specs.InsertAnswers.{all_ids, errors_there, odd_insert_text}
use Rattle.write_ops.specs.InsertSpec.{AsksInsert, insert_spec}

-- the write concern error of a plan, as a client reads it
abbrev pub concern_told : PlannedConcern → WriteConcernError
concern_told concern = record { code = concern.code; code_name = []; message = concern.message; details = None; labels = [] }

-- the write error of a statement that failed, at its position, beside those of the later ones
abbrev pub errors_told_by : ℕ → Statement → List IndexedWriteError → List IndexedWriteError
errors_told_by at (Failed code) rest = record { index = at; code = code; code_name = None; message = SCHEDULED.now; details = None } ∷ rest
errors_told_by at other rest = rest

-- the write errors of the statements that failed, as a client reads them, the first statement at a position
unfoldable pub errors_told : ℕ → List Statement → List IndexedWriteError
errors_told at [] = []
errors_told at (statement ∷ done) = errors_told_by at statement (errors_told (at + 1) done)

-- the ids of the documents whose statements ran now or had their kept results, by their indexes, the first at an index
unfoldable pub ids_ended : ℕ → List Statement → List OwnDocument → finite.FinMap nat_cmp Bson
ids_ended at [] own = finite.empty
ids_ended at (statement ∷ done) [] = finite.empty
ids_ended at (statement ∷ done) (document ∷ own) =
    if is_failed statement then ids_ended (at + 1) done own else finite.insert (ids_ended (at + 1) done own) at document.id

-- the failures of an insert of these documents, exactly as its statements ended
abbrev pub failures_told : List Statement → Option PlannedConcern → List OwnDocument → InsertManyError
failures_told done concern own = record {
  write_errors = errors_there (errors_told 0 done);
  write_concern_error = option_map concern_told concern;
  inserted_ids = ids_ended 0 done own;
}

-- the results of the statements that did not fail count so many documents together as there are results
abbrev pub AddsUp : List Statement → Type 0
AddsUp done = sum_of (λ result. result.n) (results_in done) ≡ pos (length (results_in done))

-- in one exchange no statement of a send failed, their results count one document each together, and there is no write concern error
pub record CountsDocuments (server : Server) (send : Send) (step : Scheduled) : Type 0 where
  pub done : List Statement
  pub told : statements_in server send step ≡ Some done
  pub unfailed : has_failed done ≡ false
  pub adds_up : AddsUp done
  pub concern : planned_concern step.item ≡ None

-- in one exchange a statement of a send failed, or there is a write concern error; the results of the others count one document
-- each together
pub record FailsDocuments (server : Server) (send : Send) (step : Scheduled) (done : List Statement) : Type 0 where
  pub told : statements_in server send step ≡ Some done
  pub failed : (has_failed done ≡ true) ⊎ IsSome (planned_concern step.item)
  pub adds_up : AddsUp done

-- one exchange of the insert of so many of these documents, outside transactions, with the machine's own reply to it in bytes
pub record ExchangesInsert (target : OperationTarget) (own : List OwnDocument) (options : InsertManyOptions) (statements : ℕ) (server : Server) (send : Send) (step : Scheduled) (reply : List ℕ) : Type 0 where
  pub some : 0 < statements
  pub within : statements ≤ length own
  pub places : List Place
  pub body : SendBody
  pub asks : AsksInsert (namespace_of target) own options statements places body
  pub context : SendContext
  pub send_is : send ≡ send_of context body
  pub found : Reply
  pub answer : answered server send step ≡ Some found
  pub spelled : Spells found reply

-- an error tells of the failures exactly as the statements ended, without labels
pub record TellsFailures (done : List Statement) (concern : Option PlannedConcern) (own : List OwnDocument) (error : Error) : Type 0 where
  pub kind_is : kind_of error ≡ kind.InsertMany (failures_told done concern own)
  pub labels_are : labels_of error ≡ no_labels

-- the reply is read as done only where each document was counted, and then their entries tell the output; there it is read as
-- done, and as nothing else unless memory runs out. Where some failed and the others were counted, the error tells exactly that;
-- where the counts do not add up, that the reply is odd
pub record IsReadExactly (target : OperationTarget) (first : ℕ) (own : List OwnDocument) (options : InsertManyOptions) (statements : ℕ) (server : Server) (send : Send) (step : Scheduled) (reply : List ℕ) : Type 0 where
  pub only : (output : InsertManyResult) → ReadsAnswer (insert_spec target first own options) statements reply (Ok output)
      → CountsDocuments server send step × TellsOutput (insert_spec target first own options) server send step output
  pub done : CountsDocuments server send step → ReadsAnswer (insert_spec target first own options) statements reply (Ok (all_ids (take statements own)))
  pub there : CountsDocuments server send step → (error : Error) → ReadsAnswer (insert_spec target first own options) statements reply (Err error)
      → kind_of error ≡ kind.Memory
  pub failed : (done : List Statement) → FailsDocuments server send step done → (error : Error) → ReadsAnswer (insert_spec target first own options) statements reply (Err error)
      → (kind_of error ≡ kind.Memory) ⊎ TellsFailures done (planned_concern step.item) (take statements own) error
  pub odd : (done : List Statement) → statements_in server send step ≡ Some done → (AddsUp done → ⊥) → (error : Error)
      → ReadsAnswer (insert_spec target first own options) statements reply (Err error) → (kind_of error ≡ kind.Memory) ⊎ (kind_of error ≡ kind.InvalidResponse odd_insert_text)
