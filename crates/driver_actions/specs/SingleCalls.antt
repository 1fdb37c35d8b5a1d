-- One call of a single write: what of it is sent, its operation, and the answer that it tells.
use Rattle.std.specs.Prelude.{◌≡◌, ℕ, ◌≤◌, List, [], ◌∷◌, length, Some, ◌⊎◌, Result, Ok, Err}
use Rattle.bson_lite.specs.declared.bson.Bson.{Bson}
use Rattle.bson_lite.specs.declared.bson.ObjectId.{ObjectId}
use Rattle.bson_lite.specs.declared.document.Pair.{Pair}
use Rattle.bson_lite.specs.declared.namespace.Namespace.{Namespace}
use Rattle.bson_lite.specs.Fields.{id_key, value_of, with_id}
use Rattle.bson_lite.specs.Spelling.{Spells}
use Rattle.driver_error.specs.declared.error.Error.{Error}
use Rattle.server_answers.specs.declared.results.InsertManyResult.{InsertManyResult}
use Rattle.driver_options.specs.declared.write_options.InsertManyOptions.{InsertManyOptions}
use Rattle.driver_link.specs.declared.machine.Place.{Place}
use Rattle.driver_link.specs.declared.machine.SendBody.{SendBody}
use Rattle.driver_link.specs.declared.machine.Written.{Written}
use Rattle.driver_session.specs.StoreTells.{Draws, LendsAsBefore}
use Rattle.driver_ops.specs.Operations.{AsksFor, OperationSpec, batch_of}
use Rattle.driver_ops.specs.SendKinds.{first}
use Rattle.driver_ops.specs.Targets.{in_collection}
use Rattle.write_ops.specs.declared.own_document.OwnDocument.{OwnDocument}
use Rattle.write_ops.specs.InsertSpec.{insert_spec}
use Rattle.statement_ops.specs.StatementSpec.{delete_spec, find_spec, update_spec}
use Rattle.driver_attempt.specs.Causes.{end_of}
use Rattle.driver_attempt.specs.Executing.{Executes}
use Rattle.driver_attempt.specs.Moment.{Moment}
use Rattle.driver_exec.specs.Keeping.{KeepsInvariant, OkHasEntries}
use Rattle.driver_exec.specs.OperationCauses.{Caused}
use Rattle.driver_exec.specs.Resending.{SendsOneCommand}
use Rattle.driver_actions.specs.OwnIds.{DrawsOwn, MayDrawBy}
use Rattle.driver_actions.specs.Singles.{BecomesSingle}
use Rattle.driver_inputs.specs.declared.call.SingleAnswer.{SingleAnswer}
use Rattle.driver_inputs.specs.declared.call.SingleAnswer.TheVariants.{Deleted, Found, Inserted, Updated}
use Rattle.driver_inputs.specs.Forms.{WriteForm, asked_in, deletes, finds, inserts, updates, written_in}
use Rattle.driver_inputs.specs.Inputs.{IsAccepted, TellsInput}

-- the operation of a write of one statement was executed, in one place and with two sends of one command at most; it ended with
-- its cause, and its error took the form of a single write's; it kept what stands, and has its entry where it was done
pub record Runs {A : Type 0} (spec : OperationSpec A) (asked : SendBody) (place : Place) (before now : Moment) (ended : Result A Error) : Type 0 where
  pub asks : AsksFor spec (batch_of (place ∷ []) 1) asked
  pub executed : Result A Error
  pub count : ℕ
  pub executes : Executes spec (batch_of (place ∷ []) 1) first before now 0 count (Some 1) (Some 1) executed
  pub twice : count ≤ 2
  pub one_command : SendsOneCommand spec (batch_of (place ∷ []) 1) before now executed
  pub caused : Caused spec first (Some 1) before now (end_of executed)
  pub becomes : BecomesSingle executed ended
  pub keeps : KeepsInvariant spec.paged before now asked
  pub entries : OkHasEntries spec asked before now executed
  pub lent : LendsAsBefore before.store now.store
  pub drawn : Draws before.store now.store

-- an output is answered so, and an error is handed on
abbrev pub Tells : {A : Type 0} → (A → SingleAnswer) → Result A Error → Result SingleAnswer Error → Type 0
Tells form (Ok output) (Ok given) = given ≡ form output
Tells form (Ok output) (Err error) = ⊥
Tells form (Err error) result = result ≡ Err error

-- the insert of the caller's document with its id, its own or the one that was drawn for it, which the answer tells
pub record RunsInsert (before mid now : Moment) (namespace : Namespace) (document : List (Pair Bson)) (options : InsertManyOptions) (place : Place) (sent : Written) (result : Result SingleAnswer Error) : Type 0 where
  pub id : ObjectId
  pub twelve : length id.bytes ≡ 12
  pub draws : DrawsOwn before mid document id
  pub sent_is : sent ≡ written_in (inserts namespace (with_id id document) options)
  pub own : OwnDocument
  pub spelled : Spells (with_id id document) own.bytes
  pub found : value_of id_key (with_id id document) ≡ Some own.id
  pub ended : Result InsertManyResult Error
  pub runs : Runs (insert_spec (in_collection namespace) 0 (own ∷ []) options) (asked_in (inserts namespace document options) place sent) place mid now ended
  pub tells : Tells (λ output. Inserted (record { inserted_id = own.id })) ended result

-- the operation of a write that is sent as it was given, and of which nothing is drawn
pub record RunsGiven {A : Type 0} (spec : OperationSpec A) (answers : A → SingleAnswer) (form : WriteForm) (before mid now : Moment) (place : Place) (sent : Written) (result : Result SingleAnswer Error) : Type 0 where
  pub same : mid ≡ before
  pub sent_is : sent ≡ written_in form
  pub ended : Result A Error
  pub runs : Runs spec (asked_in form place sent) place mid now ended
  pub tells : Tells answers ended result

-- the operation of a write by what it does
abbrev pub RunsForm : WriteForm → Moment → Moment → Moment → Place → Written → Result SingleAnswer Error → Type 0
RunsForm (inserts namespace document options) before mid now place sent result = RunsInsert before mid now namespace document options place sent result
RunsForm (updates namespace filter change multi options) before mid now place sent result =
    RunsGiven (update_spec (in_collection namespace) filter change multi options) (λ output. Updated output) (updates namespace filter change multi options) before mid now place sent result
RunsForm (deletes namespace filter multi options) before mid now place sent result =
    RunsGiven (delete_spec (in_collection namespace) filter multi options) (λ output. Deleted output) (deletes namespace filter multi options) before mid now place sent result
RunsForm (finds namespace filter modification options) before mid now place sent result =
    RunsGiven (find_spec (in_collection namespace) filter modification options) (λ output. Found output) (finds namespace filter modification options) before mid now place sent result

-- a call's own write, whose input is accepted, was made, or its operation failed, once the id of its document was drawn, if it is
-- an insert of one without
pub record Made (before now : Moment) (form : WriteForm) (place : Place) (result : Result SingleAnswer Error) : Type 0 where
  pub accepted : IsAccepted form
  pub sent : Written
  pub mid : Moment
  pub runs : RunsForm form before mid now place sent result

-- what a call that asked nothing may have drawn: an insert an id, where memory ran out, and other writes nothing
abbrev pub MayDrawFor : WriteForm → Moment → Moment → Error → Type 0
MayDrawFor (inserts namespace document options) before now error = MayDrawBy before now document error
MayDrawFor (updates namespace filter change multi options) before now error = now ≡ before
MayDrawFor (deletes namespace filter multi options) before now error = now ≡ before
MayDrawFor (finds namespace filter modification options) before now error = now ≡ before

-- nothing was asked or sent: the input is refused, or there was no memory, and then an id may have been drawn
pub record Unmade (before now : Moment) (form : WriteForm) (error : Error) : Type 0 where
  pub draws : MayDrawFor form before now error
  pub why : TellsInput form error

-- one call of a single write
abbrev pub Makes : Moment → Moment → WriteForm → Place → Result SingleAnswer Error → Type 0
Makes before now form place (Ok given) = Made before now form place (Ok given)
Makes before now form place (Err error) = Unmade before now form error ⊎ Made before now form place (Err error)

-- the first place of a call
abbrev pub first_place : ℕ → Place
first_place call = record { call = call; index = 0 }
