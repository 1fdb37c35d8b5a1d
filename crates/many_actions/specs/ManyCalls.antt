-- One call of an insert of many documents: its ids, its batches, and the answer that their ends tell.
use Rattle.std.specs.Prelude.{◌≡◌, ℕ, List, Option, Result, Ok, Err, ◌⊎◌}
use Rattle.bson_lite.specs.declared.bson.Bson.{Bson}
use Rattle.bson_lite.specs.declared.document.Pair.{Pair}
use Rattle.driver_error.specs.declared.error.Error.{Error}
use Rattle.driver_error.specs.declared.kind.ErrorKind.TheVariants as kind
use Rattle.server_answers.specs.declared.results.InsertManyResult.{InsertManyResult}
use Rattle.driver_error.specs.Error.{ErrorKind, kind_of}
use Rattle.driver_options.specs.declared.write_options.InsertManyOptions.{InsertManyOptions}
use Rattle.driver_ops.specs.declared.target.OperationTarget.{OperationTarget}
use Rattle.driver_ops.specs.Targets.{namespace_of}
use Rattle.write_ops.specs.declared.own_document.OwnDocument.{OwnDocument}
use Rattle.driver_attempt.specs.Causes.{ErrorOutline, end_of}
use Rattle.driver_attempt.specs.Moment.{Moment}
use Rattle.many_actions.specs.Batches.{BatchEnd, MakesBatches}
use Rattle.driver_actions.specs.Causes.{TellsKind}
use Rattle.many_actions.specs.ManyAnswers.{AnswersMany}
use Rattle.driver_actions.specs.ManyIds.{MayDrawAllBy, OwnsAll}
use Rattle.driver_inputs.specs.ManyInputs.{IsManyAccepted, ManyInputRefused, TellsManyInput}

-- a call ended for want of memory
abbrev pub RanShort : {A : Type 0} → Result A Error → Type 0
RanShort (Ok output) = ⊥
RanShort (Err error) = kind_of error ≡ kind.Memory

-- the caller's documents, whose input is accepted, got their ids; then their batches were made, one after another from the first
-- document on, and the answer is what their ends tell. Documents are left without a batch only behind an end that stops the call, or where
-- memory ran out
pub record MadeMany (before now : Moment) (target : OperationTarget) (documents : List (List (Pair Bson))) (options : InsertManyOptions) (call : ℕ) (result : Result InsertManyResult Error) : Type 0 where
  pub accepted : IsManyAccepted (namespace_of target) documents options
  pub mid : Moment
  pub own : List OwnDocument
  pub owns : OwnsAll before.store mid.store documents own
  pub rest : mid ≡ record before { store = mid.store }
  pub ends : List BatchEnd
  pub batches : MakesBatches (RanShort result) target options call 0 own ends mid now
  pub answers : AnswersMany ends result

-- nothing was asked or sent: the input is refused, or there was no memory, and then ids may have been drawn
pub record UnmadeMany (before now : Moment) (target : OperationTarget) (documents : List (List (Pair Bson))) (options : InsertManyOptions) (error : Error) : Type 0 where
  pub draws : MayDrawAllBy before now documents error
  pub why : TellsManyInput (namespace_of target) documents options error

-- one call of an insert of many documents
abbrev pub MakesMany : Moment → Moment → OperationTarget → List (List (Pair Bson)) → InsertManyOptions → ℕ → Result InsertManyResult Error → Type 0
MakesMany before now target documents options call (Ok output) = MadeMany before now target documents options call (Ok output)
MakesMany before now target documents options call (Err error) =
    UnmadeMany before now target documents options error ⊎ MadeMany before now target documents options call (Err error)

-- an insert whose input is refused is answered so, and nothing changed: no id was drawn, and nothing asked of the link
pub record RefusesManyFirst (before now : Moment) (target : OperationTarget) (documents : List (List (Pair Bson))) (options : InsertManyOptions) (ended : Option ErrorOutline) : Type 0 where
  pub tells : (why : ErrorKind) → ManyInputRefused (namespace_of target) documents options why → TellsKind why ended
  pub undone : (why : ErrorKind) → ManyInputRefused (namespace_of target) documents options why → now ≡ before

-- an insert of many documents ended with its cause: it was made, each batch with its cause, or its input was refused, or memory ran
-- out; and input that is refused was refused before anything was drawn or asked
pub record ManyCaused (before now : Moment) (target : OperationTarget) (documents : List (List (Pair Bson))) (options : InsertManyOptions) (call : ℕ) (result : Result InsertManyResult Error) : Type 0 where
  pub makes : MakesMany before now target documents options call result
  pub refused : RefusesManyFirst before now target documents options (end_of result)
