-- What the functions that make the batches of an insert say of themselves.
use Rattle.std.specs.Prelude.{◌≡◌, ℕ, ◌+◌, ◌<◌, ◌≤◌, Bool, true, false, List, drop, Result, Ok, Err, ◌⊎◌}
use Rattle.bson_lite.specs.declared.bson.Bson.{Bson}
use Rattle.bson_lite.specs.declared.document.Pair.{Pair}
use Rattle.driver_error.specs.declared.error.Error.{Error}
use Rattle.driver_error.specs.declared.kind.ErrorKind.TheVariants as kind
use Rattle.server_answers.specs.declared.results.InsertManyResult.{InsertManyResult}
use Rattle.driver_error.specs.Error.{kind_of}
use Rattle.driver_options.specs.declared.write_options.InsertManyOptions.{InsertManyOptions}
use Rattle.driver_ops.specs.declared.target.OperationTarget.{OperationTarget}
use Rattle.driver_ops.specs.Inserts.{insert_is_ordered}
use Rattle.write_ops.specs.declared.own_document.OwnDocument.{OwnDocument}
use Rattle.write_ops.specs.InsertSpec.{AreOwn}
use Rattle.driver_attempt.specs.Failures.{MemoryAlone}
use Rattle.driver_attempt.specs.Moment.{Moment}
pub use Rattle.many_actions.specs.BatchPlans.{IsCount}
use Rattle.many_actions.specs.declared.behind.Behind.{Behind}
use Rattle.many_actions.specs.declared.behind.Behind.TheVariants.{Next, Over, Stopped}
use Rattle.many_actions.specs.declared.gathered.Gathered.{Gathered}
use Rattle.many_actions.specs.Batches.{BatchEnd, MakesBatch, MakesBatches, goes_on, is_of_documents}
use Rattle.many_actions.specs.ManyAnswers.{AllOfDocuments, AnswersMany, EndsAlone, gathered, nothing_gathered, with_result}
use Rattle.many_actions.specs.ManyCalls.{RanShort}

-- there are documents that these are, each with its spelling and its id
pub record AreSpelled (own : List OwnDocument) : Type 0 where
  pub documents : List (List (Pair Bson))
  pub are_own : AreOwn documents own

-- a batch was made of the documents that are left, and came to this; where that is an end of documents, so many are in it
pub record BatchMade (target : OperationTarget) (options : InsertManyOptions) (call index : ℕ) (own : List OwnDocument) (before now : Moment) (count : ℕ) (came : Result InsertManyResult Error) : Type 0 where
  pub end : BatchEnd
  pub makes : MakesBatch target options call index own before now end
  pub result_is : end.result ≡ came
  pub counted : is_of_documents came ≡ true → IsCount own end.statements count

-- a batch from this index on was made and gathered, with so many documents, and the next one is begun behind it or not
pub record GathersBatch (target : OperationTarget) (options : InsertManyOptions) (call index : ℕ) (own : List OwnDocument) (before now : Moment) (so_far told : Gathered) (on : Bool) (count : ℕ) : Type 0 where
  pub end : BatchEnd
  pub makes : MakesBatch target options call index (drop index own) before now end
  pub counted : IsCount (drop index own) end.statements count
  pub of_documents : is_of_documents end.result ≡ true
  pub told_is : told ≡ with_result so_far index count end.result
  pub goes : goes_on (insert_is_ordered options) end.result ≡ on

-- the call ended with this error at the documents that are left: memory ran out, before a batch of them or behind it, or a batch
-- of them ended so
pub record StopsBatches (target : OperationTarget) (options : InsertManyOptions) (call index : ℕ) (own : List OwnDocument) (before now : Moment) (error : Error) : Type 0 where
  pub ends : List BatchEnd
  pub makes : MakesBatches (kind_of error ≡ kind.Memory) target options call index own ends before now
  pub why : (kind_of error ≡ kind.Memory) ⊎ EndsAlone ends error

-- what comes behind a batch: the next one, behind so many documents, or no other
abbrev pub NextBehind : Bool → ℕ → Behind → Type 0
NextBehind on count (Next next) = (on ≡ true) × (next ≡ count)
NextBehind on count Over = on ≡ false
NextBehind on count (Stopped error) = ⊥

-- a batch from this index on was made and gathered, or the call ended with an error
abbrev pub ComesBehind : OperationTarget → InsertManyOptions → ℕ → ℕ → List OwnDocument → Moment → Moment → Gathered → Gathered → Behind → Type 0
ComesBehind target options call index own before now so_far told (Next count) = GathersBatch target options call index own before now so_far told true count
ComesBehind target options call index own before now so_far told Over = (count : ℕ) × GathersBatch target options call index own before now so_far told false count
ComesBehind target options call index own before now so_far told (Stopped error) = StopsBatches target options call index (drop index own) before now error

-- the next batch begins further on, within so many documents
abbrev pub StepsWithin : ℕ → ℕ → Behind → Type 0
StepsWithin index total (Next count) = (0 < count) × (index + count ≤ total)
StepsWithin index total other = Unit {0}

-- an error that ends the call for want of memory tells of nothing else
abbrev pub StoppedAlone : Behind → Type 0
StoppedAlone (Stopped error) = MemoryAlone error
StoppedAlone other = Unit {0}

-- the batches of a call were made, from the first document on, each told of its documents, and this was gathered of them
pub record AllGathered (target : OperationTarget) (options : InsertManyOptions) (call : ℕ) (own : List OwnDocument) (before now : Moment) (told : Gathered) : Type 0 where
  pub ends : List BatchEnd
  pub batches : MakesBatches ⊥ target options call 0 own ends before now
  pub documents : AllOfDocuments ends
  pub told_is : told ≡ gathered nothing_gathered ends

-- so it is, or the call ended with an error
abbrev pub GathersAll : OperationTarget → InsertManyOptions → ℕ → List OwnDocument → Moment → Moment → Gathered → Result (Unit {0}) Error → Type 0
GathersAll target options call own before now told (Ok done) = AllGathered target options call own before now told
GathersAll target options call own before now told (Err error) = StopsBatches target options call 0 own before now error

-- the batches of a call were made, from the first document on, and the answer is what their ends tell
pub record BatchesMade (target : OperationTarget) (options : InsertManyOptions) (call : ℕ) (own : List OwnDocument) (before now : Moment) (result : Result InsertManyResult Error) : Type 0 where
  pub ends : List BatchEnd
  pub batches : MakesBatches (RanShort result) target options call 0 own ends before now
  pub answers : AnswersMany ends result
