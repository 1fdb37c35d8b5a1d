-- An insert of many documents that ends for want of memory tells of nothing else: the error of a batch is handed on as its
-- operation answered it, and what is made anew has its kind and nothing else.
use Rattle.std.proofs.Common.{◌≡◌, ℕ, List, sym, subst, ◌∙◌, inl, inr}
use Rattle.std.specs.Prelude.{Bool, IfErr, IsErrAnd, Result, Ok, Err}
use Rattle.bson_lite.specs.declared.bson.Bson.{Bson}
use Rattle.bson_lite.specs.declared.document.Pair.{Pair}
use Rattle.bson_lite.specs.declared.namespace.Namespace.{Namespace}
use Rattle.driver_error.specs.declared.error.Error.{Error}
use Rattle.driver_error.specs.declared.kind.ErrorKind.TheVariants as kind
use Rattle.server_answers.specs.declared.results.InsertManyResult.{InsertManyResult}
use Rattle.driver_error.specs.Error.{ErrorKind, IsAlone}
use Rattle.driver_error.specs.LabelTexts.{no_labels}
use Rattle.driver_options.specs.declared.write_options.InsertManyOptions.{InsertManyOptions}
use Rattle.driver_attempt.specs.Failures.{MemoryAlone}
use Rattle.driver_actions.specs.OwnDocuments.{TellsOneRefusal}
use Rattle.driver_inputs.specs.ManyInputs.{TellsManyInput}
use Rattle.many_actions.specs.declared.behind.Behind.{Behind}
use Rattle.many_actions.specs.declared.behind.Behind.TheVariants.{Next, Over, Stopped}
use Rattle.many_actions.specs.declared.gathered.Gathered.{Gathered}
use Rattle.many_actions.specs.ManyAnswers.{gathered_failures}
use Rattle.many_actions.specs.inside.Batches.{NextBehind, StoppedAlone}
use Rattle.many_actions.specs.inside.Taking.{AnswersTold, StopsWith}

-- an error that has its kind and nothing else
pub alone_told : (why : ErrorKind) (error : Error) → IsAlone why no_labels error → MemoryAlone error
alone_told why error is = λ memory. record {
  kind_is = memory;
  labels_are = is.labels_are;
  no_version = is.no_version;
  no_source = is.no_source;
  no_response = is.no_response;
}

-- what the exit of a `?` returns where memory ran out
pub exit_told : (result : Result InsertManyResult Error) → IsErrAnd result (λ error. IsAlone kind.Memory no_labels error) → IfErr result (λ error. MemoryAlone error)
exit_told (Ok output) exits = absurd exits
exit_told (Err error) exits = λ is. exits

-- input that is refused
pub many_input_told : (namespace : Namespace) (documents : List (List (Pair Bson))) (options : InsertManyOptions) (error : Error) → TellsManyInput namespace documents options error → MemoryAlone error
many_input_told namespace documents options error tells = elim tells [
  | inl memory ↦ λ is. memory
  | inr found ↦ alone_told found.why error found.is
]

-- a document that has no spelling
pub one_told : (documents : List (List (Pair Bson))) (error : Error) → TellsOneRefusal documents error → MemoryAlone error
one_told documents error tells = elim tells [
  | inl memory ↦ λ is. memory
  | inr one ↦ alone_told (kind.BsonSerialization one.own.unspelled.fault) error one.own.unspelled.is
]

-- the end of a batch that was not taken
pub taken_told : (came : Result InsertManyResult Error) (error : Error) → IfErr came (λ other. MemoryAlone other) → StopsWith came error → MemoryAlone error
taken_told came error told stops = elim stops [
  | inl memory ↦ λ is. memory
  | inr alone ↦ subst (λ (end : Result InsertManyResult Error). IfErr end (λ other. MemoryAlone other)) alone.0 told
]

-- what comes behind a batch that was taken is no error
pub behind_told : (on : Bool) (count : ℕ) (next : Behind) → NextBehind on count next → StoppedAlone next
behind_told on count (Next further) behind = tt
behind_told on count Over behind = tt
behind_told on count (Stopped error) behind = absurd behind

-- the answer of what was told of all batches
pub answered_told : (told : Gathered) (result : Result InsertManyResult Error) → AnswersTold told result → IfErr result (λ error. MemoryAlone error)
answered_told told (Ok output) answers = tt
answered_told told (Err error) answers = elim answers.1 [
  | inl alone ↦ λ is. absurd (let e : ◌≡◌ {A = ErrorKind} (kind.InsertMany (gathered_failures told)) kind.Memory = sym alone.kind_is ∙ is in cc)
  | inr memory ↦ λ is. memory
]
