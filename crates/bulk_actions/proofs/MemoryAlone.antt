-- A bulk write that ends for want of memory tells of nothing else: what its batches came to is handed on as it is, or told of by an error
-- of the bulk write, and what is made anew has its kind and nothing else.
use Rattle.std.proofs.Common.{◌≡◌, List, Bool, true, false, refl, sym, ap, subst, ◌∙◌, inl, inr}
use Rattle.std.specs.Prelude.{Option, None, Some, IfErr, IsErrAnd, Result, Ok, Err}
use Rattle.driver_error.specs.declared.error.Error.{Error}
use Rattle.driver_error.specs.declared.kind.ErrorKind.TheVariants as kind
use Rattle.bulk_outcomes.specs.declared.status.ExecutionStatus.{ExecutionStatus}
use Rattle.bulk_outcomes.specs.declared.status.ExecutionStatus.TheVariants as status
use Rattle.driver_error.specs.declared.write.BulkWriteError.{BulkWriteError}
use Rattle.driver_error.specs.BulkErrors.{JoinsLater, RefusesSums, failures_in, joint_sums, merged_errors}
use Rattle.driver_error.specs.Conversions.{IsMade}
use Rattle.driver_error.specs.Counts.{Counts, RefusesMerge, added, out_of_range_text}
use Rattle.bulk_outcomes.specs.BulkResults.{ResultSpec}
use Rattle.driver_error.specs.Error.{ErrorKind, IsAlone, kind_of, source_of}
use Rattle.driver_error.specs.LabelTexts.{no_labels}
use Rattle.bulk_outcomes.specs.Status.{FailsAgain, FailsBehind, FailsWith, IsOpen, LeavesError, Stands, Succeeds, is_memory, succeeded_alone}
use Rattle.driver_options.specs.declared.models.WriteModel.{WriteModel}
use Rattle.driver_options.specs.declared.write_options.BulkWriteOptions.{BulkWriteOptions}
use Rattle.bulk_fronts.specs.declared.own_op.OwnOp.{OwnOp}
use Rattle.driver_attempt.specs.Failures.{MemoryAlone}
use Rattle.driver_inputs.specs.BulkInputs.{TellsBulkInput}
use Rattle.bulk_actions.specs.BulkBatches.{Takes}
use Rattle.bulk_actions.specs.BulkCalls.{AnswersStanding}
use Rattle.bulk_actions.specs.inside.BulkBatches.{StandsAlone}
use Rattle.bulk_actions.specs.inside.OwnOps.{TellsOneModel}

-- an error that has its kind and nothing else
alone_told : (why : ErrorKind) (error : Error) → IsAlone why no_labels error → MemoryAlone error
alone_told why error is = λ memory. record {
  kind_is = memory;
  labels_are = is.labels_are;
  no_version = is.no_version;
  no_source = is.no_source;
  no_response = is.no_response;
}

-- the same, or want of memory alone
made_told : (why : ErrorKind) (error : Error) → IsMade why no_labels error → MemoryAlone error
made_told why error made = elim made [ inl alone ↦ alone_told why error alone | inr memory ↦ λ is. memory ]

-- an error of the bulk write
failures_told : (failures : BulkWriteError) (error : Error) → kind_of error ≡ kind.BulkWrite failures → MemoryAlone error
failures_told failures error is = λ memory. absurd (let e : ◌≡◌ {A = ErrorKind} (kind.BulkWrite failures) kind.Memory = sym is ∙ memory in cc)

-- what the exit of a `?` returns where memory ran out
pub exit_told : {A : Type 0} (result : Result A Error) → IsErrAnd result (λ error. IsAlone kind.Memory no_labels error) → IfErr result (λ error. MemoryAlone error)
exit_told (Ok output) exits = absurd exits
exit_told (Err error) exits = λ is. exits

-- ---- before the first batch
-- input that is refused
pub input_told : (models : List WriteModel) (options : BulkWriteOptions) (error : Error) → TellsBulkInput models options error → MemoryAlone error
input_told models options error tells = elim tells [
  | inl memory ↦ λ is. memory
  | inr found ↦ alone_told found.why error found.is
]

-- a model whose op has no spelling
model_told : (models : List WriteModel) (error : Error) → TellsOneModel models error → MemoryAlone error
model_told models error tells = elim tells [
  | inl memory ↦ λ is. memory
  | inr one ↦ alone_told (kind.BsonSerialization one.own.unspelled.fault) error one.own.unspelled.is
]

-- the ops of all models
pub models_told : (models : List WriteModel) (own : Result (List OwnOp) Error) → IfErr own (λ error. TellsOneModel models error) → IfErr own (λ error. MemoryAlone error)
models_told models (Ok made) refusal = tt
models_told models (Err error) refusal = model_told models error refusal

-- ---- what stands behind a batch
-- sums of counts that leave 64 bits
merge_told : (sums : Counts) (error : Error) → RefusesMerge sums error → MemoryAlone error
merge_told sums error refuses = elim refuses [
  | inl leaves ↦ made_told (kind.InvalidResponse out_of_range_text) error leaves.says
  | inr memory ↦ λ is. memory
]

-- the same of sums that may not be there
sums_told : (sums : Option Counts) (error : Error) → RefusesSums sums error → MemoryAlone error
sums_told (Some sums) error refuses = merge_told sums error refuses
sums_told None error memory = λ is. memory

-- what a batch came to is taken over so, or why it could not be
abbrev ComesAlone : {R : Type 0} → Result (ExecutionStatus R) Error → Type 0
ComesAlone (Ok standing) = StandsAlone standing
ComesAlone (Err refused) = MemoryAlone refused

-- an error is made of it so, or why it could not be
abbrev LeavesAlone : Result Error Error → Type 0
LeavesAlone (Ok now) = MemoryAlone now
LeavesAlone (Err refused) = MemoryAlone refused

-- what stands is an error, or there is a refusal
leaves_told : {R : Type 0} (P : Result Error Error → Type 0) (now : Result (ExecutionStatus R) Error) → ((came : Result Error Error) → P came → LeavesAlone came) → LeavesError P now
    → ComesAlone now
leaves_told P (Ok (status.Error now)) told leaves = told (Ok now) leaves
leaves_told P (Ok (status.Success found)) told never = absurd never
leaves_told P (Ok status.None) told never = absurd never
leaves_told P (Err refused) told leaves = told (Err refused) leaves

-- a batch that failed behind what succeeded
behind_told : (done : BulkWriteError) (theirs : Option BulkWriteError) (error : Error) (came : Result Error Error) → FailsBehind done theirs error came → LeavesAlone came
behind_told done (Some failures) error (Ok now) joins = failures_told (merged_errors done failures) now joins.0.kind_is
behind_told done (Some failures) error (Err refused) refuses = sums_told (joint_sums done.partial_result failures.partial_result) refused refuses
behind_told done None error (Ok now) made = failures_told done now made.kind_is
behind_told done None error (Err refused) memory = λ is. memory

-- one that failed behind an error of the bulk write
again_told : (mine theirs : Option BulkWriteError) (standing error : Error) (came : Result Error Error) → mine ≡ failures_in (kind_of standing) → FailsAgain mine standing theirs error came
    → LeavesAlone came
again_told (Some before) (Some failures) standing error (Ok now) is takes = failures_told (merged_errors before failures) now takes.kind_is
again_told (Some before) (Some failures) standing error (Err refused) is refuses = sums_told (joint_sums before.partial_result failures.partial_result) refused refuses
again_told (Some before) None standing error (Ok now) is has =
    λ memory. absurd (let e : ◌≡◌ {A = Option BulkWriteError} (Some before) None = is ∙ ap failures_in (sym has.kind ∙ memory) in cc)
again_told (Some before) None standing error (Err refused) is memory = λ same. memory
again_told None theirs standing error (Ok now) is never = absurd never
again_told None theirs standing error (Err refused) is never = absurd never

module _ {R : Type 0} (tells : ResultSpec R) where
  -- an error that may take over what a batch comes to is one of the bulk write
  pub stands_told : (standing : ExecutionStatus R) → Stands tells standing → StandsAlone standing
  stands_told (status.Error error) stands = λ memory. absurd (subst (λ (why : ErrorKind). IsOpen tells (failures_in why) (source_of error)) memory stands)
  stands_told (status.Success found) stands = tt
  stands_told status.None stands = tt

  -- what succeeded behind such an error
  joins_told : (mine : Option BulkWriteError) (source : Option Error) (later : BulkWriteError) (standing : Error) (came : Result Error Error) → IsOpen tells mine source
      → JoinsLater mine later standing came → LeavesAlone came
  joins_told (Some failures) source later standing (Ok now) stood joins = failures_told (merged_errors failures later) now joins.0.kind_is
  joins_told (Some failures) source later standing (Err refused) stood refuses = sums_told (joint_sums failures.partial_result later.partial_result) refused refuses
  joins_told None source later standing came stood joins = absurd stood

  -- a batch that was answered Ok
  success_told : (before : ExecutionStatus R) (found : R) (now : Result (ExecutionStatus R) Error) → Stands tells before → Succeeds tells before found now → ComesAlone now
  success_told status.None found (Ok now) stands is = subst (λ (later : ExecutionStatus R). StandsAlone later) (sym is) tt
  success_told status.None found (Err refused) stands never = absurd never
  success_told (status.Success before) found (Ok now) stands is = subst (λ (later : ExecutionStatus R). StandsAlone later) (sym is.0) tt
  success_told (status.Success before) found (Err refused) stands refuses = merge_told (added (tells.counts before) (tells.counts found)) refused refuses
  success_told (status.Error standing) found (Ok (status.Error now)) stands joins =
      joins_told (failures_in (kind_of standing)) (source_of standing) (succeeded_alone (tells.partial found)) standing (Ok now) stands joins
  success_told (status.Error standing) found (Ok (status.Success now)) stands never = absurd never
  success_told (status.Error standing) found (Ok status.None) stands never = absurd never
  success_told (status.Error standing) found (Err refused) stands joins =
      joins_told (failures_in (kind_of standing)) (source_of standing) (succeeded_alone (tells.partial found)) standing (Err refused) stands joins

  -- one that failed
  failure_told : (before : ExecutionStatus R) (memory : Bool) (error : Error) (now : Result (ExecutionStatus R) Error) → Stands tells before → MemoryAlone error
      → FailsWith tells before memory error now → ComesAlone now
  failure_told before true error now stands told is = subst (λ (came : Result (ExecutionStatus R) Error). ComesAlone came) (sym is) told
  failure_told status.None false error now stands told is = subst (λ (came : Result (ExecutionStatus R) Error). ComesAlone came) (sym is) told
  failure_told (status.Success before) false error now stands told fails =
      leaves_told (FailsBehind (succeeded_alone (tells.partial before)) (failures_in (kind_of error)) error) now
      (behind_told (succeeded_alone (tells.partial before)) (failures_in (kind_of error)) error) fails
  failure_told (status.Error standing) false error now stands told fails =
      leaves_told (FailsAgain (failures_in (kind_of standing)) standing (failures_in (kind_of error)) error) now
      (λ came joined. again_told (failures_in (kind_of standing)) (failures_in (kind_of error)) standing error came refl joined) fails

  -- whatever it came to, which is want of memory alone where it is that
  takes_told : (before : ExecutionStatus R) (came : Result R Error) (now : Result (ExecutionStatus R) Error) → Stands tells before → IfErr came (λ error. MemoryAlone error)
      → Takes tells before came now → ComesAlone now
  takes_told before (Ok found) now stands told takes = success_told before found now stands takes
  takes_told before (Err error) now stands told takes = failure_told before (is_memory (kind_of error)) error now stands told takes

  -- it was taken over
  pub later_told : (before : ExecutionStatus R) (came : Result R Error) (later : ExecutionStatus R) → Stands tells before → IfErr came (λ error. MemoryAlone error)
      → Takes tells before came (Ok later) → StandsAlone later
  later_told before came later stands told takes = takes_told before came (Ok later) stands told takes

  -- it could not be
  pub refused_told : (before : ExecutionStatus R) (came : Result R Error) (error : Error) → Stands tells before → IfErr came (λ error. MemoryAlone error)
      → Takes tells before came (Err error) → MemoryAlone error
  refused_told before came error stands told takes = takes_told before came (Err error) stands told takes

-- ---- the answer of a call
-- what stands behind all batches
pub answer_told : {R : Type 0} (standing : ExecutionStatus R) (result : Result R Error) → AnswersStanding (Ok standing) result → StandsAlone standing → IfErr result (λ error. MemoryAlone error)
answer_told {R} (status.Success found) result is told = subst (λ (answer : Result R Error). IfErr answer (λ error. MemoryAlone error)) (sym is) tt
answer_told {R} (status.Error error) result is told = subst (λ (answer : Result R Error). IfErr answer (λ error. MemoryAlone error)) (sym is) told
answer_told status.None result never told = absurd never
