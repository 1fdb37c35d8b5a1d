-- What becomes of the partial results of batches: what stands behind one has those of what stood and of the batch together, or none.
use Rattle.std.proofs.Common.{◌≡◌, Bool, true, false, refl, sym, ap, ◌∙◌, inl, inr}
use Rattle.std.specs.Prelude.{Option, None, Some, ◌⊎◌, Result, Ok, Err}
use Rattle.driver_error.specs.declared.error.Error.{Error}
use Rattle.driver_error.specs.declared.kind.ErrorKind.TheVariants as kind
use Rattle.server_answers.specs.declared.results.PartialBulkWriteResult.{PartialBulkWriteResult}
use Rattle.bulk_outcomes.specs.declared.status.ExecutionStatus.{ExecutionStatus}
use Rattle.bulk_outcomes.specs.declared.status.ExecutionStatus.TheVariants as status
use Rattle.driver_error.specs.declared.write.BulkWriteError.{BulkWriteError}
use Rattle.driver_error.specs.BulkErrors.{JoinsLater, RefusesSums, failures_in, joint_sums, merged_partials}
use Rattle.bulk_outcomes.specs.BulkResults.{MergesResults, ResultSpec}
use Rattle.driver_error.specs.Counts.{Counts, RefusesMerge, added}
use Rattle.driver_error.specs.Error.{ErrorKind, kind_of}
use Rattle.bulk_outcomes.specs.Status.{FailsAgain, FailsBehind, FailsWith, Succeeds, is_memory, succeeded_alone}
use Rattle.bulk_actions.specs.BulkBatches.{Takes}

-- the partial result of failures, if there are some
abbrev pub part_in : Option BulkWriteError → Option PartialBulkWriteResult
part_in None = None
part_in (Some failures) = failures.partial_result

-- of an error
abbrev pub part_of_error : Error → Option PartialBulkWriteResult
part_of_error error = part_in (failures_in (kind_of error))

-- of a batch's end: an output is one
abbrev pub part_of_end : {R : Type 0} → ResultSpec R → Result R Error → Option PartialBulkWriteResult
part_of_end tells (Ok output) = Some (tells.partial output)
part_of_end tells (Err error) = part_of_error error

-- of what stands
abbrev pub part_of_status : {R : Type 0} → ResultSpec R → ExecutionStatus R → Option PartialBulkWriteResult
part_of_status tells (status.Success found) = Some (tells.partial found)
part_of_status tells (status.Error error) = part_of_error error
part_of_status tells status.None = None

-- and of what batches came to
abbrev pub part_of_came : {R : Type 0} → ResultSpec R → Result (ExecutionStatus R) Error → Option PartialBulkWriteResult
part_of_came tells (Ok standing) = part_of_status tells standing
part_of_came tells (Err error) = part_of_error error

-- behind what had this part and a batch that had that one both are there together, or none is
abbrev pub AreTogether : Option PartialBulkWriteResult → Option PartialBulkWriteResult → Option PartialBulkWriteResult → Type 0
AreTogether before came now = (now ≡ None) ⊎ (now ≡ merged_partials before came)

merged_none : (before : Option PartialBulkWriteResult) → before ≡ merged_partials before None
merged_none None = refl
merged_none (Some found) = refl

-- an error of a kind
pub part_by : (error : Error) (why : ErrorKind) → kind_of error ≡ why → part_of_error error ≡ part_in (failures_in why)
part_by error why is = ap (λ (k : ErrorKind). part_in (failures_in k)) is

-- want of memory is no error of the bulk write
pub memory_failures : (why : ErrorKind) → is_memory why ≡ true → failures_in why ≡ None
memory_failures (kind.BulkWrite failures) is = absurd (let e : ◌≡◌ {A = Bool} false true = is in cc)
memory_failures _ is = refl

-- nor is an error of a kind that is none
none_by : (error : Error) (why : ErrorKind) → kind_of error ≡ why → failures_in why ≡ None → failures_in (kind_of error) ≡ None
none_by error why is none = ap (λ (k : ErrorKind). failures_in k) is ∙ none

module _ {R : Type 0} (tells : ResultSpec R) (laws : MergesResults tells) where
  -- ---- what is taken over
  -- an error that stands takes over what succeeded
  later_part : (mine : Option BulkWriteError) (standing now : Error) (found : R) → mine ≡ failures_in (kind_of standing) → JoinsLater mine (succeeded_alone (tells.partial found)) standing (Ok now)
      → AreTogether (part_of_error standing) (Some (tells.partial found)) (part_of_error now)
  later_part (Some failures) standing now found is joins =
      inr (part_by now _ joins.0.kind_is ∙ ap (λ (f : Option BulkWriteError). merged_partials (part_in f) (Some (tells.partial found))) is)
  later_part None standing now found is joins =
      let same : now ≡ standing = let e : ◌≡◌ {A = Result Error Error} (Ok now) (Ok standing) = joins in cc in
      inl (ap part_of_error same ∙ sym (ap part_in is))

  success_part : (before : ExecutionStatus R) (found : R) (now : ExecutionStatus R) → Succeeds tells before found (Ok now)
      → AreTogether (part_of_status tells before) (Some (tells.partial found)) (part_of_status tells now)
  success_part status.None found now is = inr (ap (part_of_status tells) is)
  success_part (status.Success before) found now is = inr (ap (part_of_status tells) is.0 ∙ ap (λ (p : PartialBulkWriteResult). Some p) (sym (laws.partials before found)))
  success_part (status.Error standing) found (status.Error now) joins = later_part (failures_in (kind_of standing)) standing now found refl joins
  success_part (status.Error standing) found (status.Success now) never = absurd never
  success_part (status.Error standing) found status.None never = absurd never

  -- a batch failed behind what succeeded
  behind_part : (before : R) (theirs : Option BulkWriteError) (error now : Error) → theirs ≡ failures_in (kind_of error) → FailsBehind (succeeded_alone (tells.partial before)) theirs error (Ok now)
      → AreTogether (Some (tells.partial before)) (part_of_error error) (part_of_error now)
  behind_part before (Some failures) error now is joins =
      inr (part_by now _ joins.0.kind_is ∙ ap (λ (f : Option BulkWriteError). merged_partials (Some (tells.partial before)) (part_in f)) is)
  behind_part before None error now is made =
      inr (part_by now _ made.kind_is ∙ ap (λ (f : Option BulkWriteError). merged_partials (Some (tells.partial before)) (part_in f)) is)

  -- a batch failed behind an error
  again_part : (mine theirs : Option BulkWriteError) (standing error now : Error) → mine ≡ failures_in (kind_of standing) → theirs ≡ failures_in (kind_of error) → FailsAgain mine standing theirs error (Ok now)
      → AreTogether (part_of_error standing) (part_of_error error) (part_of_error now)
  again_part (Some before) (Some failures) standing error now is also takes =
      inr (part_by now _ takes.kind_is ∙ (λ i. merged_partials (part_in (is i)) (part_in (also i))))
  again_part (Some before) None standing error now is also has =
      inr (part_by now (kind_of standing) has.kind ∙ merged_none (part_of_error standing) ∙ ap (λ (f : Option BulkWriteError). merged_partials (part_of_error standing) (part_in f)) also)
  again_part None theirs standing error now is also never = absurd never

  failure_part : (before : ExecutionStatus R) (memory : Bool) (error : Error) (now : ExecutionStatus R) → memory ≡ is_memory (kind_of error) → FailsWith tells before memory error (Ok now)
      → AreTogether (part_of_status tells before) (part_of_error error) (part_of_status tells now)
  failure_part before true error now memory is =
      let same : now ≡ status.Error error = let e : ◌≡◌ {A = Result (ExecutionStatus R) Error} (Ok now) (Ok (status.Error error)) = is in cc in
      inl (ap (part_of_status tells) same ∙ ap part_in (memory_failures (kind_of error) (sym memory)))
  failure_part status.None false error now memory is =
      let same : now ≡ status.Error error = let e : ◌≡◌ {A = Result (ExecutionStatus R) Error} (Ok now) (Ok (status.Error error)) = is in cc in
      inr (ap (part_of_status tells) same)
  failure_part (status.Success before) false error (status.Error now) memory fails = behind_part before (failures_in (kind_of error)) error now refl fails
  failure_part (status.Success before) false error (status.Success now) memory never = absurd never
  failure_part (status.Success before) false error status.None memory never = absurd never
  failure_part (status.Error standing) false error (status.Error now) memory fails = again_part (failures_in (kind_of standing)) (failures_in (kind_of error)) standing error now refl refl fails
  failure_part (status.Error standing) false error (status.Success now) memory never = absurd never
  failure_part (status.Error standing) false error status.None memory never = absurd never

  -- so it is behind each batch
  pub taken_part : (before : ExecutionStatus R) (came : Result R Error) (now : ExecutionStatus R) → Takes tells before came (Ok now)
      → AreTogether (part_of_status tells before) (part_of_end tells came) (part_of_status tells now)
  taken_part before (Ok found) now takes = success_part before found now takes
  taken_part before (Err error) now takes = failure_part before (is_memory (kind_of error)) error now refl takes

  -- ---- what is refused
  -- an error of a sum, or of want of memory, is none of the bulk write
  merge_refused : (sums : Counts) (error : Error) → RefusesMerge sums error → failures_in (kind_of error) ≡ None
  merge_refused sums error refuses = elim refuses [
    | inl leaves ↦ elim leaves.says [ inl odd ↦ none_by error _ odd.kind_is refl | inr memory ↦ none_by error _ memory.kind_is refl ]
    | inr memory ↦ none_by error _ memory.kind_is refl
  ]

  sums_refused : (sums : Option Counts) (error : Error) → RefusesSums sums error → failures_in (kind_of error) ≡ None
  sums_refused (Some sums) error refuses = merge_refused sums error refuses
  sums_refused None error memory = none_by error _ memory.kind_is refl

  later_refused : (mine : Option BulkWriteError) (standing refused : Error) (found : R) → JoinsLater mine (succeeded_alone (tells.partial found)) standing (Err refused) → failures_in (kind_of refused) ≡ None
  later_refused (Some failures) standing refused found joins = sums_refused (joint_sums failures.partial_result (Some (tells.partial found))) refused joins
  later_refused None standing refused found joins = absurd (let e : ◌≡◌ {A = Result Error Error} (Err refused) (Ok standing) = joins in cc)

  success_refused : (before : ExecutionStatus R) (found : R) (refused : Error) → Succeeds tells before found (Err refused) → failures_in (kind_of refused) ≡ None
  success_refused status.None found refused never = absurd never
  success_refused (status.Success before) found refused refuses = merge_refused (added (tells.counts before) (tells.counts found)) refused refuses
  success_refused (status.Error standing) found refused joins = later_refused (failures_in (kind_of standing)) standing refused found joins

  behind_refused : (before : R) (theirs : Option BulkWriteError) (error refused : Error) → FailsBehind (succeeded_alone (tells.partial before)) theirs error (Err refused) → failures_in (kind_of refused) ≡ None
  behind_refused before (Some failures) error refused joins = sums_refused (joint_sums (Some (tells.partial before)) failures.partial_result) refused joins
  behind_refused before None error refused memory = none_by refused _ memory.kind_is refl

  again_refused : (mine theirs : Option BulkWriteError) (standing error refused : Error) → FailsAgain mine standing theirs error (Err refused) → failures_in (kind_of refused) ≡ None
  again_refused (Some before) (Some failures) standing error refused refuses = sums_refused (joint_sums before.partial_result failures.partial_result) refused refuses
  again_refused (Some before) None standing error refused memory = none_by refused _ memory.kind_is refl
  again_refused None theirs standing error refused never = absurd never

  failure_refused : (before : ExecutionStatus R) (memory : Bool) (error refused : Error) → FailsWith tells before memory error (Err refused) → failures_in (kind_of refused) ≡ None
  failure_refused before true error refused is = absurd (let e : ◌≡◌ {A = Result (ExecutionStatus R) Error} (Err refused) (Ok (status.Error error)) = is in cc)
  failure_refused status.None false error refused is = absurd (let e : ◌≡◌ {A = Result (ExecutionStatus R) Error} (Err refused) (Ok (status.Error error)) = is in cc)
  failure_refused (status.Success before) false error refused fails = behind_refused before (failures_in (kind_of error)) error refused fails
  failure_refused (status.Error standing) false error refused fails = again_refused (failures_in (kind_of standing)) (failures_in (kind_of error)) standing error refused fails

  -- so it is where what a batch came to could not be taken over
  pub refused_failures : (before : ExecutionStatus R) (came : Result R Error) (refused : Error) → Takes tells before came (Err refused) → failures_in (kind_of refused) ≡ None
  refused_failures before (Ok found) refused takes = success_refused before found refused takes
  refused_failures before (Err error) refused takes = failure_refused before (is_memory (kind_of error)) error refused takes

  -- and then it has no part
  pub refused_part : (before : ExecutionStatus R) (came : Result R Error) (refused : Error) → Takes tells before came (Err refused) → part_of_error refused ≡ None
  refused_part before came refused takes = ap part_in (refused_failures before came refused takes)
