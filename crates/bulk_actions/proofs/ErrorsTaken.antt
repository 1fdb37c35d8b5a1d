-- What becomes of the write errors of batches: what stands behind one has those of what stood and of the batch together, or is no error
-- of the bulk write.
use Rattle.std.proofs.Common.{◌≡◌, Bool, true, false, refl, sym, ap, subst, ◌∙◌, inl, inr}
use Rattle.std.specs.Prelude.{Option, None, Some, ◌⊎◌, Result, Ok, Err}
use Rattle.std.specs.FinMap as finite
use Rattle.std.specs.Option.{option_map}
use Rattle.std.specs.Ordering.{nat_cmp}
use Rattle.bson_lite.specs.Unions.{union}
use Rattle.bson_lite.proofs.Uniting.{empty_union, union_empty}
use Rattle.driver_error.specs.declared.error.Error.{Error}
use Rattle.bulk_outcomes.specs.declared.status.ExecutionStatus.{ExecutionStatus}
use Rattle.bulk_outcomes.specs.declared.status.ExecutionStatus.TheVariants as status
use Rattle.driver_error.specs.declared.write.BulkWriteError.{BulkWriteError}
use Rattle.driver_error.specs.declared.write.WriteError.{WriteError}
use Rattle.driver_error.specs.BulkErrors.{JoinsLater, failures_in}
use Rattle.bulk_outcomes.specs.BulkResults.{ResultSpec}
use Rattle.driver_error.specs.Error.{ErrorKind, kind_of}
use Rattle.bulk_outcomes.specs.Status.{FailsAgain, FailsBehind, FailsWith, Succeeds, is_memory, succeeded_alone}
use Rattle.bulk_actions.specs.BulkBatches.{Takes}
use Rattle.bulk_actions.specs.ErrorsTold.{write_errors_in, write_errors_of}
use Rattle.bulk_actions.proofs.PartsTaken.{memory_failures}

-- write errors by their indexes
abbrev pub Errors : Type 0
Errors = finite.FinMap nat_cmp WriteError

-- those of failures, where there are some
abbrev listed_in : Option BulkWriteError → Option Errors
listed_in found = option_map (λ (failures : BulkWriteError). failures.write_errors) found

-- of an error; of what stands, where that is no error of another kind; and of what batches came to
abbrev pub listed_of_error : Error → Option Errors
listed_of_error error = listed_in (failures_in (kind_of error))

abbrev pub listed_of_status : {R : Type 0} → ExecutionStatus R → Option Errors
listed_of_status (status.Success found) = Some finite.empty
listed_of_status (status.Error error) = listed_of_error error
listed_of_status status.None = Some finite.empty

abbrev pub listed_of_came : {R : Type 0} → Result (ExecutionStatus R) Error → Option Errors
listed_of_came (Ok standing) = listed_of_status standing
listed_of_came (Err error) = listed_of_error error

-- those of what stood and of a batch behind it
pub record AreBoth (before : Option Errors) (came : Errors) (now : Option Errors) : Type 0 where
  pub earlier : Errors
  pub earlier_is : before ≡ Some earlier
  pub now_is : now ≡ Some (union earlier came)

-- together, or there is none any more
abbrev pub AreJoined : Option Errors → Errors → Option Errors → Type 0
AreJoined before came now = (now ≡ None) ⊎ AreBoth before came now

-- an error of a kind
listed_by : (error : Error) (why : ErrorKind) → kind_of error ≡ why → listed_of_error error ≡ listed_in (failures_in why)
listed_by error why is = ap (λ (k : ErrorKind). listed_in (failures_in k)) is

some_listed : (one other : Errors) → one ≡ other → ◌≡◌ {A = Option Errors} (Some one) (Some other)
some_listed one other is = ap (λ (e : Errors). Some e) is

module _ {R : Type 0} (tells : ResultSpec R) where
  -- an error that stands takes over what succeeded
  later_joined : (mine : Option BulkWriteError) (standing now : Error) (found : R) → mine ≡ failures_in (kind_of standing) → JoinsLater mine (succeeded_alone (tells.partial found)) standing (Ok now)
      → AreJoined (listed_of_error standing) finite.empty (listed_of_error now)
  later_joined (Some failures) standing now found is joins = inr (record { earlier = failures.write_errors; earlier_is = sym (ap listed_in is); now_is = listed_by now _ joins.0.kind_is })
  later_joined None standing now found is joins =
      let same : now ≡ standing = let e : ◌≡◌ {A = Result Error Error} (Ok now) (Ok standing) = joins in cc in
      inl (ap listed_of_error same ∙ sym (ap listed_in is))

  success_joined : (before : ExecutionStatus R) (found : R) (now : ExecutionStatus R) → Succeeds tells before found (Ok now) → AreJoined (listed_of_status before) finite.empty (listed_of_status now)
  success_joined status.None found now is =
      inr (record { earlier = finite.empty; earlier_is = refl; now_is = ap listed_of_status is ∙ some_listed finite.empty (union finite.empty finite.empty) (sym (union_empty finite.empty)) })
  success_joined (status.Success before) found now is =
      inr (record { earlier = finite.empty; earlier_is = refl; now_is = ap listed_of_status is.0 ∙ some_listed finite.empty (union finite.empty finite.empty) (sym (union_empty finite.empty)) })
  success_joined (status.Error standing) found (status.Error now) joins = later_joined (failures_in (kind_of standing)) standing now found refl joins
  success_joined (status.Error standing) found (status.Success now) never = absurd never
  success_joined (status.Error standing) found status.None never = absurd never

  -- a batch failed behind what succeeded
  behind_joined : (before : R) (theirs : Option BulkWriteError) (error now : Error) → theirs ≡ failures_in (kind_of error) → FailsBehind (succeeded_alone (tells.partial before)) theirs error (Ok now)
      → AreJoined (Some finite.empty) (write_errors_in theirs) (listed_of_error now)
  behind_joined before (Some failures) error now is joins = inr (record { earlier = finite.empty; earlier_is = refl; now_is = listed_by now _ joins.0.kind_is })
  behind_joined before None error now is made =
      inr (record { earlier = finite.empty; earlier_is = refl; now_is = listed_by now _ made.kind_is ∙ some_listed finite.empty (union finite.empty finite.empty) (sym (union_empty finite.empty)) })

  -- a batch failed behind an error
  again_joined : (mine theirs : Option BulkWriteError) (standing error now : Error) → mine ≡ failures_in (kind_of standing) → FailsAgain mine standing theirs error (Ok now)
      → AreJoined (listed_of_error standing) (write_errors_in theirs) (listed_of_error now)
  again_joined (Some before) (Some failures) standing error now is takes = inr (record { earlier = before.write_errors; earlier_is = sym (ap listed_in is); now_is = listed_by now _ takes.kind_is })
  again_joined (Some before) None standing error now is has = inr (record {
    earlier = before.write_errors;
    earlier_is = sym (ap listed_in is);
    now_is = listed_by now (kind_of standing) has.kind ∙ sym (ap listed_in is) ∙ some_listed before.write_errors (union before.write_errors finite.empty) (sym (union_empty before.write_errors));
  })
  again_joined None theirs standing error now is never = absurd never

  -- a batch failed first
  first_joined : (theirs : Option BulkWriteError) → AreJoined (Some finite.empty) (write_errors_in theirs) (listed_in theirs)
  first_joined (Some failures) =
      inr (record { earlier = finite.empty; earlier_is = refl; now_is = some_listed failures.write_errors (union finite.empty failures.write_errors) (sym (empty_union failures.write_errors)) })
  first_joined None = inl refl

  -- what is told of an error that stands is told of what stands
  as_status : (before : Option Errors) (came : Errors) (error : Error) (now : ExecutionStatus R) → ◌≡◌ {A = Result (ExecutionStatus R) Error} (Ok now) (Ok (status.Error error)) → AreJoined before came (listed_of_error error)
      → AreJoined before came (listed_of_status now)
  as_status before came error now is joined =
      let same : now ≡ status.Error error = cc is in
      subst (λ (s : ExecutionStatus R). AreJoined before came (listed_of_status s)) (sym same) joined

  failure_joined : (before : ExecutionStatus R) (memory : Bool) (error : Error) (now : ExecutionStatus R) → memory ≡ is_memory (kind_of error) → FailsWith tells before memory error (Ok now)
      → AreJoined (listed_of_status before) (write_errors_in (failures_in (kind_of error))) (listed_of_status now)
  failure_joined before true error now memory is =
      as_status (listed_of_status before) (write_errors_in (failures_in (kind_of error))) error now is (inl (ap listed_in (memory_failures (kind_of error) (sym memory))))
  failure_joined status.None false error now memory is = as_status (Some finite.empty) (write_errors_in (failures_in (kind_of error))) error now is (first_joined (failures_in (kind_of error)))
  failure_joined (status.Success before) false error (status.Error now) memory fails = behind_joined before (failures_in (kind_of error)) error now refl fails
  failure_joined (status.Success before) false error (status.Success now) memory never = absurd never
  failure_joined (status.Success before) false error status.None memory never = absurd never
  failure_joined (status.Error standing) false error (status.Error now) memory fails = again_joined (failures_in (kind_of standing)) (failures_in (kind_of error)) standing error now refl fails
  failure_joined (status.Error standing) false error (status.Success now) memory never = absurd never
  failure_joined (status.Error standing) false error status.None memory never = absurd never

  -- so it is behind each batch
  pub taken_joined : (before : ExecutionStatus R) (came : Result R Error) (now : ExecutionStatus R) → Takes tells before came (Ok now)
      → AreJoined (listed_of_status before) (write_errors_of came) (listed_of_status now)
  taken_joined before (Ok found) now takes = success_joined before found now takes
  taken_joined before (Err error) now takes = failure_joined before (is_memory (kind_of error)) error now refl takes
