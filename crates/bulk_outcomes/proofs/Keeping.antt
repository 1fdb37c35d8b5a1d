-- The result in what stands keeps its variant.
use Rattle.std.proofs.Common.{◌≡◌, Bool, true, false, refl, subst, sym}
use Rattle.std.specs.Prelude.{⊤, Option, None, Some, Result, Ok, Err}
use Rattle.driver_error.specs.declared.error.Error.{Error}
use Rattle.server_answers.specs.declared.results.PartialBulkWriteResult.{PartialBulkWriteResult}
use Rattle.server_answers.specs.declared.results.PartialBulkWriteResult.TheVariants as partly
use Rattle.bulk_outcomes.specs.declared.status.ExecutionStatus.{ExecutionStatus}
use Rattle.bulk_outcomes.specs.declared.status.ExecutionStatus.TheVariants as status
use Rattle.driver_error.specs.declared.write.BulkWriteError.{BulkWriteError}
use Rattle.driver_error.specs.BulkErrors.{AreOfOneKind, JoinsLater, failures_in, merged_partial, merged_partials}
use Rattle.bulk_outcomes.specs.BulkResults.{ResultSpec}
use Rattle.driver_error.specs.Error.{ErrorKind, kind_of, source_of}
use Rattle.bulk_outcomes.specs.Status.{FailsAgain, FailsBehind, FailsWith, HasKind, IsBulkOfKind, IsOfKind, IsOpen, Stands, Succeeds, succeeded_alone}

-- two results together have the variant of the earlier one
keeps : (p q r : PartialBulkWriteResult) → AreOfOneKind p r → AreOfOneKind (merged_partial p q) r
keeps (partly.Summary a) (partly.Summary b) (partly.Summary c) one = one
keeps (partly.Summary a) (partly.Verbose b) (partly.Summary c) one = one
keeps (partly.Summary a) q (partly.Verbose c) one = absurd one
keeps (partly.Verbose a) (partly.Summary b) (partly.Verbose c) one = one
keeps (partly.Verbose a) (partly.Verbose b) (partly.Verbose c) one = one
keeps (partly.Verbose a) q (partly.Summary c) one = absurd one

-- so do results that may not be there
pub both_keep : {R : Type 0} (tells : ResultSpec R) (p q : Option PartialBulkWriteResult) → IsOfKind tells p → IsOfKind tells q
    → IsOfKind tells (merged_partials p q)
both_keep tells None q mine theirs = theirs
both_keep tells (Some p) None mine theirs = mine
both_keep tells (Some p) (Some q) mine theirs = λ found. keeps p q (tells.partial found) (mine found)

-- the results of a type are all of one variant
abbrev IsOne : {R : Type 0} → ResultSpec R → Type 0
IsOne {R = R} tells = (a b : R) → AreOfOneKind (tells.partial a) (tells.partial b)

-- an error of this kind tells of these failures
told_kind : {R : Type 0} (tells : ResultSpec R) (why kind : ErrorKind) → why ≡ kind → IsBulkOfKind tells (failures_in kind)
    → IsBulkOfKind tells (failures_in why)
told_kind tells why kind is holds = subst (λ why. IsBulkOfKind tells (failures_in why)) (sym is) holds

-- an error that takes a result over
error_keeps : {R : Type 0} (tells : ResultSpec R) (mine : Option BulkWriteError) (source : Option Error) (standing now : Error) (found : R)
    → IsOne tells → IsOpen tells mine source → JoinsLater mine (succeeded_alone (tells.partial found)) standing (Ok now)
    → IsBulkOfKind tells (failures_in (kind_of now))
error_keeps tells (Some f) source standing now found one stood joins =
    told_kind tells (kind_of now) _ joins.0.kind_is (both_keep tells f.partial_result (Some (tells.partial found)) stood.1 (one found))
error_keeps tells None source standing now found one stood joins = absurd stood

-- a batch more was answered Ok
pub success_keeps : {R : Type 0} (tells : ResultSpec R) → IsOne tells → (before : ExecutionStatus R) (found : R) (now : ExecutionStatus R)
    → Stands tells before → Succeeds tells before found (Ok now) → HasKind tells now
success_keeps tells one status.None found now stands is = subst (HasKind tells) (sym is) tt
success_keeps tells one (status.Success before) found now stands is = subst (HasKind tells) (sym is.0) tt
success_keeps tells one (status.Error standing) found (status.Error now) stands joins =
    error_keeps tells (failures_in (kind_of standing)) (source_of standing) standing now found one stands joins
success_keeps tells one (status.Error standing) found (status.Success now) stands never = absurd never
success_keeps tells one (status.Error standing) found status.None stands never = absurd never

-- a batch failed behind what succeeded
behind_keeps : {R : Type 0} (tells : ResultSpec R) (before : R) (theirs : Option BulkWriteError) (error now : Error) → IsOne tells
    → IsBulkOfKind tells theirs → FailsBehind (succeeded_alone (tells.partial before)) theirs error (Ok now) → IsBulkOfKind tells (failures_in (kind_of now))
behind_keeps tells before (Some f) error now one given joins =
    told_kind tells (kind_of now) _ joins.0.kind_is (both_keep tells (Some (tells.partial before)) f.partial_result (one before) given)
behind_keeps tells before None error now one given made = told_kind tells (kind_of now) _ made.kind_is (one before)

-- a batch failed behind an error
again_keeps : {R : Type 0} (tells : ResultSpec R) (mine theirs : Option BulkWriteError) (source : Option Error) (standing error now : Error)
    → IsOpen tells mine source → mine ≡ failures_in (kind_of standing) → IsBulkOfKind tells theirs → FailsAgain mine standing theirs error (Ok now)
    → IsBulkOfKind tells (failures_in (kind_of now))
again_keeps tells (Some b) (Some f) source standing error now stood is given takes =
    told_kind tells (kind_of now) _ takes.kind_is (both_keep tells b.partial_result f.partial_result stood.1 given)
again_keeps tells (Some b) None source standing error now stood is given has =
    told_kind tells (kind_of now) (kind_of standing) has.kind (subst (IsBulkOfKind tells) is stood.1)
again_keeps tells None theirs source standing error now stood is given never = absurd never

-- an answer that is Ok has the variant
abbrev OkHasKind : {R : Type 0} → ResultSpec R → Result (ExecutionStatus R) Error → Type 0
OkHasKind tells (Ok now) = HasKind tells now
OkHasKind tells (Err refused) = ⊤

-- a batch failed
pub failure_keeps : {R : Type 0} (tells : ResultSpec R) → IsOne tells → (before : ExecutionStatus R) (memory : Bool) (error : Error) (now : ExecutionStatus R)
    → Stands tells before → IsBulkOfKind tells (failures_in (kind_of error)) → FailsWith tells before memory error (Ok now) → HasKind tells now
failure_keeps tells one before true error now stands given is = subst (λ result. OkHasKind tells result) (sym is) given
failure_keeps tells one status.None false error now stands given is = subst (λ result. OkHasKind tells result) (sym is) given
failure_keeps tells one (status.Success before) false error (status.Error now) stands given fails =
    behind_keeps tells before (failures_in (kind_of error)) error now one given fails
failure_keeps tells one (status.Success before) false error (status.Success now) stands given never = absurd never
failure_keeps tells one (status.Success before) false error status.None stands given never = absurd never
failure_keeps tells one (status.Error standing) false error (status.Error now) stands given fails =
    again_keeps tells (failures_in (kind_of standing)) (failures_in (kind_of error)) (source_of standing) standing error now stands refl given fails
failure_keeps tells one (status.Error standing) false error (status.Success now) stands given never = absurd never
failure_keeps tells one (status.Error standing) false error status.None stands given never = absurd never
