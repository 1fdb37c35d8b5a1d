-- Behind what stands where a next batch is made, what comes of it may be put into what stands.
use Rattle.std.proofs.Common.{◌≡◌, Bool, true, false, refl}
use Rattle.std.specs.Prelude.{Option, None, Some}
use Rattle.driver_error.specs.declared.error.Error.{Error}
use Rattle.bulk_outcomes.specs.declared.status.ExecutionStatus.{ExecutionStatus}
use Rattle.bulk_outcomes.specs.declared.status.ExecutionStatus.TheVariants as status
use Rattle.driver_error.specs.declared.write.BulkWriteError.{BulkWriteError}
use Rattle.driver_error.specs.BulkErrors.{failures_in}
use Rattle.bulk_outcomes.specs.BulkResults.{ResultSpec}
use Rattle.driver_error.specs.Error.{kind_of, source_of}
use Rattle.bulk_outcomes.specs.Status.{HasKind, IsBulkOfKind, IsOpen, Stands, goes_on, is_followed}

-- failures without a source
followed_open : {R : Type 0} (tells : ResultSpec R) (ordered : Bool) (found : Option BulkWriteError) (source : Option Error)
    → is_followed ordered found source ≡ true → IsBulkOfKind tells found → IsOpen tells found source
followed_open tells ordered (Some failures) None on kind = (refl, kind)
followed_open tells ordered (Some failures) (Some error) on kind = absurd (let e : false ≡ true = on in cc)
followed_open tells ordered None source on kind = absurd (let e : false ≡ true = on in cc)

-- whatever stands
pub followed_stands : {R : Type 0} (tells : ResultSpec R) (ordered : Bool) (before : ExecutionStatus R) → goes_on ordered before ≡ true
    → HasKind tells before → Stands tells before
followed_stands tells ordered (status.Error standing) on kind =
    followed_open tells ordered (failures_in (kind_of standing)) (source_of standing) on kind
followed_stands tells ordered (status.Success all) on kind = tt
followed_stands tells ordered status.None on kind = tt
