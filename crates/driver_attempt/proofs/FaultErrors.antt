-- The errors of a link's failures, with the labels of the table.
use Rattle.std.proofs.Common.{◌≡◌, ap, sym, ◌∙◌, inl, inr}
use Rattle.std.specs.Prelude.{true, false, Result, Ok, Err}
use Rattle.driver_error.specs.declared.error.Error.{Error}
use Rattle.driver_error.specs.declared.kind.ErrorKind.TheVariants as kind
use Rattle.driver_error.specs.Error.{kind_of}
use Rattle.link_faults.specs.declared.fault.LinkError.{LinkError}
use Rattle.link_faults.specs.declared.fault.LinkError.TheVariants.{Fault, Memory}
use Rattle.link_faults.specs.Failures.{BecomesError}
use Rattle.driver_session.specs.declared.retryability.Retryability.{Retryability}
use Rattle.driver_attempt.specs.Failures.{is_memory}
use Rattle.driver_attempt.specs.inside.Failures.{FaultError, IsLabelledBy}

-- want of memory is seen
no_memory : (error : Error) → is_memory (kind_of error) ≡ false → kind_of error ≡ kind.Memory → ⊥
no_memory error none is = true≢false (sym (ap is_memory is) ∙ none)
  where
    true≢false : true ≡ false → ⊥
    true≢false same = cc

-- a failure that became an error, which was labelled
pub faulted : (failure : LinkError) (retryability : Retryability) (error : Error) (result : Result Error Error) → BecomesError failure error
    → is_memory (kind_of error) ≡ false → IsLabelledBy retryability error result → FaultError failure retryability result
faulted (Fault fault labels) retryability error (Ok now) (inl is) none labelled = record { bare = error; is = is; labelled = labelled }
faulted (Fault fault labels) retryability error (Ok now) (inr memory) none labelled = absurd (no_memory error none memory.kind_is)
faulted (Fault fault labels) retryability error (Err refused) becomes none labelled = labelled
faulted Memory retryability error (Ok now) memory none labelled = absurd (no_memory error none memory.kind_is)
faulted Memory retryability error (Err refused) memory none labelled = labelled
