-- What a refusal to merge says of an error that stands.
use Rattle.std.proofs.Common.{◌≡◌, subst, sym}
use Rattle.std.specs.Prelude.{Option, None, Some, Err}
use Rattle.driver_error.specs.declared.error.Error.{Error}
use Rattle.driver_error.specs.declared.write.BulkWriteError.{BulkWriteError}
use Rattle.driver_error.specs.BulkErrors.{AreMergeable, JoinsLater}
use Rattle.bulk_outcomes.specs.Status.{FailsAgain}

-- where the later failures are known
refused_known : (mine : Option BulkWriteError) (standing error refused : Error) (failures : BulkWriteError)
    → AreMergeable mine (Some failures) → JoinsLater mine failures standing (Err refused) → FailsAgain mine standing (Some failures) error (Err refused)
refused_known (Some before) standing error refused failures alike joins = joins
refused_known None standing error refused failures alike joins = alike

-- where they are those of an error
pub refused_again : (mine theirs : Option BulkWriteError) (standing error refused : Error) (failures : BulkWriteError) → theirs ≡ Some failures
    → AreMergeable mine theirs → JoinsLater mine failures standing (Err refused) → FailsAgain mine standing theirs error (Err refused)
refused_again mine theirs standing error refused failures is alike joins =
    subst (λ theirs. AreMergeable mine theirs → FailsAgain mine standing theirs error (Err refused)) (sym is)
    (λ alike. refused_known mine standing error refused failures alike joins) alike
