-- The reply was read, or the exchange failed.
use Rattle.std.proofs.Common.{subst, sym}
use Rattle.std.specs.Prelude.{Ok, Err}
use Rattle.driver_attempt.specs.AttemptExchanges.{PageCame}
use Rattle.driver_attempt.specs.inside.AttemptExchanges.{page_in}
use Rattle.driver_attempt.proofs.ReadingPages.{page_of_failure, page_of_reply}
use Rattle.driver_attempt.proofs.pages.page_after.Goals as goal

pub returns-in-Ok-clause-came : goal.returns-in-Ok-clause-came
returns-in-Ok-clause-came c =
    subst (λ came. PageCame came (page_in c.read_response.result)) (sym c.in-Ok.is)
    (subst (λ bytes. PageCame (Ok bytes) (page_in c.read_response.result)) c.as_slice.ensures (page_of_reply _ c.read_response.result c.read_response.ensures))

pub returns-in-Err-clause-came : goal.returns-in-Err-clause-came
returns-in-Err-clause-came c =
    subst (λ came. PageCame came (Err c.either.result)) (sym c.in-Err.is)
    (page_of_failure c.in-Err.failure c.fault_error.result c.either.result c.fault_error.ensures c.either.ensures.ok c.either.ensures.err)
