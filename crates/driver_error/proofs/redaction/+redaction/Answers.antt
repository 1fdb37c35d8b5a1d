-- An error made of its redacted parts is the redacted error.
use Rattle.driver_error.proofs.Redacting.{redacted_made}
use Rattle.driver_error.proofs.redaction.+redaction.Goals as goal

pub redacted_copy-returns : goal.redacted_copy-returns
redacted_copy-returns t c =
    redacted_made c.args.error.now _ _ _ _ c.in_ok-redacted_kind.ensures c.in_ok-try_clone.ensures.same c.in_ok-redacted_source.ensures c.in_ok-redacted_response.ensures
