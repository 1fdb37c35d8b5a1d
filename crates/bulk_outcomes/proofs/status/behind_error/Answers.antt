-- A refusal to merge is handed on.
use Rattle.driver_error.specs.BulkErrors.{failures_in}
use Rattle.driver_error.specs.Error.{kind_of}
use Rattle.bulk_outcomes.proofs.Failing.{refused_again}
use Rattle.bulk_outcomes.proofs.status.behind_error.Goals as goal

pub returns-in-Err-with_later : goal.returns-in-Err-with_later
returns-in-Err-with_later c = refused_again (failures_in (kind_of c.args.standing)) (failures_in (kind_of c.args.error)) c.args.standing c.args.error
    c.in-Err-with_later.refused c.in-Ok.failures c.in-Ok.ensures.0 c.requires c.in-Err-with_later.ensures
