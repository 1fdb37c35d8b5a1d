-- The law is a lemma.
use Rattle.report_lines.proofs.FailureOrder.{failures_in_order}
use Rattle.report_lines.proofs.laws.the_failures_stand_in_order.Goals as goal

pub returns : goal.returns
returns c = failures_in_order
