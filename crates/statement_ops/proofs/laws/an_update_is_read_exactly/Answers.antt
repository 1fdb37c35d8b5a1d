-- The law is a lemma.
use Rattle.statement_ops.proofs.StatementLaw.{update_exactly}
use Rattle.statement_ops.proofs.laws.an_update_is_read_exactly.Goals as goal

pub returns : goal.returns
returns c = update_exactly
