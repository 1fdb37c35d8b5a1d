-- The law is a lemma.
use Rattle.statement_ops.proofs.StatementLaw.{delete_exactly}
use Rattle.statement_ops.proofs.laws.a_delete_is_read_exactly.Goals as goal

pub returns : goal.returns
returns c = delete_exactly
