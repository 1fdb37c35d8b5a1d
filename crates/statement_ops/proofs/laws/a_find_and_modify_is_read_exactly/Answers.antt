-- The law is a lemma.
use Rattle.statement_ops.proofs.FindLaw.{find_exactly}
use Rattle.statement_ops.proofs.laws.a_find_and_modify_is_read_exactly.Goals as goal

pub returns : goal.returns
returns c = find_exactly
