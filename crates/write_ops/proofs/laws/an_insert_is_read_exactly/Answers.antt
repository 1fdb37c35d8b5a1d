-- The law is a lemma.
use Rattle.write_ops.proofs.InsertLaw.{read_exactly}
use Rattle.write_ops.proofs.laws.an_insert_is_read_exactly.Goals as goal

pub returns : goal.returns
returns c = read_exactly
