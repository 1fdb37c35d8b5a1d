use Rattle.bulk_ops.proofs.laws.an_op_is_sent_on_its_namespace.Goals as goal
use Rattle.bulk_ops.proofs.BulkCommand.{op_spelled}

-- the bytes of an op with its number
pub returns : goal.returns
returns c = op_spelled
