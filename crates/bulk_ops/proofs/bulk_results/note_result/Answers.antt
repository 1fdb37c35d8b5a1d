-- A result of an op of the batch that had none is noted.
use Rattle.std.proofs.Common.{refl}
use Rattle.bulk_ops.proofs.NotedResults.{one_noted}
use Rattle.bulk_ops.proofs.bulk_results.note_result.Goals as goal

pub returns : goal.returns
returns c =
    one_noted c.args.ops c.args.seen.now (record c.args.seen.now { flags = c.set_flag.new.flags }) c.note_new.new.seen c.args.told.now c.set_flag.new.flags c.in_ok-is_new.is_new c.if-told-ops.false
    c.in_ok-is_new.ensures.was c.if-not-is_new.false c.in_ok-is_new.ensures.sets refl c.note_new.ensures
