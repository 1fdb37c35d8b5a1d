-- The bytes around those of the document spell the op.
use Rattle.std.proofs.lemmas.Result.{IfOk-weaker}
use Rattle.std.specs.Prelude.{IfSome}
use Rattle.bson_lite.specs.Spelling.{Spells}
use Rattle.bulk_fronts.specs.inside.BulkOps.{insert_op}
use Rattle.bulk_fronts.specs.inside.InsertSpelling.{FramesInsert}
use Rattle.bulk_fronts.proofs.InsertSpelled.{levels_taken, spelled_where_framed}
use Rattle.bulk_fronts.proofs.insert_spelling.insert_bytes.Goals as goal

pub returns-in-Ok : goal.returns-in-Ok
returns-in-Ok c =
    IfOk-weaker c.op_around.result (λ found. IfSome found (FramesInsert c.in-Ok.own)) (λ found. IfSome found (Spells (insert_op c.args.document.now)))
    (λ found frames. spelled_where_framed c.args.document.now c.in-Ok.own found (levels_taken c.args.document.now c.in-Ok.ensures.0) c.in-Ok.ensures.1 frames)
    c.op_around.ensures
