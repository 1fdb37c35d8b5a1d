-- What the bytes of a body tell is of the frame.
use Rattle.std.proofs.Common.{ℕ, List, subst}
use Rattle.frame_reading.specs.inside.PlainInserts.{IsPlainInsert, ReadsPlain}
use Rattle.frame_reading.proofs.reading.read_send.Goals as goal

pub insert_send-requires : goal.insert_send-requires
insert_send-requires c =
    subst (λ (body : List ℕ). IsPlainInsert c.args.frame.now.database body c.in-Some.plain) c.body.ensures
    (subst (λ (database : List ℕ). IsPlainInsert database c.body.result.now c.in-Some.plain) c.database.ensures
    (subst (λ told. ReadsPlain c.database.result.now c.body.result.now told) c.in-Some.is c.in_ok-plain.ensures))
