-- An entry behind all others comes into the gap there.
use Rattle.std.proofs.Common.{arith, sym, ◌∙◌}
use Rattle.bson_lite.proofs.Rising.{put_last}
use Rattle.bson_lite.proofs.by_index.push_entry.Goals as goal

pub returns-clause-ok : goal.returns-clause-ok
returns-clause-ok g c =
    c.in_ok-push.ensures.items
    ∙ sym (put_last c.args.entries.now.items c.args.index c.args.value _ c.args.entries.now.ok.0 c.requires)

pub returns-in_err-push-clause-succeeds : goal.returns-in_err-push-clause-succeeds
returns-in_err-push-clause-succeeds g c room = absurd (omega (arith, room, c.in_err-push.ensures.full))
