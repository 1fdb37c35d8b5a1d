-- The entry is written over the one at its index, or put into the gap.
use Rattle.std.proofs.Common.{arith, sym, ◌∙◌}
use Rattle.bson_lite.proofs.Rising.{put_at, put_gap}
use Rattle.bson_lite.proofs.by_index.put_entry.Goals as goal

pub returns-in-Ok-clause-ok : goal.returns-in-Ok-clause-ok
returns-in-Ok-clause-ok g c = sym (put_at c.args.entries.now.items c.requires.rises c.args.index c.args.value c.in-Ok.at c.in-Ok.ensures.found)

pub returns-in_ok-insert-in-Err-clause-ok : goal.returns-in_ok-insert-in-Err-clause-ok
returns-in_ok-insert-in-Err-clause-ok g c =
    c.in_ok-insert-in-Err.ensures.items ∙ sym (put_gap c.args.entries.now.items c.args.index c.args.value _ c.in-Err.ensures.absent)

pub returns-in_err-insert-in-Err-clause-succeeds : goal.returns-in_err-insert-in-Err-clause-succeeds
returns-in_err-insert-in-Err-clause-succeeds g c room = absurd (omega (arith, room, c.in_err-insert-in-Err.ensures.full))
