-- The longest front, where it is not empty.
use Rattle.std.proofs.Common.{sym, ◌∙◌}
use Rattle.bulk_fronts.proofs.TakenFronts.{first_front, first_none}
use Rattle.bulk_fronts.proofs.bulk_front.taken_first.Goals as goal

pub returns-then-count-eq0 : goal.returns-then-count-eq0
returns-then-count-eq0 c = first_none c.args.limits.now c.args.ops.now c.in_ok-front.front c.in_ok-front.ensures (sym c.len-count.ensures ∙ c.if-count-eq0.true)

pub returns-else-count-eq0 : goal.returns-else-count-eq0
returns-else-count-eq0 c = first_front c.args.limits.now c.args.ops.now c.in_ok-front.front c.in_ok-front.ensures (λ none. c.if-count-eq0.false (c.len-count.ensures ∙ none))
