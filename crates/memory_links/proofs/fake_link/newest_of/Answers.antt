-- The connection that was reached is the newest of its number.
use Rattle.std.proofs.Common.{◌+◌, ◌-◌, arith, sym, subst, ◌∙◌, false, ◌≡◌, drop}
use Rattle.driver_link.specs.LinkState.{has_number}
use Rattle.driver_link.proofs.ConnectionsOut.{same_number}
use Rattle.memory_links.proofs.NewestOut.{newest_at}
use Rattle.memory_links.proofs.fake_link.newest_of.Goals as goal

pub returns-then-number : goal.returns-then-number
returns-then-number c =
    let same : c.index-out-at.result.number ≡ c.args.number = sym c.number.ensures ∙ c.if-number.true in
    let last : c.back.at ≡ c.back.at - 1 + 1 = omega arith in (
      omega arith,
      newest_at c.args.number c.args.out.now (c.back.at - 1) c.index-out-at.result (omega arith) c.index-out-at.is (same_number c.index-out-at.result.number c.args.number same)
          (subst (λ n. has_number c.args.number (drop n c.args.out.now) ≡ false) last c.back.invariant.none),
    )
