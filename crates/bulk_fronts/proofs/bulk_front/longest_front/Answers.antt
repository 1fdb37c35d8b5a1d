-- One op more, and where the front ends.
use Rattle.std.proofs.Common.{Bor, List, ℕ, ap, bytes_eq, refl}
use Rattle.std.specs.HashMap as hash
use Rattle.std.specs.Map.{lookup}
use Rattle.bulk_fronts.specs.Distinct.{distinct_with}
use Rattle.bulk_fronts.proofs.BulkFronts.{fits_none}
use Rattle.bulk_fronts.proofs.BulkSpelled.{spelled_none}
use Rattle.bulk_fronts.proofs.BulkSteps.{ends_behind, ends_here, goes_on}
use Rattle.bulk_fronts.proofs.bulk_front.longest_front.Goals as goal

pub loop-i-init : goal.loop-i-init
unfolding distinct_with
loop-i-init c = record {
  fits = fits_none c.args.limits.now;
  summed = refl;
  spelled = spelled_none c.args.ops.now c.no_ops-front.result c.no_ops-front.ensures.namespaces c.no_ops-front.ensures.ops;
  finds = λ text. ap (lookup (λ (k : Bor (List ℕ)). bytes_eq text k.now)) c.new-numbers.ensures.empty;
}

pub returns-in-None : goal.returns-in-None
returns-in-None c =
    ends_here c.args.limits.now c.args.ops.now c.loop-i.i c.loop-i.total c.added_bytes.result c.index-ops-i.result c.as_str.result.now c.number_at-number.result c.loop-i.front
    (λ text. hash.get_by (λ (k : Bor (List ℕ)). bytes_eq text k.now) c.loop-i.numbers)
    c.loop-i-test.true c.index-ops-i.is c.as_str.ensures.value c.number_at-number.ensures c.added_bytes.ensures c.loop-i.invariant c.in-None.ensures.none

pub loop-i-preserved : goal.loop-i-preserved
loop-i-preserved c =
    goes_on c.args.limits.now c.args.ops.now c.loop-i.i c.loop-i.total c.added_bytes.result c.index-ops-i.result c.as_str.result.now c.number_at-number.result c.loop-i.front
    (λ text. hash.get_by (λ (k : Bor (List ℕ)). bytes_eq text k.now) c.loop-i.numbers)
    c.loop-i-test.true c.index-ops-i.is c.as_str.ensures.value c.number_at-number.ensures c.added_bytes.ensures c.loop-i.invariant
    c.in-Some.sum c.in_ok-number.number c.number_op.new.front c.push_op.new.front (λ text. hash.get_by (λ (k : Bor (List ℕ)). bytes_eq text k.now) c.number_op.new.numbers)
    c.in-Some.ensures.sum c.in-Some.ensures.fits c.in_ok-number.ensures c.in_ok-push_op.ensures

pub returns : goal.returns
returns c =
    ends_behind c.args.limits.now c.args.ops.now c.loop-i.i c.loop-i.total c.loop-i.front (λ text. hash.get_by (λ (k : Bor (List ℕ)). bytes_eq text k.now) c.loop-i.numbers)
    c.loop-i-test.false c.loop-i.auto.i-end c.loop-i.invariant
