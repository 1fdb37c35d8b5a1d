-- One id more, and then all of them.
use Rattle.std.proofs.Common.{◌≡◌, ℕ, ◌<◌, ◌≤◌, ap, arith, refl, ◌∙◌}
use Rattle.many_actions.specs.ManyAnswers.{put_ids}
use Rattle.many_actions.proofs.Gathering.{put_more}
use Rattle.many_actions.proofs.gathered.put_ids.Goals as goal

pub puts-init : goal.puts-init
puts-init c = record { within = omega arith; put = refl }

pub puts-preserved : goal.puts-preserved
puts-preserved c =
    let below : c.puts.at < c.args.count = c.puts-test.true in
    record {
      within = omega (arith, below);
      put = put_more c.args.first c.puts.at c.args.ids.now c.args.all.now c.puts.all c.put_id.new.all c.puts.invariant.put c.in_ok-put_id.ensures;
    }

pub returns : goal.returns
returns c =
    let within : c.puts.at ≤ c.args.count = c.puts.invariant.within in
    let past : c.args.count ≤ c.puts.at = c.puts-test.false in
    let done : c.puts.at ≡ c.args.count = omega (arith, within, past) in
    c.puts.invariant.put ∙ ap (λ (count : ℕ). put_ids c.args.first count c.args.ids.now c.args.all.now) done
