-- The id is put.
use Rattle.std.proofs.Common.{◌≡◌, OnOk, ap, subst}
use Rattle.std.specs.FinMap as finite
use Rattle.write_ops.proofs.inserted.add_id.Goals as goal

pub returns : goal.returns
returns c =
    subst (λ ids. OnOk c.insert.result (c.insert.new.self ≡ ids)) (ap (λ id. finite.insert c.args.ids.now c.args.at id) c.in_ok-try_clone.ensures.same) c.insert.ensures.ok
