-- The id is put unless its document failed.
use Rattle.std.proofs.Common.{◌≡◌, Bool, OnOk, ap, not, subst, sym, ◌∙◌}
use Rattle.std.specs.Prelude.{if◌then◌else◌}
use Rattle.std.specs.FinMap as finite
use Rattle.write_ops.proofs.inserted.put_id.Goals as goal

pub returns-then-contains : goal.returns-then-contains
returns-then-contains c =
    let old = c.args.ids.now in
    sym (ap (λ (known : Bool). if not known then finite.insert old c.args.at c.args.id.now else old) (sym c.contains.ensures ∙ c.if-contains.true))

pub returns-in_ok-try_clone : goal.returns-in_ok-try_clone
returns-in_ok-try_clone c =
    let old = c.args.ids.now in
    subst (λ ids. OnOk c.insert.result (c.insert.new.self ≡ ids))
    (ap (λ id. finite.insert old c.args.at id) c.in_ok-try_clone.ensures.same
    ∙ sym (ap (λ (known : Bool). if not known then finite.insert old c.args.at c.args.id.now else old) (sym c.contains.ensures ∙ c.if-contains.false))) c.insert.ensures.ok
