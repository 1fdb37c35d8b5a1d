-- The entries of the other map in order are put in one after another.
use Rattle.std.proofs.Common.{◌≡◌, ◌∙◌}
use Rattle.std.proofs.lemmas.Result.{on_ok_weaker}
use Rattle.bson_lite.specs.Indexed.{insert_each}
use Rattle.bson_lite.proofs.Uniting.{puts_all}
use Rattle.bson_lite.proofs.by_index.ByIndex.unite.Goals as goal

pub returns-clause-ok : goal.returns-clause-ok
returns-clause-ok g c =
    on_ok_weaker c.extend.result
    (λ (put : c.extend.new.self ≡ insert_each c.args.self.now c.more.inside.entries.items).
    put ∙ puts_all c.args.self.now c.args.more c.more.inside.entries.items c.more.invariant c.more.view_is)
    c.extend.ensures.ok
