-- The document has an id or none.
use Rattle.std.proofs.Common.{◌≡◌, ◌+◌, OnOk, ap, subst}
use Rattle.std.specs.Prelude.{Option}
use Rattle.bson_lite.specs.declared.bson.Bson.{Bson}
use Rattle.write_ops.specs.InsertSpec.{id_beside}
use Rattle.many_actions.proofs.gathered.put_id.Goals as goal

pub returns-in-None : goal.returns-in-None
returns-in-None c = ap (λ (found : Option Bson). id_beside (c.args.first + c.args.at) found c.args.all.now) c.in-None.ensures

pub returns-in-Some : goal.returns-in-Some
returns-in-Some c =
    subst (λ (found : Option Bson). OnOk c.put_copy.result (c.put_copy.new.all ≡ id_beside (c.args.first + c.args.at) found c.args.all.now))
    c.in-Some.ensures c.put_copy.ensures
