use Rattle.std.proofs.lemmas.Bool.Decides.{same_from_decides}
use Rattle.bson_lite.specs.Same.{same_by, bson_code}
use Rattle.bson_lite.specs.Sameness.{same_by-Decides}
use Rattle.bson_lite.proofs.same.BsonPartialEq.eq.Goals as goal

pub returns-clause-same : goal.returns-clause-same
returns-clause-same c =
    same_from_decides c.same_value.result (same_by bson_code c.args.self.now c.args.other.now) c.same_value.ensures (same_by-Decides bson_code c.args.self.now c.args.other.now)
