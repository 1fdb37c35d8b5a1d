use Rattle.bson_lite.proofs.Uniting.{get-union}
use Rattle.bson_lite.proofs.laws.union_by_index.Goals as goal

pub returns : goal.returns
returns g c = get-union
