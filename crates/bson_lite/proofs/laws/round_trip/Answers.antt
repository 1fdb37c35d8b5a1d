use Rattle.bson_lite.proofs.Nested.{read_again}
use Rattle.bson_lite.proofs.laws.round_trip.Goals as goal

pub returns : goal.returns
returns c = read_again
