use Rattle.bson_reading.proofs.Sound.{read_took}
use Rattle.bson_reading.proofs.laws.read_is_spelled.Goals as goal

pub returns : goal.returns
returns c = read_took
