use Rattle.bson_reading.proofs.Refusing.{breaks_exactly}
use Rattle.bson_reading.proofs.laws.breaks_at_first_broken.Goals as goal

pub returns : goal.returns
returns c = breaks_exactly
