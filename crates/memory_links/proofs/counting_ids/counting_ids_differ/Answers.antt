use Rattle.memory_links.proofs.CountedIds.{objects_apart, sessions_apart}
use Rattle.memory_links.proofs.counting_ids.counting_ids_differ.Goals as goal

pub returns-clause-sessions : goal.returns-clause-sessions
returns-clause-sessions c = sessions_apart

pub returns-clause-objects : goal.returns-clause-objects
returns-clause-objects c = objects_apart
