-- The schedule of a script is one that a model server takes.
use Rattle.script_parts.specs.Json.{value_read}
use Rattle.driver_script.proofs.Schedules.{read_well}
use Rattle.driver_script.proofs.script.read_script.Goals as goal

pub returns-else-count-gt-MOST_CALLS-clause-well_formed : goal.returns-else-count-gt-MOST_CALLS-clause-well_formed
returns-else-count-gt-MOST_CALLS-clause-well_formed c = read_well (value_read c.args.bytes.now) c.in-Ok.script c.in-Ok.ensures
