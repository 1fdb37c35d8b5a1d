-- The labels that are left decide.
use Rattle.std.proofs.Common.{◌≡◌, drop}
use Rattle.std.specs.List.{list_all}
use Rattle.driver_script.specs.ScheduleSteps.{is_built_label}
use Rattle.driver_script.proofs.schedule.are_built.Given as goal

abbrev pub invariant-loop-label : goal.invariant-loop-label
invariant-loop-label l = list_all is_built_label (drop l.label-index l.labels) ≡ list_all is_built_label l.labels
