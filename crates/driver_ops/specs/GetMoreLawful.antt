-- The commands of a cursor keep the law of operations: they write nothing.
use Rattle.std.proofs.Common.{ℤ, subst}
use Rattle.driver_link.specs.Settled.{IsWrite}
use Rattle.driver_ops.specs.declared.target.OperationTarget.{OperationTarget}
use Rattle.driver_ops.specs.GetMores.{ReadsKill, ReadsMore, kill_spec, more_spec}
use Rattle.driver_ops.specs.OperationLaw.{IsLawful}
use Rattle.driver_ops.specs.lawful.AlonePages.{never_open, none_failed}

-- no command of a cursor carries writes
pub more_lawful : (goal : OperationTarget) (cursor : ℤ) → IsLawful (more_spec goal cursor)
more_lawful goal cursor = record {
  alone = λ one statements. never_open ReadsMore;
  failed = λ statements. none_failed ReadsMore;
  reads_own = λ statements places body asks is_write context server step reply answer bytes spelled output reads. absurd (subst IsWrite asks.is is_write);
  reads_further = λ statements places body asks is_write context server step reply answer bytes spelled page pages last further output reads. absurd (subst IsWrite asks.is is_write);
}

pub kill_lawful : (goal : OperationTarget) (cursor : ℤ) → IsLawful (kill_spec goal cursor)
kill_lawful goal cursor = record {
  alone = λ one statements. never_open ReadsKill;
  failed = λ statements. none_failed ReadsKill;
  reads_own = λ statements places body asks is_write context server step reply answer bytes spelled output reads. absurd (subst IsWrite asks.is is_write);
  reads_further = λ statements places body asks is_write context server step reply answer bytes spelled page pages last further output reads. absurd (subst IsWrite asks.is is_write);
}
