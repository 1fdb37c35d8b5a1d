-- A findAndModify asks for its one write under its one place.
use Rattle.std.proofs.Common.{refl}
use Rattle.executor_tests.proofs.collections.executed.Goals as goal

pub execute_operation-result-requires : goal.execute_operation-result-requires
execute_operation-result-requires g c = λ which statements command is. (_, record { one = is.one; place = _; alone = refl; is = refl })
