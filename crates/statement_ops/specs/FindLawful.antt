-- A findAndModify keeps the law of operations.
use Rattle.std.specs.Prelude.{List}
use Rattle.bson_lite.specs.declared.bson.Bson.{Bson}
use Rattle.bson_lite.specs.declared.document.Pair.{Pair}
use Rattle.driver_options.specs.declared.find_options.FindAndModifyOptions.{FindAndModifyOptions}
use Rattle.driver_options.specs.declared.updates.Modification.{Modification}
use Rattle.driver_link.specs.declared.machine.SendCommand.TheVariants as command
use Rattle.driver_link.specs.declared.machine.WriteKind.TheVariants as kind
use Rattle.driver_ops.specs.declared.target.OperationTarget.{OperationTarget}
use Rattle.driver_ops.specs.OperationLaw.{IsLawful}
use Rattle.driver_ops.specs.Targets.{namespace_of}
use Rattle.driver_ops.specs.lawful.AlonePages.{never_open, none_failed}
use Rattle.statement_ops.specs.FindingAndModifying.{find_command}
use Rattle.statement_ops.specs.FoundAnswers.{ReadsFind, found_by}
use Rattle.statement_ops.specs.StatementSpec.{find_spec, statement_write}
use Rattle.statement_ops.specs.lawful.FindReplies.{IsFindRead, find_by, find_counts, find_read}
use Rattle.statement_ops.specs.lawful.StatementReading.{ReadsStatement, statement_lawful}

-- a findAndModify reads the document of its one write's result
pub find_reading : (target : OperationTarget) (filter : List (Pair Bson)) (modification : Modification) (options : FindAndModifyOptions)
    → ReadsStatement command.FindAndModify (find_spec target filter modification options) IsFindRead found_by
find_reading target filter modification options = record {
  asks = λ statements places body asked. (statement_write kind.FindAndModify (namespace_of target) (find_command (namespace_of target) filter modification options) asked.place, asked.is);
  never = λ statements. never_open ReadsFind;
  failed = λ statements. none_failed ReadsFind;
  reads = λ statements reply output answers. find_read reply output answers;
  has_result = λ plan server write statement output read. find_counts plan server write statement read.failed read.failed_is read.none;
  counts = find_by;
  tells = λ entry output is. is;
}

-- over the machine's own reply its output is told by the entry of its write
pub find_lawful : (target : OperationTarget) (filter : List (Pair Bson)) (modification : Modification) (options : FindAndModifyOptions) → IsLawful (find_spec target filter modification options)
find_lawful target filter modification options = statement_lawful (find_reading target filter modification options)
