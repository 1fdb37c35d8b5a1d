-- A delete of one statement keeps the law of operations.
use Rattle.std.specs.Prelude.{Bool, List}
use Rattle.bson_lite.specs.declared.bson.Bson.{Bson}
use Rattle.bson_lite.specs.declared.document.Pair.{Pair}
use Rattle.driver_options.specs.declared.write_options.DeleteOptions.{DeleteOptions}
use Rattle.driver_link.specs.declared.machine.SendCommand.TheVariants as command
use Rattle.driver_link.specs.declared.machine.WriteKind.TheVariants as kind
use Rattle.driver_ops.specs.declared.target.OperationTarget.{OperationTarget}
use Rattle.driver_ops.specs.OperationLaw.{IsLawful}
use Rattle.driver_ops.specs.Targets.{namespace_of}
use Rattle.driver_ops.specs.lawful.AlonePages.{never_open, none_failed}
use Rattle.statement_ops.specs.CountAnswers.{ReadsDelete, deleted_by}
use Rattle.statement_ops.specs.Deleting.{delete_statement}
use Rattle.statement_ops.specs.StatementSpec.{delete_spec, statement_write}
use Rattle.statement_ops.specs.lawful.CountReplies.{IsDeleteRead, delete_by, delete_counts, delete_read}
use Rattle.statement_ops.specs.lawful.StatementReading.{ReadsStatement, statement_lawful}

-- a delete reads the count of its one statement
pub delete_reading : (target : OperationTarget) (filter : List (Pair Bson)) (multi : Bool) (options : DeleteOptions)
    → ReadsStatement command.Delete (delete_spec target filter multi options) IsDeleteRead deleted_by
delete_reading target filter multi options = record {
  asks = λ statements places body asked. (statement_write kind.Delete (namespace_of target) (delete_statement filter multi options) asked.place, asked.is);
  never = λ statements. never_open ReadsDelete;
  failed = λ statements. none_failed ReadsDelete;
  reads = λ statements reply output answers. delete_read reply output answers;
  has_result = λ plan server write statement output read. delete_counts plan server write statement read.failed read.failed_is read.none;
  counts = delete_by;
  tells = λ entry output is. is;
}

-- over the machine's own reply its output is told by the entry of its write
pub delete_lawful : (target : OperationTarget) (filter : List (Pair Bson)) (multi : Bool) (options : DeleteOptions) → IsLawful (delete_spec target filter multi options)
delete_lawful target filter multi options = statement_lawful (delete_reading target filter multi options)
