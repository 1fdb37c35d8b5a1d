-- An update of one statement keeps the law of operations.
use Rattle.std.specs.Prelude.{Bool, List}
use Rattle.bson_lite.specs.declared.bson.Bson.{Bson}
use Rattle.bson_lite.specs.declared.document.Pair.{Pair}
use Rattle.driver_options.specs.declared.updates.UpdateOrReplace.{UpdateOrReplace}
use Rattle.driver_options.specs.declared.write_options.UpdateOptions.{UpdateOptions}
use Rattle.driver_link.specs.declared.machine.SendCommand.TheVariants as command
use Rattle.driver_link.specs.declared.machine.WriteKind.TheVariants as kind
use Rattle.driver_ops.specs.declared.target.OperationTarget.{OperationTarget}
use Rattle.driver_ops.specs.OperationLaw.{IsLawful}
use Rattle.driver_ops.specs.Targets.{namespace_of}
use Rattle.driver_ops.specs.lawful.AlonePages.{never_open, none_failed}
use Rattle.statement_ops.specs.CountAnswers.{ReadsUpdate, updated_by}
use Rattle.statement_ops.specs.StatementSpec.{statement_write, update_spec}
use Rattle.statement_ops.specs.Updating.{update_statement}
use Rattle.statement_ops.specs.lawful.CountReplies.{IsUpdateRead, update_by, update_counts, update_read}
use Rattle.statement_ops.specs.lawful.StatementReading.{ReadsStatement, statement_lawful}

-- an update reads the counts of its one statement
pub update_reading : (target : OperationTarget) (filter : List (Pair Bson)) (change : UpdateOrReplace) (multi : Bool) (options : UpdateOptions)
    → ReadsStatement command.Update (update_spec target filter change multi options) IsUpdateRead updated_by
update_reading target filter change multi options = record {
  asks = λ statements places body asked. (statement_write kind.Update (namespace_of target) (update_statement filter change multi options) asked.place, asked.is);
  never = λ statements. never_open ReadsUpdate;
  failed = λ statements. none_failed ReadsUpdate;
  reads = λ statements reply output answers. update_read reply output answers;
  has_result = λ plan server write statement output read. update_counts plan server write statement read.failed read.failed_is read.none;
  counts = update_by;
  tells = λ entry output is. is;
}

-- over the machine's own reply its output is told by the entry of its write
pub update_lawful : (target : OperationTarget) (filter : List (Pair Bson)) (change : UpdateOrReplace) (multi : Bool) (options : UpdateOptions) → IsLawful (update_spec target filter change multi options)
update_lawful target filter change multi options = statement_lawful (update_reading target filter change multi options)
