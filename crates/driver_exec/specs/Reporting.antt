-- What is told of a failure that only the reply to a command spells: the reply is the model server's own, the entries of the
-- statements that did not fail stand, and the command was built.
use Rattle.std.specs.Prelude.{◌≡◌, ℕ, false, List, [], Option, Some, IfSome, Result, Ok, Err}
use Rattle.bson_lite.specs.Spelling.{Spells}
use Rattle.driver_error.specs.declared.error.Error.{Error}
use Rattle.driver_error.specs.Error.{kind_of, source_of}
use Rattle.driver_options.specs.declared.options.Description.{Description}
use Rattle.driver_link.specs.declared.machine.Entry.{Entry}
use Rattle.driver_link.specs.declared.machine.SendBody.{SendBody}
use Rattle.driver_link.specs.declared.machine.Statement.{Statement}
use Rattle.driver_link.specs.Cases.{body_writes}
use Rattle.driver_link.specs.Cursors.{Reply}
use Rattle.driver_link.specs.Exchange.{next_step}
use Rattle.driver_link.specs.LinkState.{server_run, setup_of}
use Rattle.driver_link.specs.ServerRun.{ServerRun, run_answer}
use Rattle.driver_link.specs.Settled.{Has}
use Rattle.driver_session.specs.Pool.{Pool}
use Rattle.driver_ops.specs.declared.command.Command.{Command}
use Rattle.driver_ops.specs.Fields.{SendContext}
use Rattle.driver_ops.specs.Operations.{Batch, OperationSpec, Page, ReadsPages, send_of}
use Rattle.driver_ops.specs.SendKinds.{SendKind}
use Rattle.driver_ops.specs.Served.{entries_counted, statements_in}
use Rattle.driver_attempt.specs.Moment.{Moment}
use Rattle.driver_exec.specs.Keeping.{StandsBefore}
use Rattle.driver_exec.specs.Resending.{AmongAnswers, IsReadFailure}

-- between two moments of a told server an error was read in its own reply to one of the sends of this body, as one to a command of
-- so many statements, and in the pages behind it; the executor may have added labels, the wire version and the reply, so kind and
-- source are the same. The entries of the statements that ran then, or had their kept results, stand in the log afterwards
pub record IsToldBy {A : Type 0} (spec : OperationSpec A) (statements : ℕ) (body : SendBody) (run run_now : ServerRun) (error : Error) : Type 0 where
  pub context : SendContext
  pub earlier : ℕ
  pub later : ℕ
  pub bytes : List ℕ
  pub pages : List Page
  pub alone : spec.paged ≡ false → pages ≡ []
  pub among : AmongAnswers spec statements run run_now (send_of context body) earlier later bytes pages
  pub reply : Reply
  pub answer : run_answer among.mid (send_of context body) ≡ Some reply
  pub spelled : Spells reply bytes
  pub bare : Error
  pub reads : ReadsPages spec statements bytes pages (Err bare)
  pub same_kind : kind_of error ≡ kind_of bare
  pub same_source : source_of error ≡ source_of bare
  pub done : List Statement
  pub told : statements_in among.mid.server (send_of context body) (next_step among.mid.schedule among.mid.server) ≡ Some done
  pub stand : (entry : Entry) → Has (entries_counted context.session context.number (body_writes body) done) entry → Has run_now.server.log entry

-- so is a failure that a reply spells, where pool and server are told and all stood before the operation
abbrev pub IsReported : {A : Type 0} → OperationSpec A → ℕ → SendBody → Error → Option Pool → Option Pool → Option ServerRun → Option ServerRun → Type 0
IsReported spec statements body error (Some pool) (Some pool_now) (Some run) (Some run_now) =
    StandsBefore pool pool_now run body → IsReadFailure (kind_of error) → IsToldBy spec statements body run run_now error
IsReported spec statements body error pool pool_now run run_now = Unit {0}

-- where an operation ended with such a failure it is so
abbrev pub ErrIsReported : {A : Type 0} → OperationSpec A → Batch → SendBody → Moment → Moment → Result A Error → Type 0
ErrIsReported spec batch body before now (Ok output) = Unit {0}
ErrIsReported spec batch body before now (Err error) =
    IsReported spec batch.statements body error before.store.pool now.store.pool (server_run before.link) (server_run now.link)

-- a command was built: with so many statements as are fixed afterwards, which a build takes, by the number that was fixed
-- before, for a connection that has the setup's description where the link tells its setup
pub record HasBuilt {A : Type 0} (spec : OperationSpec A) (which : SendKind) (before : Moment) (fixed fixed_now : Option ℕ) : Type 0 where
  pub statements : ℕ
  pub is : fixed_now ≡ Some statements
  pub command : Command
  pub commanded : spec.commands which statements command
  pub description : Description
  pub described : IfSome (setup_of before.link) (λ setup. description ≡ setup.description)
  pub takes : spec.takes fixed description statements

-- an operation that was done, or whose failure a reply spells, has built its command
abbrev pub HasRun : {A : Type 0} → OperationSpec A → SendKind → Moment → Option ℕ → Option ℕ → Result A Error → Type 0
HasRun spec which before fixed fixed_now (Ok output) = HasBuilt spec which before fixed fixed_now
HasRun spec which before fixed fixed_now (Err error) = IsReadFailure (kind_of error) → HasBuilt spec which before fixed fixed_now
