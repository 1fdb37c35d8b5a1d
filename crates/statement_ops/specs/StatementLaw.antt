-- Where an update, a delete and a findAndModify of one statement are read as done, over the model server's own reply to their send.
use Rattle.std.specs.Prelude.{◌≡◌, ℕ, false, List, [], ◌∷◌, Option, None, Some, Ok, Err}
use Rattle.bson_lite.specs.declared.bson.Bson.{Bson}
use Rattle.bson_lite.specs.declared.document.Pair.{Pair}
use Rattle.bson_lite.specs.declared.namespace.Namespace.{Namespace}
use Rattle.bson_lite.specs.Spelling.{Spells}
use Rattle.driver_error.specs.declared.error.Error.{Error}
use Rattle.driver_error.specs.declared.kind.ErrorKind.TheVariants.{Memory}
use Rattle.driver_error.specs.Error.{kind_of}
use Rattle.driver_link.specs.declared.machine.Counted.{Counted}
use Rattle.driver_link.specs.declared.machine.Item.{Item}
use Rattle.driver_link.specs.declared.machine.Item.TheVariants.{Serve}
use Rattle.driver_link.specs.declared.machine.Place.{Place}
use Rattle.driver_link.specs.declared.machine.PlannedConcern.{PlannedConcern}
use Rattle.driver_link.specs.declared.machine.Scheduled.{Scheduled}
use Rattle.driver_link.specs.declared.machine.Send.{Send}
use Rattle.driver_link.specs.declared.machine.SendBody.{SendBody}
use Rattle.driver_link.specs.declared.machine.SendCommand.{SendCommand}
use Rattle.driver_link.specs.declared.machine.Server.{Server}
use Rattle.driver_link.specs.declared.machine.Statement.{Statement}
use Rattle.driver_link.specs.declared.machine.WriteKind.{WriteKind}
use Rattle.driver_link.specs.Cursors.{Reply}
use Rattle.driver_link.specs.Exchange.{answered}
use Rattle.driver_link.specs.Replies.{results_in}
use Rattle.driver_link.specs.Statements.{has_failed}
use Rattle.driver_ops.specs.Fields.{SendContext}
use Rattle.driver_ops.specs.OperationLaw.{TellsOutput}
use Rattle.driver_ops.specs.Operations.{OperationSpec, ReadsAnswer, send_of}
use Rattle.driver_ops.specs.Served.{statements_in}
use Rattle.statement_ops.specs.StatementSpec.{AsksStatement}

-- the write concern error that an item plans
abbrev pub planned_concern : Item → Option PlannedConcern
planned_concern (Serve results fail concern page) = concern
planned_concern other = None

-- one exchange of a command of one statement, outside transactions, with the machine's own reply to it in bytes
pub record ExchangesStatement (asks : SendCommand) (does : WriteKind) (namespace : Namespace) (statement : List (Pair Bson)) (server : Server) (send : Send) (step : Scheduled) (reply : List ℕ) : Type 0 where
  pub statements : ℕ
  pub places : List Place
  pub body : SendBody
  pub asked : AsksStatement asks does namespace statement statements places body
  pub context : SendContext
  pub send_is : send ≡ send_of context body
  pub found : Reply
  pub answer : answered server send step ≡ Some found
  pub spelled : Spells found reply

-- in one exchange the one statement of a send ran now or had its kept result, and there is no write concern error
pub record CountsStatement (server : Server) (send : Send) (step : Scheduled) (result : Counted) : Type 0 where
  pub done : List Statement
  pub told : statements_in server send step ≡ Some done
  pub unfailed : has_failed done ≡ false
  pub counts : results_in done ≡ result ∷ []
  pub concern : planned_concern step.item ≡ None

-- the reply is read as done only where its statement counts the output so, and then its entry tells it; there it is read as that
-- output, and as nothing else unless memory runs out
pub record IsReadAsCounted {A : Type 0} (spec : OperationSpec A) (counts : Counted → Option A) (server : Server) (send : Send) (step : Scheduled) (reply : List ℕ) : Type 0 where
  pub only : (output : A) → ReadsAnswer spec 1 reply (Ok output)
      → ((result : Counted) × (CountsStatement server send step result × (counts result ≡ Some output))) × TellsOutput spec server send step output
  pub done : (result : Counted) (output : A) → CountsStatement server send step result → counts result ≡ Some output → ReadsAnswer spec 1 reply (Ok output)
  pub there : (result : Counted) (output : A) → CountsStatement server send step result → counts result ≡ Some output → (error : Error) → ReadsAnswer spec 1 reply (Err error)
      → kind_of error ≡ Memory
