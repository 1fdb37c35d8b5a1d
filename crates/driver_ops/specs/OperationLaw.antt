-- The law of an operation: over the model server's own reply to its send, and its own pages behind it, what it reads as its
-- output is told by the entries of its writes.
use Rattle.std.specs.Prelude.{◌≡◌, ℕ, ℤ, false, List, [], ◌∷◌, ◌++◌, map, Some, Ok, Err}
use Rattle.bson_lite.specs.declared.namespace.Namespace.{Namespace}
use Rattle.bson_lite.specs.Spelling.{Spells}
use Rattle.driver_error.specs.declared.error.Error.{Error}
use Rattle.driver_link.specs.declared.machine.Entry.{Entry}
use Rattle.driver_link.specs.declared.machine.Place.{Place}
use Rattle.driver_link.specs.declared.machine.Scheduled.{Scheduled}
use Rattle.driver_link.specs.declared.machine.Send.{Send}
use Rattle.driver_link.specs.declared.machine.SendBody.{SendBody}
use Rattle.driver_link.specs.declared.machine.SendBody.TheVariants.{More}
use Rattle.driver_link.specs.declared.machine.Server.{Server}
use Rattle.driver_link.specs.Cursors.{Reply}
use Rattle.driver_link.specs.Exchange.{answered, exchanged}
use Rattle.driver_link.specs.Settled.{IsWrite}
use Rattle.driver_ops.specs.declared.operation.Reading.{Reading}
use Rattle.driver_ops.specs.declared.operation.Reading.TheVariants.{Page as Further}
use Rattle.driver_ops.specs.Fields.{SendContext}
use Rattle.driver_ops.specs.Operations.{OperationSpec, Page, ReadsOutput, ReadsPagesOutput, send_of}
use Rattle.driver_ops.specs.Served.{RanOrKept}

-- an output after an exchange: each statement of the send ran now or had its kept result, and the entries of its writes tell
-- the output
pub record TellsOutput {A : Type 0} (spec : OperationSpec A) (server : Server) (send : Send) (step : Scheduled) (output : A) : Type 0 where
  pub entries : List Entry
  pub stand : RanOrKept server send step entries
  pub told : spec.output entries output

-- replies as pages
abbrev pub as_pages : List Reply → List Page
as_pages replies = map (λ reply. Ok reply) replies

-- the machine's own reply to the question for the cursor that a reply and the pages behind it, the newest first, left open
pub record AsksFurther {A : Type 0} (spec : OperationSpec A) (statements : ℕ) (reply : Reply) (pages : List Reply) (server now : Server) (page : Reply) : Type 0 where
  pub cursor : ℤ
  pub namespace : Namespace
  pub left : spec.reads statements (as_pages pages ++ Ok reply ∷ []) (Ok (Further cursor namespace))
  pub context : SendContext
  pub step : Scheduled
  pub came : answered server (send_of context (More cursor)) step ≡ Some page
  pub after : now ≡ exchanged server (send_of context (More cursor)) step

-- pages behind a reply that are the machine's own, one after another, the newest first
abbrev pub FurtherPages : {A : Type 0} → OperationSpec A → ℕ → Reply → Server → List Reply → Server → Type 0
FurtherPages spec statements reply server [] now = now ≡ server
FurtherPages spec statements reply server (page ∷ pages) now =
    (mid : Server) × (FurtherPages spec statements reply server pages mid × AsksFurther spec statements reply pages mid now page)

-- an operation reads no page behind which there is another one
abbrev pub NeverOpen : {A : Type 0} → OperationSpec A → Type 0
NeverOpen spec = (statements : ℕ) (pages : List Page) (cursor : ℤ) (namespace : Namespace) → spec.reads statements pages (Ok (Further cursor namespace)) → ⊥

-- a page that did not come ends an answer with an error
abbrev pub FailsWithPage : {A : Type 0} → OperationSpec A → Type 0
FailsWithPage {A} spec = (statements : ℕ) (failure : Error) (pages : List Page) (reading : Reading A) → spec.reads statements (Err failure ∷ pages) (Ok reading) → ⊥

-- what the operation reads as its output in the machine's reply to a send of writes that it asks for, outside transactions, is so,
-- and what it reads in that reply and the machine's pages behind it; one whose answer has one page reads no
-- other, and a page that did not come ends an answer with an error
pub record IsLawful {A : Type 0} (spec : OperationSpec A) : Type 0 where
  pub alone : spec.paged ≡ false → NeverOpen spec
  pub failed : FailsWithPage spec
  pub reads_own : (statements : ℕ) (places : List Place) (body : SendBody) → spec.bodies statements places body → IsWrite body
      → (context : SendContext) (server : Server) (step : Scheduled) (reply : Reply) → answered server (send_of context body) step ≡ Some reply
      → (bytes : List ℕ) → Spells reply bytes → (output : A) → ReadsOutput spec statements bytes output → TellsOutput spec server (send_of context body) step output
  pub reads_further : (statements : ℕ) (places : List Place) (body : SendBody) → spec.bodies statements places body → IsWrite body
      → (context : SendContext) (server : Server) (step : Scheduled) (reply : Reply) → answered server (send_of context body) step ≡ Some reply
      → (bytes : List ℕ) → Spells reply bytes
      → (page : Reply) (pages : List Reply) (last : Server) → FurtherPages spec statements reply (exchanged server (send_of context body) step) (page ∷ pages) last
      → (output : A) → ReadsPagesOutput spec statements bytes (as_pages (page ∷ pages)) output → TellsOutput spec server (send_of context body) step output
