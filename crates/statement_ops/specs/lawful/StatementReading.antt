-- What the machine's reply to a command of one statement tells, where it is read as done: that statement ran now or had its kept
-- result, and its result counts what is read. So the command keeps the law of operations.
use Rattle.std.proofs.Common.{◌≡◌, ℕ, true, List, [], ◌∷◌, refl, sym, ap, subst, ◌∙◌, inl, inr}
use Rattle.std.specs.Prelude.{Option, Some, Ok}
use Rattle.bson_lite.specs.Spelling.{Spells}
use Rattle.wire_keys.specs.declared.keys.TheConstants.{OK}
use Rattle.driver_link.specs.declared.machine.Counted.{Counted}
use Rattle.driver_link.specs.declared.machine.Entry.{Entry}
use Rattle.driver_link.specs.declared.machine.Place.{Place}
use Rattle.driver_link.specs.declared.machine.PlacedWrite.{PlacedWrite}
use Rattle.driver_link.specs.declared.machine.Scheduled.{Scheduled}
use Rattle.driver_link.specs.declared.machine.Send.{Send}
use Rattle.driver_link.specs.declared.machine.SendBody.{SendBody}
use Rattle.driver_link.specs.declared.machine.SendBody.TheVariants.{Write}
use Rattle.driver_link.specs.declared.machine.SendCommand.{SendCommand}
use Rattle.driver_link.specs.declared.machine.Server.{Server}
use Rattle.driver_link.specs.declared.machine.Statement.{Statement}
use Rattle.driver_link.specs.Cursors.{Reply}
use Rattle.driver_link.specs.Exchange.{after_picks, answered, traced}
use Rattle.driver_link.specs.Replies.{result_of}
use Rattle.driver_link.specs.Serving.{Plan}
use Rattle.driver_link.specs.Settled.{IsWrite}
use Rattle.driver_link.specs.Statements.{entry_of}
use Rattle.driver_link.proofs.OneWriteReplies.{one_reply}
use Rattle.driver_ops.specs.declared.operation.Reading.TheVariants.{Done}
use Rattle.driver_ops.specs.Inserts.{int_at, is_one}
use Rattle.driver_ops.specs.OperationLaw.{FailsWithPage, IsLawful, NeverOpen, TellsOutput}
use Rattle.driver_ops.specs.Operations.{OperationSpec, ReadsOutput, send_of}
use Rattle.driver_ops.specs.Served.{statements_in}
use Rattle.driver_ops.specs.lawful.AlonePages.{none_further}
use Rattle.driver_ops.specs.lawful.ReplyNumbers.{error_not_one}
use Rattle.driver_ops.specs.lawful.InsertRead.{differ, ok_is_one, spells_one}
use Rattle.driver_ops.specs.lawful.Statements.{TellsStatements, reply_of_writes}
use Rattle.statement_ops.specs.lawful.OneWriteReplies.{IsOneCounted, IsOneOf, one_stands, one_told}

-- how an operation of one statement reads: it asks for one write, and for no further page; what it reads as its output in a reply is
-- read so (`IsRead`); a
-- statement whose reply is read so has a result, and that counts the output (`counted_by`); and an entry with such a result tells it
pub record ReadsStatement {A : Type 0} (does : SendCommand) (spec : OperationSpec A) (IsRead : Reply → A → Type 0) (counted_by : Counted → Option A) : Type 0 where
  pub asks : (statements : ℕ) (places : List Place) (body : SendBody) → spec.bodies statements places body → (write : PlacedWrite) × (body ≡ Write does true (write ∷ []))
  pub never : NeverOpen spec
  pub failed : FailsWithPage spec
  pub reads : (statements : ℕ) (reply : Reply) (output : A) → spec.reads statements (Ok reply ∷ []) (Ok (Done output)) → IsRead reply output
  pub has_result : (plan : Plan) (server : Server) (write : PlacedWrite) (statement : Statement) (output : A) → IsRead (one_reply does plan server write statement) output
      → (result : Counted) × (result_of statement ≡ Some result)
  pub counts : (plan : Plan) (server : Server) (write : PlacedWrite) (statement : Statement) (result : Counted) (output : A) → result_of statement ≡ Some result
      → IsRead (one_reply does plan server write statement) output → counted_by result ≡ Some output
  pub tells : (entry : Entry) (output : A) → counted_by entry.result ≡ Some output → spec.output (entry ∷ []) output

-- a command of one statement whose reply is read as done: that statement is told, and its result counts what is read
pub record IsDoneAsRead {A : Type 0} (does : SendCommand) (IsRead : Reply → A → Type 0) (counted_by : Counted → Option A) (server : Server) (send : Send) (step : Scheduled) (write : PlacedWrite)
    (found : Reply) (output : A) : Type 0 where
  pub one : IsOneCounted does server send step write found
  pub read : IsRead found output
  pub counts : counted_by one.result ≡ Some output

module _ {A : Type 0} {does : SendCommand} {spec : OperationSpec A} {IsRead : Reply → A → Type 0} {counted_by : Counted → Option A} (reading : ReadsStatement does spec IsRead counted_by) where
  -- by what its reply tells
  told_by : (server : Server) (send : Send) (step : Scheduled) (write : PlacedWrite) (found : Reply) (output : A) → IsOneOf does send write
      → answered server send step ≡ Some found → IsRead found output
      → TellsStatements (traced (after_picks server step.deliver) send) send step.item found → IsDoneAsRead does IsRead counted_by server send step write found output
  unfolding statements_in answered
  told_by server send step write found output one answer read tells =
      let before = traced (after_picks server step.deliver) send in
      let alone = one_told does before send write one step.item tells.done found tells.told answer in
      let here = subst (λ reply. IsRead reply output) alone.is read in
      let counted = reading.has_result alone.plan before write alone.statement output here in
      record {
        read = read;
        one = record { done = tells.done; told = tells.told; alone = alone; result = counted.0; counts = counted.1 };
        counts = reading.counts alone.plan before write alone.statement counted.0 output counted.1 here;
      }

  -- a reply that is read as done is none that spells an error
  told : (server : Server) (send : Send) (step : Scheduled) (write : PlacedWrite) (found : Reply) (output : A) → IsOneOf does send write
      → answered server send step ≡ Some found → is_one (int_at OK.now found) ≡ true → IsRead found output → IsDoneAsRead does IsRead counted_by server send step write found output
  unfolding answered
  told server send step write found output one answer done read =
      let before = traced (after_picks server step.deliver) send in
      elim (reply_of_writes before send step.item found one.out (subst IsWrite (sym one.body) tt) answer) [
        | inl error ↦ absurd (differ (sym (ap (λ reply. is_one (int_at OK.now reply)) error.is ∙ error_not_one error.code error.labels) ∙ done))
        | inr tells ↦ told_by server send step write found output one answer read tells
      ]

  -- an exchange whose reply is read as done
  pub told_by_reading : (statements : ℕ) (server : Server) (send : Send) (step : Scheduled) (write : PlacedWrite) (found : Reply)
      → IsOneOf does send write → answered server send step ≡ Some found → (bytes : List ℕ) → Spells found bytes → (output : A)
      → ReadsOutput spec statements bytes output → IsDoneAsRead does IsRead counted_by server send step write found output
  told_by_reading statements server send step write found one answer bytes spelled output reads =
      let same = spells_one reads.response.body found bytes reads.done.spelled spelled in
      let done = subst (λ reply. is_one (int_at OK.now reply) ≡ true) same (ok_is_one reads.response.body reads.done.is) in
      let read = subst (λ reply. IsRead reply output) same (reading.reads statements reads.response.body output reads.reads) in
      told server send step write found output one answer done read

  -- its output is told by the entry of its write
  pub output_told : (statements : ℕ) (server : Server) (send : Send) (step : Scheduled) (write : PlacedWrite) (found : Reply)
      → IsOneOf does send write → answered server send step ≡ Some found → (bytes : List ℕ) → Spells found bytes → (output : A)
      → ReadsOutput spec statements bytes output → TellsOutput spec server send step output
  output_told statements server send step write found one answer bytes spelled output reads =
      let is = told_by_reading statements server send step write found one answer bytes spelled output reads in
      record {
        entries = entry_of send.session send.number write is.one.result ∷ [];
        stand = one_stands does server send step write found one is.one;
        told = reading.tells (entry_of send.session send.number write is.one.result) output is.counts;
      }

  -- so over the machine's own reply an operation of one statement keeps the law
  pub statement_lawful : IsLawful spec
  statement_lawful = record {
    alone = λ one. reading.never;
    failed = reading.failed;
    reads_own = λ statements places body asks writes context server step reply answer came spelled output reads.
        let asked = reading.asks statements places body asks in
        let one : IsOneOf does (send_of context body) asked.0 = record { out = refl; body = asked.1 } in
        output_told statements server (send_of context body) step asked.0 reply one answer came spelled output reads;
    reads_further = λ statements places body asks writes context server step reply answer came spelled page pages last further output reads.
        absurd (none_further spec reading.never statements reply _ last page pages further);
  }
