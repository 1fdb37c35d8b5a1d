-- The machine's reply in which an operation reads an error of its own tells of the statements of its send.
use Rattle.std.proofs.Common.{◌≡◌, ℕ, true, List, refl, sym, ap, subst, ◌∙◌, inl, inr}
use Rattle.std.specs.Prelude.{false, Some}
use Rattle.bson_lite.specs.Spelling.{Spells}
use Rattle.driver_error.specs.declared.error.Error.{Error}
use Rattle.wire_keys.specs.declared.keys.TheConstants.{OK}
use Rattle.driver_link.specs.declared.machine.Scheduled.{Scheduled}
use Rattle.driver_link.specs.declared.machine.Send.{Send}
use Rattle.driver_link.specs.declared.machine.SendBody.{SendBody}
use Rattle.driver_link.specs.declared.machine.Server.{Server}
use Rattle.driver_link.specs.declared.machine.Statement.{Statement}
use Rattle.driver_link.specs.Cursors.{Reply}
use Rattle.driver_link.specs.Exchange.{after_picks, answered, traced}
use Rattle.driver_link.specs.Settled.{IsWrite}
use Rattle.driver_ops.specs.Fields.{SendContext}
use Rattle.driver_ops.specs.Inserts.{int_at, is_one}
use Rattle.driver_ops.specs.Operations.{OperationSpec, Page, ReadsPagesError, send_of}
use Rattle.driver_ops.specs.Served.{statements_in}
use Rattle.driver_ops.specs.lawful.ReplyNumbers.{error_not_one}
use Rattle.driver_ops.specs.lawful.InsertRead.{differ, ok_is_one, spells_one}
use Rattle.driver_ops.specs.lawful.Statements.{reply_of_writes}

-- the statements of one exchange are told
pub record AreTold (server : Server) (send : Send) (step : Scheduled) : Type 0 where
  pub done : List Statement
  pub told : statements_in server send step ≡ Some done

-- they are where the reply to a send of writes says that its command was done
done_told : (server : Server) (send : Send) (step : Scheduled) (found : Reply) → send.in_transaction ≡ false → IsWrite send.body → answered server send step ≡ Some found
    → is_one (int_at OK.now found) ≡ true → AreTold server send step
unfolding answered statements_in
done_told server send step found out writes answer one =
    elim (reply_of_writes (traced (after_picks server step.deliver) send) send step.item found out writes answer) [
      | inl error ↦ absurd (differ (sym (ap (λ reply. is_one (int_at OK.now reply)) error.is ∙ error_not_one error.code error.labels) ∙ one))
      | inr tells ↦ record { done = tells.done; told = tells.told }
    ]

-- so they are where an operation reads an error of its own in it and in the pages behind it
pub failure_told : {A : Type 0} (spec : OperationSpec A) (statements : ℕ) (body : SendBody) (context : SendContext) (server : Server) (step : Scheduled) (found : Reply) (bytes : List ℕ) (pages : List Page) (error : Error)
    → IsWrite body → answered server (send_of context body) step ≡ Some found → Spells found bytes → ReadsPagesError spec statements bytes pages error
    → AreTold server (send_of context body) step
failure_told spec statements body context server step found bytes pages error writes answer spelled reads =
    let same = spells_one reads.response.body found bytes reads.done.spelled spelled in
    let one = subst (λ (reply : Reply). is_one (int_at OK.now reply) ≡ true) same (ok_is_one reads.response.body reads.done.is) in
    done_told server (send_of context body) step found refl writes answer one
