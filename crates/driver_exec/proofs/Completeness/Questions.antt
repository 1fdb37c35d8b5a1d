-- A question for a further page within a gentle part: it was answered by the machine's own reply, or there was no memory for the page.
use Rattle.std.proofs.Common.{◌≡◌, ℕ, List, length, refl, sym, ap, subst, inl, inr, arith}
use Rattle.std.specs.Prelude.{ℤ, Option, None, Some, ◌⊎◌, Result, Ok, Err, slice_get}
use Rattle.driver_error.specs.declared.error.Error.{Error}
use Rattle.driver_error.specs.declared.kind.ErrorKind.TheVariants as kind
use Rattle.driver_error.specs.Error.{kind_of}
use Rattle.driver_options.specs.declared.options.Conn.{Conn}
use Rattle.link_faults.specs.declared.fault.LinkError.{LinkError}
use Rattle.link_faults.specs.declared.fault.LinkError.TheVariants.{Fault, Memory}
use Rattle.driver_link.specs.declared.machine.Item.{Item}
use Rattle.driver_link.specs.declared.machine.Scheduled.{Scheduled}
use Rattle.driver_link.specs.declared.machine.Send.{Send}
use Rattle.driver_link.specs.declared.machine.SendBody.TheVariants.{More}
use Rattle.driver_link.specs.Exchange.{next_step, step_at}
use Rattle.driver_link.specs.LinkState.{LinkState, server_run}
use Rattle.driver_link.specs.ServerRun.{IsReply, ServerRun, TakesStep, run_after, run_answer}
use Rattle.driver_ops.specs.Fields.{under}
use Rattle.driver_ops.specs.GetMores.{at_namespace, more_spec}
use Rattle.driver_ops.specs.Operations.{IsUnframed, Page}
use Rattle.driver_attempt.specs.AttemptExchanges.{AsksPage, PageAsked, PageCame}
use Rattle.driver_exec.specs.Gentle.{IsGentlePart, IsOfPart}
use Rattle.driver_exec.specs.Resending.{more_send}
use Rattle.driver_exec.proofs.Moments.{IsBefore, longer_after, one_moment, sent_last}

module _ {Serves : Send → Item → Type 0} (repeats : Send → Type 0) (told told_now : ServerRun) (gentle : IsGentlePart Serves repeats told told_now) (session : Option (List ℕ)) (cursor : ℤ)
    (alone : repeats (more_send session cursor) → ⊥) (at last : ServerRun) (since : IsBefore told at) (until : IsBefore last told_now) (after : LinkState) (after_is : server_run after ≡ Some last) where
  -- the question, and the step that it meets
  abbrev question : Send
  question = more_send session cursor

  abbrev step : Scheduled
  step = next_step at.schedule at.server

  -- an exchange of the part has an item that serves it
  served : server_run after ≡ Some (run_after at question) → Serves question step.item
  served is =
      let over : IsBefore (run_after at question) told_now = subst (λ t. IsBefore t told_now) (one_moment after last (run_after at question) after_is is) until in
      let of_part : IsOfPart told told_now (length at.server.trace) = (since.trace, omega (arith, over.trace, longer_after at question)) in
      let sent : slice_get told_now.server.trace (length at.server.trace) ≡ Some question = over.stays (length at.server.trace) question (sent_last at question) in
      elim (gentle.items (length at.server.trace) question of_part sent) [
        | inl serves ↦ subst (λ s. Serves question s.item) (ap (λ s. step_at s (length at.server.trace)) (sym since.schedule)) serves
        | inr loses ↦ absurd (alone loses.0)
      ]

  -- the page is the machine's own reply
  pub record IsOwnPage (page : Page) : Type 0 where
    pub bytes : List ℕ
    pub now_is : last ≡ run_after at question
    pub serves : Serves question step.item
    pub replied : IsReply (run_answer at question) bytes
    pub came : PageCame (Ok bytes) page

  -- or there was no memory for it
  pub record LacksPage (page : Page) : Type 0 where
    pub failure : Error
    pub is : page ≡ Err failure
    pub why : kind_of failure ≡ kind.Memory

  module _ (replies : Serves question step.item → run_answer at question ≡ None → ⊥) where
    by_result : (result : Result (List ℕ) LinkError) (page : Page) → TakesStep (Some at) (server_run after) question result → PageCame result page → IsOwnPage page ⊎ LacksPage page
    by_result (Ok bytes) page steps came = inl (record {
      bytes = bytes;
      now_is = one_moment after last (run_after at question) after_is steps.0;
      serves = served steps.0;
      replied = steps.1;
      came = came;
    })
    by_result (Err (Fault fault labels)) page steps came = absurd (replies (served steps.0) steps.1)
    by_result (Err Memory) (Ok page) steps came = absurd came
    by_result (Err Memory) (Err failure) steps came = inr (record { failure = failure; is = refl; why = came })

    -- so it is of each question that has a spelling
    pub question_well : (conn : Conn) (before : LinkState) → server_run before ≡ Some at → (asked : PageAsked) → asked.cursor ≡ cursor
        → ((failure : Error) → IsUnframed (more_spec (at_namespace asked.namespace) asked.cursor) (under session None) failure → ⊥)
        → AsksPage conn session before after asked → IsOwnPage asked.page ⊎ LacksPage asked.page
    question_well conn before before_is asked cursor_is framed asks = elim asks [
      | inl out ↦
          let steps = subst (λ s. TakesStep s (server_run after) (more_send session asked.cursor) out.result) before_is
          (out.exchanges.exchanges.steps _ (out.exchanges.reads (More asked.cursor) (record { none = refl; alone = refl; is = refl }))) in
          by_result out.result asked.page (subst (λ c. TakesStep (Some at) (server_run after) (more_send session c) out.result) cursor_is steps) out.came
      | inr lacks ↦ elim lacks.why [
        | inl unframed ↦ absurd (framed lacks.failure unframed)
        | inr memory ↦ inr (record { failure = lacks.failure; is = lacks.page_is; why = memory })
      ]
    ]
