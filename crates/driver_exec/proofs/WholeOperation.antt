-- An operation as a whole: where it is refused for its concern all is as it was, else it goes its way.
use Rattle.std.proofs.Common.{◌≡◌, ℕ, ◌+◌, ◌≤◌, List, [], refl, sym, ap, subst, ◌∙◌, inl, inr, arith}
use Rattle.std.specs.Prelude.{false, Option, None, Some, Result}
use Rattle.driver_error.specs.declared.error.Error.{Error}
use Rattle.driver_error.specs.Error.{labels_of}
use Rattle.driver_link.specs.LinkState.{server_run}
use Rattle.driver_session.specs.declared.retryability.Retryability.TheVariants as may
use Rattle.driver_session.specs.StoreTells.{Draws, LendsAsBefore}
use Rattle.driver_session.proofs.IdDraws.{draws_staying}
use Rattle.driver_session.proofs.LentSessions.{lends_staying}
use Rattle.driver_ops.specs.Fields.{under}
use Rattle.driver_ops.specs.OperationLaw.{NeverOpen}
use Rattle.driver_ops.specs.Operations.{Batch, OperationSpec, send_of}
use Rattle.driver_ops.specs.SendKinds.{SendKind}
use Rattle.driver_attempt.specs.Causes.{end_of}
use Rattle.driver_attempt.specs.Concerns.{concern_of}
use Rattle.driver_attempt.specs.Executing.{Executes, RefusesConcern}
use Rattle.driver_attempt.specs.Moment.{Moment}
use Rattle.driver_attempt.specs.Readings.{OnlyRead}
use Rattle.driver_attempt.proofs.Causes.{notes_nothing}
use Rattle.driver_exec.specs.OperationCauses.{Caused, Grounds, KindNeeds, grounds}
use Rattle.driver_exec.specs.Resending.{EndsWithReading, SendsOneCommand, SentTimes}
use Rattle.driver_exec.proofs.ClockReadings.{proceeds_read, read_same}
use Rattle.driver_exec.proofs.OperationCauses.{proceeds_caused}
use Rattle.driver_exec.proofs.OneCommand.{proceeds_draws, proceeds_lends, proceeds_sends_one_command}
use Rattle.driver_exec.proofs.ReadFailures.{concern_unread}
use Rattle.driver_exec.proofs.SendRelations.{begins_unsent}
use Rattle.driver_exec.proofs.SendCounts.{proceeds_few, proceeds_once}

module _ {A : Type 0} (spec : OperationSpec A) (batch : Batch) (which : SendKind) (before now : Moment) (count count_now : ℕ) (fixed fixed_now : Option ℕ) (result : Result A Error) where
  -- one that is refused sends nothing
  refused_sends_one_command : RefusesConcern spec which before now count count_now fixed fixed_now result → SendsOneCommand spec batch before now result
  refused_sends_one_command refuses = record {
    session = None;
    number = None;
    unnumbered = λ nothing. refl;
    borrows = (ap (λ moment. moment.store) refuses.same, refl);
    sends = λ body asked. record {
      count = 0;
      within = omega arith;
      once = λ none. omega arith;
      sends = subst (λ moment. SentTimes spec.paged (server_run before.link) (server_run moment.link) (send_of (under None None) body) 0) (sym refuses.same)
          (begins_unsent spec.paged (server_run before.link) (send_of (under None None) body));
    };
    ends = subst (EndsWithReading spec batch (server_run before.link) (server_run now.link) None None) (sym refuses.result_is)
        (λ read. absurd (concern_unread (concern_of spec which before.client.options) refuses.error refuses.is read));
  }

  -- its error is that of the concern, or of want of memory
  refused_caused : RefusesConcern spec which before now count count_now fixed fixed_now result → Caused spec which fixed before now (end_of result)
  refused_caused refuses =
      subst (λ moment. Caused spec which fixed before moment (end_of result)) (sym refuses.same)
      (subst (λ ended. Caused spec which fixed before before (end_of ended)) (sym refuses.result_is) (record {
        items = [];
        noted = notes_nothing before.link.answers;
        never_falls = omega arith;
        needs = inl (record {
          needs = elim refuses.is.is [
            | inl alone ↦ subst (KindNeeds on before.link.faults before.link.faults [] (labels_of refuses.error)) (sym alone.kind_is) (refuses.is.refused, alone.labels_are)
            | inr memory ↦ subst (KindNeeds on before.link.faults before.link.faults [] (labels_of refuses.error)) (sym memory.kind_is) memory.labels_are
          ];
          no_source = elim refuses.is.is [ inl alone ↦ alone.no_source | inr memory ↦ memory.no_source ];
        });
        at_last = λ accepted draws last. absurd (let e : ◌≡◌ {A = Option (List ℕ)} None (Some refuses.is.text) = sym accepted ∙ refuses.is.refused in cc);
      }))
    where
      on : Grounds A
      on = grounds spec which fixed before

  -- an operation has its cause
  pub executes_caused : (spec.paged ≡ false → NeverOpen spec) → Executes spec batch which before now count count_now fixed fixed_now result → Caused spec which fixed before now (end_of result)
  executes_caused alone executes = elim executes [
    | inl refuses ↦ refused_caused refuses
    | inr proceeds ↦ proceeds_caused spec batch which before now count count_now fixed fixed_now result alone proceeds
  ]

  -- its sends are one command
  pub executes_sends_one_command : (spec.paged ≡ false → NeverOpen spec) → Executes spec batch which before now count count_now fixed fixed_now result → SendsOneCommand spec batch before now result
  executes_sends_one_command alone executes = elim executes [
    | inl refuses ↦ refused_sends_one_command refuses
    | inr proceeds ↦ proceeds_sends_one_command spec batch which before now count count_now fixed fixed_now result alone proceeds
  ]

  -- each session is lent as often as before
  pub executes_lends : (spec.paged ≡ false → NeverOpen spec) → Executes spec batch which before now count count_now fixed fixed_now result → LendsAsBefore before.store now.store
  executes_lends alone executes = elim executes [
    | inl refuses ↦ lends_staying before.store now.store (ap (λ moment. moment.store) refuses.same)
    | inr proceeds ↦ proceeds_lends spec batch which before now count count_now fixed fixed_now result alone proceeds
  ]

  -- the ids that were drawn are the next ones
  pub executes_draws : (spec.paged ≡ false → NeverOpen spec) → Executes spec batch which before now count count_now fixed fixed_now result → Draws before.store now.store
  executes_draws alone executes = elim executes [
    | inl refuses ↦ draws_staying before.store now.store (ap (λ moment. moment.store) refuses.same)
    | inr proceeds ↦ proceeds_draws spec batch which before now count count_now fixed fixed_now result alone proceeds
  ]

  -- two sends are counted at most
  pub executes_few : Executes spec batch which before now count count_now fixed fixed_now result → count_now ≤ count + 2
  executes_few executes = elim executes [
    | inl refuses ↦ omega (arith, refuses.uncounted)
    | inr proceeds ↦ proceeds_few spec batch which before now count count_now fixed fixed_now result proceeds
  ]

  -- and one where nothing may be repeated
  pub executes_once : spec.retryability before.client.options ≡ may.None → Executes spec batch which before now count count_now fixed fixed_now result → count_now ≤ count + 1
  executes_once nothing executes = elim executes [
    | inl refuses ↦ omega (arith, refuses.uncounted)
    | inr proceeds ↦ proceeds_once spec batch which before now count count_now fixed fixed_now result nothing proceeds
  ]

  -- the clock was only read
  pub executes_read : Executes spec batch which before now count count_now fixed fixed_now result → OnlyRead before.clock now.clock
  executes_read executes = elim executes [
    | inl refuses ↦ read_same before.clock now.clock (ap (λ moment. moment.clock) refuses.same)
    | inr proceeds ↦ proceeds_read spec batch which before now count count_now fixed fixed_now result proceeds
  ]

  -- the client's options stay
  pub executes_client : Executes spec batch which before now count count_now fixed fixed_now result → now.client ≡ before.client
  executes_client executes = elim executes [
    | inl refuses ↦ ap (λ moment. moment.client) refuses.same
    | inr proceeds ↦ proceeds.client_is
  ]

  -- no random word was drawn
  pub executes_words : Executes spec batch which before now count count_now fixed fixed_now result → now.words ≡ before.words
  executes_words executes = elim executes [
    | inl refuses ↦ ap (λ moment. moment.words) refuses.same
    | inr proceeds ↦ proceeds.words_are
  ]
