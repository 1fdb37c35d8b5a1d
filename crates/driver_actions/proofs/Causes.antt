-- The causes of ends, from those of their parts.
use Rattle.std.proofs.Common.{◌≡◌, refl, sym, ap, subst, ◌∙◌, inl, inr}
use Rattle.std.specs.Prelude.{IsErrAnd, Some, Result, Ok, Err}
use Rattle.driver_error.specs.declared.error.Error.{Error}
use Rattle.driver_error.specs.declared.kind.ErrorKind.TheVariants as kind
use Rattle.driver_error.specs.Conversions.{Converts}
use Rattle.driver_error.specs.Error.{IsAlone}
use Rattle.driver_error.specs.LabelTexts.{no_labels}
use Rattle.driver_link.specs.declared.machine.Place.{Place}
use Rattle.driver_link.specs.declared.machine.SendBody.{SendBody}
use Rattle.driver_ops.specs.Operations.{OperationSpec}
use Rattle.driver_ops.specs.Targets.{in_collection}
use Rattle.statement_ops.specs.StatementSpec.{delete_spec, find_spec, update_spec}
use Rattle.driver_attempt.specs.Causes.{end_of, outline_of}
use Rattle.driver_attempt.specs.Moment.{Moment}
use Rattle.driver_actions.specs.Causes.{BecomesEnd, EndsAsCaused, EndsEarly, OperationCaused, RefusesFirst, WriteCaused}
use Rattle.driver_actions.specs.SingleCalls.{Made, Runs, Tells}
use Rattle.driver_actions.specs.Singles.{BecomesSingle}
use Rattle.driver_actions.proofs.RefusedFirst.{input_first, refuses_nothing}
use Rattle.driver_inputs.specs.declared.call.Answer.TheVariants as answer
use Rattle.driver_inputs.specs.declared.call.SingleAnswer.{SingleAnswer}
use Rattle.driver_inputs.specs.Forms.{WriteForm, deletes, finds, inserts, updates}
use Rattle.driver_inputs.specs.Inputs.{IsAccepted, TellsInput}

-- input that was refused before anything was asked
pub caused_input : {A : Type 0} (before : Moment) (form : WriteForm) (error : Error) → TellsInput form error → WriteCaused {A = A} before before form (Err error)
caused_input before form error tells = record {
  caused = inl (record { unasked = refl; error = error; is = refl; why = tells });
  refused = input_first before form error tells;
}

-- what the exit of a `?` returns where memory ran out before anything was drawn or asked
pub caused_exit : (before : Moment) (form : WriteForm) (result : Result SingleAnswer Error) → IsErrAnd result (λ error. IsAlone kind.Memory no_labels error) → WriteCaused before before form result
caused_exit before form (Ok given) exits = absurd exits
caused_exit before form (Err error) exits = caused_input before form error (inl exits)

-- input that is accepted, where memory ran out before anything was asked
pub caused_memory : {A : Type 0} (before now : Moment) → now.link ≡ before.link → (form : WriteForm) (error : Error) → IsAccepted form → IsAlone kind.Memory no_labels error
    → WriteCaused {A = A} before now form (Err error)
caused_memory before now unasked form error accepted memory = record {
  caused = inl (record { unasked = unasked; error = error; is = refl; why = inl memory });
  refused = refuses_nothing before now form (Some (outline_of error)) accepted;
}

-- an operation whose output is answered so
module _ {A : Type 0} (answers : A → SingleAnswer) where
  -- its end in the form of its call's
  becomes_end : (executed ended : Result A Error) (result : Result SingleAnswer Error) → BecomesSingle executed ended → Tells answers ended result → BecomesEnd executed result
  becomes_end (Ok output) ended result becomes tells = of_ok result (subst (λ e. Tells answers e result) becomes tells)
    where
      of_ok : (result : Result SingleAnswer Error) → Tells answers (Ok output) result → BecomesEnd {A = A} (Ok output) result
      of_ok (Ok given) tells = tt
      of_ok (Err error) tells = absurd tells
  becomes_end (Err error) (Ok done) result becomes tells = absurd becomes
  becomes_end (Err error) (Err failed) result becomes tells = subst (λ r. BecomesEnd {A = A} (Err error) r) (sym tells) becomes

  -- so it ended with its cause
  runs_caused : {spec : OperationSpec A} {asked : SendBody} {place : Place} {before now : Moment} (ended : Result A Error) (result : Result SingleAnswer Error)
      → Runs spec asked place before now ended → Tells answers ended result → EndsAsCaused {A = SingleAnswer} spec before now result
  runs_caused ended result runs tells = record { executed = runs.executed; caused = runs.caused; becomes = becomes_end runs.executed ended result runs.becomes tells }

-- the operation of a write that was made ended with its cause
operation_caused : (before now : Moment) (form : WriteForm) (place : Place) (result : Result SingleAnswer Error) → Made before now form place result → OperationCaused before now form result
operation_caused before now (inserts namespace document options) place result made =
    let run = made.runs in
    record {
      id = run.id;
      mid = made.mid;
      draws = run.draws;
      own = run.own;
      spelled = run.spelled;
      found = run.found;
      ends = runs_caused _ run.ended result run.runs run.tells;
    }
operation_caused before now (updates namespace filter change multi options) place result made =
    let run = made.runs in
    subst (λ moment. EndsAsCaused (update_spec (in_collection namespace) filter change multi options) moment now result) run.same (runs_caused _ run.ended result run.runs run.tells)
operation_caused before now (deletes namespace filter multi options) place result made =
    let run = made.runs in
    subst (λ moment. EndsAsCaused (delete_spec (in_collection namespace) filter multi options) moment now result) run.same (runs_caused _ run.ended result run.runs run.tells)
operation_caused before now (finds namespace filter modification options) place result made =
    let run = made.runs in
    subst (λ moment. EndsAsCaused (find_spec (in_collection namespace) filter modification options) moment now result) run.same (runs_caused _ run.ended result run.runs run.tells)

-- so did the write
pub made_caused : (before now : Moment) (form : WriteForm) (place : Place) (result : Result SingleAnswer Error) → Made before now form place result → WriteCaused before now form result
made_caused before now form place result made = record {
  caused = inr (operation_caused before now form place result made);
  refused = refuses_nothing before now form (end_of result) made.accepted;
}

-- two ends are both Ok, or the same error
abbrev SameEnd : {A B : Type 0} → Result A Error → Result B Error → Type 0
SameEnd (Ok given) (Ok answer) = Unit {0}
SameEnd (Err error) (Err now) = now ≡ error
SameEnd given result = ⊥

-- the end of an operation in either of them
becomes_same : {A B C : Type 0} (executed : Result C Error) (given : Result A Error) (result : Result B Error) → SameEnd given result → BecomesEnd executed given → BecomesEnd executed result
becomes_same (Ok output) (Ok given) (Ok answer) same becomes = tt
becomes_same (Err error) (Ok given) (Ok answer) same becomes = absurd becomes
becomes_same (Ok output) (Err failed) (Err now) same becomes = absurd becomes
becomes_same (Err error) (Err failed) (Err now) same becomes = subst (Converts error) (sym same) becomes
becomes_same executed (Ok given) (Err error) same becomes = absurd same
becomes_same executed (Err error) (Ok given) same becomes = absurd same

-- the answer of a write as that of its call
module _ {A B : Type 0} (given : Result A Error) (result : Result B Error) (same : SameEnd given result) where
  ends_same : {C : Type 0} (spec : OperationSpec C) (before now : Moment) → EndsAsCaused spec before now given → EndsAsCaused spec before now result
  ends_same spec before now ends = record { executed = ends.executed; caused = ends.caused; becomes = becomes_same ends.executed given result same ends.becomes }

  operation_same : (before now : Moment) (form : WriteForm) → OperationCaused before now form given → OperationCaused before now form result
  operation_same before now (inserts namespace document options) caused = record {
    id = caused.id;
    mid = caused.mid;
    draws = caused.draws;
    own = caused.own;
    spelled = caused.spelled;
    found = caused.found;
    ends = ends_same _ caused.mid now caused.ends;
  }
  operation_same before now (updates namespace filter change multi options) caused = ends_same (update_spec (in_collection namespace) filter change multi options) before now caused
  operation_same before now (deletes namespace filter multi options) caused = ends_same (delete_spec (in_collection namespace) filter multi options) before now caused
  operation_same before now (finds namespace filter modification options) caused = ends_same (find_spec (in_collection namespace) filter modification options) before now caused

-- an early end as well
early_same : {A B : Type 0} (before now : Moment) (form : WriteForm) (given : Result A Error) (result : Result B Error) → SameEnd given result → EndsEarly before now form given
    → EndsEarly before now form result
early_same {A = A} before now form (Ok given) (Ok answer) same early = absurd (let e : ◌≡◌ {A = Result A Error} (Ok given) (Err early.error) = early.is in cc)
early_same {A = A} before now form (Err error) (Err found) same early =
    let is : error ≡ early.error = let e : ◌≡◌ {A = Result A Error} (Err error) (Err early.error) = early.is in cc in
    record { unasked = early.unasked; error = early.error; is = ap (λ e. Err e) (same ∙ is); why = early.why }
early_same before now form (Ok given) (Err error) same early = absurd same
early_same before now form (Err error) (Ok given) same early = absurd same

-- and both tell the same error
told_same : {A B : Type 0} (given : Result A Error) (result : Result B Error) → SameEnd given result → end_of given ≡ end_of result
told_same (Ok given) (Ok answer) same = refl
told_same (Err error) (Err found) same = ap (λ e. Some (outline_of e)) (sym same)
told_same (Ok given) (Err error) same = absurd same
told_same (Err error) (Ok given) same = absurd same

pub cause_same : {A B : Type 0} (before now : Moment) (form : WriteForm) (given : Result A Error) (result : Result B Error) → SameEnd given result → WriteCaused before now form given
    → WriteCaused before now form result
cause_same before now form given result same cause = record {
  caused = elim cause.caused [
    | inl early ↦ inl (early_same before now form given result same early)
    | inr operation ↦ inr (operation_same given result same before now form operation)
  ];
  refused = subst (RefusesFirst before now form) (told_same given result same) cause.refused;
}
