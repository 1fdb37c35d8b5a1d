-- What each single write that was made left, whatever it does.
use Rattle.std.proofs.Common.{◌≡◌, [], ◌∷◌, refl, sym, ap, subst, inl}
use Rattle.std.specs.Prelude.{false, Some, Result}
use Rattle.driver_error.specs.declared.error.Error.{Error}
use Rattle.driver_link.specs.declared.machine.Place.{Place}
use Rattle.driver_link.specs.declared.machine.SendBody.{SendBody}
use Rattle.driver_link.specs.LinkState.{server_run}
use Rattle.driver_ops.specs.Fields.{under}
use Rattle.driver_ops.specs.Operations.{OperationSpec, batch_of, send_of}
use Rattle.driver_ops.specs.SendKinds.{first}
use Rattle.driver_attempt.specs.Moment.{Moment}
use Rattle.driver_exec.specs.Keeping.{KeepsInvariant}
use Rattle.driver_exec.specs.Resending.{SentWithin}
use Rattle.driver_exec.proofs.WholeOperation.{executes_read, executes_words}
use Rattle.driver_actions.specs.SingleCalls.{Made, MayDrawFor, Runs}
use Rattle.driver_actions.proofs.MovesBeside as beside
use Rattle.driver_actions.proofs.OwnIds.{OnlyDrew, own_drew, unmade_drew}
use Rattle.driver_inputs.specs.declared.call.SingleAnswer.{SingleAnswer}
use Rattle.driver_inputs.specs.Calls.{IsOwn}
use Rattle.driver_inputs.specs.Forms.{WriteForm, asked_in, deletes, finds, inserts, updates, written_in}

-- the session that it borrowed, if any, its sends, all of which are its own, and what it kept and read
abbrev pub LeftBy : Moment → Moment → SendBody → Type 0
LeftBy before now asked = beside.LeftBy false before now asked

-- an operation that was executed left this
pub runs_left : {A : Type 0} {spec : OperationSpec A} {asked : SendBody} {place : Place} {before now : Moment} {ended : Result A Error} → spec.paged ≡ false → Runs spec asked place before now ended → LeftBy before now asked
runs_left {spec = spec} {asked = asked} {place = place} {before = before} {now = now} alone runs = record {
  session = runs.one_command.session;
  number = runs.one_command.number;
  borrows = runs.one_command.borrows;
  sends = subst (λ paged. SentWithin paged 2 (server_run before.link) (server_run now.link) (send_of (under runs.one_command.session runs.one_command.number) asked)) alone (runs.one_command.sends asked runs.asks);
  keeps = subst (λ paged. KeepsInvariant paged before now asked) alone runs.keeps;
  lent = runs.lent;
  drawn = runs.drawn;
  read = executes_read spec (batch_of (place ∷ []) 1) first before now 0 runs.count (Some 1) (Some 1) runs.executed runs.executes;
  words = executes_words spec (batch_of (place ∷ []) 1) first before now 0 runs.count (Some 1) (Some 1) runs.executed runs.executes;
}

-- nothing was drawn where all is as it was
same_drew : {before now : Moment} → now ≡ before → OnlyDrew before now
same_drew {before = before} same =
    record { draws = inl (ap (λ moment. moment.store) same); rest = subst (λ moment. moment ≡ record before { store = moment.store }) (sym same) refl }

module _ {before now : Moment} {place : Place} {result : Result SingleAnswer Error} where
  -- before its operation at most an id was drawn
  pub made_drew : (form : WriteForm) (made : Made before now form place result) → OnlyDrew before made.mid
  made_drew (inserts namespace document options) made = own_drew made.runs.draws
  made_drew (updates namespace filter change multi options) made = same_drew made.runs.same
  made_drew (deletes namespace filter multi options) made = same_drew made.runs.same
  made_drew (finds namespace filter modification options) made = same_drew made.runs.same

  -- what its operation left
  pub made_left : (form : WriteForm) (made : Made before now form place result) → LeftBy made.mid now (asked_in form place made.sent)
  made_left (inserts namespace document options) made = runs_left refl made.runs.runs
  made_left (updates namespace filter change multi options) made = runs_left refl made.runs.runs
  made_left (deletes namespace filter multi options) made = runs_left refl made.runs.runs
  made_left (finds namespace filter modification options) made = runs_left refl made.runs.runs

  -- the write that is sent is the caller's own
  pub made_own : (form : WriteForm) (made : Made before now form place result) → IsOwn (written_in form) made.sent
  made_own (inserts namespace document options) made =
      subst (IsOwn (written_in (inserts namespace document options))) (sym made.runs.sent_is)
      (record { kind = refl; namespace = refl; document = record { id = made.runs.id; twelve = made.runs.twelve; is = refl } })
  made_own (updates namespace filter change multi options) made =
      subst (IsOwn (written_in (updates namespace filter change multi options))) (sym made.runs.sent_is) (record { kind = refl; namespace = refl; document = refl })
  made_own (deletes namespace filter multi options) made =
      subst (IsOwn (written_in (deletes namespace filter multi options))) (sym made.runs.sent_is) (record { kind = refl; namespace = refl; document = refl })
  made_own (finds namespace filter modification options) made =
      subst (IsOwn (written_in (finds namespace filter modification options))) (sym made.runs.sent_is) (record { kind = refl; namespace = refl; document = refl })

-- a write that was not made drew an id at most
pub unmade_drew_by : (form : WriteForm) (before now : Moment) (error : Error) → MayDrawFor form before now error → OnlyDrew before now
unmade_drew_by (inserts namespace document options) before now error draws = unmade_drew error draws
unmade_drew_by (updates namespace filter change multi options) before now error same = same_drew same
unmade_drew_by (deletes namespace filter multi options) before now error same = same_drew same
unmade_drew_by (finds namespace filter modification options) before now error same = same_drew same
