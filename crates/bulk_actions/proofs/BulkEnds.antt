-- How a batch of a bulk write ends: the result in an error of it is of the kind that was asked for, and behind an end that goes on its
-- command was built.
use Rattle.std.proofs.Common.{◌≡◌, ℕ, Bool, true, false, List, [], ◌∷◌, ◌++◌, refl, sym, ap, subst, ◌∙◌, inl, inr, arith}
use Rattle.std.specs.Prelude.{Option, None, Some, IfSome, Result, Ok, Err}
use Rattle.driver_error.specs.declared.error.Error.{Error}
use Rattle.driver_error.specs.declared.kind.ErrorKind.TheVariants as kind
use Rattle.driver_error.specs.BulkErrors.{failures_in}
use Rattle.bulk_outcomes.specs.BulkResults.{ResultSpec}
use Rattle.driver_error.specs.Error.{ErrorKind, kind_of, source_of}
use Rattle.driver_error.specs.LabelTexts.{LabelSet}
use Rattle.bulk_outcomes.specs.Status.{IsBulkOfKind, is_followed}
use Rattle.driver_options.specs.declared.write_options.BulkWriteOptions.{BulkWriteOptions}
use Rattle.link_faults.specs.declared.fault.Answered.{Answered}
use Rattle.link_faults.specs.declared.fault.Answered.TheVariants as answer
use Rattle.driver_ops.specs.declared.target.OperationTarget.{OperationTarget}
use Rattle.driver_ops.specs.Operations.{MayRefuse, Page, ReadsPages}
use Rattle.driver_ops.specs.Responses.{Said, SpellsError, TellsResponse, breaks, done, fails, said}
use Rattle.driver_ops.specs.SendKinds.{first}
use Rattle.bulk_fronts.specs.declared.own_op.OwnOp.{OwnOp}
use Rattle.bulk_ops.specs.BulkSpec.{bulk_spec, is_verbose}
use Rattle.bulk_ops.proofs.BulkErrorKinds.{IsOne, KindHas, reads_has, told_by}
use Rattle.bulk_fronts.specs.BulkWrites.{IsBulkCommand}
use Rattle.driver_attempt.specs.Causes.{ErrorOutline, HasReply, end_of, outline_of}
use Rattle.driver_attempt.specs.Moment.{Moment}
use Rattle.retry_rules.specs.OldDeployment.{reworded_kind}
use Rattle.driver_exec.specs.OperationCauses.{Caused, Grounds, KindNeeds, SpellsEnd, grounds}
use Rattle.driver_exec.specs.Reporting.{HasBuilt, HasRun}
use Rattle.driver_exec.specs.Resending.{IsReadFailure}
use Rattle.many_actions.specs.BatchPlans.{IsCount}
use Rattle.bulk_actions.specs.BulkBatches.{end_goes_on}
use Rattle.bulk_actions.specs.inside.BulkBatches.{EndHasKind}

-- what a reply itself says
module _ {R : Type 0} (tells : ResultSpec R) where
  says_has : (bytes : List ℕ) (found : Said) (error : Error) → SpellsError bytes found error → KindHas tells (kind_of error)
  says_has bytes done error says = absurd says
  says_has bytes (fails body) error says = told_by tells (kind_of error) (kind.Command body.command_error) says.kind_is tt
  says_has bytes (breaks message) error says = told_by tells (kind_of error) (kind.InvalidResponse message) says.kind_is tt

  response_has : (bytes : List ℕ) (error : Error) → TellsResponse bytes error → KindHas tells (kind_of error)
  response_has bytes error response = elim response [
    | inl memory ↦ told_by tells (kind_of error) kind.Memory memory tt
    | inr said_so ↦ elim said_so [
      | inl none ↦ told_by tells (kind_of error) _ none.is.kind_is tt
      | inr says ↦ says_has bytes (said says.reply) error says.is
    ]
  ]

  -- the caller's words for a failure change no failures of a bulk write
  reworded_same : (why : ErrorKind) → failures_in (reworded_kind why) ≡ failures_in why
  unfolding reworded_kind
  reworded_same (kind.Command error) = refl
  reworded_same _ = refl

  -- what has its kind's cause is no error of a bulk write
  needs_has : {A : Type 0} (on : Grounds A) (before now : ℕ) (items : List Answered) (labels : LabelSet) (why : ErrorKind) → KindNeeds on before now items labels why → KindHas tells why
  needs_has on before now items labels (kind.BulkWrite failures) needs = absurd needs
  needs_has on before now items labels _ needs = tt

  -- and no build is refused with one
  refused_has : (why : ErrorKind) → MayRefuse why → KindHas tells why
  refused_has (kind.BulkWrite failures) may = absurd may
  refused_has _ may = tt

-- one of the replies is so
reply_so : (P : List ℕ → Type 0) (items : List Answered) → HasReply P items → (bytes : List ℕ) × P bytes
reply_so P [] has = absurd has
reply_so P (answer.Reply bytes ∷ items) has = elim has [ inl here ↦ (bytes, here) | inr later ↦ reply_so P items later ]
reply_so P (answer.Fault call fault labels ∷ items) has = reply_so P items has

module _ {R : Type 0} (tells : ResultSpec R) (one : IsOne tells) (target : OperationTarget) (index : ℕ) (own : List OwnOp) (options : BulkWriteOptions) where
  -- an error that was read in a reply and the pages behind it
  pages_have : (statements : ℕ) (bytes : List ℕ) (pages : List Page) (error : Error) → ReadsPages (bulk_spec tells target index own options) statements bytes pages (Err error) → KindHas tells (kind_of error)
  pages_have statements bytes pages error reads = elim reads [
    | inl response ↦ response_has tells bytes error response
    | inr further ↦ elim further [
      | inl read ↦ told_by tells (kind_of error) (kind_of read.bare) read.kept.kind (reads_has _ one (pages ++ Ok read.response.body ∷ []) read.bare read.reads)
      | inr memory ↦ told_by tells (kind_of error) kind.Memory memory tt
    ]
  ]

  -- what the end of a batch that begins at a moment is judged by
  abbrev on_grounds : Moment → Grounds R
  on_grounds before = grounds (bulk_spec tells target index own options) first None before

  -- an error that a reply spells
  spelled_has : (before now : Moment) (items : List Answered) (error : Error) (bytes : List ℕ)
      → SpellsEnd (on_grounds before) before.link.faults now.link.faults items (outline_of error) bytes → KindHas tells (kind_of error)
  spelled_has before now items error bytes spells =
      told_by tells (kind_of error) (reworded_kind (kind_of spells.bare)) spells.kind_is
      (subst (λ found. IsBulkOfKind tells found) (sym (reworded_same tells (kind_of spells.bare))) (pages_have spells.statements bytes spells.pages spells.bare spells.reads))

  -- so is the end of a batch
  pub end_has : (before now : Moment) (came : Result R Error) → Caused (bulk_spec tells target index own options) first None before now (end_of came) → EndHasKind tells came
  end_has before now (Ok found) caused = tt
  end_has before now (Err error) caused = elim caused.needs [
    | inl by ↦ needs_has tells (on_grounds before) before.link.faults now.link.faults caused.items (outline_of error).labels (kind_of error) by.needs
    | inr told ↦ elim told [
      | inl replies ↦
          let found = reply_so (SpellsEnd (on_grounds before) before.link.faults now.link.faults caused.items (outline_of error)) caused.items replies in
          spelled_has before now caused.items error found.0 found.1
      | inr refused ↦ told_by tells (kind_of error) (kind_of refused.error) (ap (λ (o : ErrorOutline). o.kind) refused.is) (refused_has tells (kind_of refused.error) refused.refuses.may)
    ]
  ]

-- an end that goes on, of an error, is one that only a reply spells
pub followed_read : (ordered : Bool) (why : ErrorKind) (source : Option Error) → is_followed ordered (failures_in why) source ≡ true → IsReadFailure why
followed_read ordered (kind.BulkWrite failures) source on = tt
followed_read ordered _ source on = absurd (let e : ◌≡◌ {A = Bool} false true = on in cc)

module _ {R : Type 0} (tells : ResultSpec R) (target : OperationTarget) (index : ℕ) (own : List OwnOp) (options : BulkWriteOptions) (before : Moment) (fixed_now : Option ℕ) (count : ℕ) where
  -- a bulk write's command was built with an op at least
  built_ops : HasBuilt (bulk_spec tells target index own options) first before None fixed_now → IfSome fixed_now (λ statements. count ≡ statements) → IsCount own fixed_now count
  built_ops built told =
      let same : count ≡ built.statements = subst (λ o. IfSome o (λ statements. count ≡ statements)) built.is told in
      let command : IsBulkCommand own options (is_verbose tells) built.statements built.command = built.commanded in
      record {
        told = built.is ∙ ap (λ n. Some n) (sym same);
        some = (let some = command.some in omega (arith, some, same));
        within = (let within = command.within in omega (arith, within, same));
      }

  -- so was that of a batch behind whose end the next is made
  pub counts_ops : (ordered : Bool) (came : Result R Error) → HasRun (bulk_spec tells target index own options) first before None fixed_now came → IfSome fixed_now (λ statements. count ≡ statements)
      → end_goes_on ordered came ≡ true → IsCount own fixed_now count
  counts_ops ordered (Ok found) ran told on = built_ops ran told
  counts_ops ordered (Err error) ran told on = built_ops (ran (followed_read ordered (kind_of error) (source_of error) on)) told
