-- The answer of a call of a bulk write, and why it ended so.
use Rattle.std.proofs.Common.{◌≡◌, ℕ, ◌<◌, List, [], ◌∷◌, length, refl, sym, ap, subst, ◌∙◌, inl, inr, arith}
use Rattle.std.specs.Prelude.{◌⊎◌, IsErrAnd, Option, None, Some, Result, Ok, Err}
use Rattle.bson_lite.specs.declared.bson.ObjectId.{ObjectId}
use Rattle.bson_lite.specs.declared.fault.EncodeFault.{EncodeFault}
use Rattle.driver_error.specs.declared.error.Error.{Error}
use Rattle.driver_error.specs.declared.kind.ErrorKind.TheVariants as kind
use Rattle.bulk_outcomes.specs.declared.status.ExecutionStatus.{ExecutionStatus}
use Rattle.bulk_outcomes.specs.declared.status.ExecutionStatus.TheVariants as status
use Rattle.bulk_outcomes.specs.BulkResults.{ResultSpec}
use Rattle.driver_error.specs.Error.{ErrorKind, IsAlone, kind_of}
use Rattle.driver_error.specs.LabelTexts.{no_labels}
use Rattle.driver_options.specs.declared.models.WriteModel.{WriteModel}
use Rattle.driver_options.specs.declared.write_options.BulkWriteOptions.{BulkWriteOptions}
use Rattle.driver_session.specs.StoreTells.{StoreTells}
use Rattle.driver_link.proofs.Lists.{none_is_some}
use Rattle.bulk_fronts.specs.declared.own_op.OwnOp.{OwnOp}
use Rattle.bulk_fronts.specs.BulkOps.{AreOps}
use Rattle.driver_attempt.specs.Causes.{ErrorOutline, end_of, outline_of}
use Rattle.driver_attempt.specs.Moment.{Moment}
use Rattle.driver_inputs.specs.BulkInputs.{BulkInputRefused, IsBulkAccepted, RefusesBulkValues, no_models_text, with_model_ids}
use Rattle.many_actions.specs.BatchPlans.{PlannedEnd}
use Rattle.many_actions.proofs.PlannedSequence as planned
use Rattle.bulk_actions.specs.BulkBatches.{ComesTo, bulk_plan}
use Rattle.bulk_actions.specs.BulkCalls.{AnswersBulkCall, AnswersStanding, BulkCaused, EndsShort, MadeBulk, MakesBulk, RefusesBulkFirst}
use Rattle.bulk_actions.specs.BulkIds.{DrawsModelIds, OwnsOps, PreparesOps}
use Rattle.bulk_actions.specs.inside.BulkBatches.{StandsBehindAll, StopsBulk}
use Rattle.bulk_actions.proofs.BulkJudged.{zero_ids, zero_length, zero_twelve}

-- ---- the input of a bulk write has one error at most
one_refusal : (models : List WriteModel) (options : BulkWriteOptions) (first second : Option EncodeFault) → RefusesBulkValues models options first → RefusesBulkValues models options second → first ≡ second
one_refusal models options first second one other =
    sym (one (zero_ids models) (zero_length models) (zero_twelve models)) ∙ other (zero_ids models) (zero_length models) (zero_twelve models)

one_input : (models : List WriteModel) (options : BulkWriteOptions) (first second : ErrorKind) → BulkInputRefused models options first → BulkInputRefused models options second → first ≡ second
one_input models options (kind.InvalidArgument message) (kind.InvalidArgument other) one two =
    let same : message ≡ other = let e : ◌≡◌ {A = Option (List ℕ)} (Some message) (Some other) = sym one ∙ two in cc in ap (λ m. kind.InvalidArgument m) same
one_input models options (kind.InvalidArgument message) (kind.BsonSerialization fault) one two = absurd (let e : ◌≡◌ {A = Option (List ℕ)} (Some message) None = sym one ∙ two.0 in cc)
one_input models options (kind.BsonSerialization fault) (kind.InvalidArgument message) one two = absurd (let e : ◌≡◌ {A = Option (List ℕ)} (Some message) None = sym two ∙ one.0 in cc)
one_input models options (kind.BsonSerialization fault) (kind.BsonSerialization other) one two =
    let same : fault ≡ other = let e : ◌≡◌ {A = Option EncodeFault} (Some fault) (Some other) = one_refusal models options (Some fault) (Some other) one.1 two.1 in cc in
    ap (λ f. kind.BsonSerialization f) same
one_input models options (kind.InvalidArgument message) _ one two = absurd two
one_input models options (kind.BsonSerialization fault) _ one two = absurd two
one_input models options _ second one two = absurd one

-- input that is accepted has none
not_refused : (models : List WriteModel) (options : BulkWriteOptions) (why : ErrorKind) → IsBulkAccepted models options → BulkInputRefused models options why → ⊥
not_refused models options (kind.InvalidArgument message) accepted refused = let e : ◌≡◌ {A = Option (List ℕ)} None (Some message) = sym accepted.arguments ∙ refused in cc
not_refused models options (kind.BsonSerialization fault) accepted refused =
    let e : ◌≡◌ {A = Option EncodeFault} None (Some fault) = one_refusal models options None (Some fault) accepted.values refused.1 in cc
not_refused models options _ accepted refused = refused

-- so accepted input is not refused, whatever the call came to
pub refuses_nothing : (before now : Moment) (models : List WriteModel) (options : BulkWriteOptions) (ended : Option ErrorOutline) → IsBulkAccepted models options → RefusesBulkFirst before now models options ended
refuses_nothing before now models options ended accepted = record {
  tells = λ why refused. absurd (not_refused models options why accepted refused);
  undone = λ why refused. absurd (not_refused models options why accepted refused);
}

-- ---- a call whose ops could not be made
-- the two moments are one where nothing was drawn
same_moment : (before now : Moment) → now ≡ record before { store = now.store } → now.store ≡ before.store → now ≡ before
same_moment before now rest same = rest ∙ ap (λ store. record before { store = store }) same

-- what refused input comes to is its error
refused_first : (before now : Moment) (models : List WriteModel) (options : BulkWriteOptions) (error : Error) → now ≡ record before { store = now.store } → PreparesOps before.store now.store models options (Err error)
    → RefusesBulkFirst before now models options (Some (outline_of error))
refused_first before now models options error rest prepares = record {
  tells = λ other refused. elim prepares [
    | inl judged ↦ elim judged.1 [
      | inl memory ↦ inr memory.kind_is
      | inr found ↦ inl (found.is.kind_is ∙ one_input models options found.why other found.refused refused, found.is.labels_are)
    ]
    | inr short ↦ absurd (not_refused models options other short.0 refused)
  ];
  undone = λ other refused. elim prepares [
    | inl judged ↦ same_moment before now rest judged.0
    | inr short ↦ absurd (not_refused models options other short.0 refused)
  ];
}

-- a call that made no ops
module _ {R : Type 0} (tells : ResultSpec R) (before now : Moment) (models : List WriteModel) (options : BulkWriteOptions) (call : ℕ) (error : Error) (rest : now ≡ record before { store = now.store })
    (prepares : PreparesOps before.store now.store models options (Err error)) where
  pub unmade : MakesBulk tells before now models options call (Err error)
  unmade = inl (record { prepares = prepares; rest = rest })

  pub unmade_caused : BulkCaused tells before now models options call (Err error)
  unmade_caused = record { makes = unmade; refused = refused_first before now models options error rest prepares }

-- ---- a call that made them
-- the exit of a `?` for want of memory behind it
abbrev pub Exits : {A : Type 0} → Result A Error → Type 0
Exits result = IsErrAnd result (λ error. IsAlone kind.Memory no_labels error)

module _ {R : Type 0} (tells : ResultSpec R) (before : Moment) (models : List WriteModel) (options : BulkWriteOptions) (call : ℕ) (accepted : IsBulkAccepted models options)
    (mid : Moment) (rest : mid ≡ record before { store = mid.store }) (own : List OwnOp) (owns : OwnsOps before.store mid.store models own) where
  -- an answer has its cause, where it is one of a call that was made
  caused_by : (now : Moment) (result : Result R Error) → MakesBulk tells before now models options call result → BulkCaused tells before now models options call result
  caused_by now result makes = record { makes = makes; refused = refuses_nothing before now models options (end_of result) accepted }

  -- memory ran out before the first batch
  pub short_made : (result : Result R Error) → Exits result → MakesBulk tells before mid models options call result
  short_made (Ok output) exits = absurd exits
  short_made (Err error) exits = inr (record {
    accepted = accepted;
    mid = mid;
    own = own;
    owns = owns;
    rest = rest;
    ends = [];
    batches = (refl, inr (inl exits.kind_is));
    answers = inl exits.kind_is;
  })

  pub short_caused : (result : Result R Error) → Exits result → BulkCaused tells before mid models options call result
  short_caused result exits = caused_by mid result (short_made result exits)

  -- its batches ended with an error
  stopped_answers : (error : Error) (ends : List (PlannedEnd R)) → (kind_of error ≡ kind.Memory) ⊎ ComesTo tells status.None ends (Err error) → AnswersBulkCall tells ends (Err error)
  stopped_answers error ends why = elim why [ inl memory ↦ inl memory | inr comes ↦ inr (record { standing = Err error; comes = comes; answers = refl }) ]

  stopped_with : (now : Moment) (error : Error) → StopsBulk tells options call 0 own mid now status.None error → MakesBulk tells before now models options call (Err error)
  stopped_with now error stops = inr (record {
    accepted = accepted;
    mid = mid;
    own = own;
    owns = owns;
    rest = rest;
    ends = stops.ends;
    batches = stops.makes;
    answers = stopped_answers error stops.ends stops.why;
  })

  -- the same of ops that are equal
  pub stopped_made : (given : List OwnOp) → given ≡ own → (now : Moment) (error : Error) → StopsBulk tells options call 0 given mid now status.None error → MakesBulk tells before now models options call (Err error)
  stopped_made given is now error stops = stopped_with now error (subst (λ ops. StopsBulk tells options call 0 ops mid now status.None error) is stops)

  pub stopped_caused : (given : List OwnOp) → given ≡ own → (now : Moment) (error : Error) → StopsBulk tells options call 0 given mid now status.None error → BulkCaused tells before now models options call (Err error)
  stopped_caused given is now error stops = caused_by now (Err error) (stopped_made given is now error stops)

  -- they were made, and this stands behind them
  made_of : (now : Moment) (standing : ExecutionStatus R) (result : Result R Error) → StandsBehindAll tells options call own mid now standing → AnswersStanding (Ok standing) result
      → MadeBulk tells before now models options call result
  made_of now standing result stands answers = record {
    accepted = accepted;
    mid = mid;
    own = own;
    owns = owns;
    rest = rest;
    ends = stands.ends;
    batches = planned.never_short (bulk_plan tells options) call (EndsShort tells stands.ends result) 0 own stands.ends mid now stands.batches;
    answers = answers_by result answers;
  }
    where
      answers_by : (result : Result R Error) → AnswersStanding (Ok standing) result → AnswersBulkCall tells stands.ends result
      answers_by (Ok output) answers = record { standing = Ok standing; comes = stands.comes; answers = answers }
      answers_by (Err error) answers = inr (record { standing = Ok standing; comes = stands.comes; answers = answers })

  pub all_made : (now : Moment) (standing : ExecutionStatus R) (result : Result R Error) → StandsBehindAll tells options call own mid now standing → AnswersStanding (Ok standing) result
      → MakesBulk tells before now models options call result
  all_made now standing (Ok output) stands answers = made_of now standing (Ok output) stands answers
  all_made now standing (Err error) stands answers = inr (made_of now standing (Err error) stands answers)

  pub all_caused : (now : Moment) (standing : ExecutionStatus R) (result : Result R Error) → StandsBehindAll tells options call own mid now standing → AnswersStanding (Ok standing) result
      → BulkCaused tells before now models options call result
  all_caused now standing result stands answers = caused_by now result (all_made now standing result stands answers)

-- models whose input is accepted are some, and so are their ops
ops_some : (models : List WriteModel) (own : List OwnOp) → 0 < length models → AreOps models own → 0 < length own
ops_some [] own some are = absurd (omega (arith, some))
ops_some (model ∷ models) [] some are = absurd are
ops_some (model ∷ models) (op ∷ own) some are = omega arith

models_some : (models : List WriteModel) (options : BulkWriteOptions) → IsBulkAccepted models options → 0 < length models
models_some [] options accepted = absurd (none_is_some no_models_text (sym accepted.arguments))
models_some (model ∷ models) options accepted = omega arith

with_ids_some : (store now : StoreTells) (models : List WriteModel) (ids : List ObjectId) → DrawsModelIds store now models ids → 0 < length models → 0 < length (with_model_ids ids models)
with_ids_some store now [] ids draws some = absurd (omega (arith, some))
with_ids_some store now (model ∷ models) [] draws some = absurd draws
with_ids_some store now (model ∷ models) (id ∷ ids) draws some = omega arith

pub owned_some : (store now : StoreTells) (models : List WriteModel) (options : BulkWriteOptions) (own : List OwnOp) → IsBulkAccepted models options → OwnsOps store now models own → 0 < length own
owned_some store now models options own accepted owns =
    ops_some (with_model_ids owns.ids models) own (with_ids_some store now models owns.ids owns.draws (models_some models options accepted)) owns.are_ops
