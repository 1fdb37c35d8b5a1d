-- Batches of an insert one after another: those so far, and how the next one goes on or ends the call.
use Rattle.std.proofs.Common.{◌≡◌, ℕ, ◌+◌, ◌≤◌, List, [], ◌∷◌, ◌++◌, drop, length, refl, sym, ap, subst, ◌∙◌, inl, inr}
use Rattle.std.proofs.lemmas.List.{drop-drop, drop_all}
use Rattle.std.specs.Prelude.{Bool, true, false, IsErrAnd, Result, Ok, Err}
use Rattle.driver_error.specs.declared.error.Error.{Error}
use Rattle.driver_error.specs.declared.kind.ErrorKind.TheVariants as kind
use Rattle.server_answers.specs.declared.results.InsertManyResult.{InsertManyResult}
use Rattle.driver_error.specs.Error.{IsAlone, kind_of}
use Rattle.driver_error.specs.LabelTexts.{no_labels}
use Rattle.driver_options.specs.declared.write_options.InsertManyOptions.{InsertManyOptions}
use Rattle.driver_ops.specs.declared.target.OperationTarget.{OperationTarget}
use Rattle.write_ops.specs.declared.own_document.OwnDocument.{OwnDocument}
use Rattle.driver_attempt.specs.Moment.{Moment}
use Rattle.many_actions.specs.declared.gathered.Gathered.{Gathered}
use Rattle.many_actions.specs.Batches.{BatchEnd, insert_plan}
use Rattle.many_actions.specs.ManyAnswers.{AllOfDocuments, AnswersMany, EndsAlone, TellsGathered, count_of, gathered, nothing_gathered, with_result}
use Rattle.many_actions.specs.ManyCalls.{RanShort}
use Rattle.many_actions.specs.inside.Batches.{AllGathered, BatchesMade, GathersBatch, StopsBatches}
use Rattle.many_actions.specs.inside.Taking.{AnswersTold}
use Rattle.many_actions.proofs.ConcernLabels.{HasItsLabels, answers_gathered, batches_gathered}
use Rattle.many_actions.proofs.PlannedSequence as planned

-- batches of which each lets the next one be begun, from an index and the documents that are left there to another
abbrev pub MakesFront : OperationTarget → InsertManyOptions → ℕ → ℕ → List OwnDocument → List BatchEnd → ℕ → List OwnDocument → Moment → Moment → Type 0
MakesFront target options call index own ends reached left before now = planned.MakesFront (insert_plan target options) call index own ends reached left before now

-- what is told of batches, and of others behind them
gathered_then : (so_far : Gathered) (ends later : List BatchEnd) → gathered so_far (ends ++ later) ≡ gathered (gathered so_far ends) later
gathered_then so_far [] later = refl
gathered_then so_far (end ∷ ends) later = gathered_then (with_result so_far end.first (count_of end.statements) end.result) ends later

all_then : (ends later : List BatchEnd) → AllOfDocuments ends → AllOfDocuments later → AllOfDocuments (ends ++ later)
all_then [] later all more = more
all_then (end ∷ ends) later all more = (all.0, all_then ends later all.1 more)

-- an error that ends the later ones alone ends all of them so
alone_behind_one : (end : BatchEnd) (later : List BatchEnd) (error : Error) → EndsAlone later error → EndsAlone (end ∷ later) error
alone_behind_one end [] error alone = absurd alone
alone_behind_one end (one ∷ later) error alone = alone

alone_then : (ends later : List BatchEnd) (error : Error) → EndsAlone later error → EndsAlone (ends ++ later) error
alone_then [] later error alone = alone
alone_then (end ∷ ends) later error alone = alone_behind_one end (ends ++ later) error (alone_then ends later error alone)

-- the batches so far, from the first document on: each lets the next one be begun, and this was gathered of them
pub record SoFar (target : OperationTarget) (options : InsertManyOptions) (call : ℕ) (own : List OwnDocument) (before now : Moment) (reached : ℕ) (told : Gathered) : Type 0 where
  pub ends : List BatchEnd
  pub front : MakesFront target options call 0 own ends reached (drop reached own) before now
  pub documents : AllOfDocuments ends
  pub told_is : told ≡ gathered nothing_gathered ends

-- no batch
pub begins : (target : OperationTarget) (options : InsertManyOptions) (call : ℕ) (own : List OwnDocument) (at : Moment) (told : Gathered) → told ≡ nothing_gathered
    → SoFar target options call own at at 0 told
begins target options call own at told nothing = record { ends = []; front = (refl, (refl, refl)); documents = tt; told_is = nothing }

module _ (target : OperationTarget) (options : InsertManyOptions) (call : ℕ) (own : List OwnDocument) (before mid : Moment) (reached : ℕ) (told : Gathered) (far : SoFar target options call own before mid reached told) where
  -- what is gathered of them with the next one
  gathered_more : (now : Moment) (later : Gathered) (on : Bool) (count : ℕ) (next : GathersBatch target options call reached own mid now told later on count)
      → later ≡ gathered nothing_gathered (far.ends ++ next.end ∷ [])
  gathered_more now later on count next =
      next.told_is
      ∙ ap (λ t. with_result t reached count next.end.result) far.told_is
      ∙ ap (λ n. with_result (gathered nothing_gathered far.ends) n count next.end.result) (sym next.makes.begins)
      ∙ ap (λ n. with_result (gathered nothing_gathered far.ends) next.end.first n next.end.result) (sym (ap count_of next.counted.told))
      ∙ sym (gathered_then nothing_gathered far.ends (next.end ∷ []))

  -- the next one, behind which another is begun
  pub goes_further : (now : Moment) (later : Gathered) (count : ℕ) → GathersBatch target options call reached own mid now told later true count
      → SoFar target options call own before now (reached + count) later
  goes_further now later count next = record {
    ends = far.ends ++ next.end ∷ [];
    front = subst (λ l. MakesFront target options call 0 own (far.ends ++ next.end ∷ []) (reached + count) l before now) (drop-drop count reached own)
        (planned.front_more (insert_plan target options) call 0 own far.ends reached (drop reached own) before mid now next.end count far.front next.makes next.goes next.counted.told);
    documents = all_then far.ends (next.end ∷ []) far.documents (next.of_documents, tt);
    told_is = gathered_more now later true count next;
  }

  -- the next one, behind which no other is begun
  pub goes_no_further : (now : Moment) (later : Gathered) (count : ℕ) → GathersBatch target options call reached own mid now told later false count
      → AllGathered target options call own before now later
  goes_no_further now later count next = record {
    ends = far.ends ++ next.end ∷ [];
    batches = planned.front_then (insert_plan target options) call ⊥ 0 own far.ends reached (drop reached own) before mid now (next.end ∷ []) far.front
        (now, (next.makes, inr (record { over = next.goes; none = refl; same = refl })));
    documents = all_then far.ends (next.end ∷ []) far.documents (next.of_documents, tt);
    told_is = gathered_more now later false count next;
  }

  -- the call ended with an error there
  pub stops_there : (now : Moment) (error : Error) → StopsBatches target options call reached (drop reached own) mid now error → StopsBatches target options call 0 own before now error
  stops_there now error stops = record {
    ends = far.ends ++ stops.ends;
    makes = planned.front_then (insert_plan target options) call (kind_of error ≡ kind.Memory) 0 own far.ends reached (drop reached own) before mid now stops.ends far.front stops.makes;
    why = elim stops.why [ inl memory ↦ inl memory | inr alone ↦ inr (alone_then far.ends stops.ends error alone) ];
  }

  -- no document is left
  pub all_done : length own ≤ reached → AllGathered target options call own before mid told
  all_done all = record {
    ends = far.ends ++ [];
    batches = planned.front_then (insert_plan target options) call ⊥ 0 own far.ends reached (drop reached own) before mid mid [] far.front (refl, inl (drop_all reached own all));
    documents = all_then far.ends [] far.documents tt;
    told_is = far.told_is ∙ sym (gathered_then nothing_gathered far.ends []);
  }

-- the answer of a call by the ends of its batches
answers_told : (ends : List BatchEnd) (told : Gathered) (result : Result InsertManyResult Error) → AllOfDocuments ends → told ≡ gathered nothing_gathered ends → TellsGathered told result
    → AnswersMany ends result
answers_told ends told (Ok output) all is tells = (all, subst (λ t. TellsGathered t (Ok output)) is tells)
answers_told ends told (Err error) all is tells = inr (inr (all, subst (λ t. TellsGathered t (Err error)) is tells))

module _ (target : OperationTarget) (options : InsertManyOptions) (call : ℕ) (own : List OwnDocument) (before now : Moment) where
  -- what was gathered of all batches has the labels of its write concern error
  all_labelled : (told : Gathered) → AllGathered target options call own before now told → HasItsLabels told
  all_labelled told all = subst (λ (t : Gathered). HasItsLabels t) (sym all.told_is) (batches_gathered ⊥ target options call all.ends own before now all.batches)

  -- of a call whose batches are done
  pub done_answered : (told : Gathered) (result : Result InsertManyResult Error) → AllGathered target options call own before now told → AnswersTold told result
      → BatchesMade target options call own before now result
  done_answered told result all answers = record {
    ends = all.ends;
    batches = planned.never_short (insert_plan target options) call (RanShort result) 0 own all.ends before now all.batches;
    answers = answers_told all.ends told result all.documents all.told_is (answers_gathered told result (all_labelled told all) answers);
  }

  -- of one that ended with an error
  pub stopped_answered : (error : Error) → StopsBatches target options call 0 own before now error → BatchesMade target options call own before now (Err error)
  stopped_answered error stops = record {
    ends = stops.ends;
    batches = stops.makes;
    answers = elim stops.why [ inl memory ↦ inl memory | inr alone ↦ inr (inl alone) ];
  }

-- and of one for which there was no memory before its first batch, as the exit of a `?` returns it
pub short_answered : (target : OperationTarget) (options : InsertManyOptions) (call : ℕ) (own : List OwnDocument) (at : Moment) (result : Result InsertManyResult Error)
    → IsErrAnd result (λ error. IsAlone kind.Memory no_labels error) → BatchesMade target options call own at at result
short_answered target options call own at (Ok output) exits = absurd exits
short_answered target options call own at (Err error) exits = record { ends = []; batches = (refl, inr exits.kind_is); answers = inl exits.kind_is }
