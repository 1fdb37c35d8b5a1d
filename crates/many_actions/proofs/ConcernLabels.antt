-- An error of documents has the labels of the write concern error inside, since a reply spelled it. So what is gathered of batches has
-- those of its write concern error, and they add nothing to the labels of the answer.
use Rattle.std.proofs.Common.{◌≡◌, ℕ, ◌+◌, Bool, true, false, List, [], ◌∷◌, ◌++◌, drop, take, refl, sym, ap, subst, ◌∙◌, inl, inr}
use Rattle.std.proofs.lemmas.Bool.{or_left, or_right}
use Rattle.std.specs.Prelude.{Option, None, Some, Result, Ok, Err, if◌then◌else◌}
use Rattle.std.specs.Str.{bytes_eq}
use Rattle.bson_lite.specs.declared.bson.Bson.{Bson}
use Rattle.bson_lite.specs.declared.document.Pair.{Pair}
use Rattle.driver_error.specs.declared.error.Error.{Error}
use Rattle.driver_error.specs.declared.kind.ErrorKind.TheVariants as kind
use Rattle.driver_error.specs.declared.labels.TheConstants.{RETRYABLE_WRITE_ERROR}
use Rattle.server_answers.specs.declared.results.InsertManyResult.{InsertManyResult}
use Rattle.driver_error.specs.declared.write.InsertManyError.{InsertManyError}
use Rattle.driver_error.specs.declared.write.WriteConcernError.{WriteConcernError}
use Rattle.driver_error.specs.Conversions.{IsMade}
use Rattle.driver_error.specs.Error.{ErrorKind, IsAlone, kind_of, labels_of}
use Rattle.driver_error.specs.Kinds.{inner_labels, labels_of_concern}
use Rattle.driver_error.specs.LabelTexts.{LabelSet, has_label, in_order, label_set, no_labels, with_label, with_labels}
use Rattle.driver_error.specs.Predicates.{is_network_error}
use Rattle.driver_error.proofs.LabelSets.{has_label-none, has_label-with}
use Rattle.driver_error.proofs.SortedLabels.{adds_nothing, first_in_set}
use Rattle.driver_options.specs.declared.write_options.InsertManyOptions.{InsertManyOptions}
use Rattle.link_faults.specs.declared.fault.Answered.{Answered}
use Rattle.link_faults.specs.declared.fault.Answered.TheVariants as answer
use Rattle.driver_link.specs.LinkState.{LinkState}
use Rattle.driver_session.specs.declared.retryability.Retryability.{Retryability}
use Rattle.driver_session.specs.declared.retryability.Retryability.TheVariants as may
use Rattle.driver_ops.specs.declared.target.OperationTarget.{OperationTarget}
use Rattle.driver_ops.specs.Inserts.{insert_is_ordered}
use Rattle.driver_ops.specs.Operations.{MayRefuse, ReadsAnswer, ReadsPages}
use Rattle.driver_ops.specs.SendKinds as send
use Rattle.write_ops.specs.declared.own_document.OwnDocument.{OwnDocument}
use Rattle.write_ops.specs.InsertAnswers as insert
use Rattle.write_ops.specs.InsertAnswers.{AnswersReply, ReadsInsert, insert_reply, odd_insert_text}
use Rattle.write_ops.specs.InsertSpec.{insert_spec, statements_fixed}
use Rattle.driver_attempt.specs.Causes.{ErrorOutline, HasReply, end_of, outline_of}
use Rattle.retry_rules.specs.LabelTable.{labels_outside_transactions}
use Rattle.driver_attempt.specs.Moment.{Moment}
use Rattle.retry_rules.specs.OldDeployment.{reworded}
use Rattle.driver_exec.specs.OperationCauses.{Caused, EndsCaused, Grounds, KindNeeds, SpellsEnd, grounds}
use Rattle.driver_exec.specs.Resending.{IsReadFailure}
use Rattle.driver_exec.proofs.OperationCauses.{reworded_is}
use Rattle.driver_exec.proofs.ReadFailures.{read_when_done, reworded_read}
use Rattle.many_actions.specs.declared.gathered.Gathered.{Gathered}
use Rattle.many_actions.specs.BatchTells.{concern_of_kind}
use Rattle.many_actions.specs.Batches.{BatchEnd, MakesBatch, MakesBatches}
use Rattle.many_actions.specs.ManyAnswers.{TellsGathered, count_of, gathered, gathered_failures, later_concern, nothing_gathered, with_kind, with_result}
use Rattle.many_actions.specs.inside.Taking.{AnswersTold}
use Rattle.many_actions.proofs.GatheredLaws.{labels_joined}

-- a set has the labels of a write concern error, where there is one
abbrev pub HasLabels : LabelSet → Option WriteConcernError → Type 0
HasLabels labels concern = (label : List ℕ) → has_label (label_set (labels_of_concern concern)) label ≡ true → has_label labels label ≡ true

-- an error has those of the write concern error that it tells
abbrev pub OwnsLabels : Error → Type 0
OwnsLabels error = HasLabels (labels_of error) (concern_of_kind (kind_of error))

-- where there is none
none_has : (labels : LabelSet) → HasLabels labels None
none_has labels = λ label is. absurd (let e : ◌≡◌ {A = Bool} false true = sym (has_label-none label) ∙ is in cc)

-- where they were put into the set
set_has : (concern : Option WriteConcernError) (given : List (List ℕ)) (labels : LabelSet) → labels ≡ label_set (labels_of_concern concern ++ given) → HasLabels labels concern
set_has concern given labels is = λ label has.
    ap (λ (set : LabelSet). has_label set label) is ∙ first_in_set (labels_of_concern concern) given label has

-- and where the set has all labels of one that has them
more_has : (labels now : LabelSet) (concern : Option WriteConcernError) → ((label : List ℕ) → has_label labels label ≡ true → has_label now label ≡ true)
    → HasLabels labels concern → HasLabels now concern
more_has labels now concern keeps has = λ label there. keeps label (has label there)

-- so it is of an error of the same kind with these labels and maybe others
kept_owns : (bare error : Error) → kind_of error ≡ kind_of bare → ((label : List ℕ) → has_label (labels_of bare) label ≡ true → has_label (labels_of error) label ≡ true)
    → OwnsLabels bare → OwnsLabels error
kept_owns bare error same keeps owns =
    subst (λ (why : ErrorKind). HasLabels (labels_of error) (concern_of_kind why)) (sym same)
    (more_has (labels_of bare) (labels_of error) (concern_of_kind (kind_of bare)) keeps owns)

-- an error of documents that was made with them has them
new_owns : (failures : InsertManyError) (given : List (List ℕ)) (error : Error)
    → IsAlone (kind.InsertMany failures) (label_set (inner_labels (kind.InsertMany failures) ++ given)) error → OwnsLabels error
new_owns failures given error made =
    subst (λ (why : ErrorKind). HasLabels (labels_of error) (concern_of_kind why)) (sym made.kind_is)
    (set_has failures.write_concern_error given (labels_of error) made.labels_are)

-- it is no error of another kind, or of memory
not_memory : (found : ErrorKind) (failures : InsertManyError) → found ≡ kind.InsertMany failures → found ≡ kind.Memory → ⊥
not_memory found failures is memory = let e : ◌≡◌ {A = ErrorKind} (kind.InsertMany failures) kind.Memory = sym is ∙ memory in cc

not_odd : (found : ErrorKind) (failures : InsertManyError) (text : List ℕ) → found ≡ kind.InsertMany failures → found ≡ kind.InvalidResponse text → ⊥
not_odd found failures text is odd = let e : ◌≡◌ {A = ErrorKind} (kind.InsertMany failures) (kind.InvalidResponse text) = sym is ∙ odd in cc

not_made_odd : (error : Error) (failures : InsertManyError) (text : List ℕ) → kind_of error ≡ kind.InsertMany failures → IsMade (kind.InvalidResponse text) no_labels error → ⊥
not_made_odd error failures text is made = elim made [
  | inl odd ↦ not_odd (kind_of error) failures text is odd.kind_is
  | inr memory ↦ not_memory (kind_of error) failures is memory.kind_is
]

-- the fields of a reply to an insert spell one that has them
spelled_owns : (ordered : Bool) (documents : List OwnDocument) (fields : _) (error : Error) (failures : InsertManyError) → kind_of error ≡ kind.InsertMany failures
    → AnswersReply ordered documents fields (Err error) → OwnsLabels error
spelled_owns ordered documents None error failures is odd = absurd (not_made_odd error failures odd_insert_text is odd)
spelled_owns ordered documents (Some reply) error failures is answers = elim answers [
  | inl odd ↦ absurd (not_made_odd error failures odd_insert_text is odd.1)
  | inr failed ↦ elim failed.2 [
    | inl made ↦ new_owns (insert.failures_of ordered documents reply) reply.labels error made
    | inr memory ↦ absurd (not_memory (kind_of error) failures is memory.kind_is)
  ]
]

-- so does the reply
read_owns : (ordered : Bool) (documents : List OwnDocument) (reply : List (Pair Bson)) (error : Error) (failures : InsertManyError) → kind_of error ≡ kind.InsertMany failures
    → ReadsInsert ordered documents reply (Err error) → OwnsLabels error
read_owns ordered documents reply error failures is reads = elim reads [
  | inl memory ↦ absurd (not_memory (kind_of error) failures is memory)
  | inr answers ↦ spelled_owns ordered documents (insert_reply reply) error failures is answers
]

-- the table of labels takes none away
table_keeps : (retryability : Retryability) (bare : Error) (label : List ℕ) → has_label (labels_of bare) label ≡ true
    → has_label (labels_outside_transactions retryability bare) label ≡ true
table_keeps may.Write bare label has = by_test (is_network_error bare)
  where
    by_test : (network : Bool) → has_label (if network then with_label (labels_of bare) RETRYABLE_WRITE_ERROR.now else labels_of bare) label ≡ true
    by_test true =
        has_label-with (labels_of bare) RETRYABLE_WRITE_ERROR.now label
        ∙ or_right (bytes_eq label RETRYABLE_WRITE_ERROR.now) (has_label (labels_of bare) label) has
    by_test false = has
table_keeps may.Read bare label has = has
table_keeps may.None bare label has = has

-- what each reply with a property gives is so where there is one
from_reply : (P : List ℕ → Type 0) (Q : Type 0) (items : List Answered) → ((bytes : List ℕ) → P bytes → Q) → HasReply P items → Q
from_reply P Q [] gives has = absurd has
from_reply P Q (answer.Reply bytes ∷ items) gives has = elim has [ inl here ↦ gives bytes here | inr later ↦ from_reply P Q items gives later ]
from_reply P Q (answer.Fault which found labels ∷ items) gives has = from_reply P Q items gives has

-- the operation of a batch
module _ (target : OperationTarget) (index : ℕ) (own : List OwnDocument) (options : InsertManyOptions) where
  -- an error of documents that it reads in a reply has them
  answer_owns : (statements : ℕ) (bytes : List ℕ) (bare : Error) (failures : InsertManyError) → kind_of bare ≡ kind.InsertMany failures
      → ReadsAnswer (insert_spec target index own options) statements bytes (Err bare) → OwnsLabels bare
  answer_owns statements bytes bare failures is reads =
      let found = read_when_done (insert_spec target index own options) statements bytes [] bare reads (subst IsReadFailure (sym is) tt) in
      kept_owns found.bare bare found.kept.kind (λ label has. ap (λ (set : LabelSet). has_label set label) found.kept.labels ∙ has)
      (read_owns (insert_is_ordered options) (take statements own) found.response.body found.bare failures (sym found.kept.kind ∙ is) found.reads)

  -- so has one that it ends with
  module _ (before : Moment) (error : Error) (failures : InsertManyError) (is : kind_of error ≡ kind.InsertMany failures) where
    -- what its end is judged by
    abbrev judged_by : Grounds InsertManyResult
    judged_by = grounds (insert_spec target index own options) send.first (statements_fixed own None) before

    -- which a reply spells
    reply_owns : (count count_now : ℕ) (items : List Answered) (bytes : List ℕ) → SpellsEnd judged_by count count_now items (outline_of error) bytes → OwnsLabels error
    reply_owns count count_now items bytes spells =
        let alone = subst (λ pages. ReadsPages (insert_spec target index own options) spells.statements bytes pages (Err spells.bare)) (spells.alone refl) spells.reads in
        let worded : kind_of (reworded spells.bare) ≡ kind_of error = (reworded_is spells.bare).0 ∙ sym spells.kind_is in
        let read : kind_of (reworded spells.bare) ≡ kind.InsertMany failures = worded ∙ is in
        let same : kind_of error ≡ kind_of spells.bare = sym worded ∙ reworded_read spells.bare (subst IsReadFailure (sym read) tt) in
        kept_owns spells.bare error same
        (λ label has. ap (λ (set : LabelSet). has_label set label) spells.labels_are ∙ table_keeps spells.connection_retryability spells.bare label has)
        (answer_owns spells.statements bytes spells.bare failures (sym same ∙ is) alone)

    -- no fault and no refused build has such an error
    end_owns : (link now : LinkState) → EndsCaused judged_by link now (Some (outline_of error)) → OwnsLabels error
    end_owns link now caused = elim caused.needs [
      | inl needs ↦ absurd (subst (KindNeeds judged_by link.faults now.faults caused.items (labels_of error)) is needs.needs)
      | inr other ↦ elim other [
        | inl replies ↦ from_reply (SpellsEnd judged_by link.faults now.faults caused.items (outline_of error)) (OwnsLabels error) caused.items (reply_owns link.faults now.faults caused.items) replies
        | inr refuses ↦
            let refused : kind_of refuses.error ≡ kind.InsertMany failures = ap (λ (why : ErrorOutline). why.kind) (sym refuses.is) ∙ is in
            absurd (subst MayRefuse refused refuses.refuses.may)
      ]
    ]

-- an error that tells of no documents tells no write concern error
by_kind : (labels : LabelSet) (why : ErrorKind) → ((failures : InsertManyError) → why ≡ kind.InsertMany failures → HasLabels labels (concern_of_kind why)) → HasLabels labels (concern_of_kind why)
by_kind labels (kind.InsertMany failures) of_documents = of_documents failures refl
by_kind labels _ of_documents = none_has labels

-- an end that is an error has them
abbrev pub EndOwns : Result InsertManyResult Error → Type 0
EndOwns (Ok output) = Unit {0}
EndOwns (Err error) = OwnsLabels error

-- so does that of a batch
batch_owns : (target : OperationTarget) (options : InsertManyOptions) (call index : ℕ) (own : List OwnDocument) (before now : Moment) (end : BatchEnd)
    → MakesBatch target options call index own before now end → EndOwns end.result
batch_owns target options call index own before now end made = by_result end.result made.caused
  where
    by_result : (result : Result InsertManyResult Error) → Caused (insert_spec target index own options) send.first (statements_fixed own None) before now (end_of result) → EndOwns result
    by_result (Ok output) caused = tt
    by_result (Err error) caused =
        by_kind (labels_of error) (kind_of error) (λ failures is. end_owns target index own options before error failures is before.link now.link caused)

-- and those of all batches
abbrev pub EachOwns : List BatchEnd → Type 0
EachOwns [] = Unit {0}
EachOwns (end ∷ ends) = EndOwns end.result × EachOwns ends

batches_own : (short : Type 0) (target : OperationTarget) (options : InsertManyOptions) (call : ℕ) (ends : List BatchEnd) (index : ℕ) (own : List OwnDocument) (before now : Moment)
    → MakesBatches short target options call index own ends before now → EachOwns ends
batches_own short target options call [] index own before now made = tt
batches_own short target options call (end ∷ ends) index own before now made = (
  batch_owns target options call index own before made.0 end made.1.0,
  elim made.1.1 [
    | inl on ↦ batches_own short target options call ends (index + on.statements) (drop on.statements own) made.0 now on.rest
    | inr stops ↦ subst (λ (later : List BatchEnd). EachOwns later) (sym stops.none) tt
  ],
)

-- the later of two write concern errors beside the labels of both
later_has : (so_far more : LabelSet) (before told : Option WriteConcernError) → HasLabels so_far before → HasLabels more told
    → HasLabels (with_labels so_far (in_order more)) (later_concern before told)
later_has so_far more before None has here = λ label is.
    labels_joined so_far more label ∙ or_left (has_label so_far label) (has_label more label) (has label is)
later_has so_far more before (Some concern) has here = λ label is.
    labels_joined so_far more label ∙ or_right (has_label so_far label) (has_label more label) (here label is)

-- what is gathered has the labels of its write concern error
abbrev pub HasItsLabels : Gathered → Type 0
HasItsLabels told = HasLabels told.labels told.concern

-- so it is with an error more
kind_gathered : (so_far : Gathered) (from count : ℕ) (labels : LabelSet) (why : ErrorKind) → HasItsLabels so_far → HasLabels labels (concern_of_kind why)
    → HasItsLabels (with_kind so_far from count labels why)
kind_gathered so_far from count labels (kind.InsertMany failures) has here =
    later_has so_far.labels labels so_far.concern failures.write_concern_error has here
kind_gathered so_far from count labels _ has here = has

-- with an end more
result_gathered : (so_far : Gathered) (from count : ℕ) (result : Result InsertManyResult Error) → HasItsLabels so_far → EndOwns result
    → HasItsLabels (with_result so_far from count result)
result_gathered so_far from count (Ok output) has here = has
result_gathered so_far from count (Err error) has here = kind_gathered so_far from count (labels_of error) (kind_of error) has here

-- and with all ends
ends_gathered : (so_far : Gathered) (ends : List BatchEnd) → HasItsLabels so_far → EachOwns ends → HasItsLabels (gathered so_far ends)
ends_gathered so_far [] has each = has
ends_gathered so_far (end ∷ ends) has each =
    ends_gathered (with_result so_far end.first (count_of end.statements) end.result) ends
    (result_gathered so_far end.first (count_of end.statements) end.result has each.0) each.1

-- so it is of the batches of a call
pub batches_gathered : (short : Type 0) (target : OperationTarget) (options : InsertManyOptions) (call : ℕ) (ends : List BatchEnd) (own : List OwnDocument) (before now : Moment)
    → MakesBatches short target options call 0 own ends before now → HasItsLabels (gathered nothing_gathered ends)
batches_gathered short target options call ends own before now made =
    ends_gathered nothing_gathered ends (none_has no_labels) (batches_own short target options call ends 0 own before now made)

-- then an answer with the labels inside beside all that were told has just those that were told
pub answers_gathered : (told : Gathered) (result : Result InsertManyResult Error) → HasItsLabels told → AnswersTold told result → TellsGathered told result
answers_gathered told (Ok output) has answers = answers
answers_gathered told (Err error) has answers = (
  answers.0,
  elim answers.1 [
    | inl made ↦ inl (subst (λ (labels : LabelSet). IsAlone (kind.InsertMany (gathered_failures told)) labels error)
        (adds_nothing told.labels (labels_of_concern told.concern) has) made)
    | inr memory ↦ inr memory
  ],
)
