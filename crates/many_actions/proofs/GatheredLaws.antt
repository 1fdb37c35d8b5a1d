-- What is gathered of the ends of batches, part by part: each id that an end tells, where they lie one behind another, the last write
-- concern error, all labels, and whether one of them failed.
use Rattle.std.proofs.Common.{◌≡◌, ℕ, zero, suc, ◌+◌, ◌<◌, ◌≤◌, Bool, true, false, ◌&&◌, ◌||◌, List, [], ◌∷◌, drop, refl, sym, ap, subst, ◌∙◌, inl, inr, arith}
use Rattle.std.proofs.lemmas.Bool.{cases_lt}
use Rattle.std.specs.Prelude.{Option, None, Some, Result, Ok, Err}
use Rattle.std.specs.Cmp.{nat_cmp_total}
use Rattle.std.specs.FinMap as finite
use Rattle.std.specs.Option.{option_or}
use Rattle.std.specs.Ordering.{nat_cmp}
use Rattle.std.specs.Str.{bytes_eq}
use Rattle.bson_lite.specs.declared.bson.Bson.{Bson}
use Rattle.bson_lite.proofs.FinMaps.{get_inserted}
use Rattle.driver_error.specs.declared.error.Error.{Error}
use Rattle.driver_error.specs.declared.kind.ErrorKind.TheVariants as kind
use Rattle.server_answers.specs.declared.results.InsertManyResult.{InsertManyResult}
use Rattle.driver_error.specs.declared.write.WriteConcernError.{WriteConcernError}
use Rattle.driver_error.specs.Error.{ErrorKind, kind_of, labels_of}
use Rattle.driver_error.specs.LabelTexts.{LabelSet, has_label, in_order, label_set, with_label, with_labels}
use Rattle.driver_error.proofs.LabelSets.{has_label-none, has_label-with}
use Rattle.driver_error.proofs.SortedLabels.{with_labels_none}
use Rattle.driver_options.specs.declared.write_options.InsertManyOptions.{InsertManyOptions}
use Rattle.driver_link.specs.Settled.{Has}
use Rattle.driver_link.proofs.Lists.{none_is_some}
use Rattle.driver_ops.specs.declared.target.OperationTarget.{OperationTarget}
use Rattle.write_ops.specs.declared.own_document.OwnDocument.{OwnDocument}
use Rattle.write_ops.specs.InsertLawful.{Ids}
use Rattle.write_ops.specs.InsertSpec.{id_beside}
use Rattle.driver_attempt.specs.Moment.{Moment}
use Rattle.many_actions.specs.declared.gathered.Gathered.{Gathered}
use Rattle.many_actions.specs.BatchTells.{AreInOrder, TellsId, concern_of_end, concern_of_kind, ids_of_end, ids_of_kind, last_concern, some_failed, some_labelled, tells_failures, tells_label}
use Rattle.many_actions.specs.Batches.{BatchEnd, MakesBatches, tells_documents}
use Rattle.many_actions.specs.ManyAnswers.{count_of, gathered, later_concern, nothing_gathered, put_ids, with_kind, with_result}
use Rattle.many_actions.specs.ManyCalls.{RanShort}
use Rattle.many_actions.proofs.GatheredEnds.{beside_other, put_below}
use Rattle.many_actions.proofs.Gathering.{labels_again}

-- an id that was put beside others is found there
beside_put : (at : ℕ) (found : Option Bson) (all : Ids) (id : Bson) → found ≡ Some id → finite.get (id_beside at found all) at ≡ Some id
beside_put at None all id is = absurd (none_is_some id is)
beside_put at (Some here) all id is = get_inserted nat_cmp_total all at here ∙ is

-- an id of a batch is found under its index, whatever was there before
put_told : (first count : ℕ) (ids all : Ids) (at : ℕ) (id : Bson) → at < count → finite.get ids at ≡ Some id
    → finite.get (put_ids first count ids all) (first + at) ≡ Some id
put_told first zero ids all at id within told = absurd (omega (arith, within))
put_told first (suc count) ids all at id within told = elim (cases_lt at count) [
  | inl below ↦
      beside_other (first + count) (finite.get ids count) (put_ids first count ids all) (first + at) (λ same. omega (arith, below, same))
      ∙ put_told first count ids all at id below told
  | inr past ↦
      let last : at ≡ count = omega (arith, within, past) in
      ap (λ (n : ℕ). finite.get (put_ids first (suc count) ids all) (first + n)) last
      ∙ beside_put (first + count) (finite.get ids count) (put_ids first count ids all) id
      (ap (λ (n : ℕ). finite.get ids n) (sym last) ∙ told)
]

-- so is an id that the kind of an error tells
kind_told : (so_far : Gathered) (first count : ℕ) (labels : LabelSet) (why : ErrorKind) (at : ℕ) (id : Bson) → at < count
    → finite.get (ids_of_kind why) at ≡ Some id → finite.get (with_kind so_far first count labels why).inserted_ids (first + at) ≡ Some id
kind_told so_far first count labels (kind.InsertMany failures) at id within told =
    put_told first count failures.inserted_ids so_far.inserted_ids at id within told
kind_told so_far first count labels _ at id within told = absurd (none_is_some id (sym (finite.get-empty nat_cmp at) ∙ told))

-- and one that an end tells
result_told : (so_far : Gathered) (first count : ℕ) (result : Result InsertManyResult Error) (at : ℕ) (id : Bson) → at < count
    → finite.get (ids_of_end result) at ≡ Some id → finite.get (with_result so_far first count result).inserted_ids (first + at) ≡ Some id
result_told so_far first count (Ok output) at id within told =
    put_told first count output.inserted_ids so_far.inserted_ids at id within told
result_told so_far first count (Err error) at id within told =
    kind_told so_far first count (labels_of error) (kind_of error) at id within told

-- what an error tells leaves what stands before the first document of its batch
kind_below : (so_far : Gathered) (first count : ℕ) (labels : LabelSet) (why : ErrorKind) (index : ℕ) → index < first
    → finite.get (with_kind so_far first count labels why).inserted_ids index ≡ finite.get so_far.inserted_ids index
kind_below so_far first count labels (kind.InsertMany failures) index below =
    put_below first count failures.inserted_ids so_far.inserted_ids index below
kind_below so_far first count labels _ index below = refl

-- so does what an end tells
result_below : (so_far : Gathered) (first count : ℕ) (result : Result InsertManyResult Error) (index : ℕ) → index < first
    → finite.get (with_result so_far first count result).inserted_ids index ≡ finite.get so_far.inserted_ids index
result_below so_far first count (Ok output) index below =
    put_below first count output.inserted_ids so_far.inserted_ids index below
result_below so_far first count (Err error) index below =
    kind_below so_far first count (labels_of error) (kind_of error) index below

-- numbers in order
before_first : (index start first : ℕ) → index < start → start ≤ first → index < first
before_first index start first below begins = omega (arith, below, begins)

before_end : (index first count : ℕ) → index < first → index < first + count
before_end index first count below = omega (arith, below)

within_end : (first at count : ℕ) → at < count → first + at < first + count
within_end first at count within = omega (arith, within)

-- and what ends in order tell
ends_below : (so_far : Gathered) (ends : List BatchEnd) (start index : ℕ) → index < start → AreInOrder start ends
    → finite.get (gathered so_far ends).inserted_ids index ≡ finite.get so_far.inserted_ids index
ends_below so_far [] start index below ordered = refl
ends_below so_far (end ∷ ends) start index below ordered =
    let earlier : index < end.first = before_first index start end.first below ordered.0 in
    ends_below (with_result so_far end.first (count_of end.statements) end.result) ends (end.first + count_of end.statements) index
    (before_end index end.first (count_of end.statements) earlier) ordered.1
    ∙ result_below so_far end.first (count_of end.statements) end.result index earlier

-- an id that an end tells stays where the ends behind it are in order
here_told : (so_far : Gathered) (end : BatchEnd) (ends : List BatchEnd) (index : ℕ) (id : Bson)
    → AreInOrder (end.first + count_of end.statements) ends → TellsId index id end
    → finite.get (gathered (with_result so_far end.first (count_of end.statements) end.result) ends).inserted_ids index ≡ Some id
here_told so_far end ends index id ordered tells =
    let after : Gathered = with_result so_far end.first (count_of end.statements) end.result in
    ap (λ (n : ℕ). finite.get (gathered after ends).inserted_ids n) tells.moved
    ∙ ends_below after ends (end.first + count_of end.statements) (end.first + tells.at)
    (within_end end.first tells.at (count_of end.statements) tells.within) ordered
    ∙ result_told so_far end.first (count_of end.statements) end.result tells.at id tells.within tells.told

ends_told : (so_far : Gathered) (ends : List BatchEnd) (end : BatchEnd) (start index : ℕ) (id : Bson) → AreInOrder start ends
    → Has ends end → TellsId index id end → finite.get (gathered so_far ends).inserted_ids index ≡ Some id
ends_told so_far [] end start index id ordered has tells = absurd has
ends_told so_far (here ∷ ends) end start index id ordered has tells = elim has [
  | inl same ↦
      here_told so_far here ends index id ordered.1 (subst (λ (told : BatchEnd). TellsId index id told) (sym same) tells)
  | inr later ↦
      ends_told (with_result so_far here.first (count_of here.statements) here.result) ends end
      (here.first + count_of here.statements) index id ordered.1 later tells
]

-- an id that one of the ends tells for one of its own documents is gathered
pub batch_id_gathered : (ends : List BatchEnd) (end : BatchEnd) (index : ℕ) (id : Bson) → AreInOrder 0 ends → Has ends end → TellsId index id end
    → finite.get (gathered nothing_gathered ends).inserted_ids index ≡ Some id
batch_id_gathered ends end index id ordered has tells = ends_told nothing_gathered ends end 0 index id ordered has tells

-- where the documents of a batch end
ends_at : (index first statements : ℕ) (told : Option ℕ) → first ≡ index → told ≡ Some statements
    → index + statements ≡ first + count_of told
ends_at index first statements told begins is =
    let counted : count_of told ≡ statements = ap count_of is in
    ap (λ (n : ℕ). n + statements) (sym begins) ∙ ap (λ (n : ℕ). first + n) (sym counted)

-- each batch begins where the one before it ended, whatever stopped the last of them
lie_in_order : (short : Type 0) (target : OperationTarget) (options : InsertManyOptions) (call : ℕ) (ends : List BatchEnd) (index : ℕ) (own : List OwnDocument)
    (before now : Moment) → MakesBatches short target options call index own ends before now → AreInOrder index ends
lie_in_order short target options call [] index own before now made = tt
lie_in_order short target options call (end ∷ ends) index own before now made =
    let begins : end.first ≡ index = made.1.0.begins in
    elim made.1.1 [
      | inl on ↦
          let behind : AreInOrder (index + on.statements) ends =
          lie_in_order short target options call ends (index + on.statements) (drop on.statements own) made.0 now on.rest in
          let moved : index + on.statements ≡ end.first + count_of end.statements =
          ends_at index end.first on.statements end.statements begins on.told in
          (omega (arith, begins), subst (λ (n : ℕ). AreInOrder n ends) moved behind)
      | inr stops ↦
          (omega (arith, begins), subst (λ (later : List BatchEnd). AreInOrder (end.first + count_of end.statements) later) (sym stops.none) tt)
    ]

-- so do the batches of a call
pub made_in_order : (target : OperationTarget) (options : InsertManyOptions) (call : ℕ) (ends : List BatchEnd) (index : ℕ) (own : List OwnDocument)
    (before now : Moment) (result : Result InsertManyResult Error)
    → MakesBatches (RanShort result) target options call index own ends before now → AreInOrder index ends
made_in_order target options call ends index own before now result made =
    lie_in_order (RanShort result) target options call ends index own before now made

-- a write concern error, else the one before
later_first : (before told : Option WriteConcernError) → later_concern before told ≡ option_or told before
later_first before None = refl
later_first before (Some concern) = refl

-- the first of three that is there
or_twice : (last told before : Option WriteConcernError) → option_or last (option_or told before) ≡ option_or (option_or last told) before
or_twice None told before = refl
or_twice (Some concern) told before = refl

or_nothing : (last : Option WriteConcernError) → option_or last None ≡ last
or_nothing None = refl
or_nothing (Some concern) = refl

-- the write concern error of an error, by its kind, else the one before
concern_by_kind : (so_far : Gathered) (first count : ℕ) (labels : LabelSet) (why : ErrorKind)
    → (with_kind so_far first count labels why).concern ≡ option_or (concern_of_kind why) so_far.concern
concern_by_kind so_far first count labels (kind.InsertMany failures) = later_first so_far.concern failures.write_concern_error
concern_by_kind so_far first count labels _ = refl

-- that of one end more
concern_more : (so_far : Gathered) (first count : ℕ) (result : Result InsertManyResult Error)
    → (with_result so_far first count result).concern ≡ option_or (concern_of_end result) so_far.concern
concern_more so_far first count (Ok output) = refl
concern_more so_far first count (Err error) = concern_by_kind so_far first count (labels_of error) (kind_of error)

concern_behind : (so_far : Gathered) (ends : List BatchEnd) → (gathered so_far ends).concern ≡ option_or (last_concern ends) so_far.concern
concern_behind so_far [] = refl
concern_behind so_far (end ∷ ends) =
    concern_behind (with_result so_far end.first (count_of end.statements) end.result) ends
    ∙ ap (λ (before : Option WriteConcernError). option_or (last_concern ends) before)
    (concern_more so_far end.first (count_of end.statements) end.result)
    ∙ or_twice (last_concern ends) (concern_of_end end.result) so_far.concern

-- the write concern error that is gathered is the last one
pub concern_gathered : (ends : List BatchEnd) → (gathered nothing_gathered ends).concern ≡ last_concern ends
concern_gathered ends = concern_behind nothing_gathered ends ∙ or_nothing (last_concern ends)

-- one of several
or_none : (a : Bool) → a ≡ (a || false)
or_none true = refl
or_none false = refl

or_true : (a : Bool) → true ≡ (a || true)
or_true true = refl
or_true false = refl

or_joined : (a b c : Bool) → ((a || b) || c) ≡ (a || (b || c))
or_joined true b c = refl
or_joined false b c = refl

or_turned : (a b c : Bool) → ((a || b) || c) ≡ (b || (a || c))
or_turned true b c = or_true b
or_turned false b c = refl

-- the kind of an error adds a failure, or nothing
failed_by_kind : (so_far : Gathered) (first count : ℕ) (labels : LabelSet) (why : ErrorKind)
    → (with_kind so_far first count labels why).failed ≡ (so_far.failed || tells_documents why)
failed_by_kind so_far first count labels (kind.InsertMany failures) = or_true so_far.failed
failed_by_kind so_far first count labels _ = or_none so_far.failed

-- so does one end more
failed_more : (so_far : Gathered) (first count : ℕ) (result : Result InsertManyResult Error)
    → (with_result so_far first count result).failed ≡ (so_far.failed || tells_failures result)
failed_more so_far first count (Ok output) = or_none so_far.failed
failed_more so_far first count (Err error) = failed_by_kind so_far first count (labels_of error) (kind_of error)

failed_behind : (so_far : Gathered) (ends : List BatchEnd) → (gathered so_far ends).failed ≡ (so_far.failed || some_failed ends)
failed_behind so_far [] = or_none so_far.failed
failed_behind so_far (end ∷ ends) =
    failed_behind (with_result so_far end.first (count_of end.statements) end.result) ends
    ∙ ap (λ (told : Bool). told || some_failed ends) (failed_more so_far end.first (count_of end.statements) end.result)
    ∙ or_joined so_far.failed (tells_failures end.result) (some_failed ends)

-- a failure is gathered exactly where one of the ends tells one
pub failure_gathered : (ends : List BatchEnd) → (gathered nothing_gathered ends).failed ≡ some_failed ends
failure_gathered ends = failed_behind nothing_gathered ends

-- a set with labels added has those of the two sets
labels_added : (known : LabelSet) (more : List (List ℕ)) (label : List ℕ)
    → has_label (with_labels known more) label ≡ (has_label known label || has_label (label_set more) label)
unfolding with_labels
labels_added known [] label =
    or_none (has_label known label) ∙ ap (λ (told : Bool). has_label known label || told) (sym (has_label-none label))
labels_added known (here ∷ more) label =
    labels_added (with_label known here) more label
    ∙ ap (λ (told : Bool). told || has_label (label_set more) label) (has_label-with known here label)
    ∙ or_turned (bytes_eq label here) (has_label known label) (has_label (label_set more) label)
    ∙ ap (λ (told : Bool). has_label known label || told) (sym (has_label-with (label_set more) here label))

-- the set of a set's labels is that set
set_again : (labels : LabelSet) → label_set (in_order labels) ≡ labels
set_again labels = sym (with_labels_none (in_order labels)) ∙ labels_again labels

-- so the labels of two sets
pub labels_joined : (known labels : LabelSet) (label : List ℕ)
    → has_label (with_labels known (in_order labels)) label ≡ (has_label known label || has_label labels label)
labels_joined known labels label =
    labels_added known (in_order labels) label
    ∙ ap (λ (set : LabelSet). has_label known label || has_label set label) (set_again labels)

-- the labels of an error are added by its kind, or not
labels_by_kind : (so_far : Gathered) (first count : ℕ) (labels : LabelSet) (why : ErrorKind) (label : List ℕ)
    → has_label (with_kind so_far first count labels why).labels label ≡ (has_label so_far.labels label || (tells_documents why && has_label labels label))
labels_by_kind so_far first count labels (kind.InsertMany failures) label = labels_joined so_far.labels labels label
labels_by_kind so_far first count labels _ label = or_none (has_label so_far.labels label)

-- those of one end more
labels_more : (so_far : Gathered) (first count : ℕ) (result : Result InsertManyResult Error) (label : List ℕ)
    → has_label (with_result so_far first count result).labels label ≡ (has_label so_far.labels label || tells_label label result)
labels_more so_far first count (Ok output) label = or_none (has_label so_far.labels label)
labels_more so_far first count (Err error) label = labels_by_kind so_far first count (labels_of error) (kind_of error) label

labels_behind : (so_far : Gathered) (ends : List BatchEnd) (label : List ℕ)
    → has_label (gathered so_far ends).labels label ≡ (has_label so_far.labels label || some_labelled label ends)
labels_behind so_far [] label = or_none (has_label so_far.labels label)
labels_behind so_far (end ∷ ends) label =
    labels_behind (with_result so_far end.first (count_of end.statements) end.result) ends label
    ∙ ap (λ (told : Bool). told || some_labelled label ends)
    (labels_more so_far end.first (count_of end.statements) end.result label)
    ∙ or_joined (has_label so_far.labels label) (tells_label label end.result) (some_labelled label ends)

-- a label is gathered exactly where one of the ends that tell of their documents has it
pub labels_gathered : (ends : List BatchEnd) (label : List ℕ) → has_label (gathered nothing_gathered ends).labels label ≡ some_labelled label ends
labels_gathered ends label =
    labels_behind nothing_gathered ends label ∙ ap (λ (told : Bool). told || some_labelled label ends) (has_label-none label)
