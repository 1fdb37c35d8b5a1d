-- What batches told, taken one after another: ids at their indexes, all failures, and the labels of a set once more.
use Rattle.std.proofs.Common.{◌≡◌, ℕ, ◌+◌, List, [], ◌∷◌, ◌++◌, Bool, true, false, cond, ◌||◌, map, is_some, add-one, refl, sym, ap, ◌∙◌}
use Rattle.std.specs.Prelude.{Option, Some, Err}
use Rattle.std.specs.Cmp.Lexicographic.{slice_cmp}
use Rattle.std.specs.FinMap as finite
use Rattle.std.specs.Ordering.{eq_by_cmp, nat_cmp}
use Rattle.std.specs.Str.{bytes_eq}
use Rattle.std.proofs.lemmas.Map.Text.{is_eq-slice_cmp}
use Rattle.driver_error.specs.declared.error.Error.{Error}
use Rattle.driver_error.specs.declared.write.IndexedWriteError.{IndexedWriteError}
use Rattle.driver_error.specs.declared.write.InsertManyError.{InsertManyError}
use Rattle.driver_error.specs.declared.write.WriteConcernError.{WriteConcernError}
use Rattle.driver_error.specs.Error.{ErrorKind, kind_of, labels_of}
use Rattle.driver_error.specs.LabelTexts.{LabelSet, has_label, in_order, label_set, no_labels, with_labels}
use Rattle.driver_error.proofs.LabelSets.{has_label-none, has_label-with, same_labels}
use Rattle.driver_error.proofs.SortedLabels.{with_labels_none}
use Rattle.write_ops.specs.InsertLawful.{Ids}
use Rattle.write_ops.specs.InsertSpec.{id_beside}
use Rattle.many_actions.specs.declared.gathered.Gathered.{Gathered}
use Rattle.many_actions.specs.Batches.{tells_documents}
use Rattle.many_actions.specs.ManyAnswers.{later_concern, listed_errors, moved_error, put_ids, with_failures, with_kind}
use Rattle.many_actions.specs.inside.Taking.{Takes}

-- the ids of one document more
pub put_more : (first at : ℕ) (ids before so_far now : Ids) → so_far ≡ put_ids first at ids before
    → now ≡ id_beside (first + at) (finite.get ids at) so_far → now ≡ put_ids first (at + 1) ids before
put_more first at ids before so_far now is puts =
    puts ∙ ap (λ (all : Ids). id_beside (first + at) (finite.get ids at) all) is
    ∙ ap (λ (count : ℕ). put_ids first count ids before) (sym (add-one at))

-- all that a failed batch tells, each part beside what was there
pub failures_taken : (so_far : Gathered) (first count : ℕ) (labels : LabelSet) (failures : InsertManyError)
    (ids : Ids) (errors : List IndexedWriteError) (concern : Option WriteConcernError) (all : LabelSet)
    → ids ≡ put_ids first count failures.inserted_ids so_far.inserted_ids
    → errors ≡ so_far.errors ++ map (moved_error first) (listed_errors failures.write_errors)
    → concern ≡ later_concern so_far.concern failures.write_concern_error
    → all ≡ with_labels so_far.labels (in_order labels)
    → ◌≡◌ {A = Gathered} (record { inserted_ids = ids; errors = errors; concern = concern; labels = all; failed = true })
    (with_failures so_far first count labels failures)
failures_taken so_far first count labels failures ids errors concern all puts pushes replaces adds =
    λ i. record { inserted_ids = puts i; errors = pushes i; concern = replaces i; labels = adds i; failed = true }

-- an error that tells of documents was taken by its labels and its kind
pub told_taken : (before now : Gathered) (first count : ℕ) (error : Error) (labels : LabelSet) (why : ErrorKind) → labels ≡ labels_of error → why ≡ kind_of error
    → now ≡ with_kind before first count labels why → tells_documents (kind_of error) ≡ true → Takes before now first count (Err error)
told_taken before now first count error labels why labels_are kind_is taken tells = (
  taken
      ∙ ap (λ (all : LabelSet). with_kind before first count all why) labels_are
      ∙ ap (λ (told : ErrorKind). with_kind before first count (labels_of error) told) kind_is,
  tells,
)

-- a text is the first of several or another
found_by : (here : Bool) (value : Unit {0}) (later : Option (Unit {0})) → (here || is_some later) ≡ is_some (cond here (Some value) later)
found_by true value later = refl
found_by false value later = refl

-- the set of the keys of entries has the texts that are found in them
has_keys : (entries : List (List ℕ × Unit {0})) (text : List ℕ)
    → has_label (label_set (map (λ entry. entry.0) entries)) text ≡ is_some (finite.find (slice_cmp nat_cmp) text entries)
has_keys [] text = has_label-none text
has_keys (entry ∷ entries) text =
    has_label-with (label_set (map (λ later. later.0) entries)) entry.0 text
    ∙ ap (λ (later : Bool). bytes_eq text entry.0 || later) (has_keys entries text)
    ∙ ap (λ (here : Bool). here || is_some (finite.find (slice_cmp nat_cmp) text entries)) (sym (is_eq-slice_cmp text entry.0))
    ∙ found_by (eq_by_cmp (slice_cmp nat_cmp) text entry.0) entry.1 (finite.find (slice_cmp nat_cmp) text entries)

-- the set of a set's labels is that set
set_in_order : (labels : LabelSet) → label_set (in_order labels) ≡ labels
set_in_order labels = same_labels (label_set (in_order labels)) labels (λ text.
    has_keys (finite.entries labels) text ∙ ap is_some (sym (finite.get-entries labels text)))

-- the labels of a set, added one after another to none, are that set
pub labels_again : (labels : LabelSet) → with_labels no_labels (in_order labels) ≡ labels
labels_again labels = with_labels_none (in_order labels) ∙ set_in_order labels
