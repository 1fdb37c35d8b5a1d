-- Sets of labels.
use Rattle.std.specs.Prelude.{ℕ, Bool, true, false, List, [], ◌∷◌, if◌then◌else◌, is_some, Option, None, Some}
use Rattle.std.specs.Ordering.{nat_cmp}
use Rattle.std.specs.Cmp.Lexicographic.{slice_cmp}
use Rattle.std.specs.FinMap as finite
use Rattle.std.specs.Str.{bytes_eq}

-- a finite set of texts
abbrev pub LabelSet : Type 0
LabelSet = finite.FinMap {K = List ℕ} (slice_cmp nat_cmp) (Unit {0})

-- the set without a label
abbrev pub no_labels : LabelSet
no_labels = finite.empty {R = slice_cmp nat_cmp}

-- the set has this label
abbrev pub has_label : LabelSet → List ℕ → Bool
has_label labels label = is_some (finite.get {R = slice_cmp nat_cmp} labels label)

-- the set with one more label
abbrev pub with_label : LabelSet → List ℕ → LabelSet
with_label labels label = finite.insert {R = slice_cmp nat_cmp} labels label tt

-- the labels in the order of their bytes
abbrev pub in_order : LabelSet → List (List ℕ)
in_order labels = finite.keys {R = slice_cmp nat_cmp} labels

-- the set with just these texts
abbrev pub label_set : List (List ℕ) → LabelSet
label_set [] = no_labels
label_set (label ∷ labels) = with_label (label_set labels) label

-- a set with labels added one after another
unfoldable pub with_labels : LabelSet → List (List ℕ) → LabelSet
with_labels labels [] = labels
with_labels labels (label ∷ more) = with_labels (with_label labels label) more

-- a text is among these
abbrev pub is_among : List ℕ → List (List ℕ) → Bool
is_among label [] = false
is_among label (text ∷ texts) = if bytes_eq text label then true else is_among label texts

-- the names that there are
abbrev pub texts : Option (List (List ℕ)) → List (List ℕ)
texts None = []
texts (Some names) = names
