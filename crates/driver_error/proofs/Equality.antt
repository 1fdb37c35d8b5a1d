-- Derived equality decides equality: it compares field by field, in the order of the fields.
use Rattle.std.proofs.Common.{◌≡◌, ◌↔◌, refl, ap, ℕ, Bool, true, false, ◌&&◌, List, Option, None, Some, IsTrue, nat_eq, int_eq, Decides}
use Rattle.std.specs.Cmp.Lexicographic.{pointwise}
use Rattle.std.specs.Option.{option_eq}
use Rattle.std.specs.Str.{bytes_eq}
use Rattle.std.proofs.lemmas.Bool.Decides.{Decides-and, Decides-at, Decides-eqb, Decides-int_eq, Decides-like}
use Rattle.std.proofs.lemmas.Slice.Eq.{bytes_eq-Decides, slice_eq-Decides}
use mathlib.Core.Bool.{beq}
use Rattle.bson_lite.specs.declared.bson.Bson.{Bson}
use Rattle.bson_lite.specs.declared.document.Pair.{Pair}
use Rattle.bson_lite.specs.Same.{same_by, document_code}
use Rattle.bson_lite.specs.Sameness.{same_by-Decides}
use Rattle.server_answers.specs.declared.results.CreateIndexResult.{CreateIndexResult}
use Rattle.server_answers.specs.declared.results.CreateIndexesResult.{CreateIndexesResult}
use Rattle.server_answers.specs.declared.specifications.DatabaseSpecification.{DatabaseSpecification}
use Rattle.driver_error.specs.declared.write.IndexedWriteError.{IndexedWriteError}
use Rattle.driver_error.specs.declared.write.WriteConcernError.{WriteConcernError}
use Rattle.driver_error.specs.declared.write.WriteError.{WriteError}

-- ---- the fields

some_is : {T : Type 0} (x y : T) → ◌≡◌ {A = Option T} (Some x) (Some y) → x ≡ y
some_is x y e = cc

-- two that may be missing are the same by the test of those that are there
option_decides : {T : Type 0} (E : T → T → Bool) → ((x y : T) → Decides (E x y) (x ≡ y)) → (a b : Option T) → Decides (option_eq E a b) (a ≡ b)
option_decides E decides None None = (λ e. refl, λ e. refl)
option_decides E decides None (Some y) = (λ e. absurd cc, λ e. absurd cc)
option_decides E decides (Some x) None = (λ e. absurd cc, λ e. absurd cc)
option_decides {T} E decides (Some x) (Some y) = (λ e. ap (λ (z : T). Some z) ((decides x y).0 e), λ e. (decides x y).1 (some_is x y e))

bool_decides : (a b : Bool) → Decides (beq a b) (a ≡ b)
bool_decides true true = (λ e. refl, λ e. refl)
bool_decides true false = (λ e. absurd cc, λ e. absurd cc)
bool_decides false true = (λ e. absurd cc, λ e. absurd cc)
bool_decides false false = (λ e. refl, λ e. refl)

document_decides : (a b : List (Pair Bson)) → Decides (same_by document_code a b) (a ≡ b)
document_decides a b = same_by-Decides document_code a b

maybe_document_decides : (a b : Option (List (Pair Bson))) → Decides (option_eq (same_by document_code) a b) (a ≡ b)
maybe_document_decides a b = option_decides (same_by document_code) document_decides a b

maybe_text_decides : (a b : Option (List ℕ)) → Decides (option_eq bytes_eq a b) (a ≡ b)
maybe_text_decides a b = option_decides bytes_eq bytes_eq-Decides a b

texts_decide : (a b : List (List ℕ)) → Decides (pointwise bytes_eq a b) (a ≡ b)
texts_decide a b = slice_eq-Decides bytes_eq-Decides a b (pointwise bytes_eq a b) refl

-- ---- errors of writes

abbrev SameConcern : WriteConcernError → WriteConcernError → Type 0
SameConcern a b = (a.code ≡ b.code) × ((a.code_name ≡ b.code_name) × ((a.message ≡ b.message) × ((a.details ≡ b.details) × (a.labels ≡ b.labels))))

abbrev concern_test : WriteConcernError → WriteConcernError → Bool
concern_test a b =
    int_eq a.code b.code && (bytes_eq a.code_name b.code_name && (bytes_eq a.message b.message
    && (option_eq (same_by document_code) a.details b.details && pointwise bytes_eq a.labels b.labels)))

concern_fields : (a b : WriteConcernError) → Decides (concern_test a b) (SameConcern a b)
concern_fields a b =
    Decides-and _ _ (Decides-int_eq a.code b.code) (Decides-and _ _ (bytes_eq-Decides a.code_name b.code_name) (Decides-and _ _ (bytes_eq-Decides a.message b.message)
    (Decides-and _ _ (maybe_document_decides a.details b.details) (texts_decide a.labels b.labels))))

concern_from : (a b : WriteConcernError) → SameConcern a b → a ≡ b
concern_from a b same = λ i. record { code = same.0 i; code_name = same.1.0 i; message = same.1.1.0 i; details = same.1.1.1.0 i; labels = same.1.1.1.1 i }

concern_to : (a b : WriteConcernError) → a ≡ b → SameConcern a b
concern_to a b e = (
  ap (λ (x : WriteConcernError). x.code) e,
  (
    ap (λ (x : WriteConcernError). x.code_name) e,
    (
      ap (λ (x : WriteConcernError). x.message) e,
      (ap (λ (x : WriteConcernError). x.details) e, ap (λ (x : WriteConcernError). x.labels) e),
    ),
  ),
)

pub concern_decides : (a b : WriteConcernError) (r : Bool) → r ≡ concern_test a b → IsTrue r ↔ (a ≡ b)
concern_decides a b r e = Decides-at r (concern_test a b) e (Decides-like (concern_test a b) (concern_from a b) (concern_to a b) (concern_fields a b))

abbrev SameError : WriteError → WriteError → Type 0
SameError a b = (a.code ≡ b.code) × ((a.code_name ≡ b.code_name) × ((a.message ≡ b.message) × (a.details ≡ b.details)))

abbrev error_test : WriteError → WriteError → Bool
error_test a b =
    int_eq a.code b.code && (option_eq bytes_eq a.code_name b.code_name && (bytes_eq a.message b.message && option_eq (same_by document_code) a.details b.details))

error_fields : (a b : WriteError) → Decides (error_test a b) (SameError a b)
error_fields a b =
    Decides-and _ _ (Decides-int_eq a.code b.code) (Decides-and _ _ (maybe_text_decides a.code_name b.code_name)
    (Decides-and _ _ (bytes_eq-Decides a.message b.message) (maybe_document_decides a.details b.details)))

error_from : (a b : WriteError) → SameError a b → a ≡ b
error_from a b same = λ i. record { code = same.0 i; code_name = same.1.0 i; message = same.1.1.0 i; details = same.1.1.1 i }

error_to : (a b : WriteError) → a ≡ b → SameError a b
error_to a b e =
    (ap (λ (x : WriteError). x.code) e, (ap (λ (x : WriteError). x.code_name) e, (ap (λ (x : WriteError). x.message) e, ap (λ (x : WriteError). x.details) e)))

pub error_decides : (a b : WriteError) (r : Bool) → r ≡ error_test a b → IsTrue r ↔ (a ≡ b)
error_decides a b r e = Decides-at r (error_test a b) e (Decides-like (error_test a b) (error_from a b) (error_to a b) (error_fields a b))

abbrev SameIndexed : IndexedWriteError → IndexedWriteError → Type 0
SameIndexed a b = (a.index ≡ b.index) × ((a.code ≡ b.code) × ((a.code_name ≡ b.code_name) × ((a.message ≡ b.message) × (a.details ≡ b.details))))

abbrev indexed_test : IndexedWriteError → IndexedWriteError → Bool
indexed_test a b =
    nat_eq a.index b.index && (int_eq a.code b.code && (option_eq bytes_eq a.code_name b.code_name
    && (bytes_eq a.message b.message && option_eq (same_by document_code) a.details b.details)))

indexed_fields : (a b : IndexedWriteError) → Decides (indexed_test a b) (SameIndexed a b)
indexed_fields a b =
    Decides-and _ _ (Decides-eqb a.index b.index) (Decides-and _ _ (Decides-int_eq a.code b.code) (Decides-and _ _ (maybe_text_decides a.code_name b.code_name)
    (Decides-and _ _ (bytes_eq-Decides a.message b.message) (maybe_document_decides a.details b.details))))

indexed_from : (a b : IndexedWriteError) → SameIndexed a b → a ≡ b
indexed_from a b same = λ i. record { index = same.0 i; code = same.1.0 i; code_name = same.1.1.0 i; message = same.1.1.1.0 i; details = same.1.1.1.1 i }

indexed_to : (a b : IndexedWriteError) → a ≡ b → SameIndexed a b
indexed_to a b e = (
  ap (λ (x : IndexedWriteError). x.index) e,
  (
    ap (λ (x : IndexedWriteError). x.code) e,
    (
      ap (λ (x : IndexedWriteError). x.code_name) e,
      (ap (λ (x : IndexedWriteError). x.message) e, ap (λ (x : IndexedWriteError). x.details) e),
    ),
  ),
)

pub indexed_decides : (a b : IndexedWriteError) (r : Bool) → r ≡ indexed_test a b → IsTrue r ↔ (a ≡ b)
indexed_decides a b r e = Decides-at r (indexed_test a b) e (Decides-like (indexed_test a b) (indexed_from a b) (indexed_to a b) (indexed_fields a b))

-- ---- results and specifications

index_from : (a b : CreateIndexResult) → a.index_name ≡ b.index_name → a ≡ b
index_from a b same = λ i. record { index_name = same i }

index_to : (a b : CreateIndexResult) → a ≡ b → a.index_name ≡ b.index_name
index_to a b e = ap (λ (x : CreateIndexResult). x.index_name) e

pub index_decides : (a b : CreateIndexResult) (r : Bool) → r ≡ bytes_eq a.index_name b.index_name → IsTrue r ↔ (a ≡ b)
index_decides a b r e =
    Decides-at r (bytes_eq a.index_name b.index_name) e
    (Decides-like (bytes_eq a.index_name b.index_name) (index_from a b) (index_to a b) (bytes_eq-Decides a.index_name b.index_name))

indexes_from : (a b : CreateIndexesResult) → a.index_names ≡ b.index_names → a ≡ b
indexes_from a b same = λ i. record { index_names = same i }

indexes_to : (a b : CreateIndexesResult) → a ≡ b → a.index_names ≡ b.index_names
indexes_to a b e = ap (λ (x : CreateIndexesResult). x.index_names) e

pub indexes_decides : (a b : CreateIndexesResult) (r : Bool) → r ≡ pointwise bytes_eq a.index_names b.index_names → IsTrue r ↔ (a ≡ b)
indexes_decides a b r e =
    Decides-at r (pointwise bytes_eq a.index_names b.index_names) e
    (Decides-like (pointwise bytes_eq a.index_names b.index_names) (indexes_from a b) (indexes_to a b) (texts_decide a.index_names b.index_names))

abbrev SameDatabase : DatabaseSpecification → DatabaseSpecification → Type 0
SameDatabase a b = (a.name ≡ b.name) × ((a.size_on_disk ≡ b.size_on_disk) × ((a.empty ≡ b.empty) × (a.shards ≡ b.shards)))

abbrev database_test : DatabaseSpecification → DatabaseSpecification → Bool
database_test a b =
    bytes_eq a.name b.name && (nat_eq a.size_on_disk b.size_on_disk && (beq a.empty b.empty && option_eq (same_by document_code) a.shards b.shards))

database_fields : (a b : DatabaseSpecification) → Decides (database_test a b) (SameDatabase a b)
database_fields a b =
    Decides-and _ _ (bytes_eq-Decides a.name b.name) (Decides-and _ _ (Decides-eqb a.size_on_disk b.size_on_disk)
    (Decides-and _ _ (bool_decides a.empty b.empty) (maybe_document_decides a.shards b.shards)))

database_from : (a b : DatabaseSpecification) → SameDatabase a b → a ≡ b
database_from a b same = λ i. record { name = same.0 i; size_on_disk = same.1.0 i; empty = same.1.1.0 i; shards = same.1.1.1 i }

database_to : (a b : DatabaseSpecification) → a ≡ b → SameDatabase a b
database_to a b e = (
  ap (λ (x : DatabaseSpecification). x.name) e,
  (
    ap (λ (x : DatabaseSpecification). x.size_on_disk) e,
    (ap (λ (x : DatabaseSpecification). x.empty) e, ap (λ (x : DatabaseSpecification). x.shards) e),
  ),
)

pub database_decides : (a b : DatabaseSpecification) (r : Bool) → r ≡ database_test a b → IsTrue r ↔ (a ≡ b)
database_decides a b r e = Decides-at r (database_test a b) e (Decides-like (database_test a b) (database_from a b) (database_to a b) (database_fields a b))
