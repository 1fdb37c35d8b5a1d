-- What the fields of the machine's reply to an insert are read as. The reply has a spelling, so its codes have 32 bits.
use Rattle.std.proofs.Common.{◌≡◌, ℕ, ◌+◌, ◌^◌, Bool, true, ◌&&◌, List, [], ◌∷◌, ◌++◌, map, refl, sym, ap, ◌∙◌}
use Rattle.std.specs.Prelude.{ℤ, pos, Option, None, Some, unwrap_or, if◌then◌else◌}
use Rattle.std.specs.Option.{option_and_then, option_map}
use Rattle.std.specs.Str.{is_utf8}
use Rattle.std.proofs.lemmas.Bool.{and_from, and_parts}
use denote.Hole.Carrier.{out, roll}
use Rattle.bson_lite.specs.declared.bson.Bson as bson
use Rattle.bson_lite.specs.declared.bson.Bson.{Bson}
use Rattle.bson_lite.specs.declared.bson.Bson.TheOpen.{Bson-F}
use Rattle.bson_lite.specs.declared.bson.Bson.TheVariants.{rolls-Document, rolls-Array}
use Rattle.bson_lite.specs.declared.document.Pair.{Pair}
use Rattle.bson_lite.specs.Ranges.{fits}
use Rattle.bson_lite.specs.Spelling.{Spells, valid, valid_pairs, valid_values}
use Rattle.bson_lite.proofs.Nested.{folded}
use Rattle.driver_error.specs.declared.write.IndexedWriteError.{IndexedWriteError}
use Rattle.driver_error.specs.declared.write.WriteConcernError.{WriteConcernError}
use Rattle.wire_keys.specs.declared.keys.TheConstants.{CODE, ERROR_MESSAGE, INDEX, N, SCHEDULED, WRITE_ERRORS, WRITE_CONCERN_ERROR}
use Rattle.driver_link.specs.declared.machine.PlannedConcern.{PlannedConcern}
use Rattle.driver_link.specs.declared.machine.Statement.{Statement}
use Rattle.driver_link.specs.declared.machine.Statement.TheVariants.{Kept, Ran, Failed}
use Rattle.driver_link.specs.Commands.{needed, optional_value}
use Rattle.driver_link.specs.Cursors.{Reply}
use Rattle.driver_link.specs.Numbers.{field, reply_count, reply_number}
use Rattle.driver_link.specs.Replies.{concern_field, done_field, errors_field, results_in, sum_of, write_error, write_errors}
use Rattle.driver_link.proofs.Forms.{array_is, document_is}
use Rattle.driver_ops.specs.Readings.{labels_in, natural, natural_of, small_of, text_in}
use Rattle.driver_ops.specs.WriteReplies.{concern_error_in, concern_error_of, indexed_error_in, indexed_error_of, indexed_errors, indexed_errors_of, reply_concern_error, write_errors_in}
use Rattle.driver_ops.specs.lawful.ReplyNumbers.{reply_number_is}
use Rattle.write_ops.specs.declared.insert.InsertReply.{InsertReply}
use Rattle.write_ops.specs.InsertAnswers.{insert_reply}
use Rattle.write_ops.specs.InsertLaw.{concern_told, errors_told}

-- the reply to an insert that was served, with this count and these write errors
abbrev pub reply_told : Bson → List Bson → Option PlannedConcern → Reply
reply_told n errors concern = done_field ∷ field N.now n ∷ (errors_field errors ++ concern_field concern)

-- the sum of what statements count
abbrev pub sum_in : List Statement → ℤ
sum_in done = sum_of (λ result. result.n) (results_in done)

-- the reply to an insert whose statements came to this
abbrev pub reply_to : List Statement → Option PlannedConcern → Reply
reply_to done concern = reply_told (reply_number (sum_in done)) (write_errors 0 done) concern

-- its fields
abbrev pub fields_told : List Statement → Option PlannedConcern → InsertReply
fields_told done concern = record { n = sum_in done; errors = errors_told 0 done; concern = option_map concern_told concern; labels = [] }

-- the code of a statement that failed has 32 bits
abbrev pub IsSmall : Statement → Type 0
IsSmall (Failed code) = fits (2 ^ 31) code ≡ true
IsSmall other = Unit {0}

-- so have those of all statements
abbrev pub AreSmall : List Statement → Type 0
AreSmall [] = Unit {0}
AreSmall (statement ∷ done) = IsSmall statement × AreSmall done

-- so has that of a write concern error
abbrev pub IsSmallConcern : Option PlannedConcern → Type 0
IsSmallConcern None = Unit {0}
IsSmallConcern (Some concern) = fits (2 ^ 31) concern.code ≡ true

-- the fields of a write error
abbrev error_fields : ℕ → ℤ → List (Pair Bson)
error_fields at code = field INDEX.now (reply_count at) ∷ field CODE.now (bson.Int32 code) ∷ field ERROR_MESSAGE.now (bson.String SCHEDULED.now) ∷ []

-- and of a write concern error
abbrev concern_fields : PlannedConcern → List (Pair Bson)
concern_fields concern = field CODE.now (bson.Int32 concern.code) ∷ field ERROR_MESSAGE.now (bson.String concern.message) ∷ []

-- a program can hold a document where it can hold its pairs
valid_document : (pairs : List (Pair Bson)) → valid (bson.Document pairs) ≡ valid_pairs pairs
valid_document pairs = ap valid (sym (rolls-Document pairs)) ∙ (folded (Bson-F.Document pairs)).valids

-- an array where it can hold its values
valid_array : (values : List Bson) → valid (bson.Array values) ≡ valid_values (map valid values)
valid_array values = ap valid (sym (rolls-Array values)) ∙ (folded (Bson-F.Array values)).valids

-- and a number where it has 32 bits
valid_number : (number : ℤ) → valid (bson.Int32 number) ≡ fits (2 ^ 31) number
unfolding bson.roll-Bson roll
valid_number number = (folded (Bson-F.Int32 number)).valids

-- of pairs that it can hold the first
first_valid : (pair : Pair Bson) (rest : List (Pair Bson)) → valid_pairs (pair ∷ rest) ≡ true → valid pair.value ≡ true
first_valid pair rest all =
    let here = and_parts (is_utf8 pair.key && valid pair.value) (valid_pairs rest) all in
    (and_parts (is_utf8 pair.key) (valid pair.value) here.0).1

-- and the others
others_valid : (pair : Pair Bson) (rest : List (Pair Bson)) → valid_pairs (pair ∷ rest) ≡ true → valid_pairs rest ≡ true
others_valid pair rest all = (and_parts (is_utf8 pair.key && valid pair.value) (valid_pairs rest) all).1

-- and of joined ones both parts
parts_valid : (a b : List (Pair Bson)) → valid_pairs (a ++ b) ≡ true → (valid_pairs a ≡ true) × (valid_pairs b ≡ true)
parts_valid [] b all = (refl, all)
parts_valid (pair ∷ a) b all =
    let here = and_parts (is_utf8 pair.key && valid pair.value) (valid_pairs (a ++ b)) all in
    let rest = parts_valid a b here.1 in
    (and_from (is_utf8 pair.key && valid pair.value) (valid_pairs a) here.0 rest.0, rest.1)

-- the code of a write error that a program can hold has 32 bits
error_small : (at : ℕ) (code : ℤ) → valid (write_error at code) ≡ true → fits (2 ^ 31) code ≡ true
error_small at code held =
    let later : List (Pair Bson) = field CODE.now (bson.Int32 code) ∷ field ERROR_MESSAGE.now (bson.String SCHEDULED.now) ∷ [] in
    let pairs = sym (valid_document (error_fields at code)) ∙ held in
    sym (valid_number code)
    ∙ first_valid (field CODE.now (bson.Int32 code)) (field ERROR_MESSAGE.now (bson.String SCHEDULED.now) ∷ []) (others_valid (field INDEX.now (reply_count at)) later pairs)

-- so have those of a list of write errors
errors_small : (at : ℕ) (done : List Statement) → valid_values (map valid (write_errors at done)) ≡ true → AreSmall done
unfolding write_errors
errors_small at [] all = tt
errors_small at (Kept result ∷ done) all = (tt, errors_small (at + 1) done all)
errors_small at (Ran result ∷ done) all = (tt, errors_small (at + 1) done all)
errors_small at (Failed code ∷ done) all =
    let parts = and_parts (valid (write_error at code)) (valid_values (map valid (write_errors (at + 1) done))) all in
    (error_small at code parts.0, errors_small (at + 1) done parts.1)

-- the values of a list of write errors
errors_valid : (errors : List Bson) → valid_pairs (errors_field errors) ≡ true → valid_values (map valid errors) ≡ true
errors_valid [] all = refl
errors_valid (error ∷ errors) all = sym (valid_array (error ∷ errors)) ∙ first_valid (field WRITE_ERRORS.now (bson.Array (error ∷ errors))) [] all

-- the code of a write concern error that a program can hold has 32 bits
concern_small : (concern : Option PlannedConcern) → valid_pairs (concern_field concern) ≡ true → IsSmallConcern concern
concern_small None all = tt
concern_small (Some concern) all =
    let held = first_valid (field WRITE_CONCERN_ERROR.now (bson.Document (concern_fields concern))) [] all in
    let pairs = sym (valid_document (concern_fields concern)) ∙ held in
    sym (valid_number concern.code) ∙ first_valid (field CODE.now (bson.Int32 concern.code)) (field ERROR_MESSAGE.now (bson.String concern.message) ∷ []) pairs

-- the codes of a reply that has a spelling have 32 bits
spelled_small : (done : List Statement) (concern : Option PlannedConcern) (bytes : List ℕ) → Spells (reply_to done concern) bytes → AreSmall done × IsSmallConcern concern
spelled_small done concern bytes spelled =
    let last : List (Pair Bson) = errors_field (write_errors 0 done) ++ concern_field concern in
    let later = others_valid done_field (field N.now (reply_number (sum_in done)) ∷ last) spelled.has.well_formed in
    let parts = parts_valid (errors_field (write_errors 0 done)) (concern_field concern) (others_valid (field N.now (reply_number (sum_in done))) last later) in
    (errors_small 0 done (errors_valid (write_errors 0 done) parts.0), concern_small concern parts.1)

-- a number where it has 32 bits
abbrev small_where : Bool → ℤ → Option ℤ
small_where small number = if small then Some number else None

-- a code of 32 bits is read as it is
small_is : (code : ℤ) → fits (2 ^ 31) code ≡ true → small_of (bson.Int32 code) ≡ Some code
unfolding small_of bson.out-Bson out
small_is code small = ap (λ (b : Bool). small_where b code) small

-- so is a position
natural_is : (n : ℕ) → natural_of (reply_count n) ≡ Some n
unfolding natural_of
natural_is n = ap (option_and_then natural) (reply_number_is (pos n))

-- a write error as a client reads it
abbrev pub error_with : ℕ → ℤ → IndexedWriteError
error_with at code = record { index = at; code = code; code_name = None; message = SCHEDULED.now; details = None }

-- its fields are read so
error_fields_read : (at : ℕ) (code : ℤ) → fits (2 ^ 31) code ≡ true → indexed_error_in (error_fields at code) ≡ Some (error_with at code)
unfolding indexed_error_in needed text_in optional_value bson.out-Bson out
error_fields_read at code small =
    ap (option_and_then (λ (index : ℕ). option_and_then (λ (number : ℤ). Some (error_with index number)) (small_of (bson.Int32 code)))) (natural_is at)
    ∙ ap (option_and_then (λ (number : ℤ). Some (error_with at number))) (small_is code small)

-- and it is
error_read : (at : ℕ) (code : ℤ) → fits (2 ^ 31) code ≡ true → indexed_error_of (write_error at code) ≡ Some (error_with at code)
unfolding indexed_error_of
error_read at code small = ap (option_and_then indexed_error_in) (document_is (error_fields at code)) ∙ error_fields_read at code small

-- the write errors of statements are read so
all_errors_read : (at : ℕ) (done : List Statement) → AreSmall done → indexed_errors (write_errors at done) ≡ Some (errors_told at done)
unfolding indexed_errors write_errors errors_told
all_errors_read at [] small = refl
all_errors_read at (Kept result ∷ done) small = all_errors_read (at + 1) done small.1
all_errors_read at (Ran result ∷ done) small = all_errors_read (at + 1) done small.1
all_errors_read at (Failed code ∷ done) small =
    ap (option_and_then (λ (error : IndexedWriteError). option_map (λ (rest : List IndexedWriteError). error ∷ rest) (indexed_errors (write_errors (at + 1) done)))) (error_read at code small.0)
    ∙ ap (option_map (λ (rest : List IndexedWriteError). error_with at code ∷ rest)) (all_errors_read (at + 1) done small.1)

-- a list that was found, and none where it is missing
abbrev found_list : Option (List IndexedWriteError) → Option (List IndexedWriteError)
found_list errors = option_map (λ (list : Option (List IndexedWriteError)). unwrap_or list []) (option_map (λ (list : List IndexedWriteError). Some list) errors)

-- the write errors of a reply
errors_read : (n : Bson) (errors : List Bson) (concern : Option PlannedConcern) (told : List IndexedWriteError) → indexed_errors errors ≡ Some told
    → write_errors_in (reply_told n errors concern) ≡ Some told
unfolding write_errors_in indexed_errors_of optional_value indexed_errors
errors_read n [] None told is = is
errors_read n [] (Some concern) told is = is
errors_read n (error ∷ errors) concern told is =
    ap (λ (found : Option (List Bson)). found_list (option_and_then indexed_errors found)) (array_is (error ∷ errors)) ∙ ap found_list is

-- a write concern error with this code and this message
abbrev concern_with : List ℕ → ℤ → WriteConcernError
concern_with message code = record { code = code; code_name = []; message = message; details = None; labels = [] }

-- its fields are read so
concern_fields_read : (concern : PlannedConcern) → fits (2 ^ 31) concern.code ≡ true → concern_error_in (concern_fields concern) ≡ Some (concern_told concern)
unfolding concern_error_in needed text_in labels_in optional_value bson.out-Bson out
concern_fields_read concern small = ap (option_and_then (λ (number : ℤ). Some (concern_with concern.message number))) (small_is concern.code small)

-- a write concern error that was found
abbrev found_concern : Option WriteConcernError → Option (Option WriteConcernError)
found_concern found = option_map (λ (error : WriteConcernError). Some error) found

-- and its value is
concern_value_read : (concern : PlannedConcern) → fits (2 ^ 31) concern.code ≡ true
    → optional_value concern_error_of (Some (bson.Document (concern_fields concern))) ≡ Some (Some (concern_told concern))
unfolding optional_value concern_error_of
concern_value_read concern small =
    ap (λ (found : Option (List (Pair Bson))). found_concern (option_and_then concern_error_in found)) (document_is (concern_fields concern))
    ∙ ap found_concern (concern_fields_read concern small)

-- the write concern error of a reply
concern_read : (n : Bson) (errors : List Bson) (concern : Option PlannedConcern) → IsSmallConcern concern → reply_concern_error (reply_told n errors concern) ≡ Some (option_map concern_told concern)
unfolding optional_value
concern_read n [] None small = refl
concern_read n (error ∷ errors) None small = refl
concern_read n [] (Some concern) small = concern_value_read concern small
concern_read n (error ∷ errors) (Some concern) small = concern_value_read concern small

-- it has no labels
labels_read : (n : Bson) (errors : List Bson) (concern : Option PlannedConcern) → labels_in (reply_told n errors concern) ≡ Some []
unfolding labels_in optional_value
labels_read n [] None = refl
labels_read n (error ∷ errors) None = refl
labels_read n [] (Some concern) = refl
labels_read n (error ∷ errors) (Some concern) = refl

-- these fields
abbrev reply_with : ℤ → List IndexedWriteError → Option WriteConcernError → List (List ℕ) → InsertReply
reply_with n errors concern labels = record { n = n; errors = errors; concern = concern; labels = labels }

-- the reply to an insert is read as what its statements came to
pub reply_read : (done : List Statement) (concern : Option PlannedConcern) (bytes : List ℕ) → Spells (reply_to done concern) bytes
    → insert_reply (reply_to done concern) ≡ Some (fields_told done concern)
unfolding insert_reply needed
reply_read done concern bytes spelled =
    let reply = reply_to done concern in
    let n = reply_number (sum_in done) in
    let small = spelled_small done concern bytes spelled in
    ap (option_and_then (λ (n : ℤ). option_and_then (λ (errors : List IndexedWriteError). option_and_then (λ (told : Option WriteConcernError).
    option_map (λ (labels : List (List ℕ)). reply_with n errors told labels) (labels_in reply)) (reply_concern_error reply)) (write_errors_in reply))) (reply_number_is (sum_in done))
    ∙ ap (option_and_then (λ (errors : List IndexedWriteError). option_and_then (λ (told : Option WriteConcernError).
    option_map (λ (labels : List (List ℕ)). reply_with (sum_in done) errors told labels) (labels_in reply)) (reply_concern_error reply)))
    (errors_read n (write_errors 0 done) concern (errors_told 0 done) (all_errors_read 0 done small.0))
    ∙ ap (option_and_then (λ (told : Option WriteConcernError). option_map (λ (labels : List (List ℕ)). reply_with (sum_in done) (errors_told 0 done) told labels) (labels_in reply)))
    (concern_read n (write_errors 0 done) concern small.1)
    ∙ ap (option_map (λ (labels : List (List ℕ)). reply_with (sum_in done) (errors_told 0 done) (option_map concern_told concern) labels))
    (labels_read n (write_errors 0 done) concern)
