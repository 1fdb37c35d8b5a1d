-- Write errors that stand apart and the statements that failed, by sets of indexes; and what a reply is answered with by its fields.
use Rattle.std.proofs.Common.{◌≡◌, ℕ, zero, suc, ◌+◌, ◌-◌, ◌<◌, ◌≤◌, List, [], ◌∷◌, Bool, true, false, not, ◌&&◌, ◌||◌, cond, length, drop, get_or, nat_eq, arith, refl, sym, ap, subst, ◌∙◌, ◌⊎◌, inl, inr}
use Rattle.std.proofs.Math.Bool.{and-false, and-true}
use Rattle.std.proofs.Math.Seq.{drop-cons, drop-length}
use Rattle.std.proofs.lemmas.List.{at_drop_all, drop_more}
use Rattle.std.specs.Prelude.{Option, Some, Result, Ok, Err}
use Rattle.std.specs.HashSet as bag
use Rattle.std.specs.List.{list_all}
use Rattle.bson_lite.specs.declared.bson.Bson.{Bson}
use Rattle.bson_lite.specs.declared.document.Pair.{Pair}
use Rattle.driver_error.specs.declared.error.Error.{Error}
use Rattle.driver_error.specs.declared.kind.ErrorKind.TheVariants as kind
use Rattle.server_answers.specs.declared.results.InsertManyResult.{InsertManyResult}
use Rattle.driver_error.specs.declared.write.IndexedWriteError.{IndexedWriteError}
use Rattle.driver_error.specs.Error.{kind_of}
use Rattle.driver_ops.proofs.Indexes.{Indexes}
use Rattle.write_ops.specs.declared.insert.InsertReply.{InsertReply}
use Rattle.write_ops.specs.declared.own_document.OwnDocument.{OwnDocument}
use Rattle.write_ops.specs.InsertAnswers.{AnswersFound, AnswersReply, ReadsInsert, are_apart, insert_reply, is_at, is_inserted}
use Rattle.write_ops.specs.inside.InsertAnswers.{AnswersFields, distinct, indexes_of, stands_in}

-- the set has the numbers from a place on, which are distinct
pub record HasLast (numbers : List ℕ) (at : ℕ) (later : Indexes) : Type 0 where
  pub within : at ≤ length numbers
  pub seen : (number : ℕ) → bag.contains nat_eq later number ≡ stands_in (drop at numbers) number
  pub apart : distinct (drop at numbers) ≡ true

-- the place before
drop_before : (numbers : List ℕ) (at : ℕ) → 0 < at → at ≤ length numbers → drop (at - 1) numbers ≡ get_or numbers (at - 1) 0 ∷ drop at numbers
drop_before numbers at some within =
    let next : suc (at - 1) ≡ at = omega arith in
    drop-cons numbers (at - 1) 0 (omega arith) ∙ ap (λ n. get_or numbers (at - 1) 0 ∷ drop n numbers) next

-- a test or another
or_cond : (a b : Bool) → cond a true b ≡ (a || b)
or_cond true b = refl
or_cond false b = refl

-- numbers whose end repeats one repeat one
distinct_drop : (n : ℕ) (numbers : List ℕ) → distinct (drop n numbers) ≡ false → distinct numbers ≡ false
unfolding distinct
distinct_drop zero numbers repeats = repeats
distinct_drop (suc n) [] repeats = repeats
distinct_drop (suc n) (number ∷ numbers) repeats = rw (distinct_drop n numbers repeats) (and-false (not (stands_in numbers number)))

-- no number from the end on
pub HasLast_none : (numbers : List ℕ) (later : Indexes) → bag.IsEmpty later → HasLast numbers (length numbers) later
unfolding distinct
HasLast_none numbers later none = record {
  within = omega arith;
  seen = λ number. rw (drop-length numbers, none) refl;
  apart = rw (drop-length numbers) refl;
}

-- one number more that the set has not
pub HasLast_more : (numbers : List ℕ) (at : ℕ) (later now : Indexes) → HasLast numbers at later → 0 < at
    → bag.contains nat_eq later (get_or numbers (at - 1) 0) ≡ false
    → ((number : ℕ) → bag.contains nat_eq now number ≡ cond (nat_eq (get_or numbers (at - 1) 0) number) true (bag.contains nat_eq later number))
    → HasLast numbers (at - 1) now
unfolding distinct
HasLast_more numbers at later now has some new adds =
    let front = drop_before numbers at some has.within in
    record {
      within = (let within = has.within in omega arith);
      seen = λ number. rw (front, adds number, has.seen number) (or_cond (nat_eq (get_or numbers (at - 1) 0) number) (stands_in (drop at numbers) number));
      apart = rw (front, ← has.seen (get_or numbers (at - 1) 0), new, has.apart) refl;
    }

-- a number that the set has repeats
pub HasLast_repeats : (numbers : List ℕ) (at : ℕ) (later : Indexes) → HasLast numbers at later → 0 < at
    → bag.contains nat_eq later (get_or numbers (at - 1) 0) ≡ true → false ≡ distinct numbers
unfolding distinct
HasLast_repeats numbers at later has some known =
    let front = drop_before numbers at some has.within in
    sym (distinct_drop (at - 1) numbers (rw (front, ← has.seen (get_or numbers (at - 1) 0), known) refl))

-- neither of two tests holds
not_or : (a b : Bool) → (not a && not b) ≡ not (a || b)
not_or true b = refl
not_or false b = refl

-- no write error is of a statement whose index is none of theirs
none_at : (index : ℕ) (errors : List IndexedWriteError) → list_all (λ other. not (is_at index other)) errors ≡ not (stands_in (indexes_of errors) index)
none_at index [] = refl
none_at index (error ∷ errors) =
    ap (λ rest. not (nat_eq error.index index) && rest) (none_at index errors) ∙ not_or (nat_eq error.index index) (stands_in (indexes_of errors) index)

-- write errors stand apart where their indexes are distinct
pub apart_is : (errors : List IndexedWriteError) → distinct (indexes_of errors) ≡ are_apart errors
unfolding distinct are_apart
apart_is [] = refl
apart_is (error ∷ errors) =
    ap (λ apart. not (stands_in (indexes_of errors) error.index) && apart) (apart_is errors)
    ∙ ap (λ none. none && are_apart errors) (sym (none_at error.index errors))

-- one index more in a set, and a write error less that is left
one_failed : (a b x : Bool) → (not (cond a true b) && x) ≡ (not b && (not a && x))
one_failed true true x = refl
one_failed true false x = refl
one_failed false true x = refl
one_failed false false x = refl

-- the set has the indexes of the write errors that are not left
abbrev pub HasFailed : List IndexedWriteError → ℕ → Indexes → Type 0
HasFailed errors at failed = (index : ℕ) → (not (bag.contains nat_eq failed index) && is_inserted false (drop at errors) index) ≡ is_inserted false errors index

-- none of them, in an empty set
pub failed_none : (errors : List IndexedWriteError) (failed : Indexes) → bag.IsEmpty failed → HasFailed errors 0 failed
failed_none errors failed none = λ index. rw none refl

-- one more
pub failed_more : (errors : List IndexedWriteError) (at : ℕ) (error : IndexedWriteError) (failed now : Indexes) → at < length errors → error ≡ get_or errors at error
    → ((index : ℕ) → bag.contains nat_eq now index ≡ cond (nat_eq error.index index) true (bag.contains nat_eq failed index))
    → HasFailed errors at failed → HasFailed errors (at + 1) now
failed_more errors at error failed now within read adds so_far = λ index.
    let rest = is_inserted false (drop (at + 1) errors) index in
    let left : drop at errors ≡ error ∷ drop (at + 1) errors = drop_more errors at error within ∙ ap (λ first. first ∷ drop (at + 1) errors) (sym read) in
    ap (λ known. not known && rest) (adds index)
    ∙ one_failed (nat_eq error.index index) (bag.contains nat_eq failed index) rest
    ∙ ap (λ errors_left. not (bag.contains nat_eq failed index) && is_inserted false errors_left index) (sym left)
    ∙ so_far index

-- all of them
pub failed_all : (errors : List IndexedWriteError) (at : ℕ) (failed : Indexes) → length errors ≤ at → HasFailed errors at failed
    → (index : ℕ) → not (bag.contains nat_eq failed index) ≡ is_inserted false errors index
failed_all errors at failed past so_far index =
    sym (and-true (not (bag.contains nat_eq failed index)))
    ∙ sym (at_drop_all (λ errors_left. not (bag.contains nat_eq failed index) && is_inserted false errors_left index) errors at past)
    ∙ so_far index

-- an error that the fields are answered with
reads_error : (ordered : Bool) (documents : List OwnDocument) (reply : List (Pair Bson)) (found : InsertReply) (error : Error) → insert_reply reply ≡ Some found
    → (kind_of error ≡ kind.Memory) ⊎ AnswersFound ordered documents found (Err error) → ReadsInsert ordered documents reply (Err error)
reads_error ordered documents reply found error is (inl memory) = inl memory
reads_error ordered documents reply found error is (inr answers) =
    inr (subst (λ (fields : Option InsertReply). AnswersReply ordered documents fields (Err error)) (sym is) answers)

-- a reply that has these fields is answered as they are
pub reads_found : (ordered : Bool) (documents : List OwnDocument) (reply : List (Pair Bson)) (found : InsertReply) (answer : Result InsertManyResult Error)
    → insert_reply reply ≡ Some found → AnswersFields ordered documents found answer → ReadsInsert ordered documents reply answer
reads_found ordered documents reply found (Ok output) is answers =
    subst (λ (fields : Option InsertReply). AnswersReply ordered documents fields (Ok output)) (sym is) answers
reads_found ordered documents reply found (Err error) is answers = reads_error ordered documents reply found error is answers
