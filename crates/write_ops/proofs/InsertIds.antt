-- The ids of the documents that were inserted, as a client finds them by the write errors: those whose statements ended so.
use Rattle.std.proofs.Common.{◌≡◌, ℕ, zero, suc, ◌+◌, ◌<◌, ◌≤◌, Bool, true, false, not, ◌&&◌, eqb, ltb, List, [], ◌∷◌, length, refl, sym, ap, subst, ◌∙◌, arith}
use Rattle.std.specs.Prelude.{nat_lt, if◌then◌else◌}
use Rattle.std.specs.FinMap as finite
use Rattle.std.specs.List.{list_all}
use Rattle.std.proofs.lemmas.Bool.{and_from, and_left, eq-eqb, le-ltb, lt-ltb, ne_eqb, not_from_false, not_from_true}
use Rattle.bson_lite.specs.declared.bson.Bson.{Bson}
use Rattle.driver_error.specs.declared.write.IndexedWriteError.{IndexedWriteError}
use Rattle.driver_link.specs.declared.machine.Statement.{Statement}
use Rattle.driver_link.specs.declared.machine.Statement.TheVariants.{Kept, Ran, Failed}
use Rattle.driver_link.specs.Statements.{is_failed}
use Rattle.write_ops.specs.declared.own_document.OwnDocument.{OwnDocument}
use Rattle.write_ops.specs.InsertAnswers.{ids_where, is_at, is_inserted}
use Rattle.write_ops.specs.InsertLaw.{errors_told, ids_ended}
use Rattle.write_ops.specs.InsertLawful.{Ids}
use Rattle.write_ops.specs.lawful.InsertReplies.{EndAs}
use Rattle.write_ops.proofs.InsertCounts.{later_apart, length_unordered}

-- ids with one more, where its document was inserted
abbrev ids_by : Bool → Ids → ℕ → Bson → Ids
ids_by inserted ids at id = if inserted then finite.insert ids at id else ids

-- of so many documents, the first at a position, those are inserted whose statement ended well, and none behind the end
abbrev AgreesWith : (ℕ → Bool) → ℕ → ℕ → List Statement → Type 0
AgreesWith inserted at zero done = Unit {0}
AgreesWith inserted at (suc count) [] = (inserted at ≡ false) × AgreesWith inserted (at + 1) count []
AgreesWith inserted at (suc count) (statement ∷ done) = (inserted at ≡ not (is_failed statement)) × AgreesWith inserted (at + 1) count done

-- a test the other way round
turned : (failed : Bool) (ids : Ids) (at : ℕ) (id : Bson) → ids_by (not failed) ids at id ≡ (if failed then ids else finite.insert ids at id)
turned true ids at id = refl
turned false ids at id = refl

-- then the ids are the same
ids_agree : (inserted : ℕ → Bool) (at : ℕ) (own : List OwnDocument) (done : List Statement) → AgreesWith inserted at (length own) done → ids_where inserted at own ≡ ids_ended at done own
unfolding ids_where ids_ended
ids_agree inserted at [] [] agrees = refl
ids_agree inserted at [] (statement ∷ done) agrees = refl
ids_agree inserted at (own ∷ rest) [] agrees =
    ap (λ (b : Bool). ids_by b (ids_where inserted (at + 1) rest) at own.id) agrees.0 ∙ ids_agree inserted (at + 1) rest [] agrees.1
ids_agree inserted at (own ∷ rest) (statement ∷ done) agrees =
    ap (λ (b : Bool). ids_by b (ids_where inserted (at + 1) rest) at own.id) agrees.0
    ∙ ap (λ (ids : Ids). ids_by (not (is_failed statement)) ids at own.id) (ids_agree inserted (at + 1) rest done agrees.1)
    ∙ turned (is_failed statement) (ids_ended (at + 1) done rest) at own.id

-- no write error is of the statement at an index
abbrev none_at : ℕ → List IndexedWriteError → Bool
none_at index errors = list_all (λ (error : IndexedWriteError). not (is_at index error)) errors

-- each write error is of a statement behind an index
abbrev all_behind : ℕ → List IndexedWriteError → Bool
all_behind index errors = list_all (λ (error : IndexedWriteError). nat_lt index error.index) errors

-- where each statement has its own write error or none, those without one are inserted
agrees_apart : (inserted : ℕ → Bool) (at : ℕ) (done : List Statement) → ((index : ℕ) → at ≤ index → inserted index ≡ none_at index (errors_told at done))
    → AgreesWith inserted at (length done) done
unfolding errors_told
agrees_apart inserted at [] is = tt
agrees_apart inserted at (Kept result ∷ done) is =
    (is at (omega arith) ∙ later_apart at (at + 1) done (omega arith), agrees_apart inserted (at + 1) done (λ index less. is index (omega (arith, less))))
agrees_apart inserted at (Ran result ∷ done) is =
    (is at (omega arith) ∙ later_apart at (at + 1) done (omega arith), agrees_apart inserted (at + 1) done (λ index less. is index (omega (arith, less))))
agrees_apart inserted at (Failed code ∷ done) is = (
  is at (omega arith) ∙ and_left (not (eqb at at)) (none_at at (errors_told (at + 1) done)) (not_from_true (eqb at at) (eq-eqb at at refl)),
  agrees_apart inserted (at + 1) done
      (λ index less. is index (omega (arith, less))
      ∙ ap (λ (b : Bool). b && none_at index (errors_told (at + 1) done)) (not_from_false (eqb at index) (ne_eqb at index (λ same. omega (arith, less, same))))),
)

-- the write errors of later statements stand behind an earlier one
later_behind : (low at : ℕ) (done : List Statement) → low < at → all_behind low (errors_told at done) ≡ true
unfolding errors_told
later_behind low at [] less = refl
later_behind low at (Kept result ∷ done) less = later_behind low (at + 1) done (omega (arith, less))
later_behind low at (Ran result ∷ done) less = later_behind low (at + 1) done (omega (arith, less))
later_behind low at (Failed code ∷ done) less =
    and_from (ltb low at) (all_behind low (errors_told (at + 1) done)) (lt-ltb low at less) (later_behind low (at + 1) done (omega (arith, less)))

-- behind the end of the statements none is inserted
agrees_none : (inserted : ℕ → Bool) (at count : ℕ) → ((index : ℕ) → at ≤ index → inserted index ≡ false) → AgreesWith inserted at count []
agrees_none inserted at zero none = tt
agrees_none inserted at (suc count) none = (none at (omega arith), agrees_none inserted (at + 1) count (λ index less. none index (omega (arith, less))))

-- where the first that failed is the last, those before it are inserted
agrees_behind : (inserted : ℕ → Bool) (at count : ℕ) (done : List Statement) → EndAs true count done
    → ((index : ℕ) → at ≤ index → inserted index ≡ all_behind index (errors_told at done)) → AgreesWith inserted at count done
unfolding errors_told
agrees_behind inserted at zero done ends is = tt
agrees_behind inserted at (suc count) [] ends is = absurd ends
agrees_behind inserted at (suc count) (Kept result ∷ done) ends is =
    (is at (omega arith) ∙ later_behind at (at + 1) done (omega arith), agrees_behind inserted (at + 1) count done ends (λ index less. is index (omega (arith, less))))
agrees_behind inserted at (suc count) (Ran result ∷ done) ends is =
    (is at (omega arith) ∙ later_behind at (at + 1) done (omega arith), agrees_behind inserted (at + 1) count done ends (λ index less. is index (omega (arith, less))))
agrees_behind inserted at (suc count) (Failed code ∷ done) ends is = (
  is at (omega arith) ∙ and_left (ltb at at) (all_behind at (errors_told (at + 1) done)) (le-ltb at at (omega arith)),
  subst (λ (rest : List Statement). AgreesWith inserted (at + 1) count rest) (sym ends)
      (agrees_none inserted (at + 1) count
      (λ index less. is index (omega (arith, less)) ∙ and_left (ltb index at) (all_behind index (errors_told (at + 1) done)) (le-ltb index at (omega (arith, less))))),
)

-- the ids by the write errors are those of the statements that ended well
pub ids_told_ended : (ordered : Bool) (own : List OwnDocument) (done : List Statement) → EndAs ordered (length own) done
    → ids_where (is_inserted ordered (errors_told 0 done)) 0 own ≡ ids_ended 0 done own
ids_told_ended true own done ends =
    let inserted : ℕ → Bool = is_inserted true (errors_told 0 done) in
    ids_agree inserted 0 own done (agrees_behind inserted 0 (length own) done ends (λ index less. refl))
ids_told_ended false own done ends =
    let inserted : ℕ → Bool = is_inserted false (errors_told 0 done) in
    ids_agree inserted 0 own done
    (subst (λ (count : ℕ). AgreesWith inserted 0 count done) (length_unordered (length own) done ends) (agrees_apart inserted 0 done (λ index less. refl)))
