-- What is gathered of the ends of batches: all write errors, ids of batches alone, and all ids where all went in.
use Rattle.std.proofs.Common.{◌≡◌, ℕ, zero, suc, ◌+◌, ◌-◌, ◌<◌, ◌≤◌, Bool, true, false, List, [], ◌∷◌, ◌++◌, map, take, drop, refl, sym, ap, subst, ◌∙◌, inl, inr, arith}
use Rattle.std.proofs.lemmas.Bool.{cases_eq, cases_lt, cond-false, ne_eqb}
use Rattle.std.proofs.lemmas.List.{append-nil, append_assoc}
use Rattle.std.specs.Prelude.{ℤ, Option, None, Some, Result, Ok, Err, ◌⊎◌}
use Rattle.std.specs.Cmp.{nat_cmp_total, unsigned_ties}
use Rattle.std.specs.FinMap as finite
use Rattle.std.specs.Ordering.{eq_by_cmp, nat_cmp}
use Rattle.bson_lite.specs.declared.bson.Bson.{Bson}
use Rattle.bson_lite.specs.declared.document.Pair.{Pair}
use Rattle.bson_lite.proofs.FinMaps.{get_inserted}
use Rattle.driver_error.specs.declared.error.Error.{Error}
use Rattle.driver_error.specs.declared.kind.ErrorKind.TheVariants as kind
use Rattle.server_answers.specs.declared.results.InsertManyResult.{InsertManyResult}
use Rattle.driver_error.specs.declared.write.IndexedWriteError.{IndexedWriteError}
use Rattle.driver_error.specs.Error.{ErrorKind, kind_of, labels_of}
use Rattle.driver_error.specs.LabelTexts.{LabelSet}
use Rattle.driver_options.specs.declared.write_options.InsertManyOptions.{InsertManyOptions}
use Rattle.driver_link.specs.LinkState.{server_run}
use Rattle.driver_link.specs.ServerRun.{ServerRun}
use Rattle.driver_link.specs.Settled.{Has}
use Rattle.driver_ops.specs.declared.target.OperationTarget.{OperationTarget}
use Rattle.driver_ops.specs.Inserts.{insert_is_ordered}
use Rattle.driver_ops.specs.Operations.{Batch, IsFixed, OperationSpec, ReadsOutput, ReadsPagesOutput}
use Rattle.write_ops.specs.declared.own_document.OwnDocument.{OwnDocument}
use Rattle.write_ops.specs.InsertAnswers.{AnswersReply, ReadsInsert, all_ids, ids_where, insert_reply}
use Rattle.write_ops.specs.InsertLawful.{Ids}
use Rattle.write_ops.specs.InsertSpec.{id_beside, insert_spec}
use Rattle.driver_attempt.specs.Moment.{Moment}
use Rattle.driver_exec.specs.Resending.{ReadsLast, SendsOneCommand}
use Rattle.many_actions.specs.declared.gathered.Gathered.{Gathered}
use Rattle.many_actions.specs.BatchTells.{AllOk, AllWentIn, TellsId, all_errors, errors_of_end, errors_of_kind, ids_of_end, ids_of_kind}
use Rattle.many_actions.specs.Batches.{BatchEnd, MakesBatch, MakesBatches, goes_on, is_of_documents, rest_of, tells_documents}
use Rattle.many_actions.specs.ManyAnswers.{AllOfDocuments, count_of, gathered, moved_error, nothing_gathered, put_ids, with_failures, with_kind, with_result}
use Rattle.many_actions.specs.ManyCalls.{MadeMany}

-- the write errors of an error, by its kind
errors_by_kind : (so_far : Gathered) (first count : ℕ) (labels : LabelSet) (why : ErrorKind)
    → (with_kind so_far first count labels why).errors ≡ so_far.errors ++ map (moved_error first) (errors_of_kind why)
errors_by_kind so_far first count labels (kind.InsertMany failures) = refl
errors_by_kind so_far first count labels _ = sym (append-nil so_far.errors)

-- the write errors of one end more
errors_more : (so_far : Gathered) (first count : ℕ) (result : Result InsertManyResult Error)
    → (with_result so_far first count result).errors ≡ so_far.errors ++ map (moved_error first) (errors_of_end result)
errors_more so_far first count (Ok output) = sym (append-nil so_far.errors)
errors_more so_far first count (Err error) = errors_by_kind so_far first count (labels_of error) (kind_of error)

errors_behind : (so_far : Gathered) (ends : List BatchEnd) → (gathered so_far ends).errors ≡ so_far.errors ++ all_errors ends
errors_behind so_far [] = sym (append-nil so_far.errors)
errors_behind so_far (end ∷ ends) =
    errors_behind (with_result so_far end.first (count_of end.statements) end.result) ends
    ∙ ap (λ (errors : List IndexedWriteError). errors ++ all_errors ends) (errors_more so_far end.first (count_of end.statements) end.result)
    ∙ append_assoc so_far.errors (map (moved_error end.first) (errors_of_end end.result)) (all_errors ends)

-- the write errors that are gathered are those of all ends
pub errors_gathered : (ends : List BatchEnd) → (gathered nothing_gathered ends).errors ≡ all_errors ends
errors_gathered ends = errors_behind nothing_gathered ends

-- an id at another index
get_other : (all : Ids) (at : ℕ) (here : Bson) (index : ℕ) → (index ≡ at → ⊥) → finite.get (finite.insert all at here) index ≡ finite.get all index
get_other all at here index differs =
    finite.get-insert nat_cmp_total all at here index
    ∙ cond-false (eq_by_cmp nat_cmp index at) (Some here) (finite.get all index) (sym (unsigned_ties index at) ∙ ne_eqb index at differs)

-- the id at an index, after another was put beside it or not
pub beside_other : (at : ℕ) (found : Option Bson) (all : Ids) (index : ℕ) → (index ≡ at → ⊥) → finite.get (id_beside at found all) index ≡ finite.get all index
beside_other at None all index differs = refl
beside_other at (Some here) all index differs = get_other all at here index differs

-- and where none was before
beside_here : (at : ℕ) (found : Option Bson) (all : Ids) → finite.get all at ≡ None → finite.get (id_beside at found all) at ≡ found
beside_here at None all none = none
beside_here at (Some here) all none = get_inserted nat_cmp_total all at here

-- an id beside others is that one or one of these
beside_from : (at : ℕ) (found : Option Bson) (all : Ids) (index : ℕ) (id : Bson) → finite.get (id_beside at found all) index ≡ Some id
    → (finite.get all index ≡ Some id) ⊎ ((index ≡ at) × (found ≡ Some id))
beside_from at None all index id is = inl is
beside_from at (Some here) all index id is = elim (cases_eq index at) [
  | inl same ↦ inr (same, sym (get_inserted nat_cmp_total all at here) ∙ ap (λ (n : ℕ). finite.get (finite.insert all at here) n) (sym same) ∙ is)
  | inr differs ↦ inl (sym (get_other all at here index differs) ∙ is)
]

-- an id among those of a batch beside others is one of these, or stands in the batch
abbrev StandsIn : ℕ → ℕ → Ids → ℕ → Bson → Type 0
StandsIn first count ids index id = (at : ℕ) × ((at < count) × ((index ≡ first + at) × (finite.get ids at ≡ Some id)))

put_from : (first count : ℕ) (ids all : Ids) (index : ℕ) (id : Bson) → finite.get (put_ids first count ids all) index ≡ Some id
    → (finite.get all index ≡ Some id) ⊎ StandsIn first count ids index id
put_from first zero ids all index id is = inl is
put_from first (suc count) ids all index id is =
    elim (beside_from (first + count) (finite.get ids count) (put_ids first count ids all) index id is) [
      | inl before ↦ elim (put_from first count ids all index id before) [
        | inl earlier ↦ inl earlier
        | inr stands ↦ let below = stands.1.0 in inr (stands.0, (omega (arith, below), stands.1.1))
      ]
      | inr here ↦ inr (count, (omega arith, (here.0, here.1)))
    ]

-- an id that is gathered of one end more was there, or is told of one of its documents
abbrev Told : ℕ → ℕ → Result InsertManyResult Error → ℕ → Bson → Type 0
Told first count result index id = StandsIn first count (ids_of_end result) index id × (is_of_documents result ≡ true)

kind_from : (so_far : Gathered) (first count : ℕ) (labels : LabelSet) (why : ErrorKind) (index : ℕ) (id : Bson)
    → finite.get (with_kind so_far first count labels why).inserted_ids index ≡ Some id
    → (finite.get so_far.inserted_ids index ≡ Some id) ⊎ (StandsIn first count (ids_of_kind why) index id × (tells_documents why ≡ true))
kind_from so_far first count labels (kind.InsertMany failures) index id is =
    elim (put_from first count failures.inserted_ids so_far.inserted_ids index id is) [
      | inl before ↦ inl before
      | inr stands ↦ inr (stands, refl)
    ]
kind_from so_far first count labels _ index id is = inl is

result_from : (so_far : Gathered) (first count : ℕ) (result : Result InsertManyResult Error) (index : ℕ) (id : Bson)
    → finite.get (with_result so_far first count result).inserted_ids index ≡ Some id
    → (finite.get so_far.inserted_ids index ≡ Some id) ⊎ Told first count result index id
result_from so_far first count (Ok output) index id is =
    elim (put_from first count output.inserted_ids so_far.inserted_ids index id is) [
      | inl before ↦ inl before
      | inr stands ↦ inr (stands, refl)
    ]
result_from so_far first count (Err error) index id is = kind_from so_far first count (labels_of error) (kind_of error) index id is

-- the same as facts of the end
told_id : (end : BatchEnd) (index : ℕ) (id : Bson) → Told end.first (count_of end.statements) end.result index id → TellsId index id end
told_id end index id facts = record {
  at = facts.0.0;
  within = facts.0.1.0;
  moved = facts.0.1.1.0;
  told = facts.0.1.1.1;
  of_documents = facts.1;
}

ends_from : (so_far : Gathered) (ends : List BatchEnd) (index : ℕ) (id : Bson) → finite.get (gathered so_far ends).inserted_ids index ≡ Some id
    → (finite.get so_far.inserted_ids index ≡ Some id) ⊎ ((end : BatchEnd) × (Has ends end × TellsId index id end))
ends_from so_far [] index id is = inl is
ends_from so_far (end ∷ ends) index id is =
    elim (ends_from (with_result so_far end.first (count_of end.statements) end.result) ends index id is) [
      | inl earlier ↦ elim (result_from so_far end.first (count_of end.statements) end.result index id earlier) [
        | inl before ↦ inl before
        | inr told ↦ inr (end, (inl refl, told_id end index id told))
      ]
      | inr later ↦ inr (later.0, (inr later.1.0, later.1.1))
    ]

none_empty : (index : ℕ) (id : Bson) → finite.get nothing_gathered.inserted_ids index ≡ Some id → ⊥
none_empty index id is = let none : ◌≡◌ {A = Option Bson} None (Some id) = sym (finite.get-empty nat_cmp index) ∙ is in cc

-- an id that is gathered is told by an end of one of its documents
pub id_of_batch : (ends : List BatchEnd) (index : ℕ) (id : Bson) → finite.get (gathered nothing_gathered ends).inserted_ids index ≡ Some id
    → (end : BatchEnd) × (Has ends end × TellsId index id end)
id_of_batch ends index id is = elim (ends_from nothing_gathered ends index id is) [
  | inl none ↦ absurd (none_empty index id none)
  | inr told ↦ told
]

-- the ids of a batch leave what stands before it
pub put_below : (first count : ℕ) (ids all : Ids) (index : ℕ) → index < first → finite.get (put_ids first count ids all) index ≡ finite.get all index
put_below first zero ids all index below = refl
put_below first (suc count) ids all index below =
    beside_other (first + count) (finite.get ids count) (put_ids first count ids all) index (λ same. omega (arith, below, same))
    ∙ put_below first count ids all index below

-- and what stands behind it
put_past : (first count : ℕ) (ids all : Ids) (index : ℕ) → first + count ≤ index → finite.get (put_ids first count ids all) index ≡ finite.get all index
put_past first zero ids all index past = refl
put_past first (suc count) ids all index past =
    beside_other (first + count) (finite.get ids count) (put_ids first count ids all) index (λ same. omega (arith, past, same))
    ∙ put_past first count ids all index (omega (arith, past))

-- where nothing was before, they are those of the batch
put_at : (first count : ℕ) (ids all : Ids) (at : ℕ) → at < count → finite.get all (first + at) ≡ None
    → finite.get (put_ids first count ids all) (first + at) ≡ finite.get ids at
put_at first zero ids all at within none = absurd (omega (arith, within))
put_at first (suc count) ids all at within none = elim (cases_lt at count) [
  | inl below ↦
      beside_other (first + count) (finite.get ids count) (put_ids first count ids all) (first + at) (λ same. omega (arith, below, same))
      ∙ put_at first count ids all at below none
  | inr past ↦
      let last : at ≡ count = omega (arith, within, past) in
      ap (λ (n : ℕ). finite.get (put_ids first (suc count) ids all) (first + n)) last
      ∙ beside_here (first + count) (finite.get ids count) (put_ids first count ids all)
      (put_past first count ids all (first + count) (omega arith) ∙ ap (λ (n : ℕ). finite.get all (first + n)) (sym last) ∙ none)
      ∙ ap (λ (n : ℕ). finite.get ids n) (sym last)
]

-- the id of the document at a place
id_at : List OwnDocument → ℕ → Option Bson
id_at [] at = None
id_at (own ∷ rest) zero = Some own.id
id_at (own ∷ rest) (suc at) = id_at rest at

id_none : (own : List OwnDocument) (at : ℕ) → own ≡ [] → None ≡ id_at own at
unfolding id_at
id_none own at is = sym (ap (λ (documents : List OwnDocument). id_at documents at) is)

-- in the front of the documents
id_front : (count : ℕ) (own : List OwnDocument) (at : ℕ) → at < count → id_at (take count own) at ≡ id_at own at
unfolding id_at
id_front zero own at within = absurd (omega (arith, within))
id_front (suc count) [] at within = refl
id_front (suc count) (own ∷ rest) zero within = refl
id_front (suc count) (own ∷ rest) (suc at) within = id_front count rest at (omega (arith, within))

-- and behind it
id_behind : (count : ℕ) (own : List OwnDocument) (later at : ℕ) → at ≡ count + later → id_at (drop count own) later ≡ id_at own at
unfolding id_at
id_behind zero own later at is = let same : later ≡ at = omega (arith, is) in ap (λ (n : ℕ). id_at own n) same
id_behind (suc count) [] later at is = refl
id_behind (suc count) (own ∷ rest) later zero is = absurd (omega (arith, is))
id_behind (suc count) (own ∷ rest) later (suc at) is = id_behind count rest later at (omega (arith, is))

-- the ids of all documents by their indexes, the first at one
get_all : (own : List OwnDocument) (first at : ℕ) → finite.get (ids_where (λ index. true) first own) (first + at) ≡ id_at own at
unfolding ids_where id_at
get_all [] first at = finite.get-empty nat_cmp (first + at)
get_all (own ∷ rest) first zero =
    let others : Ids = ids_where (λ index. true) (first + 1) rest in
    let same : first + zero ≡ first = omega arith in
    ap (λ (n : ℕ). finite.get (finite.insert others first own.id) n) same ∙ get_inserted nat_cmp_total others first own.id
get_all (own ∷ rest) first (suc at) =
    let others : Ids = ids_where (λ index. true) (first + 1) rest in
    let next : first + suc at ≡ first + 1 + at = omega arith in
    get_other others first own.id (first + suc at) (λ same. omega (arith, same))
    ∙ ap (λ (n : ℕ). finite.get others n) next ∙ get_all rest (first + 1) at

get_from_zero : (own : List OwnDocument) (at : ℕ) → finite.get (ids_where (λ index. true) 0 own) at ≡ id_at own at
get_from_zero own at =
    let same : at ≡ 0 + at = omega arith in
    ap (λ (n : ℕ). finite.get (ids_where (λ index. true) 0 own) n) same ∙ get_all own 0 at

-- the ids after a batch that went in
ids_after : (so_far : Gathered) (first index : ℕ) (statements : Option ℕ) (count : ℕ) (result : Result InsertManyResult Error) (output : InsertManyResult)
    → first ≡ index → statements ≡ Some count → result ≡ Ok output
    → (with_result so_far first (count_of statements) result).inserted_ids ≡ put_ids index count output.inserted_ids so_far.inserted_ids
ids_after so_far first index statements count result output begins fixed is =
    ap (λ (end : Result InsertManyResult Error). (with_result so_far first (count_of statements) end).inserted_ids) is
    ∙ ap (λ (told : Option ℕ). put_ids first (count_of told) output.inserted_ids so_far.inserted_ids) fixed
    ∙ ap (λ (n : ℕ). put_ids n count output.inserted_ids so_far.inserted_ids) begins

-- batches leave what stands before them
stays_below : (ends : List BatchEnd) (first : ℕ) (own : List OwnDocument) (so_far : Gathered) (index : ℕ) → index < first → AllWentIn first own ends
    → finite.get (gathered so_far ends).inserted_ids index ≡ finite.get so_far.inserted_ids index
stays_below [] first own so_far index below went = refl
stays_below (end ∷ ends) first own so_far index below went =
    let output : InsertManyResult = all_ids (take went.count own) in
    stays_below ends (first + went.count) (drop went.count own) (with_result so_far end.first (count_of end.statements) end.result) index
    (omega (arith, below)) went.rest
    ∙ ap (λ (ids : Ids). finite.get ids index) (ids_after so_far end.first first end.statements went.count end.result output went.begins went.fixed went.answers)
    ∙ put_below first went.count output.inserted_ids so_far.inserted_ids index below

-- where nothing stands from their beginning on, they put the ids of their documents there
gathered_at : (ends : List BatchEnd) (first : ℕ) (own : List OwnDocument) (so_far : Gathered)
    → ((index : ℕ) → first ≤ index → finite.get so_far.inserted_ids index ≡ None) → AllWentIn first own ends
    → (at : ℕ) → finite.get (gathered so_far ends).inserted_ids (first + at) ≡ id_at own at
gathered_at [] first own so_far none went at = none (first + at) (omega arith) ∙ id_none own at went
gathered_at (end ∷ ends) first own so_far none went at =
    let count : ℕ = went.count in
    let output : InsertManyResult = all_ids (take count own) in
    let after : Gathered = with_result so_far end.first (count_of end.statements) end.result in
    let puts : after.inserted_ids ≡ put_ids first count output.inserted_ids so_far.inserted_ids =
    ids_after so_far end.first first end.statements count end.result output went.begins went.fixed went.answers in
    elim (cases_lt at count) [
      | inl below ↦
          stays_below ends (first + count) (drop count own) after (first + at) (omega (arith, below)) went.rest
          ∙ ap (λ (ids : Ids). finite.get ids (first + at)) puts
          ∙ put_at first count output.inserted_ids so_far.inserted_ids at below (none (first + at) (omega arith))
          ∙ get_from_zero (take count own) at
          ∙ id_front count own at below
      | inr past ↦
          let split : at ≡ count + (at - count) = omega (arith, past) in
          let same : first + at ≡ first + count + (at - count) = omega (arith, past) in
          ap (λ (n : ℕ). finite.get (gathered after ends).inserted_ids n) same
          ∙ gathered_at ends (first + count) (drop count own) after
          (λ index behind.
          ap (λ (ids : Ids). finite.get ids index) puts ∙ put_past first count output.inserted_ids so_far.inserted_ids index behind
          ∙ none index (omega (arith, behind))) went.rest (at - count)
          ∙ id_behind count own (at - count) at split
    ]

-- where all batches went in, the ids are those of all documents
pub ids_gathered : (own : List OwnDocument) (ends : List BatchEnd) → AllWentIn 0 own ends
    → (gathered nothing_gathered ends).inserted_ids ≡ (all_ids own).inserted_ids
ids_gathered own ends went = finite.same_map nat_cmp_total finite.nat_cmp-IsAntisymmetric (gathered nothing_gathered ends).inserted_ids (all_ids own).inserted_ids
    (λ index.
    let same : index ≡ 0 + index = omega arith in
    ap (λ (n : ℕ). finite.get (gathered nothing_gathered ends).inserted_ids n) same
    ∙ gathered_at ends 0 own nothing_gathered (λ later behind. finite.get-empty nat_cmp later) went index
    ∙ sym (get_from_zero own index))

-- a reply that is read as done tells the ids of all documents
pub read_ids : (ordered : Bool) (own : List OwnDocument) (reply : List (Pair Bson)) (output : InsertManyResult) → ReadsInsert ordered own reply (Ok output) → output ≡ all_ids own
read_ids ordered own reply output = elim (insert_reply reply) as (λ fields. AnswersReply ordered own fields (Ok output) → output ≡ all_ids own) [
  | None ↦ λ answers. absurd answers
  | Some found ↦ λ answers. answers.2
]

-- results of two forms, and of one
not_ok : (error : Error) (output : InsertManyResult) → ◌≡◌ {A = Result InsertManyResult Error} (Err error) (Ok output) → ⊥
not_ok error output is = cc

same_output : (one other : InsertManyResult) → ◌≡◌ {A = Result InsertManyResult Error} (Ok one) (Ok other) → one ≡ other
same_output one other is = cc

-- an output of an operation of one page is read in the last reply alone
pub reads_last : {A : Type 0} (spec : OperationSpec A) (batch : Batch) (link now : Option ServerRun) (session : Option (List ℕ)) (number : Option ℤ) (output : A) → spec.paged ≡ false
    → (last : ReadsLast spec batch link now session number output) → ReadsOutput spec batch.statements last.bytes output
reads_last spec batch link now session number output is last = subst (λ pages. ReadsPagesOutput spec batch.statements last.bytes pages output) (last.alone is) last.reads

-- a batch that is Ok tells the ids of its own documents
command_ids : (target : OperationTarget) (options : InsertManyOptions) (call index : ℕ) (own : List OwnDocument) (statements : ℕ) (before now : Moment)
    (result : Result InsertManyResult Error) (output : InsertManyResult) → result ≡ Ok output
    → SendsOneCommand (insert_spec target index own options) (rest_of call index own statements) before now result → output ≡ all_ids (take statements own)
command_ids target options call index own statements before now (Ok other) output is sends =
    let reads = reads_last (insert_spec target index own options) (rest_of call index own statements) (server_run before.link) (server_run now.link) sends.session sends.number other refl sends.ends in
    sym (same_output other output is)
    ∙ read_ids (insert_is_ordered options) (take statements own) reads.response.body other reads.reads
command_ids target options call index own statements before now (Err error) output is sends = absurd (not_ok error output is)

pub batch_ids : (target : OperationTarget) (options : InsertManyOptions) (call index : ℕ) (own : List OwnDocument) (before now : Moment) (end : BatchEnd)
    → MakesBatch target options call index own before now end → (statements : ℕ) → end.statements ≡ Some statements
    → (output : InsertManyResult) → end.result ≡ Ok output → output ≡ all_ids (take statements own)
batch_ids target options call index own before now end made statements fixed output is =
    let fixes : IsFixed end.statements statements = subst (λ (told : Option ℕ). IsFixed told statements) (sym fixed) refl in
    command_ids target options call index own statements before now end.result output is (made.one_command statements fixes)

-- an answer, and behind one the next batch is begun
abbrev answered : InsertManyResult → Result InsertManyResult Error
answered output = Ok output

no_stop : (ordered : Bool) (output : InsertManyResult) (result : Result InsertManyResult Error) → result ≡ Ok output → goes_on ordered result ≡ false → ⊥
no_stop ordered output (Ok other) is over = let denied : ◌≡◌ {A = Bool} true false = over in cc
no_stop ordered output (Err error) is over = not_ok error output is

-- batches that were made one after another, with memory, and are Ok, all went in
pub made_went_in : (target : OperationTarget) (options : InsertManyOptions) (call : ℕ) (ends : List BatchEnd) (index : ℕ) (own : List OwnDocument) (before now : Moment)
    → MakesBatches ⊥ target options call index own ends before now → AllOk ends → AllWentIn index own ends
made_went_in target options call [] index own before now made oks = elim made.1 [ inl none ↦ none | inr short ↦ absurd short ]
made_went_in target options call (end ∷ ends) index own before now made oks =
    let output : InsertManyResult = oks.0.0 in
    let is : end.result ≡ Ok output = oks.0.1 in
    elim made.1.1 [
      | inl on ↦ record {
        begins = made.1.0.begins;
        count = on.statements;
        fixed = on.told;
        answers = is
            ∙ ap (λ (told : InsertManyResult). answered told)
            (batch_ids target options call index own before made.0 end made.1.0 on.statements on.told output is);
        rest = made_went_in target options call ends (index + on.statements) (drop on.statements own) made.0 now on.rest oks.1;
      }
      | inr stops ↦ absurd (no_stop (insert_is_ordered options) output end.result is stops.over)
    ]

-- a failure that was told stays told
kind_failed : (so_far : Gathered) (first count : ℕ) (labels : LabelSet) (why : ErrorKind) → so_far.failed ≡ true → (with_kind so_far first count labels why).failed ≡ true
kind_failed so_far first count labels (kind.InsertMany failures) failed = refl
kind_failed so_far first count labels _ failed = failed

result_failed : (so_far : Gathered) (first count : ℕ) (result : Result InsertManyResult Error) → so_far.failed ≡ true → (with_result so_far first count result).failed ≡ true
result_failed so_far first count (Ok output) failed = failed
result_failed so_far first count (Err error) failed = kind_failed so_far first count (labels_of error) (kind_of error) failed

stays_failed : (so_far : Gathered) (ends : List BatchEnd) → so_far.failed ≡ true → (gathered so_far ends).failed ≡ true
stays_failed so_far [] failed = failed
stays_failed so_far (end ∷ ends) failed =
    stays_failed (with_result so_far end.first (count_of end.statements) end.result) ends
    (result_failed so_far end.first (count_of end.statements) end.result failed)

-- an error that tells of documents is told as a failure
kind_fails : (so_far : Gathered) (first count : ℕ) (labels : LabelSet) (why : ErrorKind) (ends : List BatchEnd) → tells_documents why ≡ true
    → (gathered (with_kind so_far first count labels why) ends).failed ≡ true
kind_fails so_far first count labels (kind.InsertMany failures) ends tells = stays_failed (with_failures so_far first count labels failures) ends refl
kind_fails so_far first count labels _ ends tells = absurd (let denied : ◌≡◌ {A = Bool} false true = tells in cc)

-- so one of documents is Ok where no failure was told
end_ok : (so_far : Gathered) (first count : ℕ) (result : Result InsertManyResult Error) (ends : List BatchEnd) → is_of_documents result ≡ true
    → (gathered (with_result so_far first count result) ends).failed ≡ false → (output : InsertManyResult) × (result ≡ Ok output)
end_ok so_far first count (Ok output) ends of_documents unfailed = (output, refl)
end_ok so_far first count (Err error) ends of_documents unfailed =
    absurd (let denied : ◌≡◌ {A = Bool} true false = sym (kind_fails so_far first count (labels_of error) (kind_of error) ends of_documents) ∙ unfailed in cc)

pub all_ok : (so_far : Gathered) (ends : List BatchEnd) → AllOfDocuments ends → (gathered so_far ends).failed ≡ false → AllOk ends
all_ok so_far [] of_documents unfailed = tt
all_ok so_far (end ∷ ends) of_documents unfailed = (
  end_ok so_far end.first (count_of end.statements) end.result ends of_documents.0 unfailed,
  all_ok (with_result so_far end.first (count_of end.statements) end.result) ends of_documents.1 unfailed,
)

-- the answer of these ids
abbrev answer_of : Ids → InsertManyResult
answer_of ids = record { inserted_ids = ids }

-- a call that was made and is Ok answers the ids of all its documents
pub ok_ids : (before now : Moment) (target : OperationTarget) (documents : List (List (Pair Bson))) (options : InsertManyOptions) (call : ℕ) (output : InsertManyResult)
    (made : MadeMany before now target documents options call (Ok output)) → output ≡ all_ids made.own
ok_ids before now target documents options call output made =
    made.answers.1.1
    ∙ ap (λ (ids : Ids). answer_of ids)
    (ids_gathered made.own made.ends
    (made_went_in target options call made.ends 0 made.own made.mid now made.batches (all_ok nothing_gathered made.ends made.answers.0 made.answers.1.0)))
