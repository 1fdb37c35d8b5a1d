-- Which statements the results are of that were read of some of the machine's results documents.
use Rattle.std.proofs.Common.{◌≡◌, ℕ, zero, suc, ◌+◌, List, [], ◌∷◌, drop, take, refl, sym, ap, subst, ◌∙◌, inl, inr, arith}
use Rattle.std.specs.Prelude.{Option, None, Some, slice_get}
use Rattle.bson_lite.specs.declared.bson.Bson as bson
use Rattle.driver_link.specs.declared.machine.PlacedWrite.{PlacedWrite}
use Rattle.driver_link.specs.declared.machine.Statement.{Statement}
use Rattle.driver_link.specs.Cursors.{Reply, first_page, pages_left, row, rows}
use Rattle.driver_link.specs.Settled.{Has}
use Rattle.driver_link.proofs.Lists.{some_is_some}
use Rattle.bulk_ops.specs.declared.bulk_reply.OpResult.{OpResult}
use Rattle.bulk_ops.specs.BulkPages.{op_result_of, op_results}
use Rattle.bulk_ops.specs.lawful.ResultRows.{IsRowRead, as_values, consed, statement_read}

-- a result is what the document of the statement at a position is read as
pub record IsOfRow (writes : List PlacedWrite) (done : List Statement) (told : OpResult) : Type 0 where
  pub at : ℕ
  pub write : PlacedWrite
  pub statement : Statement
  pub in_writes : slice_get writes at ≡ Some write
  pub in_done : slice_get done at ≡ Some statement
  pub read : IsRowRead at write.written.kind statement told

-- so are some results
abbrev pub AreOfRows : List PlacedWrite → List Statement → List OpResult → Type 0
AreOfRows writes done results = (told : OpResult) → Has results told → IsOfRow writes done told

-- a document is that of the statement at a position, the first statement at an index
record IsRowAt (from : ℕ) (writes : List PlacedWrite) (done : List Statement) (document : Reply) : Type 0 where
  at : ℕ
  write : PlacedWrite
  statement : Statement
  in_writes : slice_get writes at ≡ Some write
  in_done : slice_get done at ≡ Some statement
  is : document ≡ row (from + at) write.written.kind statement

row_at : (from : ℕ) (writes : List PlacedWrite) (done : List Statement) (document : Reply) → Has (rows from writes done) document → IsRowAt from writes done document
unfolding rows
row_at from [] done document has = absurd has
row_at from (write ∷ writes) [] document has = absurd has
row_at from (write ∷ writes) (statement ∷ done) document has = elim has [
  | inl here ↦
      let on : from ≡ from + 0 = omega arith in
      record { at = 0; write = write; statement = statement; in_writes = refl; in_done = refl; is = sym here ∙ ap (λ n. row n write.written.kind statement) on }
  | inr later ↦
      let rest = row_at (from + 1) writes done document later in
      let on : from + 1 + rest.at ≡ from + suc rest.at = omega arith in
      record {
        at = suc rest.at;
        write = rest.write;
        statement = rest.statement;
        in_writes = rest.in_writes;
        in_done = rest.in_done;
        is = rest.is ∙ ap (λ n. row n rest.write.written.kind rest.statement) on;
      }
]

-- each result was read in one of the documents
read_in : (documents : List Reply) (results : List OpResult) → op_results (as_values documents) ≡ Some results → (told : OpResult) → Has results told
    → (document : Reply) × (Has documents document × (op_result_of (bson.Document document) ≡ Some told))
unfolding op_results
read_in [] results read told has = absurd (subst (λ (r : List OpResult). Has r told) (sym (some_is_some [] results read)) has)
read_in (document ∷ documents) results read told has =
    let found = consed (op_result_of (bson.Document document)) (op_results (as_values documents)) results read in
    elim (subst (λ (r : List OpResult). Has r told) found.is has) [
      | inl here ↦ (document, (inl refl, found.first_is ∙ ap (λ (t : OpResult). Some t) here))
      | inr later ↦
          let rest = read_in documents found.more found.rest_is told later in
          (rest.0, (inr rest.1.0, rest.1.1))
    ]

-- so where these are some of the statements' documents each result is of a statement
pub documents_read : (writes : List PlacedWrite) (done : List Statement) (documents : List Reply) (results : List OpResult)
    → ((document : Reply) → Has documents document → Has (rows 0 writes done) document) → op_results (as_values documents) ≡ Some results → AreOfRows writes done results
documents_read writes done documents results some read = λ told has.
    let found = read_in documents results read told has in
    let here = row_at 0 writes done found.0 (some found.0 found.1.0) in
    let on : 0 + here.at ≡ here.at = omega arith in
    record {
      at = here.at;
      write = here.write;
      statement = here.statement;
      in_writes = here.in_writes;
      in_done = here.in_done;
      read = statement_read here.at here.write.written.kind here.statement told
          (ap (λ (d : Reply). op_result_of (bson.Document d)) (sym (here.is ∙ ap (λ n. row n here.write.written.kind here.statement) on)) ∙ found.1.1);
    }

-- a front of a list and what is left have elements of the list alone
has_front : {A : Type 0} (count : ℕ) (xs : List A) (x : A) → Has (take count xs) x → Has xs x
has_front zero xs x has = absurd has
has_front (suc count) [] x has = absurd has
has_front (suc count) (y ∷ ys) x has = elim has [ inl same ↦ inl same | inr later ↦ inr (has_front count ys x later) ]

has_rest : {A : Type 0} (count : ℕ) (xs : List A) (x : A) → Has (drop count xs) x → Has xs x
has_rest zero xs x has = has
has_rest (suc count) [] x has = absurd has
has_rest (suc count) (y ∷ ys) x has = inr (has_rest count ys x has)

-- so have the first page and what it leaves
pub in_first : (page : Option ℕ) (all : List Reply) (document : Reply) → Has (first_page page all) document → Has all document
in_first None all document has = has
in_first (Some most) all document has = has_front most all document has

pub in_left : (page : Option ℕ) (all : List Reply) (document : Reply) → Has (pages_left page all) document → Has all document
in_left None all document has = absurd has
in_left (Some most) all document has = has_rest most all document has
