-- How many ops have no result yet, and so how many pages may leave their cursor open.
use Rattle.std.proofs.Common.{◌≡◌, ℕ, zero, suc, ◌+◌, ◌<◌, ◌≤◌, ◌==◌, Bool, true, false, not, cond, ◌||◌, ◌&&◌, nat_lt, List, [], ◌∷◌, ◌++◌, length, length-append, arith, refl, sym, ap, subst, ◌∙◌, inl, inr, ltb-true, ltb-false, eq-eqb, ne_eqb, eqb-true}
use Rattle.std.specs.Prelude.{ℤ, pos, Option, None, Some, Result, Ok, Err, ◌⊎◌, if◌then◌else◌}
use Rattle.std.specs.Option.{option_and_then}
use Rattle.std.specs.Ordering.{int_eq}
use Rattle.std.proofs.lemmas.Bool.{and_parts}
use Rattle.bson_lite.specs.declared.bson.Bson.{Bson}
use Rattle.bson_lite.specs.declared.document.Pair.{Pair}
use Rattle.bson_lite.specs.declared.namespace.Namespace.{Namespace}
use Rattle.driver_error.specs.declared.error.Error.{Error}
use Rattle.driver_link.proofs.Lists.{none_is_some, some_is_some}
use Rattle.driver_ops.specs.declared.operation.Reading.TheVariants.{Page as Further}
use Rattle.driver_ops.specs.Operations.{Page}
use Rattle.bulk_ops.specs.declared.bulk_reply.BulkReply.{BulkReply}
use Rattle.bulk_ops.specs.declared.bulk_reply.OpResult.{OpResult}
use Rattle.bulk_ops.specs.declared.bulk_reply.ResultsPage.{ResultsPage}
use Rattle.bulk_ops.specs.declared.bulk_results.PageFault.TheVariants as fault
use Rattle.bulk_ops.specs.declared.bulk_results.PageVerdict.{PageVerdict}
use Rattle.bulk_ops.specs.declared.bulk_results.PageVerdict.TheVariants.{Breaks, Last, LeavesOpen}
use Rattle.bulk_ops.specs.BulkAnswers.{AnswersBulk, BulkBatch, BulkRead, ComesBehind, GoesOnBulk, GoesOnBy, StopsAtPage, first_read, first_verdict, further_read, further_verdict, read_open, rules_of, where_open}
use Rattle.bulk_ops.specs.BulkPages.{bulk_reply, next_page}
use Rattle.bulk_ops.specs.BulkRules.{ResultRules, are_apart, are_complete, are_placed, are_within, closing_verdict, failed_indexes, is_empty, is_seen, keep_order, open_verdict, unseen, verdict}

-- an op that has a result now
abbrev with_index : ℕ → (ℕ → Bool) → ℕ → Bool
with_index k seen index = (k == index) || seen index

-- beyond the first ops it changes nothing
unseen_beyond : (ops k : ℕ) (seen : ℕ → Bool) → ops ≤ k → unseen ops (with_index k seen) ≡ unseen ops seen
unfolding unseen
unseen_beyond zero k seen beyond = refl
unseen_beyond (suc ops) k seen beyond =
    rw (ne_eqb k ops (λ same. omega (arith, same, beyond)), unseen_beyond ops k seen (omega (arith, beyond))) refl

-- among them there is one fewer without
unseen_one : (ops k : ℕ) (seen : ℕ → Bool) → k < ops → seen k ≡ false → unseen ops (with_index k seen) + 1 ≡ unseen ops seen
unfolding unseen
unseen_one zero k seen below new = absurd (omega (arith, below))
unseen_one (suc ops) k seen below new = by_last (k == ops) refl (λ less. unseen_one ops k seen less new)
  where
    add_cond : (b : Bool) (less more : ℕ) → less + 1 ≡ more → cond b 0 1 + less + 1 ≡ cond b 0 1 + more
    add_cond b less more is = omega (arith, is)

    apart : (k ops : ℕ) → (k == ops) ≡ false → (k ≡ ops → ⊥)
    apart k ops differ same = let e : ◌≡◌ {A = Bool} true false = sym (eq-eqb k ops same) ∙ differ in cc

    below_last : (k ops : ℕ) → k < suc ops → (k == ops) ≡ false → k < ops
    below_last k ops below differ =
        elim (nat_lt k ops) as (λ (b : Bool). nat_lt k ops ≡ b → k < ops) [
          | true ↦ λ is. ltb-true k ops is
          | false ↦ λ is. (let past = ltb-false k ops is in absurd (apart k ops differ (omega (arith, past, below))))
        ] refl

    by_last : (last : Bool) → (k == ops) ≡ last → (k < ops → unseen ops (with_index k seen) + 1 ≡ unseen ops seen) → cond (with_index k seen ops) 0 1 + unseen ops (with_index k seen) + 1 ≡ cond (seen ops) 0 1 + unseen ops seen
    by_last true last rest =
        let same : k ≡ ops = eqb-true k ops last in
        let none : seen ops ≡ false = ap seen (sym same) ∙ new in
        rw (last, none, unseen_beyond ops k seen (omega (arith, same))) (omega arith)
    by_last false last rest =
        rw (last) (add_cond (seen ops) (unseen ops (with_index k seen)) (unseen ops seen) (rest (below_last k ops below last)))

-- two tests that agree count the same
pub unseen_same : (ops : ℕ) (seen other : ℕ → Bool) → ((index : ℕ) → seen index ≡ other index) → unseen ops seen ≡ unseen ops other
unfolding unseen
unseen_same zero seen other same = refl
unseen_same (suc ops) seen other same = rw (same ops, unseen_same ops seen other same) refl

-- nothing was seen of no results
unseen_all : (ops : ℕ) → unseen ops (is_seen []) ≡ ops
unfolding unseen
unseen_all zero = refl
unseen_all (suc ops) = (let rest = unseen_all ops in omega (arith, rest))

-- results that are placed are as many as the ops that have one
pub unseen_placed : (ops : ℕ) (results : List OpResult) → are_placed ops results ≡ true → unseen ops (is_seen results) + length results ≡ ops
unfolding are_apart
unseen_placed ops [] placed = (let all = unseen_all ops in omega (arith, all))
unseen_placed ops (first ∷ results) placed =
    let parts = and_parts (are_within ops (first ∷ results)) (are_apart (first ∷ results)) placed in
    let below = and_parts (nat_lt first.index ops) (are_within ops results) parts.0 in
    let apart = and_parts (not (is_seen results first.index)) (are_apart results) parts.1 in
    let rest = unseen_placed ops results (joined (are_within ops results) (are_apart results) below.1 apart.1) in
    let one = unseen_one ops first.index (is_seen results) (ltb-true first.index ops below.0) (not_seen (is_seen results first.index) apart.0) in
    omega (arith, rest, one)
  where
    joined : (a b : Bool) → a ≡ true → b ≡ true → (a && b) ≡ true
    joined a b first second = rw (first, second) refl

    not_seen : (b : Bool) → not b ≡ true → b ≡ false
    not_seen true is = let e : ◌≡◌ {A = Bool} false true = is in cc
    not_seen false is = refl

-- so a page with a result leaves fewer
pub fewer_unseen : (ops : ℕ) (earlier more : List OpResult) → are_placed ops earlier ≡ true → are_placed ops (earlier ++ more) ≡ true → is_empty more ≡ false
    → unseen ops (is_seen (earlier ++ more)) < unseen ops (is_seen earlier)
fewer_unseen ops earlier more before after some =
    let old = unseen_placed ops earlier before in
    let now = unseen_placed ops (earlier ++ more) after in
    let longer = length-append earlier more in
    let one = some_length more some in
    omega (arith, old, now, longer, one)
  where
    some_length : (more : List OpResult) → is_empty more ≡ false → 1 ≤ length more
    some_length [] some = absurd (let e : ◌≡◌ {A = Bool} true false = some in cc)
    some_length (result ∷ more) some = omega arith

-- a verdict that leaves the cursor open: all results are placed, and behind the first page the page has one
pub record IsOpenBy (ops : ℕ) (first : Bool) (results added : List OpResult) : Type 0 where
  pub placed : are_placed ops results ≡ true
  pub some : first ≡ false → is_empty added ≡ false

open_some : (first empty : Bool) → (if first then LeavesOpen else (if empty then Breaks fault.Empty else LeavesOpen)) ≡ LeavesOpen → first ≡ false → empty ≡ false
open_some first true is behind = absurd (let e : ◌≡◌ {A = PageVerdict} (Breaks fault.Empty) LeavesOpen = sym (ap (λ (b : Bool). if b then LeavesOpen else Breaks fault.Empty) behind) ∙ is in cc)
open_some first false is behind = refl

closing_not_open : (counted complete : Bool) → (if counted then (if complete then Last else Breaks fault.Missing) else Breaks fault.Miscounted) ≡ LeavesOpen → ⊥
closing_not_open true true is = let e : ◌≡◌ {A = PageVerdict} Last LeavesOpen = is in cc
closing_not_open true false is = let e : ◌≡◌ {A = PageVerdict} (Breaks fault.Missing) LeavesOpen = is in cc
closing_not_open false complete is = let e : ◌≡◌ {A = PageVerdict} (Breaks fault.Miscounted) LeavesOpen = is in cc

pub open_verdict_is : (rules : ResultRules) (errors : ℕ) (first : Bool) (earlier : List OpResult) (page : ResultsPage) → verdict rules errors first earlier page ≡ LeavesOpen
    → IsOpenBy rules.ops first (earlier ++ page.results) page.results
unfolding verdict
open_verdict_is rules errors first earlier page is =
    by_tests (are_placed rules.ops (earlier ++ page.results)) refl (keep_order rules.ordered (earlier ++ page.results)) (int_eq page.cursor (pos 0)) is
  where
    by_tests : (placed : Bool) → are_placed rules.ops (earlier ++ page.results) ≡ placed → (ordered ended : Bool)
        → (if placed then (if ordered then (if ended then closing_verdict rules errors (earlier ++ page.results) else open_verdict first page.results) else Breaks fault.Disordered)
        else Breaks fault.Misplaced) ≡ LeavesOpen
        → IsOpenBy rules.ops first (earlier ++ page.results) page.results
    by_tests true placed true true is =
        absurd (closing_not_open (length (failed_indexes (earlier ++ page.results)) == errors) (are_complete rules (earlier ++ page.results)) is)
    by_tests true placed true false is = record { placed = placed; some = open_some first (is_empty page.results) is }
    by_tests true placed false ended is = absurd (let e : ◌≡◌ {A = PageVerdict} (Breaks fault.Disordered) LeavesOpen = is in cc)
    by_tests false placed ordered ended is = absurd (let e : ◌≡◌ {A = PageVerdict} (Breaks fault.Misplaced) LeavesOpen = is in cc)

module _ {R : Type 0} (batch : BulkBatch R) where
  -- what was read in pages that left their cursor open: its results are placed, and the pages but the first have one each
  pub record IsReadSoFar (pages : List Page) (read : BulkRead) : Type 0 where
    pub placed : are_placed (length batch.ops) read.results ≡ true
    pub few : length pages ≤ length read.results + 1

  -- where a verdict leaves the cursor open that is what was read
  opened : (judged : PageVerdict) (found read : BulkRead) → where_open judged found ≡ Some read → (judged ≡ LeavesOpen) × (found ≡ read)
  opened LeavesOpen found read is = (refl, some_is_some found read is)
  opened Last found read is = absurd (none_is_some read is)
  opened (Breaks broken) found read is = absurd (none_is_some read is)

  first_so_far : (reply : List (Pair Bson)) (found : Option BulkReply) (read : BulkRead) → option_and_then (λ fields. where_open (first_verdict batch fields) (first_read fields)) found ≡ Some read
      → IsReadSoFar (Ok reply ∷ []) read
  first_so_far reply None read is = absurd (none_is_some read is)
  first_so_far reply (Some found) read is =
      let at = opened (first_verdict batch found) (first_read found) read is in
      let going = open_verdict_is (rules_of batch) found.errors true [] found.page at.0 in
      record { placed = subst (λ (r : BulkRead). are_placed (length batch.ops) r.results ≡ true) at.1 going.placed; few = omega arith }

  further_so_far : (reply : List (Pair Bson)) (pages : List Page) (before : BulkRead) → IsReadSoFar pages before → (page : ResultsPage) → further_verdict batch before page ≡ LeavesOpen
      → IsReadSoFar (Ok reply ∷ pages) (further_read before page)
  further_so_far reply pages before so_far page is =
      let going = open_verdict_is (rules_of batch) before.reply.errors false before.results page is in
      let longer = length-append before.results page.results in
      let few = so_far.few in
      let one = some_length page.results (going.some refl) in
      record { placed = going.placed; few = omega (arith, longer, few, one) }
    where
      some_length : (more : List OpResult) → is_empty more ≡ false → 1 ≤ length more
      some_length [] some = absurd (let e : ◌≡◌ {A = Bool} true false = some in cc)
      some_length (result ∷ more) some = omega arith

  next_so_far : (reply : List (Pair Bson)) (pages : List Page) (before : Option BulkRead) → ((read : BulkRead) → before ≡ Some read → IsReadSoFar pages read) → (found : Option ResultsPage) (read : BulkRead)
      → option_and_then (λ known. option_and_then (λ page. where_open (further_verdict batch known page) (further_read known page)) found) before ≡ Some read → IsReadSoFar (Ok reply ∷ pages) read
  next_so_far reply pages None so_far found read is = absurd (none_is_some read is)
  next_so_far reply pages (Some before) so_far None read is = absurd (none_is_some read is)
  next_so_far reply pages (Some before) so_far (Some page) read is =
      let at = opened (further_verdict batch before page) (further_read before page) read is in
      subst (IsReadSoFar (Ok reply ∷ pages)) at.1 (further_so_far reply pages before (so_far before refl) page at.0)

  read_so_far : (pages : List Page) (read : BulkRead) → read_open batch pages ≡ Some read → IsReadSoFar pages read
  unfolding read_open
  read_so_far [] read is = absurd (none_is_some read is)
  read_so_far (Err failure ∷ pages) read is = absurd (none_is_some read is)
  read_so_far (Ok reply ∷ []) read is = first_so_far reply (bulk_reply reply) read is
  read_so_far (Ok reply ∷ earlier ∷ pages) read is =
      next_so_far reply (earlier ∷ pages) (read_open batch (earlier ∷ pages)) (read_so_far (earlier ∷ pages)) (next_page reply) read is

  -- so pages that leave their cursor open are at most one more than the ops
  few_pages : (pages : List Page) (read : BulkRead) → IsReadSoFar pages read → length pages ≤ length batch.ops + 1
  few_pages pages read so_far =
      let all = unseen_placed (length batch.ops) read.results so_far.placed in
      let few = so_far.few in
      omega (arith, all, few)

  goes_on_few : (reply : List (Pair Bson)) (pages : List Page) (before : BulkRead) → IsReadSoFar pages before → (found : Option ResultsPage) (cursor : ℤ) (namespace : Namespace)
      → GoesOnBulk batch before reply found (Ok (Further cursor namespace)) → suc (length pages) ≤ length batch.ops + 1
  goes_on_few reply pages before so_far None cursor namespace answers = absurd answers
  goes_on_few reply pages before so_far (Some page) cursor namespace answers = by_verdict (further_verdict batch before page) refl answers
    where
      by_verdict : (judged : PageVerdict) → further_verdict batch before page ≡ judged → GoesOnBy judged batch before reply page (Ok (Further cursor namespace))
          → suc (length pages) ≤ length batch.ops + 1
      by_verdict LeavesOpen is answers = few_pages (Ok reply ∷ pages) (further_read before page) (further_so_far reply pages before so_far page is)
      by_verdict Last is answers = absurd answers
      by_verdict (Breaks broken) is answers = absurd answers

  behind_few : (reply : List (Pair Bson)) (pages : List Page) (before : Option BulkRead) → ((read : BulkRead) → before ≡ Some read → IsReadSoFar pages read) → (cursor : ℤ) (namespace : Namespace)
      → ComesBehind batch before reply (Ok (Further cursor namespace)) → suc (length pages) ≤ length batch.ops + 1
  behind_few reply pages None so_far cursor namespace answers = absurd answers
  behind_few reply pages (Some before) so_far cursor namespace answers =
      goes_on_few reply pages before (so_far before refl) (next_page reply) cursor namespace answers

  stops_never : (before : Option BulkRead) (failure : Error) (cursor : ℤ) (namespace : Namespace) → StopsAtPage batch before failure (Ok (Further cursor namespace)) → ⊥
  stops_never None failure cursor namespace stops = stops
  stops_never (Some before) failure cursor namespace stops = stops

  pub no_more_pages : (pages : List Page) (cursor : ℤ) (namespace : Namespace) → AnswersBulk batch pages (Ok (Further cursor namespace)) → length pages ≤ length batch.ops + 1
  no_more_pages [] cursor namespace answers = absurd answers
  no_more_pages (Err failure ∷ pages) cursor namespace answers = absurd (stops_never (read_open batch pages) failure cursor namespace answers)
  no_more_pages (Ok reply ∷ []) cursor namespace answers = omega arith
  no_more_pages (Ok reply ∷ earlier ∷ pages) cursor namespace answers =
      behind_few reply (earlier ∷ pages) (read_open batch (earlier ∷ pages)) (read_so_far (earlier ∷ pages)) cursor namespace answers
