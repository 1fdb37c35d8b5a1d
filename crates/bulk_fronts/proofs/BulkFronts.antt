-- How many ops of a bulk write a build takes, as one op more joins a front, and where it stops.
use Rattle.std.proofs.Common.{◌≡◌, ℕ, zero, suc, ◌+◌, ◌<◌, ◌≤◌, All, List, [], ◌∷◌, ◌++◌, drop, get_or, length, length-take-le, map, sum_by, take, take-append-drop, take-take, refl, sym, ap, ◌∙◌, arith}
use Rattle.std.specs.Prelude.{Option, None, Some}
use Rattle.std.proofs.lemmas.List.{length-map, map-append, map_more}
use Rattle.std.proofs.lemmas.List.Elements.{All-more, All-tail}
use Rattle.std.proofs.lemmas.List.Sums.{sum_by-append, sum_by_more, sum_by_push}
use Rattle.driver_error.specs.declared.error.Error.{Error}
use Rattle.driver_error.specs.declared.kind.ErrorKind.TheVariants as kind
use Rattle.driver_error.specs.Error.{kind_of}
use Rattle.driver_batches.specs.declared.sizes.Limits.{Limits}
use Rattle.driver_ops.specs.Operations.{IsFixed}
use Rattle.bulk_fronts.specs.declared.own_op.OwnOp.{OwnOp}
use Rattle.bulk_fronts.specs.declared.own_op.SizedOp.{SizedOp}
use Rattle.bulk_fronts.specs.BulkFronts.{FitsOps, IsOpFront, RefusesOps, TakesOps, bytes_of, described_size, op_text, sized, sized_namespaces, sized_ops}
use Rattle.bulk_fronts.specs.BulkWrites.{op_namespaces}
use Rattle.bulk_fronts.specs.Distinct.{distinct, distinct_with, number_in, with_text}
use Rattle.bulk_fronts.specs.inside.BulkFronts.{StopsAtOp, added_bytes}
use Rattle.bulk_fronts.proofs.Distinct.{distinct_join, distinct_push, joins_new, stays_known, sum_grows}

-- the text of an op's namespace
abbrev text_of : SizedOp → List ℕ
text_of op = op.namespace

-- the size of an op
abbrev size_of : SizedOp → ℕ
size_of op = op.size

-- there are as many sized ops as ops
pub length_sized : (ops : List OwnOp) → length (sized_ops ops) ≡ length ops
length_sized ops = length-map ops sized

-- the op at a place, sized
sized_at : (ops : List OwnOp) (i : ℕ) (own : OwnOp) → i < length ops → own ≡ get_or ops i own → get_or (sized_ops ops) i (sized own) ≡ sized own
sized_at ops i own within read = found_at ops i own within ∙ ap sized (sym read)
  where
    found_at : (ops : List OwnOp) (i : ℕ) (own : OwnOp) → i < length ops → get_or (sized_ops ops) i (sized own) ≡ sized (get_or ops i own)
    found_at [] i own within = absurd (omega (arith, within))
    found_at (one ∷ ops) zero own within = refl
    found_at (one ∷ ops) (suc i) own within = found_at ops i own (omega (arith, within))

-- the namespaces of one op more
namespaces_more : (ops : List OwnOp) (i : ℕ) (own : OwnOp) → i < length ops → own ≡ get_or ops i own
    → sized_namespaces (take (i + 1) (sized_ops ops)) ≡ with_text (sized_namespaces (take i (sized_ops ops))) own.namespace
namespaces_more ops i own within read =
    let inside : i < length (sized_ops ops) = omega (arith, within, length_sized ops) in
    ap distinct (map_more text_of (sized_ops ops) i (sized own) inside ∙ ap (λ (op : SizedOp). map text_of (take i (sized_ops ops)) ++ text_of op ∷ []) (sized_at ops i own within read))
    ∙ distinct_push [] (map text_of (take i (sized_ops ops))) own.namespace

-- the bytes of the documents of namespaces that a text joins
described_more : (texts : List (List ℕ)) (own : OwnOp) (number : Option ℕ) → number ≡ number_in texts own.namespace
    → sum_by described_size (with_text texts own.namespace) + length own.bytes ≡ sum_by described_size texts + added_bytes number own
described_more texts own None is = omega (arith, ap (sum_by described_size) (joins_new texts own.namespace (sym is)), sum_by_push described_size texts own.namespace)
described_more texts own (Some number) is = omega (arith, ap (sum_by described_size) (stays_known texts own.namespace number (sym is)))

-- the bytes of one op more
pub bytes_more : (ops : List OwnOp) (i : ℕ) (own : OwnOp) (number : Option ℕ) → i < length ops → own ≡ get_or ops i own → number ≡ number_in (sized_namespaces (take i (sized_ops ops))) own.namespace
    → bytes_of (take (i + 1) (sized_ops ops)) ≡ bytes_of (take i (sized_ops ops)) + added_bytes number own
bytes_more ops i own number within read is =
    let inside : i < length (sized_ops ops) = omega (arith, within, length_sized ops) in
    let size_is : size_of (get_or (sized_ops ops) i (sized own)) ≡ length own.bytes = ap size_of (sized_at ops i own within read) in
    let sizes : sum_by size_of (take (i + 1) (sized_ops ops)) ≡ sum_by size_of (take i (sized_ops ops)) + size_of (get_or (sized_ops ops) i (sized own)) = sum_by_more size_of (sized_ops ops) i (sized own) inside in
    let names : sum_by described_size (sized_namespaces (take (i + 1) (sized_ops ops))) ≡ sum_by described_size (with_text (sized_namespaces (take i (sized_ops ops))) own.namespace) =
    ap (sum_by described_size) (namespaces_more ops i own within read) in
    omega (arith, size_is, sizes, names, described_more (sized_namespaces (take i (sized_ops ops))) own number is)

-- the namespaces of sized ops are those of the ops
same_texts : (ops : List OwnOp) (i : ℕ) → map text_of (take i (sized_ops ops)) ≡ map (λ (own : OwnOp). own.namespace) (take i ops)
same_texts ops zero = refl
same_texts [] (suc i) = refl
same_texts (own ∷ ops) (suc i) = ap (λ (texts : List (List ℕ)). own.namespace ∷ texts) (same_texts ops i)

pub same_namespaces : (ops : List OwnOp) (i : ℕ) → sized_namespaces (take i (sized_ops ops)) ≡ op_namespaces (take i ops)
same_namespaces ops i = ap distinct (same_texts ops i)

-- a run goes out with one op more where that fits
pub fits_more : (limits : Limits) (ops : List OwnOp) (i total sum : ℕ) (own : OwnOp) (number : Option ℕ) → i < length ops → own ≡ get_or ops i own
    → number ≡ number_in (sized_namespaces (take i (sized_ops ops))) own.namespace → FitsOps limits (take i (sized_ops ops)) → total ≡ bytes_of (take i (sized_ops ops))
    → sum ≡ total + added_bytes number own → i < limits.items → 0 < limits.each → sum ≤ limits.bytes
    → FitsOps limits (take (i + 1) (sized_ops ops)) × (sum ≡ bytes_of (take (i + 1) (sized_ops ops)))
fits_more limits ops i total sum own number within read is fits summed added room some few =
    let inside : i < length (sized_ops ops) = omega (arith, within, length_sized ops) in
    let count : length (take (i + 1) (sized_ops ops)) ≡ i + 1 = length-take-le (i + 1) (sized_ops ops) (omega (arith, inside)) in
    let more : bytes_of (take (i + 1) (sized_ops ops)) ≡ bytes_of (take i (sized_ops ops)) + added_bytes number own = bytes_more ops i own number within read is in (
      record {
        items = omega (arith, count, room);
        each = All-more (λ (op : SizedOp). 0 < limits.each) (sized_ops ops) i (sized own) inside fits.each some;
        bytes = omega (arith, more, added, summed, few);
      },
      omega (arith, more, added, summed),
    )

-- no run fits: with none of its ops
pub fits_none : (limits : Limits) → FitsOps limits []
unfolding distinct_with
fits_none limits = record { items = omega arith; each = λ i d l. absurd (omega (arith, l)); bytes = omega arith }

-- the bytes of a front are no more than those of the list
pub bytes_front : (front rest : List SizedOp) → bytes_of front ≤ bytes_of (front ++ rest)
bytes_front front rest =
    let sizes : sum_by size_of (front ++ rest) ≡ sum_by size_of front + sum_by size_of rest = sum_by-append size_of front rest in
    let names : sum_by described_size (sized_namespaces (front ++ rest)) ≡ sum_by described_size (distinct_with (sized_namespaces front) (map text_of rest)) =
    ap (sum_by described_size) (ap distinct (map-append text_of front rest) ∙ distinct_join [] (map text_of front) (map text_of rest)) in
    omega (arith, sizes, names, sum_grows described_size (sized_namespaces front) (map text_of rest))

-- a shorter front has no more bytes
bytes_shorter : (ops : List SizedOp) (few many : ℕ) → few ≤ many → bytes_of (take few ops) ≤ bytes_of (take many ops)
bytes_shorter ops few many less =
    let front : take few (take many ops) ≡ take few ops = take-take few many ops less in
    let whole : take few (take many ops) ++ drop few (take many ops) ≡ take many ops = take-append-drop few (take many ops) in
    omega (arith, bytes_front (take few (take many ops)) (drop few (take many ops)), ap bytes_of front, ap bytes_of whole)

-- where one op more does not fit no longer front does
pub longest_here : (limits : Limits) (ops : List OwnOp) (i total : ℕ) (own : OwnOp) (number : Option ℕ) → i < length ops → own ≡ get_or ops i own
    → number ≡ number_in (sized_namespaces (take i (sized_ops ops))) own.namespace → FitsOps limits (take i (sized_ops ops)) → total ≡ bytes_of (take i (sized_ops ops))
    → (i < limits.items → 0 < limits.each → total + added_bytes number own ≤ limits.bytes → ⊥) → IsOpFront limits ops i
longest_here limits ops i total own number within read is fits summed none = record {
  within = omega (arith, within, length_sized ops);
  fits = fits;
  longest = λ longer more inside fit.
      let count : length (take longer (sized_ops ops)) ≡ longer = length-take-le longer (sized_ops ops) inside in
      let few : length (take longer (sized_ops ops)) ≤ limits.items = fit.items in
      let room : i < limits.items = omega (arith, count, few, more) in
      let some : 0 < limits.each = first_of (sized own) (take longer (sized_ops ops)) (omega (arith, count, more)) fit.each in
      let next : bytes_of (take (i + 1) (sized_ops ops)) ≡ bytes_of (take i (sized_ops ops)) + added_bytes number own = bytes_more ops i own number within read is in
      let shorter : bytes_of (take (i + 1) (sized_ops ops)) ≤ bytes_of (take longer (sized_ops ops)) = bytes_shorter (sized_ops ops) (i + 1) longer (omega (arith, more)) in
      let most : bytes_of (take longer (sized_ops ops)) ≤ limits.bytes = fit.bytes in
      none room some (omega (arith, next, shorter, most, summed));
}
  where
    first_of : (d : SizedOp) (run : List SizedOp) → 0 < length run → All (λ (op : SizedOp). 0 < limits.each) run → 0 < limits.each
    first_of d run some each = each 0 d some

-- where each of them went out the whole list is the longest front
pub longest_all : (limits : Limits) (ops : List OwnOp) (i : ℕ) → length ops ≤ i → i ≤ length ops → FitsOps limits (take i (sized_ops ops)) → IsOpFront limits ops i
longest_all limits ops i past within fits = record {
  within = omega (arith, within, length_sized ops);
  fits = fits;
  longest = λ longer more inside fit. omega (arith, more, inside, past, length_sized ops);
}

-- what is left of a run still fits when the first op goes
pub ops_keep : (limits : Limits) (op : SizedOp) (rest : List SizedOp) → FitsOps limits (op ∷ rest) → bytes_of rest ≤ bytes_of (op ∷ rest) → FitsOps limits rest
ops_keep limits op rest fits fewer = record {
  items = omega (arith, fits.items);
  each = All-tail (λ (one : SizedOp). 0 < limits.each) op rest fits.each;
  bytes = omega (arith, fits.bytes, fewer);
}

-- what a build takes may be in the command, by what is fixed
pub ops_fixed_by : (limits : Limits) (ops : List OwnOp) (fixed : Option ℕ) (statements : ℕ) → TakesOps limits ops fixed statements → IsFixed fixed statements
ops_fixed_by limits ops None statements takes = tt
ops_fixed_by limits ops (Some fixed) statements takes = sym takes.0

-- the error about the op that does not go out is what a build is refused with
pub refuses_ops : (limits : Limits) (first : ℕ) (ops : List OwnOp) (fixed : Option ℕ) (at : ℕ) (error : Error) → StopsAtOp limits ops fixed at
    → kind_of error ≡ kind.InvalidArgument (op_text (first + at)) → RefusesOps limits first ops fixed error
refuses_ops limits first ops None at error stops told =
    (stops.1, told ∙ ap (λ place. kind.InvalidArgument (op_text place)) (nothing_more first at stops.0))
  where
    nothing_more : (first at : ℕ) → at ≡ 0 → first + at ≡ first
    nothing_more first at is = omega (arith, is)
refuses_ops limits first ops (Some fixed) at error stops told = (at, stops.0, stops.1, told)
