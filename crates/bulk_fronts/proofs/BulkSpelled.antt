-- A front of ops in bytes, with the documents of their namespaces, as one op more joins it.
use Rattle.std.proofs.Common.{◌≡◌, ℕ, ◌+◌, ◌<◌, ◌≤◌, Bool, true, false, List, [], ◌∷◌, ◌++◌, append-nil, append_assoc, bytes_eq, get_or, length, length-append, length-take-le, map, take, refl, sym, ap, subst, ◌∙◌, arith}
use Rattle.std.specs.Prelude.{Option, None, Some, unwrap_or, if◌then◌else◌}
use Rattle.std.specs.Map.{update}
use Rattle.std.proofs.lemmas.List.{length-map, map_more, map_push}
use Rattle.bson_lite.specs.Spelling.{HasSpelling, spelling}
use Rattle.bson_lite.proofs.Numbers.{bytes_eq-same}
use Rattle.bulk_fronts.specs.declared.bulk_front.OpFront.{OpFront}
use Rattle.bulk_fronts.specs.declared.own_op.OwnOp.{OwnOp}
use Rattle.bulk_fronts.specs.BulkOps.{namespace_document, numbered}
use Rattle.bulk_fronts.specs.BulkWrites.{AreDescribed, described, numbered_ops, op_namespaces}
use Rattle.bulk_fronts.specs.Distinct.{distinct, distinct_with, number_in, number_of, with_text, with_text_by}
use Rattle.bulk_fronts.specs.inside.BulkFronts.{FindsNumbers, IsSpelled, NumbersOp, PushesOp}
use Rattle.bulk_fronts.proofs.Distinct.{at_end, distinct_push, finds_more, in_longer, joins_new, number_below, stays_known}

-- the text of an op's namespace
abbrev text_of : OwnOp → List ℕ
text_of own = own.namespace

-- texts go on as they begin
record GoesOn (texts all : List (List ℕ)) : Type 0 where
  extra : List (List ℕ)
  is : all ≡ texts ++ extra

goes_on_by : (found : Option ℕ) (texts : List (List ℕ)) (text : List ℕ) → GoesOn texts (with_text_by found texts text)
goes_on_by None texts text = record { extra = text ∷ []; is = refl }
goes_on_by (Some number) texts text = record { extra = []; is = sym (append-nil texts) }

goes_on : (texts rest : List (List ℕ)) → GoesOn texts (distinct_with texts rest)
unfolding distinct_with with_text
goes_on texts [] = record { extra = []; is = sym (append-nil texts) }
goes_on texts (text ∷ rest) =
    let first = goes_on_by (number_in texts text) texts text in
    let later = goes_on (with_text_by (number_in texts text) texts text) rest in
    record {
      extra = first.extra ++ later.extra;
      is = later.is ∙ ap (λ known. known ++ later.extra) first.is ∙ append_assoc texts first.extra later.extra;
    }

-- a text has a number
abbrev pub HasNumber : List (List ℕ) → List ℕ → Type 0
HasNumber texts text = (number : ℕ) × (number_in texts text ≡ Some number)

-- a text that joins has one
last_number : (same : Bool) (count : ℕ) → same ≡ true → (if same then Some count else None) ≡ Some count
last_number true count is = refl
last_number false count is = cc is

joined_by : (texts : List (List ℕ)) (text : List ℕ) (found : Option ℕ) → number_in texts text ≡ found → HasNumber (with_text_by found texts text) text
joined_by texts text None is = (length texts, at_end texts text text is ∙ last_number (bytes_eq text text) (length texts) (bytes_eq-same text))
joined_by texts text (Some number) is = (number, is)

-- and keeps it
number_later : (texts all : List (List ℕ)) (text : List ℕ) → GoesOn texts all → HasNumber texts text → HasNumber all text
number_later texts all text goes has =
    (has.0, ap (λ known. number_in known text) goes.is ∙ in_longer texts goes.extra text has.0 has.1)

-- each op's namespace has a number
abbrev pub AreKnown : List (List ℕ) → List OwnOp → Type 0
AreKnown texts [] = Unit {0}
AreKnown texts (own ∷ ops) = HasNumber texts own.namespace × AreKnown texts ops

-- among those of all ops each has one
known_with : (texts : List (List ℕ)) (ops : List OwnOp) → AreKnown (distinct_with texts (map text_of ops)) ops
unfolding distinct_with with_text
known_with texts [] = tt
known_with texts (own ∷ ops) =
    let here = with_text_by (number_in texts own.namespace) texts own.namespace in
    (number_later here (distinct_with here (map text_of ops)) own.namespace (goes_on here (map text_of ops)) (joined_by texts own.namespace (number_in texts own.namespace) refl), known_with here ops)

pub all_known : (ops : List OwnOp) → AreKnown (op_namespaces ops) ops
all_known ops = known_with [] ops

-- a number that is found is that of the text, in a longer list too
same_number : (texts more : List (List ℕ)) (text : List ℕ) → HasNumber texts text → number_of (texts ++ more) text ≡ number_of texts text
same_number texts more text has =
    ap (λ (found : Option ℕ). unwrap_or found (length (texts ++ more))) (in_longer texts more text has.0 has.1)
    ∙ sym (ap (λ (found : Option ℕ). unwrap_or found (length texts)) has.1)

-- so ops have the same bytes by a longer list
numbered_longer : (texts more : List (List ℕ)) (ops : List OwnOp) → AreKnown texts ops → numbered_ops (texts ++ more) ops ≡ numbered_ops texts ops
numbered_longer texts more [] known = refl
numbered_longer texts more (own ∷ ops) known =
    ap (λ (number : ℕ). numbered number own.bytes ∷ numbered_ops (texts ++ more) ops) (same_number texts more own.namespace known.0)
    ∙ ap (λ (rest : List (List ℕ)). numbered (number_of texts own.namespace) own.bytes ∷ rest) (numbered_longer texts more ops known.1)

-- the namespaces of one op more
pub op_namespaces_more : (ops : List OwnOp) (i : ℕ) (own : OwnOp) → i < length ops → own ≡ get_or ops i own
    → op_namespaces (take (i + 1) ops) ≡ with_text (op_namespaces (take i ops)) own.namespace
op_namespaces_more ops i own within read =
    ap distinct (map_more text_of ops i own within ∙ ap (λ (one : OwnOp). map text_of (take i ops) ++ text_of one ∷ []) (sym read))
    ∙ distinct_push [] (map text_of (take i ops)) own.namespace

-- the bytes of one op more by texts
numbered_more : (texts : List (List ℕ)) (ops : List OwnOp) (i : ℕ) (own : OwnOp) → i < length ops → own ≡ get_or ops i own
    → numbered_ops texts (take (i + 1) ops) ≡ numbered_ops texts (take i ops) ++ numbered (number_of texts own.namespace) own.bytes ∷ []
numbered_more texts ops i own within read =
    map_more (λ (one : OwnOp). numbered (number_of texts one.namespace) one.bytes) ops i own within
    ∙ ap (λ (one : OwnOp). numbered_ops texts (take i ops) ++ numbered (number_of texts one.namespace) one.bytes ∷ []) (sym read)

-- a text more can be described
described_push : (texts : List (List ℕ)) (text : List ℕ) → AreDescribed texts → HasSpelling (namespace_document text) → AreDescribed (texts ++ text ∷ [])
described_push [] text all has = (has, tt)
described_push (other ∷ texts) text all has = (all.0, described_push texts text all.1 has)

-- one op more in bytes
pub record IsMore (ops : List OwnOp) (i : ℕ) (new : OpFront) (found_now : List ℕ → Option ℕ) : Type 0 where
  pub spelled : IsSpelled (take (i + 1) ops) new
  pub finds : FindsNumbers found_now (op_namespaces (take (i + 1) ops))

-- the count of one op more
count_more : (ops : List OwnOp) (i old new : ℕ) → i < length ops → old ≡ length (take i ops) → new ≡ old + 1 → new ≡ length (take (i + 1) ops)
count_more ops i old new within was more =
    let before : length (take i ops) ≡ i = length-take-le i ops (omega (arith, within)) in
    let now : length (take (i + 1) ops) ≡ i + 1 = length-take-le (i + 1) ops (omega (arith, within)) in
    omega (arith, before, now, was, more)

module _ (ops : List OwnOp) (i : ℕ) (own : OwnOp) (within : i < length ops) (read : own ≡ get_or ops i own) (old mid new : OpFront) (found found_now : List ℕ → Option ℕ) (given : ℕ)
    (spelled : IsSpelled (take i ops) old) (finds : FindsNumbers found (op_namespaces (take i ops))) (pushes : PushesOp own given mid new) where
  abbrev texts : List (List ℕ)
  texts = op_namespaces (take i ops)

  -- its namespace has a number
  known_joins : (number : ℕ) → number_in texts own.namespace ≡ Some number → (given ≡ number) × (mid ≡ old) × ((text : List ℕ) → found_now text ≡ found text) → IsMore ops i new found_now
  known_joins number is numbers =
      let same : op_namespaces (take (i + 1) ops) ≡ texts = op_namespaces_more ops i own within read ∙ stays_known texts own.namespace number is in
      let below : number < length texts = number_below texts own.namespace number is in
      let number_is : number_of texts own.namespace ≡ given = ap (λ (known : Option ℕ). unwrap_or known (length texts)) is ∙ sym numbers.0 in
      record {
        spelled = record {
          count = count_more ops i (length old.ops) (length new.ops) within spelled.count (pushes.more ∙ ap (λ (front : OpFront). length front.ops + 1) numbers.1);
          namespaces = pushes.namespaces ∙ ap (λ (front : OpFront). front.namespaces) numbers.1 ∙ spelled.namespaces ∙ ap described (sym same);
          described = subst AreDescribed (sym same) spelled.described;
          numbered = λ few.
              let room : length texts ≤ 2147483648 = subst (λ all. length all ≤ 2147483648) same few in
              pushes.ops (omega (arith, below, numbers.0, room))
              ∙ ap (λ (front : OpFront). front.ops ++ numbered given own.bytes ∷ []) numbers.1
              ∙ ap (λ all. all ++ numbered given own.bytes ∷ []) (spelled.numbered room)
              ∙ ap (λ (n : ℕ). numbered_ops texts (take i ops) ++ numbered n own.bytes ∷ []) (sym number_is)
              ∙ sym (numbered_more texts ops i own within read)
              ∙ ap (λ all. numbered_ops all (take (i + 1) ops)) (sym same);
        };
        finds = subst (FindsNumbers found_now) (sym same) (λ text. numbers.2 text ∙ finds text);
      }

  -- its namespace gets the next one
  new_joins : number_in texts own.namespace ≡ None → NumbersOp None own old mid found found_now given → IsMore ops i new found_now
  new_joins is numbers =
      let longer : op_namespaces (take (i + 1) ops) ≡ texts ++ own.namespace ∷ [] = op_namespaces_more ops i own within read ∙ joins_new texts own.namespace is in
      let count : given ≡ length texts = numbers.next ∙ ap length spelled.namespaces ∙ length-map texts (λ text. spelling (namespace_document text)) in
      let last : number_in (texts ++ own.namespace ∷ []) own.namespace ≡ Some (length texts) =
      at_end texts own.namespace own.namespace is ∙ last_number (bytes_eq own.namespace own.namespace) (length texts) (bytes_eq-same own.namespace) in
      let number_is : number_of (texts ++ own.namespace ∷ []) own.namespace ≡ given = ap (λ (known : Option ℕ). unwrap_or known (length (texts ++ own.namespace ∷ []))) last ∙ sym count in
      let more : length (texts ++ own.namespace ∷ []) ≡ length texts + 1 = length-append texts (own.namespace ∷ []) in
      record {
        spelled = record {
          count = count_more ops i (length old.ops) (length new.ops) within spelled.count (pushes.more ∙ ap (λ all. length all + 1) numbers.ops);
          namespaces = pushes.namespaces ∙ numbers.namespaces ∙ ap (λ all. all ++ spelling (namespace_document own.namespace) ∷ []) spelled.namespaces
              ∙ sym (map_push (λ text. spelling (namespace_document text)) texts own.namespace) ∙ ap described (sym longer);
          described = subst AreDescribed (sym longer) (described_push texts own.namespace spelled.described numbers.spelled);
          numbered = λ few.
              let room : length (texts ++ own.namespace ∷ []) ≤ 2147483648 = subst (λ all. length all ≤ 2147483648) longer few in
              pushes.ops (omega (arith, count, more, room))
              ∙ ap (λ all. all ++ numbered given own.bytes ∷ []) (numbers.ops ∙ spelled.numbered (omega (arith, more, room)) ∙ sym (numbered_longer texts (own.namespace ∷ []) (take i ops) (all_known (take i ops))))
              ∙ ap (λ (n : ℕ). numbered_ops (texts ++ own.namespace ∷ []) (take i ops) ++ numbered n own.bytes ∷ []) (sym number_is)
              ∙ sym (numbered_more (texts ++ own.namespace ∷ []) ops i own within read)
              ∙ ap (λ all. numbered_ops all (take (i + 1) ops)) (sym longer);
        };
        finds = subst (FindsNumbers found_now) (sym longer) (finds_more found found_now texts own.namespace finds is
            (λ text. numbers.finds text ∙ ap (λ (n : ℕ). update bytes_eq found own.namespace (Some n) text) count));
      }

  -- so one op more is spelled
  pub joins : (number : Option ℕ) → number ≡ number_in texts own.namespace → NumbersOp number own old mid found found_now given → IsMore ops i new found_now
  joins None is numbers = new_joins (sym is) numbers
  joins (Some number) is numbers = known_joins number (sym is) numbers

-- no op is spelled at the beginning
pub spelled_none : (ops : List OwnOp) (front : OpFront) → front.namespaces ≡ [] → front.ops ≡ [] → IsSpelled (take 0 ops) front
unfolding distinct_with
spelled_none ops front namespaces none = record { count = ap length none; namespaces = namespaces; described = tt; numbered = λ few. none }
