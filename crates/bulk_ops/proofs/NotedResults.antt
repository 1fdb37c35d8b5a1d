-- What is noted of the results of a bulk write, result by result: which ops have one, the highest of them, and which of them failed.
use Rattle.std.proofs.Common.{◌≡◌, ℕ, zero, suc, ◌+◌, ◌-◌, ◌<◌, ◌≤◌, ◌==◌, Bool, true, false, not, cond, ◌&&◌, ◌||◌, nat_eq, nat_le, nat_lt, List, [], ◌∷◌, ◌++◌, length, take, take-suc, take_all, take-append-drop, drop, get_or, append_assoc, arith, refl, sym, ap, subst, ◌∙◌, inl, inr, ltb-true, ltb-false, le-leb, leb-true, lt-ltb, le-ltb, eqb-true, eq-eqb, ne_eqb, Vec}
use Rattle.std.specs.Prelude.{Option, None, Some}
use Rattle.std.specs.declared.alloc.Global.{Global}
use Rattle.std.specs.List.{list_all, list_any}
use Rattle.std.proofs.lemmas.Bool.{and_parts, or_parts}
use Rattle.std.proofs.lemmas.List.{append-nil}
use Rattle.std.proofs.lemmas.List.Folds.{list_all-append, list_any-append}
use Rattle.driver_ops.proofs.Indexes.{not_back}
use Rattle.bulk_ops.specs.declared.bulk_reply.OpOutcome.{OpOutcome}
use Rattle.bulk_ops.specs.declared.bulk_reply.OpOutcome.TheVariants as came
use Rattle.bulk_ops.specs.declared.bulk_reply.OpResult.{OpResult}
use Rattle.bulk_ops.specs.declared.bulk_results.FailedOps.{FailedOps}
use Rattle.bulk_ops.specs.declared.bulk_results.FailedOps.TheVariants as failed
use Rattle.bulk_ops.specs.declared.bulk_results.SeenResults.{SeenResults}
use Rattle.bulk_ops.specs.BulkRules.{are_apart, are_placed, are_within, failed_indexes, has_failed_outcome, is_failure, is_of, is_seen, with_failed}
use Rattle.bulk_ops.specs.inside.BulkResults.{IsSeen, NotesPlaced, NotesResults, failed_told, has_seen, higher, left_of, noted_with, one_error_less, one_more_failed, within}
use Rattle.bulk_ops.specs.inside.SeenFlags.{flag_at}

-- a test and nothing
or_nothing : (a : Bool) → (a || false) ≡ a
or_nothing true = refl
or_nothing false = refl

and_nothing : (a : Bool) → (a && true) ≡ a
and_nothing true = refl
and_nothing false = refl

-- one of two tests
one_of : (a b : Bool) → cond a true b ≡ (b || a)
one_of true true = refl
one_of true false = refl
one_of false true = refl
one_of false false = refl

-- the ops that have a result, with one more
seen_more : (earlier : List OpResult) (told : OpResult) (index : ℕ) → is_seen (earlier ++ told ∷ []) index ≡ (is_seen earlier index || is_of index told)
seen_more earlier told index =
    list_any-append (is_of index) earlier (told ∷ []) ∙ ap (λ (b : Bool). is_seen earlier index || b) (or_nothing (is_of index told))

-- each of them is of the batch
within_more : (ops : ℕ) (earlier : List OpResult) (told : OpResult) → are_within ops (earlier ++ told ∷ []) ≡ (are_within ops earlier && nat_lt told.index ops)
within_more ops earlier told =
    list_all-append (λ (result : OpResult). nat_lt result.index ops) earlier (told ∷ [])
    ∙ ap (λ (b : Bool). are_within ops earlier && b) (and_nothing (nat_lt told.index ops))

-- two numbers that differ differ the other way round
differ_back : (a b : ℕ) → (a == b) ≡ false → (b == a) ≡ false
differ_back a b differ = ne_eqb b a (λ same. both (a == b) (eq-eqb a b (sym same)) differ)
  where
    both : (t : Bool) → t ≡ true → t ≡ false → ⊥
    both true is it = let e : ◌≡◌ {A = Bool} true false = it in cc
    both false is it = let e : ◌≡◌ {A = Bool} false true = is in cc

-- a result of an op that has none stands apart from the others
apart_more : (earlier : List OpResult) (told : OpResult) → are_apart earlier ≡ true → is_seen earlier told.index ≡ false → are_apart (earlier ++ told ∷ []) ≡ true
unfolding are_apart
apart_more [] told apart new = refl
apart_more (first ∷ earlier) told apart new =
    let parts = and_parts (not (is_seen earlier first.index)) (are_apart earlier) apart in
    let news = or_parts (first.index == told.index) (is_seen earlier told.index) new in
    rw (seen_more earlier told first.index, not_seen (is_seen earlier first.index) parts.0, differ_back first.index told.index news.0, apart_more earlier told parts.1 news.1) refl
  where
    not_seen : (b : Bool) → not b ≡ true → b ≡ false
    not_seen true is = let e : ◌≡◌ {A = Bool} false true = is in cc
    not_seen false is = refl

-- one of an op that has one does not
apart_repeats : (earlier : List OpResult) (told : OpResult) → is_seen earlier told.index ≡ true → are_apart (earlier ++ told ∷ []) ≡ false
unfolding are_apart
apart_repeats [] told again = absurd (let e : ◌≡◌ {A = Bool} false true = again in cc)
apart_repeats (first ∷ earlier) told again = by_first (first.index == told.index) refl (apart_repeats earlier told) again
  where
    and_false : (a : Bool) → (a && false) ≡ false
    and_false true = refl
    and_false false = refl

    or_true : (a : Bool) → (a || true) ≡ true
    or_true true = refl
    or_true false = refl

    by_first : (same : Bool) → (first.index == told.index) ≡ same → (is_seen earlier told.index ≡ true → are_apart (earlier ++ told ∷ []) ≡ false) → (same || is_seen earlier told.index) ≡ true
        → (not (is_seen (earlier ++ told ∷ []) first.index) && are_apart (earlier ++ told ∷ [])) ≡ false
    by_first true same rest again =
        let here : is_of first.index told ≡ true = eq-eqb told.index first.index (sym (eqb-true first.index told.index same)) in
        rw (seen_more earlier told first.index, here, or_true (is_seen earlier first.index)) refl
    by_first false same rest again = rw (rest again) (and_false (not (is_seen (earlier ++ told ∷ []) first.index)))

-- a result of no op of the batch, and one of an op that has one, is misplaced
pub beyond_is_misplaced : (ops : ℕ) (earlier : List OpResult) (told : OpResult) → ops ≤ told.index → are_placed ops (earlier ++ told ∷ []) ≡ false
beyond_is_misplaced ops earlier told beyond = rw (within_more ops earlier told, le-ltb told.index ops beyond) (no_more (are_within ops earlier) (are_apart (earlier ++ told ∷ [])))
  where
    no_more : (a b : Bool) → ((a && false) && b) ≡ false
    no_more true b = refl
    no_more false b = refl

pub again_is_misplaced : (ops : ℕ) (earlier : List OpResult) (told : OpResult) → is_seen earlier told.index ≡ true → are_placed ops (earlier ++ told ∷ []) ≡ false
again_is_misplaced ops earlier told again = rw (apart_repeats earlier told again) (and_false (are_within ops (earlier ++ told ∷ [])))
  where
    and_false : (a : Bool) → (a && false) ≡ false
    and_false true = refl
    and_false false = refl

-- one more is placed
placed_more : (ops : ℕ) (earlier : List OpResult) (told : OpResult) → are_placed ops earlier ≡ true → told.index < ops → is_seen earlier told.index ≡ false
    → are_placed ops (earlier ++ told ∷ []) ≡ true
placed_more ops earlier told placed below new =
    let parts = and_parts (are_within ops earlier) (are_apart earlier) placed in
    rw (within_more ops earlier told, parts.0, lt-ltb told.index ops below, apart_more earlier told parts.1 new) refl

-- the front of what is placed is placed
within_front : (ops : ℕ) (front rest : List OpResult) → are_within ops (front ++ rest) ≡ true → are_within ops front ≡ true
within_front ops front rest is =
    (and_parts (are_within ops front) (are_within ops rest) (sym (list_all-append (λ (result : OpResult). nat_lt result.index ops) front rest) ∙ is)).0

apart_front : (front rest : List OpResult) → are_apart (front ++ rest) ≡ true → are_apart front ≡ true
unfolding are_apart
apart_front [] rest is = refl
apart_front (first ∷ front) rest is =
    let parts = and_parts (not (is_seen (front ++ rest) first.index)) (are_apart (front ++ rest)) is in
    rw (not_any (is_seen front first.index) (is_seen rest first.index) (ap not (sym (list_any-append (is_of first.index) front rest)) ∙ parts.0), apart_front front rest parts.1) refl
  where
    not_any : (a b : Bool) → not (a || b) ≡ true → a ≡ false
    not_any true b is = let e : ◌≡◌ {A = Bool} false true = is in cc
    not_any false b is = refl

pub placed_front : (ops : ℕ) (front rest : List OpResult) → are_placed ops (front ++ rest) ≡ true → are_placed ops front ≡ true
placed_front ops front rest is =
    let parts = and_parts (are_within ops (front ++ rest)) (are_apart (front ++ rest)) is in
    rw (within_front ops front rest parts.0, apart_front front rest parts.1) refl

-- so what is misplaced at its front is misplaced
pub misplaced_whole : (ops : ℕ) (front rest : List OpResult) → are_placed ops front ≡ false → are_placed ops (front ++ rest) ≡ false
misplaced_whole ops front rest front_is = by_whole (are_placed ops (front ++ rest)) refl
  where
    by_whole : (placed : Bool) → are_placed ops (front ++ rest) ≡ placed → placed ≡ false
    by_whole true whole = absurd (let e : ◌≡◌ {A = Bool} true false = sym (placed_front ops front rest whole) ∙ front_is in cc)
    by_whole false whole = refl

-- the higher of two indexes is within a bound where both are
both_below : (low high index : ℕ) → low ≤ high → (nat_le high index && nat_le low index) ≡ nat_le high index
both_below low high index order =
    elim (nat_le high index) as (λ (b : Bool). nat_le high index ≡ b → (b && nat_le low index) ≡ b) [
      | true ↦ λ is. (let below = leb-true high index is in le-leb low index (omega (arith, below)))
      | false ↦ λ is. refl
    ] refl

below_both : (low high index : ℕ) → low ≤ high → (nat_le low index && nat_le high index) ≡ nat_le high index
below_both low high index order = swap_and (nat_le low index) (nat_le high index) ∙ both_below low high index order
  where
    swap_and : (a b : Bool) → (a && b) ≡ (b && a)
    swap_and true true = refl
    swap_and true false = refl
    swap_and false true = refl
    swap_and false false = refl

higher_within : (highest : Option ℕ) (index bound : ℕ) → (within highest bound && nat_le index bound) ≡ within (Some (higher highest index)) bound
higher_within None index bound = refl
higher_within (Some highest) index bound =
    elim (nat_lt index highest)
    as (λ (b : Bool). nat_lt index highest ≡ b → (nat_le highest bound && nat_le index bound) ≡ nat_le (cond b highest index) bound) [
      | true ↦ λ is. (let below = ltb-true index highest is in both_below index highest bound (omega (arith, below)))
      | false ↦ λ is. below_both highest index bound (ltb-false index highest is)
    ] refl

highest_more : (earlier : List OpResult) (told : OpResult) (highest : Option ℕ) → ((index : ℕ) → list_all (λ (result : OpResult). nat_le result.index index) earlier ≡ within highest index)
    → (index : ℕ) → list_all (λ (result : OpResult). nat_le result.index index) (earlier ++ told ∷ []) ≡ within (Some (higher highest told.index)) index
highest_more earlier told highest so_far index =
    list_all-append (λ (result : OpResult). nat_le result.index index) earlier (told ∷ [])
    ∙ ap (λ (b : Bool). list_all (λ (result : OpResult). nat_le result.index index) earlier && b) (and_nothing (nat_le told.index index))
    ∙ ap (λ (b : Bool). b && nat_le told.index index) (so_far index)
    ∙ higher_within highest told.index index

-- the ops that failed, with one result more
failed_more : (earlier : List OpResult) (told : OpResult) → failed_indexes (earlier ++ told ∷ []) ≡ failed_indexes earlier ++ with_failed told []
unfolding failed_indexes
failed_more [] told = refl
failed_more (first ∷ earlier) told = ap (with_failed first) (failed_more earlier told) ∙ moved (is_failure first) (failed_indexes earlier)
  where
    moved : (fails : Bool) (rest : List ℕ) → cond fails (first.index ∷ (rest ++ with_failed told [])) (rest ++ with_failed told []) ≡ cond fails (first.index ∷ rest) rest ++ with_failed told []
    moved true rest = refl
    moved false rest = refl

failed_is : (indexes : List ℕ) (index : ℕ) → one_more_failed (failed_told indexes) index ≡ failed_told (indexes ++ index ∷ [])
failed_is [] index = refl
failed_is (first ∷ []) index = refl
failed_is (first ∷ second ∷ indexes) index = refl

left_is : (counted came : ℕ) → one_error_less (left_of counted came) ≡ left_of counted (came + 1)
left_is counted came =
    elim (nat_lt counted came) as (λ (b : Bool). nat_lt counted came ≡ b → one_error_less (cond b None (Some (counted - came))) ≡ left_of counted (came + 1)) [
      | true ↦ λ is. (let less = ltb-true counted came is in rw (lt-ltb counted (came + 1) (omega (arith, less))) refl)
      | false ↦ λ is. some_left (ltb-false counted came is)
    ] refl
  where
    some_left : came ≤ counted → one_error_less (Some (counted - came)) ≡ left_of counted (came + 1)
    some_left within =
        elim (nat_lt 0 (counted - came)) as (λ (b : Bool). nat_lt 0 (counted - came) ≡ b → cond b (Some (counted - came - 1)) None ≡ left_of counted (came + 1)) [
          | true ↦ λ is. (let some = ltb-true 0 (counted - came) is in
              let less : counted - came - 1 ≡ counted - (came + 1) = omega (arith, some, within) in
              rw (le-ltb counted (came + 1) (omega (arith, some, within)), less) refl)
          | false ↦ λ is. (let none = ltb-false 0 (counted - came) is in rw (lt-ltb counted (came + 1) (omega (arith, none, within))) refl)
        ] refl

-- so a result is noted: one of an op that did not fail
pub noted : (errors ops : ℕ) (earlier : List OpResult) (told : OpResult) (old now : SeenResults) → IsSeen errors earlier old → is_failure told ≡ false
    → ((index : ℕ) → has_seen now index ≡ cond (nat_eq told.index index) true (has_seen old index)) → now.highest ≡ Some (higher old.highest told.index)
    → now.failed ≡ old.failed → now.errors_left ≡ old.errors_left → IsSeen errors (earlier ++ told ∷ []) now
noted errors ops earlier told old now seen counts adds highest_is failed_is_old left_is_old =
    let all : failed_indexes (earlier ++ told ∷ []) ≡ failed_indexes earlier
    = failed_more earlier told ∙ ap (λ (b : Bool). failed_indexes earlier ++ cond b (told.index ∷ []) []) counts ∙ append-nil (failed_indexes earlier) in
    record {
      indexes = λ index. adds index ∙ ap (λ (b : Bool). cond (nat_eq told.index index) true b) (seen.indexes index) ∙ one_of (nat_eq told.index index) (is_seen earlier index) ∙ sym (seen_more earlier told index);
      highest = λ index. highest_more earlier told old.highest seen.highest index ∙ ap (λ (h : Option ℕ). within h index) (sym highest_is);
      failed = failed_is_old ∙ seen.failed ∙ ap failed_told (sym all);
      left = left_is_old ∙ seen.left ∙ ap (λ (indexes : List ℕ). left_of errors (length indexes)) (sym all);
    }

-- and one of an op that failed
pub noted_failure : (errors ops : ℕ) (earlier : List OpResult) (told : OpResult) (old now : SeenResults) → IsSeen errors earlier old → is_failure told ≡ true
    → ((index : ℕ) → has_seen now index ≡ cond (nat_eq told.index index) true (has_seen old index)) → now.highest ≡ Some (higher old.highest told.index)
    → now.failed ≡ one_more_failed old.failed told.index → now.errors_left ≡ one_error_less old.errors_left → IsSeen errors (earlier ++ told ∷ []) now
noted_failure errors ops earlier told old now seen fails adds highest_is failed_is_more left_is_less =
    let all : failed_indexes (earlier ++ told ∷ []) ≡ failed_indexes earlier ++ told.index ∷ []
    = failed_more earlier told ∙ ap (λ (b : Bool). failed_indexes earlier ++ cond b (told.index ∷ []) []) fails in
    record {
      indexes = λ index. adds index ∙ ap (λ (b : Bool). cond (nat_eq told.index index) true b) (seen.indexes index) ∙ one_of (nat_eq told.index index) (is_seen earlier index) ∙ sym (seen_more earlier told index);
      highest = λ index. highest_more earlier told old.highest seen.highest index ∙ ap (λ (h : Option ℕ). within h index) (sym highest_is);
      failed = failed_is_more ∙ ap (λ (f : FailedOps). one_more_failed f told.index) seen.failed ∙ failed_is (failed_indexes earlier) told.index ∙ ap failed_told (sym all);
      left =
          left_is_less ∙ ap one_error_less seen.left ∙ left_is errors (length (failed_indexes earlier))
          ∙ ap (left_of errors) (sym (ap (λ (indexes : List ℕ). length indexes) all ∙ one_longer (failed_indexes earlier) told.index));
    }
  where
    one_longer : (indexes : List ℕ) (index : ℕ) → length (indexes ++ index ∷ []) ≡ length indexes + 1
    one_longer [] index = refl
    one_longer (first ∷ indexes) index = let rest = one_longer indexes index in omega (arith, rest)

-- a result of an op of the batch that had none is noted
module _ (ops : ℕ) (old : SeenResults) (told : OpResult) (flags : Vec Bool Global) (below : told.index < ops) (new : has_seen old told.index ≡ false)
    (adds : (index : ℕ) → flag_at flags.items index ≡ cond (nat_eq told.index index) true (has_seen old index)) where
  placed_one : (errors : ℕ) (earlier : List OpResult) → IsSeen errors earlier old → are_placed ops earlier ≡ true → are_placed ops (earlier ++ told ∷ []) ≡ true
  placed_one errors earlier known placed = placed_more ops earlier told placed below (sym (known.indexes told.index) ∙ new)

  noted_as : (outcome : OpOutcome) → told.outcome ≡ outcome → NotesPlaced ops old (noted_with (record old { flags = flags }) told.index outcome) (told ∷ [])
  noted_as (came.Failed error) at = record {
    within = rw (lt-ltb told.index ops below) refl;
    seen = λ errors earlier known placed.
        noted_failure errors ops earlier told old (noted_with (record old { flags = flags }) told.index (came.Failed error)) known (ap has_failed_outcome at) adds refl refl refl;
    placed = placed_one;
  }
  noted_as (came.Counted n modified upserted) at = record {
    within = rw (lt-ltb told.index ops below) refl;
    seen = λ errors earlier known placed.
        noted errors ops earlier told old (noted_with (record old { flags = flags }) told.index (came.Counted n modified upserted)) known (ap has_failed_outcome at) adds refl refl refl;
    placed = placed_one;
  }

-- what comes of one result, by whether its index was new
pub beyond_noted : (ops : ℕ) (old now : SeenResults) (told : OpResult) → ops ≤ told.index → NotesResults ops old now (told ∷ []) false
beyond_noted ops old now told beyond = λ errors earlier known placed. beyond_is_misplaced ops earlier told beyond

pub again_noted : (ops : ℕ) (old now : SeenResults) (told : OpResult) (is_new : Bool) → is_new ≡ not (has_seen old told.index) → is_new ≡ false
    → NotesResults ops old now (told ∷ []) false
again_noted ops old now told is_new is again =
    λ errors earlier known placed. again_is_misplaced ops earlier told (sym (known.indexes told.index) ∙ not_back (sym is ∙ again))

pub one_noted : (ops : ℕ) (old mid now : SeenResults) (told : OpResult) (flags : Vec Bool Global) (is_new : Bool) → told.index < ops → is_new ≡ not (has_seen old told.index) → is_new ≡ true
    → ((index : ℕ) → flag_at flags.items index ≡ cond (nat_eq told.index index) true (has_seen old index)) → mid ≡ record old { flags = flags }
    → now ≡ noted_with mid told.index told.outcome → NotesResults ops old now (told ∷ []) true
one_noted ops old mid now told flags is_new below is new adds mid_is now_is =
    subst (λ (s : SeenResults). NotesPlaced ops old s (told ∷ [])) (sym (now_is ∙ ap (λ (s : SeenResults). noted_with s told.index told.outcome) mid_is))
    (noted_as ops old told flags below (not_back (sym is ∙ new)) adds told.outcome refl)

-- no result, and one behind others
pub notes_none : (ops : ℕ) (seen : SeenResults) → NotesPlaced ops seen seen []
notes_none ops seen = record {
  within = refl;
  seen = λ errors earlier known placed. subst (λ (all : List OpResult). IsSeen errors all seen) (sym (append-nil earlier)) known;
  placed = λ errors earlier known placed. ap (are_placed ops) (append-nil earlier) ∙ placed;
}

notes_more : (ops : ℕ) (old mid now : SeenResults) (front rest : List OpResult) → NotesPlaced ops old mid front → NotesPlaced ops mid now rest → NotesPlaced ops old now (front ++ rest)
notes_more ops old mid now front rest first second = record {
  within = list_all-append (λ (result : OpResult). nat_lt result.index ops) front rest ∙ ap (λ (b : Bool). b && are_within ops rest) first.within ∙ second.within;
  seen = λ errors earlier known placed.
      subst (λ (all : List OpResult). IsSeen errors all now) (append_assoc earlier front rest)
      (second.seen errors (earlier ++ front) (first.seen errors earlier known placed) (first.placed errors earlier known placed));
  placed = λ errors earlier known placed.
      ap (are_placed ops) (sym (append_assoc earlier front rest))
      ∙ second.placed errors (earlier ++ front) (first.seen errors earlier known placed) (first.placed errors earlier known placed);
}

notes_stop : (ops : ℕ) (old mid now : SeenResults) (front rest more : List OpResult) → NotesPlaced ops old mid front → NotesResults ops mid now rest false
    → NotesResults ops old now ((front ++ rest) ++ more) false
notes_stop ops old mid now front rest more first second = λ errors earlier known placed.
    ap (are_placed ops) (sym (append_assoc earlier (front ++ rest) more))
    ∙ misplaced_whole ops (earlier ++ (front ++ rest)) more
    (ap (are_placed ops) (sym (append_assoc earlier front rest)) ∙ second errors (earlier ++ front) (first.seen errors earlier known placed) (first.placed errors earlier known placed))

-- the front of a list up to the element at a place, and what is behind it
front_and_one : (results : List OpResult) (at : ℕ) (told : OpResult) → at < length results → told ≡ get_or results at told → take (at + 1) results ≡ take at results ++ told ∷ []
front_and_one results at told within is =
    ap (λ (k : ℕ). take k results) (next at) ∙ take-suc results at told within ∙ ap (λ (one : OpResult). take at results ++ one ∷ []) (sym is)
  where
    next : (k : ℕ) → k + 1 ≡ suc k
    next k = omega arith

-- the loop over the results of a page
pub notes_next : (ops : ℕ) (old mid now : SeenResults) (results : List OpResult) (at : ℕ) (told : OpResult) (placed : Bool) → at < length results → told ≡ get_or results at told
    → NotesPlaced ops old mid (take at results) → NotesResults ops mid now (told ∷ []) placed → placed ≡ true → NotesPlaced ops old now (take (at + 1) results)
notes_next ops old mid now results at told true within is first second placed =
    subst (NotesPlaced ops old now) (sym (front_and_one results at told within is)) (notes_more ops old mid now (take at results) (told ∷ []) first second)
notes_next ops old mid now results at told false within is first second placed = absurd (let e : ◌≡◌ {A = Bool} false true = placed in cc)

pub notes_end : (ops : ℕ) (old mid now : SeenResults) (results : List OpResult) (at : ℕ) (told : OpResult) (placed : Bool) → at < length results → told ≡ get_or results at told
    → NotesPlaced ops old mid (take at results) → NotesResults ops mid now (told ∷ []) placed → placed ≡ false → NotesResults ops old now results false
notes_end ops old mid now results at told true within is first second placed = absurd (let e : ◌≡◌ {A = Bool} true false = placed in cc)
notes_end ops old mid now results at told false within is first second placed =
    subst (λ (all : List OpResult). NotesResults ops old now all false)
    (ap (λ (front : List OpResult). front ++ drop (at + 1) results) (sym (front_and_one results at told within is)) ∙ take-append-drop (at + 1) results)
    (notes_stop ops old mid now (take at results) (told ∷ []) (drop (at + 1) results) first second)

pub notes_all : (ops : ℕ) (old now : SeenResults) (results : List OpResult) (at : ℕ) → length results ≤ at → NotesPlaced ops old now (take at results) → NotesResults ops old now results true
notes_all ops old now results at past notes = subst (NotesPlaced ops old now) (take_all at results past) notes
