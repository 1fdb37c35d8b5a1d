-- The statements of a send follow what is kept: one with a kept result is kept, and another is not.
use Rattle.std.proofs.Common.{◌≡◌, ℕ, zero, suc, ◌+◌, ◌-◌, ◌<◌, nat_eq, Bool, true, false, cond, List, [], ◌∷◌, refl, sym, ap, subst, ◌∙◌, inl, inr, arith}
use Rattle.std.specs.Prelude.{ℤ, Option, None, Some, IsSome, ◌⊎◌, ◌==◌, ◌&&◌, slice_get, is_some}
use Rattle.std.specs.FinMap as finite
use Rattle.std.specs.Cmp.{nat_cmp_total, unsigned_ties}
use Rattle.std.specs.Ordering.{nat_cmp, eq_by_cmp}
use Rattle.std.proofs.lemmas.Bool.{cond-false, false_from_ne_true}
use Rattle.std.proofs.lemmas.Bool.Decides.{Decides-eqb}
use Rattle.bson_lite.proofs.FinMaps.{get_inserted}
use Rattle.driver_link.specs.declared.machine.Counted.{Counted}
use Rattle.driver_link.specs.declared.machine.Entry.{Entry}
use Rattle.driver_link.specs.declared.machine.Failing.{Failing}
use Rattle.driver_link.specs.declared.machine.PlacedWrite.{PlacedWrite}
use Rattle.driver_link.specs.declared.machine.Planned.{Planned}
use Rattle.driver_link.specs.declared.machine.Statement.{Statement}
use Rattle.driver_link.specs.declared.machine.Statement.TheVariants.{Kept, Ran, Failed}
use Rattle.driver_link.specs.Settled.{Has}
use Rattle.driver_link.specs.Statements.{Results, kept_by, kept_with, entry_of, entries_by, entries_of, statement_at, statement_of, statements, front_to_run, code_at, counts_by_plan, planned_at, is_failed}

-- a statement fits what is kept at its position
abbrev pub FitsKept : Option Counted → Statement → Type 0
FitsKept (Some result) statement = statement ≡ Kept result
FitsKept None (Kept result) = ⊥
FitsKept None (Ran result) = Unit {0}
FitsKept None (Failed code) = Unit {0}

-- statements follow what is kept, the first at a position, and are no more than the writes
abbrev pub Follows : Results → ℕ → List PlacedWrite → List Statement → Type 0
Follows kept at writes [] = Unit {0}
Follows kept at [] (statement ∷ done) = ⊥
Follows kept at (write ∷ writes) (statement ∷ done) = FitsKept (finite.get kept at) statement × Follows kept (at + 1) writes done

fits_of : (kept : Option Counted) (code : Option ℤ) (now : Counted) → FitsKept kept (statement_of kept code now)
fits_of (Some result) code now = refl
fits_of None (Some code) now = tt
fits_of None None now = tt

pub follows_statements : (results : List Planned) (fail : List Failing) (ordered : Bool) (kept : Results) (at : ℕ) (writes : List PlacedWrite)
    → Follows kept at writes (statements results fail ordered kept at writes)
unfolding statements
follows_statements results fail ordered kept at [] = tt
follows_statements results fail ordered kept at (write ∷ writes) = (
  fits_of (finite.get kept at) (code_at fail at) (counts_by_plan write.written.kind (planned_at results at)),
  elim (ordered && is_failed (statement_at results fail kept at write))
      as (λ stop. Follows kept (at + 1) writes (cond stop [] (statements results fail ordered kept (at + 1) writes))) [
        | true ↦ nothing (at + 1) writes
        | false ↦ follows_statements results fail ordered kept (at + 1) writes
      ],
)
  where
    nothing : (at : ℕ) (writes : List PlacedWrite) → Follows kept at writes []
    nothing at [] = tt
    nothing at (write ∷ writes) = tt

-- statements of a front of the writes follow too
front_more : (kept : Results) (at n : ℕ) (write : PlacedWrite) (writes : List PlacedWrite)
    → Follows kept (at + 1) writes (statements [] [] false kept (at + 1) (front_to_run kept (at + 1) n writes))
    → Follows kept at (write ∷ writes) (statements [] [] false kept at (write ∷ front_to_run kept (at + 1) n writes))
unfolding statements
front_more kept at n write writes follows = (fits_of (finite.get kept at) (code_at [] at) (counts_by_plan write.written.kind (planned_at [] at)), follows)

front_by : (kept : Results) (at after : ℕ) (write : PlacedWrite) (writes : List PlacedWrite) (is_kept is_over : Bool)
    → ((n : ℕ) → Follows kept (at + 1) writes (statements [] [] false kept (at + 1) (front_to_run kept (at + 1) n writes)))
    → Follows kept at (write ∷ writes) (statements [] [] false kept at (cond is_kept (write ∷ front_to_run kept (at + 1) after writes) (cond is_over [] (write ∷ front_to_run kept (at + 1) (after - 1) writes))))
unfolding statements
front_by kept at after write writes true is_over rest = front_more kept at after write writes (rest after)
front_by kept at after write writes false true rest = tt
front_by kept at after write writes false false rest = front_more kept at (after - 1) write writes (rest (after - 1))

pub follows_front : (kept : Results) (at after : ℕ) (writes : List PlacedWrite) → Follows kept at writes (statements [] [] false kept at (front_to_run kept at after writes))
unfolding statements front_to_run
follows_front kept at after [] = tt
follows_front kept at after (write ∷ writes) =
    front_by kept at after write writes (is_some (finite.get kept at)) (after == 0) (λ n. follows_front kept (at + 1) n writes)

-- a statement that ran had nothing kept
pub ran_free : (kept : Results) (at : ℕ) (writes : List PlacedWrite) (done : List Statement) (k : ℕ) (result : Counted) → Follows kept at writes done
    → slice_get done k ≡ Some (Ran result) → finite.get kept (at + k) ≡ None
ran_free kept at writes [] k result follows is = absurd (let e : ◌≡◌ {A = Option Statement} None (Some (Ran result)) = is in cc)
ran_free kept at [] (statement ∷ done) k result follows is = absurd follows
ran_free kept at (write ∷ writes) (statement ∷ done) zero result follows is =
    let same : statement ≡ Ran result = cc is in
    ap (λ p. finite.get kept p) (omega arith) ∙ free (finite.get kept at) (subst (FitsKept (finite.get kept at)) same follows.0)
  where
    free : (found : Option Counted) → FitsKept found (Ran result) → found ≡ None
    free None fits = refl
    free (Some other) fits = absurd (let e : ◌≡◌ {A = Statement} (Ran result) (Kept other) = fits in cc)
ran_free kept at (write ∷ writes) (statement ∷ done) (suc k) result follows is =
    ap (λ p. finite.get kept p) (omega arith) ∙ ran_free kept (at + 1) writes done k result follows.1 is

-- a result kept at one position leaves the others
pub get_other : (kept : Results) (at other : ℕ) (result : Counted) → (other ≡ at → ⊥) → finite.get (finite.insert kept at result) other ≡ finite.get kept other
get_other kept at other result differs =
    finite.get-insert nat_cmp_total kept at result other
    ∙ cond-false (eq_by_cmp nat_cmp other at) (Some result) (finite.get kept other)
    (sym (unsigned_ties other at) ∙ false_from_ne_true (nat_eq other at) (λ same. differs ((Decides-eqb other at).0 same)))

-- a statement more leaves what is kept at other positions
kept_by_other : (kept : Results) (at other : ℕ) (statement : Statement) → (other ≡ at → ⊥) → finite.get (kept_by kept at statement) other ≡ finite.get kept other
kept_by_other kept at other (Ran result) differs = get_other kept at other result differs
kept_by_other kept at other (Kept result) differs = refl
kept_by_other kept at other (Failed code) differs = refl

-- statements leave what is kept before the first of them
kept_before : (kept : Results) (at : ℕ) (done : List Statement) (p : ℕ) → p < at → finite.get (kept_with kept at done) p ≡ finite.get kept p
unfolding kept_with
kept_before kept at [] p before = refl
kept_before kept at (statement ∷ done) p before =
    kept_before (kept_by kept at statement) (at + 1) done p (omega arith) ∙ kept_by_other kept at p statement (λ same. absurd (omega arith))

-- a statement that ran has its result kept
pub kept_ran : (kept : Results) (at : ℕ) (done : List Statement) (k : ℕ) (result : Counted) → slice_get done k ≡ Some (Ran result)
    → finite.get (kept_with kept at done) (at + k) ≡ Some result
unfolding kept_with
kept_ran kept at [] k result is = absurd (let e : ◌≡◌ {A = Option Statement} None (Some (Ran result)) = is in cc)
kept_ran kept at (statement ∷ done) zero result is =
    let same : statement ≡ Ran result = cc is in
    ap (λ p. finite.get (kept_with (kept_by kept at statement) (at + 1) done) p) (omega arith)
    ∙ kept_before (kept_by kept at statement) (at + 1) done at (omega arith)
    ∙ ap (λ s. finite.get (kept_by kept at s) at) same ∙ get_inserted nat_cmp_total kept at result
kept_ran kept at (statement ∷ done) (suc k) result is =
    ap (λ p. finite.get (kept_with (kept_by kept at statement) (at + 1) done) p) (omega arith) ∙ kept_ran (kept_by kept at statement) (at + 1) done k result is

-- two positions are the same or differ
nat_cases : (p at : ℕ) → (p ≡ at) ⊎ (p ≡ at → ⊥)
nat_cases p at = elim (nat_eq p at) as (λ b. nat_eq p at ≡ b → (p ≡ at) ⊎ (p ≡ at → ⊥)) [
  | true ↦ λ is. inl ((Decides-eqb p at).0 is)
  | false ↦ λ is. inr (λ same. let e : ◌≡◌ {A = Bool} true false = sym ((Decides-eqb p at).1 same) ∙ is in absurd (differ e))
] refl
  where
    differ : ◌≡◌ {A = Bool} true false → ⊥
    differ is = cc

-- what is kept afterwards was kept before, or its statement ran
pub kept_from : (kept : Results) (at : ℕ) (done : List Statement) (p : ℕ) (result : Counted) → finite.get (kept_with kept at done) p ≡ Some result
    → (finite.get kept p ≡ Some result) ⊎ ((k : ℕ) × (p ≡ at + k) × (slice_get done k ≡ Some (Ran result)))
unfolding kept_with
kept_from kept at [] p result is = inl is
kept_from kept at (statement ∷ done) p result is = elim (kept_from (kept_by kept at statement) (at + 1) done p result is) [
  | inl kept_now ↦ kept_one kept at p statement result kept_now
  | inr ran ↦
      let place : p ≡ at + suc ran.0 = ran.1 ∙ omega arith in
      inr (suc ran.0, place, ran.2)
]
  where
    kept_one : (kept : Results) (at p : ℕ) (statement : Statement) (result : Counted) → finite.get (kept_by kept at statement) p ≡ Some result
        → (finite.get kept p ≡ Some result) ⊎ ((k : ℕ) × (p ≡ at + k) × (slice_get (statement ∷ done) k ≡ Some (Ran result)))
    kept_one kept at p (Kept other) result is = inl is
    kept_one kept at p (Failed code) result is = inl is
    kept_one kept at p (Ran other) result is = elim (nat_cases p at) [
      | inl same ↦
          let found : Some other ≡ Some result = sym (get_inserted nat_cmp_total kept at other) ∙ ap (λ q. finite.get (finite.insert kept at other) q) (sym same) ∙ is in
          let is_result : other ≡ result = cc found in
          inr (0, same ∙ omega arith, ap (λ r. Some (Ran r)) is_result)
      | inr differs ↦ inl (sym (get_other kept at p other differs) ∙ is)
    ]

-- what was kept stays kept
kept_by_still : (kept : Results) (at p : ℕ) (statement : Statement) → IsSome (finite.get kept p) → IsSome (finite.get (kept_by kept at statement) p)
kept_by_still kept at p (Kept result) there = there
kept_by_still kept at p (Failed code) there = there
kept_by_still kept at p (Ran result) there = elim (nat_cases p at) [
  | inl same ↦
      ap is_some (ap (λ q. finite.get (finite.insert kept at result) q) same ∙ get_inserted nat_cmp_total kept at result)
  | inr differs ↦ ap is_some (get_other kept at p result differs) ∙ there
]

pub kept_still : (kept : Results) (at : ℕ) (done : List Statement) (p : ℕ) → IsSome (finite.get kept p) → IsSome (finite.get (kept_with kept at done) p)
unfolding kept_with
kept_still kept at [] p there = there
kept_still kept at (statement ∷ done) p there = kept_still (kept_by kept at statement) (at + 1) done p (kept_by_still kept at p statement there)

-- the entries of the statements that ran
pub record IsEntryOf (session : Option (List ℕ)) (number : Option ℤ) (writes : List PlacedWrite) (done : List Statement) (entry : Entry) : Type 0 where
  pub at : ℕ
  pub write : PlacedWrite
  pub result : Counted
  pub stands : slice_get writes at ≡ Some write
  pub ran : slice_get done at ≡ Some (Ran result)
  pub is : entry ≡ entry_of session number write result

later_entry : (session : Option (List ℕ)) (number : Option ℤ) (write : PlacedWrite) (writes : List PlacedWrite) (statement : Statement) (done : List Statement) (entry : Entry)
    → IsEntryOf session number writes done entry → IsEntryOf session number (write ∷ writes) (statement ∷ done) entry
later_entry session number write writes statement done entry is =
    record { at = suc is.at; write = is.write; result = is.result; stands = is.stands; ran = is.ran; is = is.is }

pub entry_from : (session : Option (List ℕ)) (number : Option ℤ) (writes : List PlacedWrite) (done : List Statement) (entry : Entry)
    → Has (entries_of session number writes done) entry → IsEntryOf session number writes done entry
unfolding entries_of
entry_from session number [] done entry has = absurd has
entry_from session number (write ∷ writes) [] entry has = absurd has
entry_from session number (write ∷ writes) (Kept result ∷ done) entry has =
    later_entry session number write writes (Kept result) done entry (entry_from session number writes done entry has)
entry_from session number (write ∷ writes) (Failed code ∷ done) entry has =
    later_entry session number write writes (Failed code) done entry (entry_from session number writes done entry has)
entry_from session number (write ∷ writes) (Ran result ∷ done) entry has = elim has [
  | inl same ↦ record { at = 0; write = write; result = result; stands = refl; ran = refl; is = sym same }
  | inr rest ↦ later_entry session number write writes (Ran result) done entry (entry_from session number writes done entry rest)
]

pub entry_there : (session : Option (List ℕ)) (number : Option ℤ) (writes : List PlacedWrite) (done : List Statement) (at : ℕ) (write : PlacedWrite) (result : Counted)
    → slice_get writes at ≡ Some write → slice_get done at ≡ Some (Ran result) → Has (entries_of session number writes done) (entry_of session number write result)
unfolding entries_of
entry_there session number [] done at write result stands ran = absurd (let e : ◌≡◌ {A = Option PlacedWrite} None (Some write) = stands in cc)
entry_there session number (first ∷ writes) [] at write result stands ran = absurd (let e : ◌≡◌ {A = Option Statement} None (Some (Ran result)) = ran in cc)
entry_there session number (first ∷ writes) (statement ∷ done) zero write result stands ran =
    let is_first : first ≡ write = cc stands in
    let is_ran : statement ≡ Ran result = cc ran in
    subst (λ s. Has (entries_by session number first s (entries_of session number writes done)) (entry_of session number write result)) (sym is_ran)
    (inl (ap (λ w. entry_of session number w result) is_first))
entry_there session number (first ∷ writes) (statement ∷ done) (suc at) write result stands ran =
    beside session number first statement (entries_of session number writes done) (entry_of session number write result)
    (entry_there session number writes done at write result stands ran)
  where
    beside : (session : Option (List ℕ)) (number : Option ℤ) (first : PlacedWrite) (statement : Statement) (rest : List Entry) (entry : Entry)
        → Has rest entry → Has (entries_by session number first statement rest) entry
    beside session number first (Ran other) rest entry has = inr has
    beside session number first (Kept other) rest entry has = has
    beside session number first (Failed code) rest entry has = has
