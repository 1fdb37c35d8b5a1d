-- What labels that tell no lie say.
use Rattle.std.proofs.Common.{◌≡◌, ℕ, ◌||◌, Bool, true, false, cond, List, [], ◌∷◌, refl, sym, ap, ◌∙◌, if◌then◌else◌}
use Rattle.std.specs.List.{list_any}
use Rattle.std.specs.Str.{bytes_eq}
use Rattle.std.proofs.lemmas.Bool.{or_parts}
use Rattle.std.proofs.lemmas.Slice.Eq.{bytes_eq-Decides}
use Rattle.driver_error.specs.declared.labels.TheConstants.{NO_WRITES_PERFORMED, TRANSIENT_TRANSACTION_ERROR}
use Rattle.driver_link.specs.Honesty.{Facts, has_transient, honest, is_overload, may_carry}
use Rattle.driver_link.specs.Statements.{negated}
use Rattle.machine_laws.specs.ErrorAnswers.{has_label}

-- a label that passes a test, and that may be answered
record Carried (test : List ℕ → Bool) (facts : Facts) : Type 0 where
  label : List ℕ
  passes : test label ≡ true
  may : may_carry facts label ≡ true

by_label : (test : List ℕ → Bool) (facts : Facts) (label : List ℕ) (rest : List (List ℕ)) → may_carry facts label ≡ true → (list_any test rest ≡ true → Carried test facts)
    → (b : Bool) → test label ≡ b → b || list_any test rest ≡ true → Carried test facts
by_label test facts label rest carries later true passes is = record { label = label; passes = passes; may = carries }
by_label test facts label rest carries later false passes is = later is

by_rule : (test : List ℕ → Bool) (facts : Facts) (label : List ℕ) (labels : List (List ℕ)) → (list_any test (honest facts labels) ≡ true → Carried test facts)
    → (b : Bool) → may_carry facts label ≡ b → list_any test (cond b (label ∷ honest facts labels) (honest facts labels)) ≡ true → Carried test facts
by_rule test facts label labels later true carries is = by_label test facts label (honest facts labels) carries later (test label) refl is
by_rule test facts label labels later false carries is = later is

-- a test that passes on what is answered passes on a label that may be answered
carried_of : (test : List ℕ → Bool) (facts : Facts) (labels : List (List ℕ)) → list_any test (honest facts labels) ≡ true → Carried test facts
carried_of test facts [] is = absurd (let no : ◌≡◌ {A = Bool} false true = is in cc)
carried_of test facts (label ∷ labels) is = by_rule test facts label labels (λ rest. carried_of test facts labels rest) (may_carry facts label) refl is

not_true : (b : Bool) → negated b ≡ true → b ≡ false
not_true true is = let no : ◌≡◌ {A = Bool} false true = is in cc
not_true false is = refl

-- what is answered with a label of overload did not run now
pub overload_told : (facts : Facts) (labels : List (List ℕ)) → list_any is_overload (honest facts labels) ≡ true → facts.ran_now ≡ false
unfolding may_carry
overload_told facts labels is =
    let found = carried_of is_overload facts labels is in
    let rule : may_carry facts found.label ≡ negated facts.ran_now
    = ap (λ b. if b then negated facts.ran_now
    else (if bytes_eq found.label NO_WRITES_PERFORMED.now then negated (facts.ran_now || facts.ran_before)
    else (if bytes_eq found.label TRANSIENT_TRANSACTION_ERROR.now then facts.can_be_transient else true))) found.passes in
    not_true facts.ran_now (sym rule ∙ found.may)

-- what is answered with the label that no writes were performed ran neither now nor before
pub no_writes_told : (facts : Facts) (labels : List (List ℕ)) → has_label NO_WRITES_PERFORMED.now (honest facts labels) ≡ true
    → (facts.ran_now ≡ false) × (facts.ran_before ≡ false)
unfolding may_carry
no_writes_told facts labels is =
    let found = carried_of (λ label. bytes_eq label NO_WRITES_PERFORMED.now) facts labels is in
    let same : found.label ≡ NO_WRITES_PERFORMED.now = (bytes_eq-Decides found.label NO_WRITES_PERFORMED.now).0 found.passes in
    let rule : may_carry facts NO_WRITES_PERFORMED.now ≡ true = ap (may_carry facts) (sym same) ∙ found.may in
    or_parts facts.ran_now facts.ran_before (not_true (facts.ran_now || facts.ran_before) rule)

-- what is answered with the transient label can be called transient
pub transient_told : (facts : Facts) (labels : List (List ℕ)) → has_transient (honest facts labels) ≡ true → facts.can_be_transient ≡ true
unfolding may_carry
transient_told facts labels is =
    let found = carried_of (λ label. bytes_eq label TRANSIENT_TRANSACTION_ERROR.now) facts labels is in
    let same : found.label ≡ TRANSIENT_TRANSACTION_ERROR.now = (bytes_eq-Decides found.label TRANSIENT_TRANSACTION_ERROR.now).0 found.passes in
    let rule : may_carry facts TRANSIENT_TRANSACTION_ERROR.now ≡ true = ap (may_carry facts) (sym same) ∙ found.may in rule
