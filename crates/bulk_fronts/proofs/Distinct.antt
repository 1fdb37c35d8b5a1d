-- Texts in the order of their first use, and their numbers, as a text more joins them.
use Rattle.std.proofs.Common.{◌≡◌, ℕ, suc, ◌<◌, ◌≤◌, Bool, true, false, cond, List, [], ◌∷◌, ◌++◌, length, sum_by, bytes_eq, refl, sym, ap, subst, ◌∙◌, arith}
use Rattle.std.specs.Prelude.{Option, None, Some, if◌then◌else◌}
use Rattle.std.specs.Cmp.Lexicographic.{bytes_decides, nat_list_eq_equiv}
use Rattle.std.specs.Map.{update}
use Rattle.std.specs.Option.{option_map}
use Rattle.std.proofs.lemmas.List.Sums.{sum_by_push}
use Rattle.driver_link.proofs.Lists.{none_is_some, some_is_some}
use Rattle.bulk_fronts.specs.Distinct.{distinct_with, number_in, with_text, with_text_by}
use Rattle.bulk_fronts.specs.inside.BulkFronts.{FindsNumbers}

-- the next number
abbrev pub next : Option ℕ → Option ℕ
next found = option_map (λ number. suc number) found

-- a number that is found behind a text that is not the one, or at it
abbrev pub number_by : Bool → Option ℕ → Option ℕ
number_by same found = if same then Some 0 else next found

no_next : (found : Option ℕ) → next found ≡ None → found ≡ None
no_next None is = refl
no_next (Some number) is = absurd (none_is_some (suc number) (sym is))

-- where a text has no number among others it is none of them
pub none_behind : (same : Bool) (found : Option ℕ) → number_by same found ≡ None → (same ≡ false) × (found ≡ None)
none_behind true found is = absurd (none_is_some 0 (sym is))
none_behind false found is = (refl, no_next found is)

-- a text that has a number keeps it in a longer list
kept_by : (same : Bool) (found later : Option ℕ) (number : ℕ) → ((n : ℕ) → found ≡ Some n → later ≡ Some n) → number_by same found ≡ Some number → number_by same later ≡ Some number
kept_by true found later number keeps is = is
kept_by false None later number keeps is = absurd (none_is_some number is)
kept_by false (Some n) later number keeps is = ap next (keeps n refl) ∙ is

pub in_longer : (texts more : List (List ℕ)) (text : List ℕ) (number : ℕ) → number_in texts text ≡ Some number → number_in (texts ++ more) text ≡ Some number
in_longer [] more text number is = absurd (none_is_some number is)
in_longer (other ∷ texts) more text number is =
    kept_by (bytes_eq text other) (number_in texts text) (number_in (texts ++ more) text) number (λ n found. in_longer texts more text n found) is

-- a text behind others has the number behind theirs
next_last : (same : Bool) (count : ℕ) → next (if same then Some count else None) ≡ (if same then Some (suc count) else None)
next_last true count = refl
next_last false count = refl

pub at_end : (texts : List (List ℕ)) (last text : List ℕ) → number_in texts text ≡ None
    → number_in (texts ++ last ∷ []) text ≡ (if bytes_eq text last then Some (length texts) else None)
at_end [] last text none = refl
at_end (other ∷ texts) last text none =
    let parts = none_behind (bytes_eq text other) (number_in texts text) none in
    ap (λ (same : Bool). number_by same (number_in (texts ++ last ∷ []) text)) parts.0
    ∙ ap next (at_end texts last text parts.1)
    ∙ next_last (bytes_eq text last) (length texts)

-- a number is below the number of texts
below_by : (same : Bool) (found : Option ℕ) (number count : ℕ) → ((n : ℕ) → found ≡ Some n → n < count) → number_by same found ≡ Some number → number < suc count
below_by true found number count below is = subst (λ n. n < suc count) (some_is_some 0 number is) (omega arith)
below_by false None number count below is = absurd (none_is_some number is)
below_by false (Some n) number count below is =
    let less = below n refl in
    subst (λ m. m < suc count) (some_is_some (suc n) number is) (omega (arith, less))

pub number_below : (texts : List (List ℕ)) (text : List ℕ) (number : ℕ) → number_in texts text ≡ Some number → number < length texts
number_below [] text number is = absurd (none_is_some number is)
number_below (other ∷ texts) text number is =
    below_by (bytes_eq text other) (number_in texts text) number (length texts) (λ n found. number_below texts text n found) is

-- texts one behind others, and then one more
pub distinct_push : (texts front : List (List ℕ)) (last : List ℕ) → distinct_with texts (front ++ last ∷ []) ≡ with_text (distinct_with texts front) last
unfolding distinct_with
distinct_push texts [] last = refl
distinct_push texts (text ∷ front) last = distinct_push (with_text texts text) front last

pub distinct_join : (texts front more : List (List ℕ)) → distinct_with texts (front ++ more) ≡ distinct_with (distinct_with texts front) more
unfolding distinct_with
distinct_join texts [] more = refl
distinct_join texts (text ∷ front) more = distinct_join (with_text texts text) front more

-- a text that has its number joins no list, and one that has none joins it
pub stays_known : (texts : List (List ℕ)) (text : List ℕ) (number : ℕ) → number_in texts text ≡ Some number → with_text texts text ≡ texts
unfolding with_text
stays_known texts text number is = ap (λ (found : Option ℕ). with_text_by found texts text) is

pub joins_new : (texts : List (List ℕ)) (text : List ℕ) → number_in texts text ≡ None → with_text texts text ≡ texts ++ text ∷ []
unfolding with_text
joins_new texts text is = ap (λ (found : Option ℕ). with_text_by found texts text) is

-- no text goes when others join
sum_grows_by : (size : List ℕ → ℕ) (found : Option ℕ) (texts : List (List ℕ)) (text : List ℕ) → sum_by size texts ≤ sum_by size (with_text_by found texts text)
sum_grows_by size None texts text = omega (arith, sum_by_push size texts text)
sum_grows_by size (Some number) texts text = omega arith

two_steps : (a b c : ℕ) → a ≤ b → b ≤ c → a ≤ c
two_steps a b c first second = omega (arith, first, second)

pub sum_grows : (size : List ℕ → ℕ) (texts more : List (List ℕ)) → sum_by size texts ≤ sum_by size (distinct_with texts more)
unfolding distinct_with with_text
sum_grows size texts [] = omega arith
sum_grows size texts (text ∷ more) =
    two_steps (sum_by size texts) (sum_by size (with_text_by (number_in texts text) texts text)) (sum_by size (distinct_with (with_text_by (number_in texts text) texts text) more))
    (sum_grows_by size (number_in texts text) texts text) (sum_grows size (with_text_by (number_in texts text) texts text) more)

-- what is found at each text is its number, where one text more got the next one
found_by : (found : List ℕ → Option ℕ) (texts : List (List ℕ)) (last text : List ℕ) (here : Option ℕ) → FindsNumbers found texts → number_in texts last ≡ None
    → number_in texts text ≡ here → update bytes_eq found last (Some (length texts)) text ≡ number_in (texts ++ last ∷ []) text
found_by found texts last text None finds none is =
    ap (λ (rest : Option ℕ). cond (bytes_eq last text) (Some (length texts)) rest) (finds text ∙ is)
    ∙ ap (λ (same : Bool). cond same (Some (length texts)) None) (nat_list_eq_equiv.symm last text)
    ∙ sym (at_end texts last text is)
found_by found texts last text (Some number) finds none is =
    let other : bytes_eq last text ≡ false = by_test (bytes_eq last text) refl in
    ap (λ (same : Bool). cond same (Some (length texts)) (found text)) other ∙ finds text ∙ is ∙ sym (in_longer texts (last ∷ []) text number is)
  where
    by_test : (same : Bool) → bytes_eq last text ≡ same → bytes_eq last text ≡ false
    by_test true e = absurd (none_is_some number (sym none ∙ ap (number_in texts) ((bytes_decides last text).0 e) ∙ is))
    by_test false e = e

pub finds_more : (found found_now : List ℕ → Option ℕ) (texts : List (List ℕ)) (last : List ℕ) → FindsNumbers found texts → number_in texts last ≡ None
    → ((text : List ℕ) → found_now text ≡ update bytes_eq found last (Some (length texts)) text) → FindsNumbers found_now (texts ++ last ∷ [])
finds_more found found_now texts last finds none now = λ text. now text ∙ found_by found texts last text (number_in texts text) finds none refl
