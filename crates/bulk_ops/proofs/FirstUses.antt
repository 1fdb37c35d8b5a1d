-- Texts in the order of their first use stand once each, none is missing, and more texts go on behind them.
use Rattle.std.proofs.Common.{◌≡◌, ℕ, Bool, true, false, not, ◌||◌, List, [], ◌∷◌, ◌++◌, append-nil, append_assoc, bytes_eq, refl, sym, ap, ◌∙◌}
use Rattle.std.specs.Prelude.{Option, None, Some}
use Rattle.std.specs.Cmp.Lexicographic.{bytes_decides, nat_list_eq_equiv}
use Rattle.std.proofs.lemmas.Bool.{and_from, and_parts, or_from, or_parts}
use Rattle.driver_link.proofs.Lists.{none_is_some}
use Rattle.bulk_fronts.specs.Distinct.{KeepsFirstUses, all_differ, distinct, distinct_with, number_in, stands_among, with_text, with_text_by}
use Rattle.bulk_fronts.proofs.Distinct.{distinct_join, none_behind, number_by}

-- truth values
or_false : (a : Bool) → (a || false) ≡ a
or_false true = refl
or_false false = refl

or_joined : (a b c : Bool) → ((a || b) || c) ≡ (a || (b || c))
or_joined true b c = refl
or_joined false b c = refl

known_by : (same stands : Bool) → (same ≡ true → stands ≡ true) → stands ≡ (stands || same)
known_by same true within = refl
known_by true false within = within refl
known_by false false within = refl

-- a text stands among others exactly where it has a number there
none_stands : (texts : List (List ℕ)) (text : List ℕ) → number_in texts text ≡ None → stands_among texts text ≡ false
none_stands [] text none = refl
none_stands (other ∷ texts) text none =
    let parts = none_behind (bytes_eq text other) (number_in texts text) none in
    or_from (bytes_eq text other) (stands_among texts text) parts.0 (none_stands texts text parts.1)

some_by : (same : Bool) (found : Option ℕ) (stands : Bool) (number : ℕ) → ((n : ℕ) → found ≡ Some n → stands ≡ true) → number_by same found ≡ Some number → (same || stands) ≡ true
some_by true found stands number all is = refl
some_by false None stands number all is = absurd (none_is_some number is)
some_by false (Some n) stands number all is = all n refl

some_stands : (texts : List (List ℕ)) (text : List ℕ) (number : ℕ) → number_in texts text ≡ Some number → stands_among texts text ≡ true
some_stands [] text number is = absurd (none_is_some number is)
some_stands (other ∷ texts) text number is =
    some_by (bytes_eq text other) (number_in texts text) (stands_among texts text) number (λ n found. some_stands texts text n found) is

-- a text stands among texts behind others where it stands among these or those
stands_join : (texts more : List (List ℕ)) (text : List ℕ) → stands_among (texts ++ more) text ≡ (stands_among texts text || stands_among more text)
stands_join [] more text = refl
stands_join (other ∷ texts) more text =
    ap (λ (b : Bool). bytes_eq text other || b) (stands_join texts more text) ∙ sym (or_joined (bytes_eq text other) (stands_among texts text) (stands_among more text))

-- what stands among texts when one more is used
stands_more : (found : Option ℕ) (texts : List (List ℕ)) (last text : List ℕ) → number_in texts last ≡ found
    → stands_among (with_text_by found texts last) text ≡ (stands_among texts text || bytes_eq text last)
stands_more None texts last text is = stands_join texts (last ∷ []) text ∙ ap (λ (b : Bool). stands_among texts text || b) (or_false (bytes_eq text last))
stands_more (Some number) texts last text is =
    known_by (bytes_eq text last) (stands_among texts text) (λ same. ap (stands_among texts) ((bytes_decides text last).0 same) ∙ some_stands texts last number is)

-- and when a list of them is
stands_distinct : (texts more : List (List ℕ)) (text : List ℕ) → stands_among (distinct_with texts more) text ≡ (stands_among texts text || stands_among more text)
unfolding distinct_with with_text
stands_distinct texts [] text = sym (or_false (stands_among texts text))
stands_distinct texts (last ∷ more) text =
    stands_distinct (with_text_by (number_in texts last) texts last) more text
    ∙ ap (λ (b : Bool). b || stands_among more text) (stands_more (number_in texts last) texts last text refl)
    ∙ or_joined (stands_among texts text) (bytes_eq text last) (stands_among more text)

-- texts that differ still do behind a new one
differ_push : (texts : List (List ℕ)) (last : List ℕ) → all_differ texts ≡ true → stands_among texts last ≡ false → all_differ (texts ++ last ∷ []) ≡ true
differ_push [] last differ new = refl
differ_push (one ∷ texts) last differ new =
    let all = and_parts (not (stands_among texts one)) (all_differ texts) differ in
    let apart = or_parts (bytes_eq last one) (stands_among texts last) new in
    let other : bytes_eq one last ≡ false = nat_list_eq_equiv.symm one last ∙ apart.0 in
    let alone : stands_among (texts ++ last ∷ []) one ≡ stands_among texts one =
    stands_join texts (last ∷ []) one ∙ ap (λ (b : Bool). stands_among texts one || (b || false)) other ∙ or_false (stands_among texts one) in
    and_from (not (stands_among (texts ++ last ∷ []) one)) (all_differ (texts ++ last ∷ [])) (ap (λ (b : Bool). not b) alone ∙ all.0) (differ_push texts last all.1 apart.1)

differ_more : (found : Option ℕ) (texts : List (List ℕ)) (last : List ℕ) → number_in texts last ≡ found → all_differ texts ≡ true → all_differ (with_text_by found texts last) ≡ true
differ_more None texts last is differ = differ_push texts last differ (none_stands texts last is)
differ_more (Some number) texts last is differ = differ

differ_distinct : (texts more : List (List ℕ)) → all_differ texts ≡ true → all_differ (distinct_with texts more) ≡ true
unfolding distinct_with with_text
differ_distinct texts [] differ = differ
differ_distinct texts (last ∷ more) differ =
    differ_distinct (with_text_by (number_in texts last) texts last) more (differ_more (number_in texts last) texts last refl differ)

-- what goes on behind texts
abbrev behind_by : Option ℕ → List ℕ → List (List ℕ)
behind_by None text = text ∷ []
behind_by (Some number) text = []

abbrev behind : List (List ℕ) → List (List ℕ) → List (List ℕ)
behind texts [] = []
behind texts (last ∷ more) = behind_by (number_in texts last) last ++ behind (with_text_by (number_in texts last) texts last) more

one_behind : (found : Option ℕ) (texts : List (List ℕ)) (last : List ℕ) → with_text_by found texts last ≡ texts ++ behind_by found last
one_behind None texts last = refl
one_behind (Some number) texts last = sym (append-nil texts)

all_behind : (texts more : List (List ℕ)) → distinct_with texts more ≡ texts ++ behind texts more
unfolding distinct_with with_text
all_behind texts [] = sym (append-nil texts)
all_behind texts (last ∷ more) =
    let rest : List (List ℕ) = behind (with_text_by (number_in texts last) texts last) more in
    all_behind (with_text_by (number_in texts last) texts last) more
    ∙ ap (λ (front : List (List ℕ)). front ++ rest) (one_behind (number_in texts last) texts last)
    ∙ append_assoc texts (behind_by (number_in texts last) last) rest

pub keeps_first_uses : (front rest : List (List ℕ)) → KeepsFirstUses front rest
keeps_first_uses front rest = record {
  once = differ_distinct [] front refl;
  same = λ text. stands_distinct [] front text;
  more = behind (distinct front) rest;
  goes_on = distinct_join [] front rest ∙ all_behind (distinct front) rest;
}
