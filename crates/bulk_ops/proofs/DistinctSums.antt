-- Why the namespaces of what is left of a run are described in no more bytes when its first op goes, and the law on batches of ops.
use Rattle.std.proofs.Common.{◌≡◌, ℕ, ◌+◌, ◌≤◌, Bool, true, false, ◌||◌, cond, List, [], ◌∷◌, ◌++◌, bytes_eq, inr, is_some, length, map, sum_by, refl, sym, ap, subst, ◌∙◌, arith}
use Rattle.std.specs.Prelude.{Option, None, Some, if◌then◌else◌}
use Rattle.std.specs.Cmp.Lexicographic.{bytes_decides}
use Rattle.std.proofs.lemmas.List.Sums.{sum_by-cons, sum_by_push}
use Rattle.driver_batches.specs.Fronts.{KeepsFitting}
use Rattle.driver_batches.specs.declared.sizes.Limits.{Limits}
use Rattle.bulk_fronts.specs.declared.own_op.SizedOp.{SizedOp}
use Rattle.bulk_fronts.specs.BulkFronts.{FitsOps, bytes_of, described_size}
use Rattle.bulk_fronts.specs.Distinct.{distinct_with, number_in, with_text, with_text_by}
use Rattle.bulk_fronts.proofs.BulkFronts.{ops_keep}
use Rattle.bulk_fronts.proofs.Distinct.{at_end, in_longer}

-- a text has a number among others
abbrev knows : List (List ℕ) → List ℕ → Bool
knows texts text = is_some (number_in texts text)

-- with a text more behind them
last_known : (same : Bool) (count : ℕ) → is_some (if same then Some count else None) ≡ same
last_known true count = refl
last_known false count = refl

knows_by : (texts : List (List ℕ)) (last text : List ℕ) (found : Option ℕ) → number_in texts text ≡ found → knows (texts ++ last ∷ []) text ≡ (is_some found || bytes_eq text last)
knows_by texts last text None is = ap is_some (at_end texts last text is) ∙ last_known (bytes_eq text last) (length texts)
knows_by texts last text (Some number) is = ap is_some (in_longer texts (last ∷ []) text number is)

knows_push : (texts : List (List ℕ)) (last text : List ℕ) → knows (texts ++ last ∷ []) text ≡ (knows texts text || bytes_eq text last)
knows_push texts last text = knows_by texts last text (number_in texts text) refl

-- what joins by that
joins_by : (found : Option ℕ) (texts : List (List ℕ)) (text : List ℕ) → with_text_by found texts text ≡ cond (is_some found) texts (texts ++ text ∷ [])
joins_by None texts text = refl
joins_by (Some number) texts text = refl

joins : (texts : List (List ℕ)) (text : List ℕ) (known : Bool) → knows texts text ≡ known → with_text texts text ≡ cond known texts (texts ++ text ∷ [])
unfolding with_text
joins texts text known is = joins_by (number_in texts text) texts text ∙ ap (λ (b : Bool). cond b texts (texts ++ text ∷ [])) is

module _ (size : List ℕ → ℕ) where
  -- two lists know the same, and have as many bytes
  record AreSame (a b : List (List ℕ)) : Type 0 where
    know : (text : List ℕ) → knows a text ≡ knows b text
    bytes : sum_by size a ≡ sum_by size b

  same_push : (a b : List (List ℕ)) (text : List ℕ) → AreSame a b → AreSame (a ++ text ∷ []) (b ++ text ∷ [])
  same_push a b text same = record {
    know = λ other. knows_push a text other ∙ ap (λ (k : Bool). k || bytes_eq other text) (same.know other) ∙ sym (knows_push b text other);
    bytes = sum_by_push size a text ∙ ap (λ (n : ℕ). n + size text) same.bytes ∙ sym (sum_by_push size b text);
  }

  -- then they have as many with other texts behind them
  same_by : (a b : List (List ℕ)) (text : List ℕ) (known : Bool) → AreSame a b → AreSame (cond known a (a ++ text ∷ [])) (cond known b (b ++ text ∷ []))
  same_by a b text true same = same
  same_by a b text false same = same_push a b text same

  same_bytes : (a b rest : List (List ℕ)) → AreSame a b → sum_by size (distinct_with a rest) ≡ sum_by size (distinct_with b rest)
  unfolding distinct_with
  same_bytes a b [] same = same.bytes
  same_bytes a b (text ∷ rest) same =
      same_bytes (with_text a text) (with_text b text) rest
      (subst (λ xs. AreSame xs (with_text b text)) (sym (joins a text (knows b text) (same.know text)))
      (subst (λ xs. AreSame (cond (knows b text) a (a ++ text ∷ [])) xs) (sym (joins b text (knows b text) refl)) (same_by a b text (knows b text) same)))

  -- one list knows one text more, and has the bytes of that more
  record HasOneMore (one : List ℕ) (a b : List (List ℕ)) : Type 0 where
    know : (text : List ℕ) → knows b text ≡ (bytes_eq text one || knows a text)
    bytes : sum_by size b ≡ sum_by size a + size one

  turned : (x y z : Bool) → ((x || y) || z) ≡ (x || (y || z))
  turned true y z = refl
  turned false y z = refl

  swapped : (x y : Bool) → (x || y) ≡ (y || x)
  swapped true true = refl
  swapped true false = refl
  swapped false true = refl
  swapped false false = refl

  more_push : (one : List ℕ) (a b : List (List ℕ)) (text : List ℕ) → HasOneMore one a b → HasOneMore one (a ++ text ∷ []) (b ++ text ∷ [])
  more_push one a b text more = record {
    know = λ other. knows_push b text other ∙ ap (λ (k : Bool). k || bytes_eq other text) (more.know other)
        ∙ turned (bytes_eq other one) (knows a other) (bytes_eq other text) ∙ ap (λ (k : Bool). bytes_eq other one || k) (sym (knows_push a text other));
    bytes = omega (arith, sum_by_push size b text, sum_by_push size a text, more.bytes);
  }

  -- where the other one gets that text too they are the same
  same_then : (one : List ℕ) (a b : List (List ℕ)) → HasOneMore one a b → AreSame (a ++ one ∷ []) b
  same_then one a b more = record {
    know = λ other. knows_push a one other ∙ swapped (knows a other) (bytes_eq other one) ∙ sym (more.know other);
    bytes = sum_by_push size a one ∙ sym more.bytes;
  }

  no_more : (a b : ℕ) → a ≡ b → a ≤ b
  no_more a b is = omega (arith, is)

  -- so it has no fewer bytes with other texts behind it
  text_more : (one : List ℕ) (a b : List (List ℕ)) (text : List ℕ) (rest : List (List ℕ)) (known same : Bool) → HasOneMore one a b → knows a text ≡ known → bytes_eq text one ≡ same
      → ((x y : List (List ℕ)) → HasOneMore one x y → sum_by size (distinct_with x rest) ≤ sum_by size (distinct_with y rest))
      → sum_by size (distinct_with (with_text a text) rest) ≤ sum_by size (distinct_with (with_text b text) rest)
  text_more one a b text rest true same more known_is same_is later =
      let in_b : knows b text ≡ true = more.know text ∙ ap (λ (k : Bool). bytes_eq text one || k) known_is ∙ swapped (bytes_eq text one) true in
      subst (λ xs. sum_by size (distinct_with xs rest) ≤ sum_by size (distinct_with (with_text b text) rest)) (sym (joins a text true known_is))
      (subst (λ xs. sum_by size (distinct_with a rest) ≤ sum_by size (distinct_with xs rest)) (sym (joins b text true in_b)) (later a b more))
  text_more one a b text rest false true more known_is same_is later =
      let in_b : knows b text ≡ true = more.know text ∙ ap (λ (k : Bool). k || knows a text) same_is in
      let text_is : text ≡ one = (bytes_decides text one).0 same_is in
      let same : AreSame (a ++ text ∷ []) b = subst (λ (t : List ℕ). AreSame (a ++ t ∷ []) b) (sym text_is) (same_then one a b more) in
      subst (λ xs. sum_by size (distinct_with xs rest) ≤ sum_by size (distinct_with (with_text b text) rest)) (sym (joins a text false known_is))
      (subst (λ xs. sum_by size (distinct_with (a ++ text ∷ []) rest) ≤ sum_by size (distinct_with xs rest)) (sym (joins b text true in_b))
      (no_more (sum_by size (distinct_with (a ++ text ∷ []) rest)) (sum_by size (distinct_with b rest)) (same_bytes (a ++ text ∷ []) b rest same)))
  text_more one a b text rest false false more known_is same_is later =
      let in_b : knows b text ≡ false = more.know text ∙ ap (λ (k : Bool). k || knows a text) same_is ∙ known_is in
      subst (λ xs. sum_by size (distinct_with xs rest) ≤ sum_by size (distinct_with (with_text b text) rest)) (sym (joins a text false known_is))
      (subst (λ xs. sum_by size (distinct_with (a ++ text ∷ []) rest) ≤ sum_by size (distinct_with xs rest)) (sym (joins b text false in_b))
      (later (a ++ text ∷ []) (b ++ text ∷ []) (more_push one a b text more)))

  more_bytes : (one : List ℕ) (rest a b : List (List ℕ)) → HasOneMore one a b → sum_by size (distinct_with a rest) ≤ sum_by size (distinct_with b rest)
  unfolding distinct_with
  more_bytes one [] a b more = omega (arith, more.bytes)
  more_bytes one (text ∷ rest) a b more = text_more one a b text rest (knows a text) (bytes_eq text one) more refl refl (λ x y later. more_bytes one rest x y later)

  -- one text before others
  one_first : (one : List ℕ) → HasOneMore one [] (one ∷ [])
  one_first one = record { know = λ text. knows_first (bytes_eq text one); bytes = refl }
    where
      knows_first : (same : Bool) → is_some {T = ℕ} (if same then Some 0 else None) ≡ (same || false)
      knows_first true = refl
      knows_first false = refl

-- what is left of a run has no more bytes when its first op goes
bytes_left : (op : SizedOp) (rest : List SizedOp) → bytes_of rest ≤ bytes_of (op ∷ rest)
unfolding distinct_with with_text
bytes_left op rest =
    let texts = map (λ (one : SizedOp). one.namespace) rest in
    let names : sum_by described_size (distinct_with [] texts) ≤ sum_by described_size (distinct_with (op.namespace ∷ []) texts) =
    more_bytes described_size op.namespace texts [] (op.namespace ∷ []) (one_first described_size op.namespace) in
    omega (arith, sum_by-cons (λ (one : SizedOp). one.size) op rest, names)

-- so it fits
pub ops_keep_fit : (limits : Limits) → KeepsFitting (FitsOps limits)
ops_keep_fit limits op rest fits = inr (ops_keep limits op rest fits (bytes_left op rest))
