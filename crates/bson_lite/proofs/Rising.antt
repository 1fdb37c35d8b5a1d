-- Entries in the order of their indexes: where an index stands among them, and the finite map that they are.
use Rattle.std.proofs.Common.{◌≡◌, ℕ, zero, suc, ◌+◌, ◌-◌, ◌<◌, ◌≤◌, Bool, true, false, cond, ◌&&◌, T, List, [], ◌∷◌, ◌++◌, length, get_or, set, drop, Option, None, Some, Result, Ok, Err, IfOk, IfErr, OnOk, OnErr, refl, sym, ap, subst, ◌∙◌, arith}
use Rattle.std.proofs.lemmas.Bool.{eqb-true}
use Rattle.std.proofs.lemmas.Bool.Decides.{nat_tests}
use Rattle.std.proofs.lemmas.List.{drop_more}
use Rattle.std.proofs.lemmas.Option.{get_or_from_slice_get, slice_get-get_or}
use Rattle.std.specs.Prelude.{slice_get}
use Rattle.std.specs.declared.cmp.Ordering.{Ordering}
use Rattle.std.specs.declared.cmp.Ordering.TheVariants.{Less, Equal, Greater}
use Rattle.std.specs.Cmp.{nat_cmp_is, nat_cmp_total, ranked, unsigned_ties}
use Rattle.std.specs.FinMap as finite
use Rattle.std.specs.FinMap.Entries.{below_all, by_order, is_sorted-put}
use Rattle.std.specs.List.{insert}
use Rattle.std.specs.List.Sorted.{IsBinarySearchResult, IsNonDecreasingBy, IsSearchInRange}
use Rattle.std.specs.Ordering.{eq_by_cmp, is_eq, is_lt, nat_cmp, ordering_index}
use Rattle.bson_lite.specs.Indexed.{IsAt, IsGap, IsRising, changed, changed_entries, insert_each}

left_of : (a b : Bool) → T (a && b) → T a
left_of true b holds = tt
left_of false b holds = absurd holds

right_of : (a b : Bool) → T (a && b) → T b
right_of true b holds = holds
right_of false b holds = absurd holds

less : (x y : ℕ) → x < y → nat_cmp x y ≡ Less
less x y is = sym (nat_cmp_is x y Less is)

equal : (x y : ℕ) → x ≡ y → nat_cmp x y ≡ Equal
equal x y is = sym (nat_cmp_is x y Equal is)

greater : (x y : ℕ) → y < x → nat_cmp x y ≡ Greater
greater x y is = sym (nat_cmp_is x y Greater is)

-- an index is not a greater one
pub apart : (x y : ℕ) → x < y → eq_by_cmp nat_cmp x y ≡ false
apart x y is = ap is_eq (less x y is)

less_of : (x y : ℕ) (r : Ordering) → r ≡ nat_cmp x y → T (is_lt r) → x < y
less_of x y Less is below = ranked x y Less is
less_of x y Equal is below = absurd below
less_of x y Greater is below = absurd below

rank_rises : (a b q : ℕ) → a ≤ b → ordering_index (nat_cmp a q) ≤ ordering_index (nat_cmp b q)
rank_rises a b q rise = grind (arith, nat_tests)

abbrev pub first_of : {X : Type 0} → Option X → Option X → Option X
first_of None o = o
first_of (Some v) o = Some v

first_of-cond : {X : Type 0} (b : Bool) (v : X) (f o : Option X) → (b ≡ true → f ≡ None) → first_of f (cond b (Some v) o) ≡ first_of (cond b (Some v) f) o
first_of-cond true v f o none = ap (λ x. first_of x (Some v)) (none refl)
first_of-cond false v f o none = refl

first_of-None : {X : Type 0} (o : Option X) → first_of o None ≡ o
first_of-None None = refl
first_of-None (Some v) = refl

module _ {X : Type 0} where
  -- an index below those of all entries is below that of each
  below_at : (x : ℕ) (es : List (ℕ × X)) (place : ℕ) (other : ℕ × X) → T (below_all nat_cmp x es) → place < length es → x < (get_or es place other).0
  below_at x [] place other below within = absurd (omega (arith, within))
  below_at x (e ∷ es) zero other below within = less_of x e.0 (nat_cmp x e.0) refl (left_of _ _ below)
  below_at x (e ∷ es) (suc place) other below within = below_at x es place other (right_of _ _ below) (omega (arith, within))

  -- a later entry has no smaller index
  rise_at : (es : List (ℕ × X)) (one later : ℕ) (other : ℕ × X) → T (finite.is_sorted nat_cmp es) → one ≤ later → later < length es
      → (get_or es one other).0 ≤ (get_or es later other).0
  rise_at [] one later other sorted behind within = absurd (omega (arith, within))
  rise_at (e ∷ es) zero zero other sorted behind within =
      let same : e.0 ≤ e.0 = omega arith in
      same
  rise_at (e ∷ es) zero (suc later) other sorted behind within =
      let below = below_at e.0 es later other (left_of _ _ sorted) (omega (arith, within)) in
      let no_smaller : e.0 ≤ (get_or es later other).0 = omega (arith, below) in
      no_smaller
  rise_at (e ∷ es) (suc one) zero other sorted behind within = absurd (omega (arith, behind))
  rise_at (e ∷ es) (suc one) (suc later) other sorted behind within =
      rise_at es one later other (right_of _ _ sorted) (omega (arith, behind)) (omega (arith, within))

  -- comparisons with an index rise along the entries, as a binary search asks
  comparisons_rise : (es : List (ℕ × X)) → T (finite.is_sorted nat_cmp es) → (index : ℕ) → IsNonDecreasingBy (λ (entry : ℕ × X). ordering_index (nat_cmp entry.0 index)) es
  comparisons_rise es sorted index one later other behind within =
      rank_rises (get_or es one other).0 (get_or es later other).0 index (rise_at es one later other sorted behind within)

  -- a binary search ends at the index, or at the gap for it
  pub places : (es : List (ℕ × X)) → IsRising es → (index : ℕ) (r : Result ℕ ℕ) → IsSearchInRange r (length es)
      → IsBinarySearchResult (λ (entry : ℕ × X). nat_cmp entry.0 index) es r
      → record { found : IfOk r (IsAt index es); absent : IfErr r (IsGap index es) }
  places es rising index (Ok at) in_range same = record {
    found = record { within = in_range; has_index = λ other. ranked _ index _ (sym (same other)) };
    absent = tt;
  }
  places es rising index (Err at) in_range parted = record {
    found = tt;
    absent = record {
      within = in_range;
      below = λ place other before. ranked _ index _ (sym ((parted (comparisons_rise es rising.rises index)).0 place other (omega arith) before));
      above = λ place other behind within. ranked _ index _ (sym ((parted (comparisons_rise es rising.rises index)).1 place other behind within));
    };
  }

  behind_none : (es : List (ℕ × X)) (index : ℕ) → None ≡ slice_get es (length es - 1) → IsGap index es (length es)
  behind_none [] index none = record {
    within = omega arith;
    below = λ place other before. absurd (omega (arith, before));
    above = λ place other behind within. absurd (omega (arith, within));
  }
  behind_none (e ∷ es) index none =
      absurd (let wrong : ◌≡◌ {A = Option (ℕ × X)} None (Some (get_or (e ∷ es) (length (e ∷ es) - 1) e)) =
      none ∙ slice_get-get_or (e ∷ es) (length (e ∷ es) - 1) e (omega arith) in cc)

  behind_last : (es : List (ℕ × X)) (index : ℕ) (entry : ℕ × X) → Some entry ≡ slice_get es (length es - 1) → IsRising es → entry.0 < index → IsGap index es (length es)
  behind_last es index entry last rising under = record {
    within = omega arith;
    below = λ place other before.
        let rise = rise_at es place (length es - 1) other rising.rises (omega (arith, before)) (omega (arith, before)) in
        let top : (get_or es (length es - 1) other).0 ≡ entry.0 = ap (λ (found : ℕ × X). found.0) (get_or_from_slice_get es (length es - 1) entry other (sym last)) in
        omega (arith, rise, top, under);
    above = λ place other behind within. absurd (omega (arith, behind, within));
  }

  -- where there is no last entry, an index would stand first
  pub past_none : (es seen : List (ℕ × X)) (count index : ℕ) → seen ≡ es → count ≡ length es → None ≡ slice_get seen (length seen - 1) → IsGap index es count
  past_none es seen count index same counts none =
      subst (λ (n : ℕ). IsGap index es n) (sym counts)
      (behind_none es index (subst (λ (entries : List (ℕ × X)). None ≡ slice_get entries (length entries - 1)) same none))

  -- an index greater than that of the last entry would stand behind it
  pub past_last : (es seen : List (ℕ × X)) (count index : ℕ) (entry : ℕ × X) → seen ≡ es → count ≡ length es → Some entry ≡ slice_get seen (length seen - 1)
      → IsRising es → entry.0 < index → IsGap index es count
  past_last es seen count index entry same counts last rising under =
      subst (λ (n : ℕ). IsGap index es n) (sym counts)
      (behind_last es index entry (subst (λ (entries : List (ℕ × X)). Some entry ≡ slice_get entries (length entries - 1)) same last) rising under)

  at_of_tail : (e : ℕ × X) (es : List (ℕ × X)) (index at : ℕ) → IsAt index (e ∷ es) (suc at) → IsAt index es at
  at_of_tail e es index at there = record { within = omega (arith, there.within); has_index = λ other. there.has_index other }

  gap_of_tail : (e : ℕ × X) (es : List (ℕ × X)) (index at : ℕ) → IsGap index (e ∷ es) (suc at) → IsGap index es at
  gap_of_tail e es index at gap = record {
    within = omega (arith, gap.within);
    below = λ place other before. gap.below (suc place) other (omega (arith, before));
    above = λ place other behind within. gap.above (suc place) other (omega (arith, behind)) (omega (arith, within));
  }

  gap_of_rest : (e : ℕ × X) (es : List (ℕ × X)) (index : ℕ) → IsGap index (e ∷ es) zero → IsGap index es zero
  gap_of_rest e es index gap = record {
    within = omega arith;
    below = λ place other before. absurd (omega (arith, before));
    above = λ place other behind within. gap.above (suc place) other (omega arith) (omega (arith, within));
  }

  -- the first index is below one that stands further on
  first_under : (e : ℕ × X) (es : List (ℕ × X)) (index at : ℕ) → T (finite.is_sorted nat_cmp (e ∷ es)) → IsAt index (e ∷ es) (suc at) → e.0 < index
  first_under e es index at sorted there =
      subst (λ (key : ℕ). e.0 < key) (there.has_index e) (below_at e.0 es at e (left_of _ _ sorted) (omega (arith, there.within)))

  -- a value at an index that is there is written over
  pub put_at : (es : List (ℕ × X)) → T (finite.is_sorted nat_cmp es) → (index : ℕ) (v : X) (at : ℕ) → IsAt index es at
      → finite.put nat_cmp index v es ≡ set es at (index, v)
  put_at [] sorted index v at there = absurd (omega (arith, there.within))
  put_at (e ∷ es) sorted index v zero there =
      ap (λ r. by_order r ((index, v) ∷ e ∷ es) ((e.0, v) ∷ es) (e ∷ finite.put nat_cmp index v es)) (equal index e.0 (sym (there.has_index e)))
      ∙ ap (λ (key : ℕ). (key, v) ∷ es) (there.has_index e)
  put_at (e ∷ es) sorted index v (suc at) there =
      ap (λ r. by_order r ((index, v) ∷ e ∷ es) ((e.0, v) ∷ es) (e ∷ finite.put nat_cmp index v es)) (greater index e.0 (first_under e es index at sorted there))
      ∙ ap (λ rest. e ∷ rest) (put_at es (right_of _ _ sorted) index v at (at_of_tail e es index at there))

  -- one at an index that is not there comes into its gap
  pub put_gap : (es : List (ℕ × X)) (index : ℕ) (v : X) (at : ℕ) → IsGap index es at → finite.put nat_cmp index v es ≡ insert es at (index, v)
  put_gap [] index v zero gap = refl
  put_gap [] index v (suc at) gap = refl
  put_gap (e ∷ es) index v zero gap =
      let under : index < e.0 = gap.above zero e (omega arith) (omega arith) in
      ap (λ r. by_order r ((index, v) ∷ e ∷ es) ((e.0, v) ∷ es) (e ∷ finite.put nat_cmp index v es)) (less index e.0 under)
  put_gap (e ∷ es) index v (suc at) gap =
      let over : e.0 < index = gap.below zero e (omega arith) in
      ap (λ r. by_order r ((index, v) ∷ e ∷ es) ((e.0, v) ∷ es) (e ∷ finite.put nat_cmp index v es)) (greater index e.0 over)
      ∙ ap (λ rest. e ∷ rest) (put_gap es index v at (gap_of_tail e es index at gap))

  insert_end : (es : List (ℕ × X)) (e : ℕ × X) → insert es (length es) e ≡ es ++ e ∷ []
  insert_end [] e = refl
  insert_end (first ∷ es) e = ap (λ rest. first ∷ rest) (insert_end es e)

  -- one behind all that are there comes to the end
  pub put_last : (es : List (ℕ × X)) (index : ℕ) (v : X) (count : ℕ) → count ≡ length es → IsGap index es count → finite.put nat_cmp index v es ≡ es ++ (index, v) ∷ []
  put_last es index v count counts gap =
      put_gap es index v count gap ∙ ap (λ (at : ℕ). insert es at (index, v)) counts ∙ insert_end es (index, v)

  -- an index that is there is found
  find_at : (es : List (ℕ × X)) → T (finite.is_sorted nat_cmp es) → (index at : ℕ) → IsAt index es at → (other : ℕ × X)
      → finite.find nat_cmp index es ≡ Some (get_or es at other).1
  find_at [] sorted index at there other = absurd (omega (arith, there.within))
  find_at (e ∷ es) sorted index zero there other =
      ap (λ r. cond (is_eq r) (Some e.1) (finite.find nat_cmp index es)) (equal index e.0 (sym (there.has_index e)))
  find_at (e ∷ es) sorted index (suc at) there other =
      ap (λ r. cond (is_eq r) (Some e.1) (finite.find nat_cmp index es)) (greater index e.0 (first_under e es index at sorted there))
      ∙ find_at es (right_of _ _ sorted) index at (at_of_tail e es index at there) other

  -- one that has a gap is not
  find_gap : (es : List (ℕ × X)) (index at : ℕ) → IsGap index es at → finite.find nat_cmp index es ≡ None
  find_gap [] index at gap = refl
  find_gap (e ∷ es) index zero gap =
      let under : index < e.0 = gap.above zero e (omega arith) (omega arith) in
      ap (λ r. cond (is_eq r) (Some e.1) (finite.find nat_cmp index es)) (less index e.0 under)
      ∙ find_gap es index zero (gap_of_rest e es index gap)
  find_gap (e ∷ es) index (suc at) gap =
      let over : e.0 < index = gap.below zero e (omega arith) in
      ap (λ r. cond (is_eq r) (Some e.1) (finite.find nat_cmp index es)) (greater index e.0 over)
      ∙ find_gap es index at (gap_of_tail e es index at gap)

  -- the map of entries has the value of the one that was read
  pub read_found : (es : List (ℕ × X)) (m : finite.FinMap nat_cmp X) (index at : ℕ) (entry : ℕ × X) → IsRising es → finite.from_sorted es ≡ m
      → IsAt index es at → entry ≡ get_or es at entry → Some entry.1 ≡ finite.get m index
  read_found es m index at entry rising is there read =
      ap (λ (found : ℕ × X). Some found.1) read
      ∙ sym (find_at es rising.rises index at there entry)
      ∙ sym (finite.get-from_sorted nat_cmp es index rising.rises)
      ∙ ap (λ (map : finite.FinMap nat_cmp X). finite.get map index) is

  -- and none where there is a gap
  pub read_gone : (es : List (ℕ × X)) (m : finite.FinMap nat_cmp X) (index at : ℕ) → IsRising es → finite.from_sorted es ≡ m
      → IsGap index es at → None ≡ finite.get m index
  read_gone es m index at rising is gap =
      sym (find_gap es index at gap)
      ∙ sym (finite.get-from_sorted nat_cmp es index rising.rises)
      ∙ ap (λ (map : finite.FinMap nat_cmp X). finite.get map index) is

  -- the entries of their map, and how many they are
  pub entries_again : (es : List (ℕ × X)) (m : finite.FinMap nat_cmp X) → IsRising es → finite.from_sorted es ≡ m → es ≡ finite.entries m
  entries_again es m rising is = sym (finite.entries-from_sorted nat_cmp es rising.rises) ∙ ap (λ (map : finite.FinMap nat_cmp X). finite.entries map) is

  pub count_again : (es : List (ℕ × X)) (m : finite.FinMap nat_cmp X) → IsRising es → finite.from_sorted es ≡ m → length es ≡ finite.len m
  count_again es m rising is = ap length (entries_again es m rising is) ∙ sym (finite.len-entries m)

  -- no entry is the empty map
  pub none_is_empty : (es : List (ℕ × X)) → es ≡ [] → finite.from_sorted {R = nat_cmp} es ≡ finite.empty
  none_is_empty es none =
      ap (λ (entries : List (ℕ × X)). finite.from_sorted {R = nat_cmp} entries) none
      ∙ finite.empty_of_len (finite.from_sorted {R = nat_cmp} []) (finite.len-entries (finite.from_sorted {R = nat_cmp} []) ∙ ap length (finite.entries-from_sorted nat_cmp [] tt))

  pub none_rises : (es : List (ℕ × X)) → es ≡ [] → IsRising es
  none_rises es none = subst (λ (entries : List (ℕ × X)). IsRising entries) (sym none) (record { rises = tt })

  -- an entry more in its place is a value more in the map
  put_sorted : (es : List (ℕ × X)) (index : ℕ) (v : X) → T (finite.is_sorted nat_cmp es)
      → finite.from_sorted (finite.put nat_cmp index v es) ≡ finite.insert (finite.from_sorted {R = nat_cmp} es) index v
  put_sorted es index v sorted = finite.same_entries_map _ _
      (finite.entries-from_sorted nat_cmp (finite.put nat_cmp index v es) (is_sorted-put nat_cmp nat_cmp_total index v es sorted)
      ∙ ap (λ (entries : List (ℕ × X)). finite.put nat_cmp index v entries) (sym (finite.entries-from_sorted nat_cmp es sorted))
      ∙ sym (finite.entries-insert nat_cmp_total (finite.from_sorted es) index v))

  rises_put : (es now : List (ℕ × X)) (index : ℕ) (v : X) → IsRising es → now ≡ finite.put nat_cmp index v es → IsRising now
  rises_put es now index v rising puts =
      subst (λ (entries : List (ℕ × X)). IsRising entries) (sym puts) (record { rises = is_sorted-put nat_cmp nat_cmp_total index v es rising.rises })

  -- what a put that may be refused makes of entries and of their map
  pub put_rises : {A E : Type 0} (es now : List (ℕ × X)) (index : ℕ) (v : X) (done : Result A E) → IsRising es
      → OnOk done (now ≡ finite.put nat_cmp index v es) → OnErr done (now ≡ es) → IsRising now
  put_rises es now index v (Ok done) rising puts stays = rises_put es now index v rising puts
  put_rises es now index v (Err refused) rising puts stays = subst (λ (entries : List (ℕ × X)). IsRising entries) (sym stays) rising

  pub put_inserts : {A E : Type 0} (es now : List (ℕ × X)) (index : ℕ) (v : X) (m : finite.FinMap nat_cmp X) (done : Result A E) → IsRising es
      → finite.from_sorted es ≡ m → OnOk done (now ≡ finite.put nat_cmp index v es) → OnOk done (finite.from_sorted now ≡ finite.insert m index v)
  put_inserts es now index v m (Ok done) rising is puts =
      ap (λ (entries : List (ℕ × X)). finite.from_sorted {R = nat_cmp} entries) puts
      ∙ put_sorted es index v rising.rises
      ∙ ap (λ (map : finite.FinMap nat_cmp X). finite.insert map index v) is
  put_inserts es now index v m (Err refused) rising is puts = tt

  pub put_stays : {A E : Type 0} (es now : List (ℕ × X)) (m : finite.FinMap nat_cmp X) (done : Result A E)
      → finite.from_sorted es ≡ m → OnErr done (now ≡ es) → OnErr done (finite.from_sorted now ≡ m)
  put_stays es now m (Ok done) is stays = tt
  put_stays es now m (Err refused) is stays = ap (λ (entries : List (ℕ × X)). finite.from_sorted {R = nat_cmp} entries) stays ∙ is

  -- the next of many entries was put where it belongs
  pub puts_next : (es now : List (ℕ × X)) (entry : ℕ × X) (rest left : List (ℕ × X)) (all : finite.FinMap nat_cmp X) → IsRising es
      → now ≡ finite.put nat_cmp entry.0 entry.1 es → left ≡ entry ∷ rest
      → insert_each (finite.from_sorted es) left ≡ all → insert_each (finite.from_sorted now) rest ≡ all
  unfolding insert_each
  puts_next es now entry rest left all rising puts is so_far =
      ap (λ (map : finite.FinMap nat_cmp X). insert_each map rest)
      (ap (λ (entries : List (ℕ × X)). finite.from_sorted {R = nat_cmp} entries) puts ∙ put_sorted es entry.0 entry.1 rising.rises)
      ∙ ap (λ (entries : List (ℕ × X)). insert_each (finite.from_sorted es) entries) (sym is) ∙ so_far

  pub rises_next : (es now : List (ℕ × X)) (entry : ℕ × X) → IsRising es → now ≡ finite.put nat_cmp entry.0 entry.1 es → IsRising now
  rises_next es now entry rising puts = rises_put es now entry.0 entry.1 rising puts

  -- there is room for the rest
  pub room_after : (entry : ℕ × X) (rest left : List (ℕ × X)) (had has room_before room_now : ℕ) → left ≡ entry ∷ rest
      → had + length left ≤ room_before → has ≤ had + 1 → room_before ≤ room_now → has + length rest ≤ room_now
  room_after entry rest left had has room_before room_now is room more grows = let e = ap length is in omega (arith, e)

  find_above : (x : ℕ) (es : List (ℕ × X)) → T (below_all nat_cmp x es) → finite.find nat_cmp x es ≡ None
  find_above x [] below = refl
  find_above x (e ∷ es) below =
      ap (λ r. cond (is_eq r) (Some e.1) (finite.find nat_cmp x es)) (less x e.0 (less_of x e.0 (nat_cmp x e.0) refl (left_of _ _ below)))
      ∙ find_above x es (right_of _ _ below)

  -- an index is not found behind its entry
  none_behind : (e : ℕ × X) (es : List (ℕ × X)) (q : ℕ) → T (below_all nat_cmp e.0 es) → eq_by_cmp nat_cmp q e.0 ≡ true → finite.find nat_cmp q es ≡ None
  none_behind e es q below ties =
      let same : q ≡ e.0 = eqb-true q e.0 (unsigned_ties q e.0 ∙ ties) in
      subst (λ (key : ℕ). finite.find nat_cmp key es ≡ None) (sym same) (find_above e.0 es below)

  -- what is found where entries in order were put in
  pub get_each : (m : finite.FinMap nat_cmp X) (es : List (ℕ × X)) → T (finite.is_sorted nat_cmp es) → (q : ℕ)
      → finite.get (insert_each m es) q ≡ first_of (finite.find nat_cmp q es) (finite.get m q)
  unfolding insert_each
  get_each m [] sorted q = refl
  get_each m (e ∷ es) sorted q =
      get_each (finite.insert m e.0 e.1) es (right_of _ _ sorted) q
      ∙ ap (first_of (finite.find nat_cmp q es)) (finite.get-insert nat_cmp_total m e.0 e.1 q)
      ∙ first_of-cond (eq_by_cmp nat_cmp q e.0) e.1 (finite.find nat_cmp q es) (finite.get m q) (none_behind e es q (left_of _ _ sorted))

  -- entries in order give one map, put one after another or all at once
  each_at_once : (es : List (ℕ × X)) → T (finite.is_sorted nat_cmp es) → insert_each finite.empty es ≡ finite.from_entries {R = nat_cmp} es
  each_at_once es sorted = finite.same_map nat_cmp_total finite.nat_cmp-IsAntisymmetric _ _ (λ q.
      get_each finite.empty es sorted q ∙ ap (first_of (finite.find nat_cmp q es)) (finite.get-empty nat_cmp q)
      ∙ first_of-None _ ∙ sym (finite.get-from_entries nat_cmp_total es q))

  -- the entries of a map, put one after another, give that map
  pub each_entry : (m : finite.FinMap nat_cmp X) → insert_each finite.empty (finite.entries m) ≡ m
  each_entry m = finite.same_map nat_cmp_total finite.nat_cmp-IsAntisymmetric _ _ (λ q.
      get_each finite.empty (finite.entries m) (finite.entries_sorted m) q
      ∙ ap (first_of (finite.find nat_cmp q (finite.entries m))) (finite.get-empty nat_cmp q)
      ∙ first_of-None _ ∙ sym (finite.get-entries m q))

  -- one entry of a list more
  pub each_more : (m now : finite.FinMap nat_cmp X) (es : List (ℕ × X)) (at : ℕ) (entry : ℕ × X) (all : finite.FinMap nat_cmp X) → at < length es
      → entry ≡ get_or es at entry → now ≡ finite.insert m entry.0 entry.1 → insert_each m (drop at es) ≡ all → insert_each now (drop (at + 1) es) ≡ all
  unfolding insert_each
  each_more m now es at entry all within read puts so_far =
      let rest = drop (at + 1) es in
      let left : drop at es ≡ entry ∷ rest = drop_more es at entry within ∙ ap (λ first. first ∷ rest) (sym read) in
      ap (λ (map : finite.FinMap nat_cmp X). insert_each map rest) puts
      ∙ ap (λ (entries : List (ℕ × X)). insert_each m entries) (sym left) ∙ so_far

below_changed : {X Y : Type 0} (f : X → Y) (x : ℕ) (es : List (ℕ × X)) → below_all nat_cmp x (changed_entries f es) ≡ below_all nat_cmp x es
below_changed f x [] = refl
below_changed f x (e ∷ es) = ap (λ b. is_lt (nat_cmp x e.0) && b) (below_changed f x es)

sorted_changed : {X Y : Type 0} (f : X → Y) (es : List (ℕ × X)) → finite.is_sorted nat_cmp (changed_entries f es) ≡ finite.is_sorted nat_cmp es
sorted_changed f [] = refl
sorted_changed f (e ∷ es) =
    ap (λ b. b && finite.is_sorted nat_cmp (changed_entries f es)) (below_changed f e.0 es)
    ∙ ap (λ b. below_all nat_cmp e.0 es && b) (sorted_changed f es)

-- the entries of a map, put with their values changed, give the map with its values changed
pub each_changed : {X Y : Type 0} (f : X → Y) (m : finite.FinMap nat_cmp X) → insert_each finite.empty (changed_entries f (finite.entries m)) ≡ changed f m
each_changed f m = each_at_once (changed_entries f (finite.entries m)) (subst T (sym (sorted_changed f (finite.entries m))) (finite.entries_sorted m))

-- one entry more, with its value changed
pub changed_more : {X Y : Type 0} (f : X → Y) (m now : finite.FinMap nat_cmp Y) (es : List (ℕ × X)) (at : ℕ) (entry : ℕ × X) (all : finite.FinMap nat_cmp Y) → at < length es
    → entry ≡ get_or es at entry → now ≡ finite.insert m entry.0 (f entry.1) → insert_each m (changed_entries f (drop at es)) ≡ all
    → insert_each now (changed_entries f (drop (at + 1) es)) ≡ all
unfolding insert_each
changed_more f m now es at entry all within read puts so_far =
    let rest = drop (at + 1) es in
    let left : drop at es ≡ entry ∷ rest = drop_more es at entry within ∙ ap (λ first. first ∷ rest) (sym read) in
    ap (λ map. insert_each map (changed_entries f rest)) puts
    ∙ ap (λ entries. insert_each m (changed_entries f entries)) (sym left) ∙ so_far
