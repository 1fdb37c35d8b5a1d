-- Objects of one key, which may be given more than once.
use Rattle.std.proofs.Common.{◌≡◌, ℕ, ◌+◌, ◌<◌, ◌≤◌, List, Bool, true, false, ◌&&◌, true≢false, if◌then◌else◌, cond, is_eq, is_some, Option, Some, None, bytes_eq, nat_cmp, Ordering, Less, Equal, Greater, refl, sym, ap, ◌∙◌, arith}
use Rattle.std.proofs.lemmas.Bool.{and_parts}
use Rattle.std.proofs.lemmas.Cmp.{nat_list_cmp_total, tied_itself}
use Rattle.std.proofs.lemmas.Map.Text.{is_eq-slice_cmp}
use Rattle.std.proofs.lemmas.Slice.Eq.{bytes_eq-Decides}
use Rattle.std.specs.Cmp.Lexicographic.{slice_cmp}
use Rattle.std.specs.Ordering.{match_ordering}
use Rattle.script_parts.specs.inside.Members.{all_are, last_of, only_in}
use Rattle.script_parts.specs.inside.Sizes.{members_size, size}
use Rattle.script_parts.specs.inside.Tree.{data_of, members_data, members_view, view}
use Rattle.script_parts.proofs.Trees.{get_member-last}
use Rattle.json.specs.Json as json
use Rattle.serde_json.proofs.Views.{get_member-put}
use Rattle.serde_json.specs.Data.{Data, Members, member, no_members, put}
use Rattle.serde_json.specs.Find.{get_member}

-- ---- where each member has one key

same_text : (xs : List ℕ) → slice_cmp nat_cmp xs xs ≡ Equal
same_text xs = tied_itself nat_list_cmp_total xs

put_same : (key : List ℕ) (d e : Data) → put key d (member key e no_members) ≡ member key d no_members
put_same key d e = rw (same_text key) refl

last_by : (test : Bool) (ms : json.Members) (other key : List ℕ) (first j last : json.Json) → bytes_eq other key ≡ test
    → (Some last ≡ last_of key j ms → members_data ms (member key (data_of j) no_members) ≡ member key (data_of last) no_members)
    → Some last ≡ (if test then last_of key j ms else None)
    → members_data ms (put other (data_of j) (member key (data_of first) no_members)) ≡ member key (data_of last) no_members
last_by true ms other key first j last same rest is =
    let one : other ≡ key = (bytes_eq-Decides other key).0 same in
    ap (members_data ms) (ap (λ k. put k (data_of j) (member key (data_of first) no_members)) one ∙ put_same key (data_of j) (data_of first)) ∙ rest is
last_by false ms other key first j last same rest is = absurd (cc)

-- the last of them alone is left
last_left : (ms : json.Members) (key : List ℕ) (first last : json.Json) → Some last ≡ last_of key first ms
    → members_data ms (member key (data_of first) no_members) ≡ member key (data_of last) no_members
unfolding last_of
last_left json.no_members key first last is = let same : first ≡ last = cc in ap (λ j. member key (data_of j) no_members) same
last_left (json.member other j ms) key first last is = last_by (bytes_eq other key) ms other key first j last refl (last_left ms key j last) is

pub only_seen : (ms rest : json.Members) (key : List ℕ) (first last : json.Json) → ms ≡ json.member key first rest → Some last ≡ last_of key first rest
    → members_view ms ≡ member key (view last) no_members
only_seen ms rest key first last is got = ap members_view is ∙ last_left rest key first last got

smaller_by : (test : Bool) (ms : json.Members) (key : List ℕ) (first j last : json.Json)
    → (Some last ≡ last_of key j ms → size last ≤ size j + members_size ms)
    → Some last ≡ (if test then last_of key j ms else None) → size last ≤ size first + (size j + members_size ms + 1)
smaller_by true ms key first j last rest is = omega (arith, rest is)
smaller_by false ms key first j last rest is = absurd (cc)

last_smaller : (ms : json.Members) (key : List ℕ) (first last : json.Json) → Some last ≡ last_of key first ms → size last ≤ size first + members_size ms
unfolding last_of
last_smaller json.no_members key first last is = let same : first ≡ last = cc in omega (arith, ap size same)
last_smaller (json.member other j ms) key first last is = smaller_by (bytes_eq other key) ms key first j last (last_smaller ms key j last) is

pub only_smaller : (ms rest : json.Members) (key : List ℕ) (first last : json.Json) → ms ≡ json.member key first rest → Some last ≡ last_of key first rest
    → size last < members_size ms
only_smaller ms rest key first last is got = omega (arith, ap members_size is, last_smaller rest key first last got)

-- ---- where one of them has another key

still : (b : Bool) (d : Data) (found : Option Data) → is_some found ≡ true → is_some (cond b (Some d) found) ≡ true
still true d found is = refl
still false d found is = is

-- a key that was found is found whatever goes in behind it
stays : (key : List ℕ) (ms : json.Members) (found : Members) → is_some (get_member key found) ≡ true → is_some (get_member key (members_data ms found)) ≡ true
stays key json.no_members found is = is
stays key (json.member other j ms) found is =
    stays key ms (put other (data_of j) found) (ap is_some (get_member-last key other (data_of j) found) ∙ still (bytes_eq other key) (data_of j) (get_member key found) is)

by_order : (order : Ordering) (d : Data) → is_some (match_ordering order None (Some d) None) ≡ true → order ≡ Equal
by_order Less d is = absurd (true≢false (sym is))
by_order Equal d is = refl
by_order Greater d is = absurd (true≢false (sym is))

-- what is found in one member has its key
its_key : (key one : List ℕ) (d : Data) → is_some (get_member key (member one d no_members)) ≡ true → bytes_eq key one ≡ true
its_key key one d is = sym (is_eq-slice_cmp key one) ∙ ap is_eq (by_order (slice_cmp nat_cmp key one) d is)

both : (a b : Bool) → a ≡ true → b ≡ true → (a && b) ≡ true
both a b p q = rw (p, q) refl

-- where one member is left, all have its key
one_left : (ms : json.Members) (found : Members) (key : List ℕ) (d : Data) → members_data ms found ≡ member key d no_members → all_are key ms ≡ true
unfolding all_are
one_left json.no_members found key d is = refl
one_left (json.member other j ms) found key d is =
    let put_in = put other (data_of j) found in
    let there : is_some (get_member other put_in) ≡ true = ap is_some (get_member-put other (data_of j) found) in
    let left : is_some (get_member other (member key d no_members)) ≡ true = ap (λ them. is_some (get_member other them)) (sym is) ∙ stays other ms put_in there in
    both _ _ (its_key other key d left) (one_left ms put_in key d is)

none_by : (test : Bool) (ms : json.Members) (key : List ℕ) (j : json.Json) → (None ≡ last_of key j ms → all_are key ms ≡ false)
    → None ≡ (if test then last_of key j ms else None) → (test && all_are key ms) ≡ false
none_by true ms key j rest is = rest is
none_by false ms key j rest is = refl

none_all : (ms : json.Members) (key : List ℕ) (first : json.Json) → None ≡ last_of key first ms → all_are key ms ≡ false
unfolding last_of all_are
none_all json.no_members key first is = absurd (cc)
none_all (json.member other j ms) key first is = none_by (bytes_eq other key) ms key j (none_all ms key j) is

-- where all have the key of one that has another
apart : (rest : json.Members) (key one : List ℕ) (first : json.Json) → all_are one (json.member key first rest) ≡ true → None ≡ last_of key first rest → true ≡ false
unfolding all_are
apart rest key one first all is =
    let parts = and_parts (bytes_eq key one) (all_are one rest) all in
    let same : key ≡ one = (bytes_eq-Decides key one).0 parts.0 in
    sym (ap (λ k. all_are k rest) same ∙ parts.1) ∙ none_all rest key first is

-- there is more than one
pub none_seen : (ms rest : json.Members) (key : List ℕ) (first : json.Json) → ms ≡ json.member key first rest → None ≡ last_of key first rest → only_in (members_view ms) ≡ None
none_seen ms rest key first is none = ap (λ them. only_in (members_view them)) is ∙ by (members_view (json.member key first rest)) refl
  where
    by : (left : Members) → members_view (json.member key first rest) ≡ left → only_in left ≡ None
    by no_members is = refl
    by (member one d no_members) is = absurd (true≢false (apart rest key one first (one_left (json.member key first rest) no_members one d is) none))
    by (member one d (member two e more)) is = refl
