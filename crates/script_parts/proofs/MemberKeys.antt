-- The keys of an object, whose members go in one after another.
use Rattle.std.proofs.Common.{◌≡◌, ℕ, List, Bool, true, false, ◌&&◌, Ordering, Less, Equal, Greater, is_eq, nat_cmp, refl, sym, ap, ◌∙◌}
use Rattle.std.proofs.lemmas.Map.Text.{is_eq-slice_cmp}
use Rattle.std.proofs.lemmas.Slice.Eq.{bytes_eq-Decides}
use Rattle.std.specs.Cmp.Lexicographic.{slice_cmp}
use Rattle.std.specs.Ordering.{match_ordering}
use Rattle.script_parts.specs.Json.{among, has_keys_among}
use Rattle.script_parts.specs.inside.Members.{keys_in}
use Rattle.script_parts.specs.inside.Tree.{data_of, members_data, members_view}
use Rattle.json.specs.Json as json
use Rattle.serde_json.specs.Data.{Data, Members, member, no_members, put}

swap : (a b c : Bool) → (b && (a && c)) ≡ (a && (b && c))
swap true b c = refl
swap false true c = refl
swap false false c = refl

twice : (a b : Bool) → (a && b) ≡ (a && (a && b))
twice true b = refl
twice false b = refl

grouped : (a b c : Bool) → (a && (b && c)) ≡ ((a && b) && c)
grouped true b c = refl
grouped false b c = refl

with_true : (a : Bool) → (a && true) ≡ a
with_true true = refl
with_true false = refl

keys_by : (keys : List (List ℕ)) (key one : List ℕ) (d e : Data) (ms : Members) (order : Ordering) → slice_cmp nat_cmp key one ≡ order
    → has_keys_among keys (put key d ms) ≡ (among keys key && has_keys_among keys ms)
    → has_keys_among keys (match_ordering order (member key d (member one e ms)) (member one d ms) (member one e (put key d ms))) ≡ (among keys key && (among keys one && has_keys_among keys ms))
unfolding has_keys_among
keys_by keys key one d e ms Less is rest = refl
keys_by keys key one d e ms Equal is rest =
    let same : key ≡ one = (bytes_eq-Decides key one).0 (sym (is_eq-slice_cmp key one) ∙ ap is_eq is) in
    twice (among keys one) (has_keys_among keys ms) ∙ ap (λ k. among keys k && (among keys one && has_keys_among keys ms)) (sym same)
keys_by keys key one d e ms Greater is rest = ap (λ more. among keys one && more) rest ∙ swap (among keys key) (among keys one) (has_keys_among keys ms)

-- a member that goes in has its key among these, and the others theirs
keys_put : (keys : List (List ℕ)) (key : List ℕ) (d : Data) (ms : Members) → has_keys_among keys (put key d ms) ≡ (among keys key && has_keys_among keys ms)
unfolding has_keys_among
keys_put keys key d no_members = refl
keys_put keys key d (member one e ms) = keys_by keys key one d e ms (slice_cmp nat_cmp key one) refl (keys_put keys key d ms)

keys_behind : (keys : List (List ℕ)) (ms : json.Members) (found : Members) → has_keys_among keys (members_data ms found) ≡ (keys_in keys ms && has_keys_among keys found)
unfolding keys_in
keys_behind keys json.no_members found = refl
keys_behind keys (json.member key j ms) found =
    keys_behind keys ms (put key (data_of j) found) ∙ ap (λ front. keys_in keys ms && front) (keys_put keys key (data_of j) found)
    ∙ swap (among keys key) (keys_in keys ms) (has_keys_among keys found) ∙ grouped (among keys key) (keys_in keys ms) (has_keys_among keys found)

-- the members that came have the keys of the object
pub keys_view : (keys : List (List ℕ)) (ms : json.Members) → keys_in keys ms ≡ has_keys_among keys (members_view ms)
unfolding has_keys_among
keys_view keys ms = sym (keys_behind keys ms no_members ∙ with_true (keys_in keys ms))
