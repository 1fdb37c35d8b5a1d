-- What is found at a place of a tape.
use Rattle.std.proofs.Common.{◌≡◌, ℕ, List, Bool, Option, None, Some, MatchOption, option_map, refl, sym, ap, ◌∙◌, subst}
use Rattle.std.specs.Borrow.{Bor}
use Rattle.json.specs.Token.{Token}
use Rattle.json.specs.Json.{Json, null, boolean, number, string, array, object, Items, no_items, item, Members, no_members, member}
use Rattle.json.specs.Find.{BeginsWith, HasValue, InItems, InMembers, NextItem, NextMember, as_array, as_bool, as_number, as_object, as_str}
use Rattle.script_parts.specs.inside.Codes.{HasItems, HasMembers, items_at, items_is, members_at, members_is, tree_at, tree_is}

-- tokens begin with the value that is found in them
pub begins : (ts : List Token) (j : Json) → HasValue ts → tree_at ts ≡ j → BeginsWith ts j
begins ts j h is = subst (BeginsWith ts) (sym (tree_is ts h.0 h.1) ∙ is) h.1

pub begin_items : (ts : List Token) (js : Items) → HasItems ts → items_at ts ≡ js → InItems ts js
begin_items ts js h is = subst (InItems ts) (sym (items_is ts h.0 h.1) ∙ is) h.1

pub begin_members : (ts : List Token) (ms : Members) → HasMembers ts → members_at ts ≡ ms → InMembers ts ms
begin_members ts ms h is = subst (InMembers ts) (sym (members_is ts h.0 h.1) ∙ is) h.1

-- ---- what kind of value it is

pub text_seen : (found : Option (Bor (List ℕ))) (j : Json) → option_map (λ s. s.now) found ≡ as_str j → MatchOption found (as_str j ≡ None) (λ s. j ≡ string s.now)
text_seen None j e = sym e
text_seen (Some s) null e = absurd (cc)
text_seen (Some s) (boolean b) e = absurd (cc)
text_seen (Some s) (number t) e = absurd (cc)
text_seen (Some s) (string t) e = let same : s.now ≡ t = cc in ap string (sym same)
text_seen (Some s) (array js) e = absurd (cc)
text_seen (Some s) (object ms) e = absurd (cc)

pub digits_seen : (found : Option (Bor (List ℕ))) (j : Json) → option_map (λ s. s.now) found ≡ as_number j → MatchOption found (as_number j ≡ None) (λ s. j ≡ number s.now)
digits_seen None j e = sym e
digits_seen (Some s) null e = absurd (cc)
digits_seen (Some s) (boolean b) e = absurd (cc)
digits_seen (Some s) (number t) e = let same : s.now ≡ t = cc in ap number (sym same)
digits_seen (Some s) (string t) e = absurd (cc)
digits_seen (Some s) (array js) e = absurd (cc)
digits_seen (Some s) (object ms) e = absurd (cc)

pub flag_seen : (found : Option Bool) (j : Json) → found ≡ as_bool j → MatchOption found (as_bool j ≡ None) (λ b. j ≡ boolean b)
flag_seen None j e = sym e
flag_seen (Some s) null e = absurd (cc)
flag_seen (Some s) (boolean b) e = let same : s ≡ b = cc in ap boolean (sym same)
flag_seen (Some s) (number t) e = absurd (cc)
flag_seen (Some s) (string t) e = absurd (cc)
flag_seen (Some s) (array js) e = absurd (cc)
flag_seen (Some s) (object ms) e = absurd (cc)

-- what is nothing else is null
pub null_left : (j : Json) → as_str j ≡ None → as_array j ≡ None → as_object j ≡ None → as_number j ≡ None → as_bool j ≡ None → j ≡ null
null_left null s a o n b = refl
null_left (boolean f) s a o n b = absurd (cc)
null_left (number t) s a o n b = absurd (cc)
null_left (string t) s a o n b = absurd (cc)
null_left (array js) s a o n b = absurd (cc)
null_left (object ms) s a o n b = absurd (cc)

-- ---- the next item, and the next member

-- the first of more items, and the rest
pub record ItemHere (js : Items) (ts new : List Token) : Type 0 where
  pub has_value : HasValue ts
  pub has_items : HasItems new
  pub is : js ≡ item (tree_at ts) (items_at new)

pub item_here : (old ts new : List Token) (js : Items) → HasItems old → items_at old ≡ js → NextItem old (Some ts) new → ItemHere js ts new
item_here old ts new js h is next =
    let f = next js (begin_items old js h is) in
    record {
      has_value = (f.0, f.3);
      has_items = (f.1, f.4);
      is = f.2 ∙ ap (λ j. item j f.1) (sym (tree_is ts f.0 f.3)) ∙ ap (item (tree_at ts)) (sym (items_is new f.1 f.4));
    }

pub no_item : (old new : List Token) (js : Items) → HasItems old → items_at old ≡ js → NextItem old None new → js ≡ no_items
no_item old new js h is next = next js (begin_items old js h is)

pub record MemberHere (ms : Members) (key : List ℕ) (ts new : List Token) : Type 0 where
  pub has_value : HasValue ts
  pub has_members : HasMembers new
  pub is : ms ≡ member key (tree_at ts) (members_at new)

pub member_here : (old ts new : List Token) (key : List ℕ) (ms : Members) → HasMembers old → members_at old ≡ ms → NextMember old (Some (key, ts)) new → MemberHere ms key ts new
member_here old ts new key ms h is next =
    let f = next ms (begin_members old ms h is) in
    record {
      has_value = (f.0, f.3);
      has_members = (f.1, f.4);
      is = f.2 ∙ ap (λ j. member key j f.1) (sym (tree_is ts f.0 f.3)) ∙ ap (member key (tree_at ts)) (sym (members_is new f.1 f.4));
    }

pub no_member : (old new : List Token) (ms : Members) → HasMembers old → members_at old ≡ ms → NextMember old None new → ms ≡ no_members
no_member old new ms h is next = next ms (begin_members old ms h is)
