-- Objects whose one key names what they are.
use Rattle.std.proofs.Common.{◌≡◌, ℕ, List, refl, sym, ap, ◌∙◌, subst}
use Rattle.std.specs.Prelude.{None, Result}
use Rattle.driver_inputs.specs.declared.call.Call.{Call}
use Rattle.driver_link.specs.declared.machine.Item.{Item}
use Rattle.driver_options.specs.declared.models.WriteModel.{WriteModel}
use Rattle.driver_script.specs.Calls.{call_of, call_under}
use Rattle.driver_script.specs.Models.{model_of, model_under}
use Rattle.driver_script.specs.ScheduleSteps.{item_in, item_under}
use Rattle.script_parts.specs.Json.{GivesPart}
use Rattle.script_parts.specs.declared.forms.Unread.{Unread}
use Rattle.script_parts.specs.inside.Members.{only}
use Rattle.script_parts.specs.inside.Tree.{view}
use Rattle.serde_json.specs.Data.{Data, null, boolean, number, string, array, object, no_members, member}
use Rattle.serde_json.specs.Find.{as_str as as_text}
use Rattle.json.specs.Find.{as_str}
use Rattle.json.specs.Json as json
use Rattle.json.specs.Json.{Json}

-- ---- calls

call_is : (name : List ℕ) (inner : Data) → call_of (object (member name inner no_members)) ≡ call_under name inner
unfolding call_of
call_is name inner = refl

pub call_one : (read : Result Call Unread) (d inner : Data) (name : List ℕ) → d ≡ object (member name inner no_members) → GivesPart read (call_under name inner) → GivesPart read (call_of d)
call_one read d inner name is gives = subst (GivesPart read) (sym (ap call_of is ∙ call_is name inner)) gives

pub call_none : (d : Data) → only d ≡ None → call_of d ≡ None
unfolding call_of
call_none null is = refl
call_none (boolean flag) is = refl
call_none (number n) is = refl
call_none (string text) is = refl
call_none (array items) is = refl
call_none (object no_members) is = refl
call_none (object (member name inner no_members)) is = absurd (cc)
call_none (object (member name inner (member two e more))) is = refl

-- ---- models

model_is : (name : List ℕ) (inner : Data) → model_of (object (member name inner no_members)) ≡ model_under name inner
unfolding model_of
model_is name inner = refl

pub model_one : (read : Result WriteModel Unread) (d inner : Data) (name : List ℕ) → d ≡ object (member name inner no_members) → GivesPart read (model_under name inner) → GivesPart read (model_of d)
model_one read d inner name is gives = subst (GivesPart read) (sym (ap model_of is ∙ model_is name inner)) gives

pub model_none : (d : Data) → only d ≡ None → model_of d ≡ None
unfolding model_of
model_none null is = refl
model_none (boolean flag) is = refl
model_none (number n) is = refl
model_none (string text) is = refl
model_none (array items) is = refl
model_none (object no_members) is = refl
model_none (object (member name inner no_members)) is = absurd (cc)
model_none (object (member name inner (member two e more))) is = refl

-- ---- items of a schedule

item_is : (name : List ℕ) (inner : Data) → item_in (object (member name inner no_members)) ≡ item_under name inner
unfolding item_in
item_is name inner = refl

pub item_one : (read : Result Item Unread) (d inner : Data) (name : List ℕ) → d ≡ object (member name inner no_members) → GivesPart read (item_under name inner) → GivesPart read (item_in d)
item_one read d inner name is gives = subst (GivesPart read) (sym (ap item_in is ∙ item_is name inner)) gives

item_by : (d : Data) → as_text d ≡ None → only d ≡ None → item_in d ≡ None
unfolding item_in
item_by null other is = refl
item_by (boolean flag) other is = refl
item_by (number n) other is = refl
item_by (string text) other is = absurd (cc)
item_by (array items) other is = refl
item_by (object no_members) other is = refl
item_by (object (member name inner no_members)) other is = absurd (cc)
item_by (object (member name inner (member two e more))) other is = refl

no_string : (j : Json) → as_str j ≡ None → as_text (view j) ≡ None
no_string json.null is = refl
no_string (json.boolean flag) is = refl
no_string (json.number text) is = refl
no_string (json.string text) is = absurd (cc)
no_string (json.array js) is = refl
no_string (json.object ms) is = refl

-- what is neither a text nor an object of one key is no item
pub item_none : (j : Json) → as_str j ≡ None → only (view j) ≡ None → item_in (view j) ≡ None
item_none j other is = item_by (view j) (no_string j other) is
