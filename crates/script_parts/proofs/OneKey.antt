-- Values whose one key names what they are.
use Rattle.std.proofs.Common.{◌≡◌, ℕ, List, refl, sym, ap, ◌∙◌, subst}
use Rattle.std.specs.Prelude.{None, Result}
use Rattle.bson_lite.specs.declared.bson.Bson.{Bson}
use Rattle.script_parts.specs.Json.{GivesPart}
use Rattle.script_parts.specs.Values.{array_of, document_of, tagged, value_of}
use Rattle.script_parts.specs.declared.forms.Unread.{Unread}
use Rattle.script_parts.specs.inside.Members.{only_in}
use Rattle.serde_json.specs.Data.{Data, object, Members, no_members, member}

value_is : (key : List ℕ) (inner : Data) → value_of (object (member key inner no_members)) ≡ tagged key inner (document_of inner) (array_of inner)
unfolding value_of
value_is key inner = refl

pub value_one : (read : Result Bson Unread) (left : Members) (inner : Data) (key : List ℕ) → left ≡ member key inner no_members
    → GivesPart read (tagged key inner (document_of inner) (array_of inner)) → GivesPart read (value_of (object left))
value_one read left inner key is gives = subst (GivesPart read) (sym (ap (λ them. value_of (object them)) is ∙ value_is key inner)) gives

pub value_none : (left : Members) → only_in left ≡ None → value_of (object left) ≡ None
unfolding value_of
value_none no_members is = refl
value_none (member key inner no_members) is = absurd (cc)
value_none (member key inner (member two e more)) is = refl
