-- Values of a kind other than the one that is asked for.
use Rattle.std.proofs.Common.{◌≡◌, ℕ, List, false, None, refl, subst, sym}
use Rattle.std.specs.Prelude.{Result}
use Rattle.bson_lite.specs.declared.namespace.Namespace.{Namespace}
use Rattle.json.specs.Json.{Json, null, boolean, number, string, array, object}
use Rattle.json.specs.Find.{as_array, as_object, as_str}
use Rattle.script_parts.specs.Json.{GivesPart, has_only}
use Rattle.script_parts.specs.declared.forms.Unread.{Unread}
use Rattle.script_parts.specs.Values.{array_of, bytes_of, document_of, item_of, namespace_of, pair_of, sized_of, text_of, two_texts}
use Rattle.script_parts.specs.inside.Tree.{view}

-- ---- no array

pub no_document : (j : Json) → as_array j ≡ None → document_of (view j) ≡ None
unfolding document_of
no_document null is = refl
no_document (boolean b) is = refl
no_document (number s) is = refl
no_document (string s) is = refl
no_document (array js) is = absurd (cc)
no_document (object ms) is = refl

pub no_array : (j : Json) → as_array j ≡ None → array_of (view j) ≡ None
unfolding array_of
no_array null is = refl
no_array (boolean b) is = refl
no_array (number s) is = refl
no_array (string s) is = refl
no_array (array js) is = absurd (cc)
no_array (object ms) is = refl

pub no_pair : (j : Json) → as_array j ≡ None → pair_of (view j) ≡ None
unfolding pair_of
no_pair null is = refl
no_pair (boolean b) is = refl
no_pair (number s) is = refl
no_pair (string s) is = refl
no_pair (array js) is = absurd (cc)
no_pair (object ms) is = refl

-- ---- no object

pub has_none : (keys : List (List ℕ)) (j : Json) → as_object j ≡ None → has_only keys (view j) ≡ false
unfolding has_only
has_none keys null is = refl
has_none keys (boolean b) is = refl
has_none keys (number s) is = refl
has_none keys (string s) is = refl
has_none keys (array js) is = refl
has_none keys (object ms) is = absurd (cc)

-- ---- no text

pub no_text : (j : Json) → as_str j ≡ None → text_of (view j) ≡ None
unfolding text_of
no_text null is = refl
no_text (boolean b) is = refl
no_text (number s) is = refl
no_text (string s) is = absurd (cc)
no_text (array js) is = refl
no_text (object ms) is = refl

pub no_bytes : (j : Json) → as_str j ≡ None → bytes_of (view j) ≡ None
unfolding bytes_of
no_bytes null is = refl
no_bytes (boolean b) is = refl
no_bytes (number s) is = refl
no_bytes (string s) is = absurd (cc)
no_bytes (array js) is = refl
no_bytes (object ms) is = refl

pub not_sized : (count : ℕ) (j : Json) → as_str j ≡ None → sized_of count (view j) ≡ None
unfolding sized_of
not_sized count null is = refl
not_sized count (boolean b) is = refl
not_sized count (number s) is = refl
not_sized count (string s) is = absurd (cc)
not_sized count (array js) is = refl
not_sized count (object ms) is = refl

two_texts_left : (j : Json) → as_str j ≡ None → namespace_of (view j) ≡ two_texts (view j)
unfolding namespace_of two_texts item_of
two_texts_left null is = refl
two_texts_left (boolean b) is = refl
two_texts_left (number s) is = refl
two_texts_left (string s) is = absurd (cc)
two_texts_left (array js) is = refl
two_texts_left (object ms) is = refl

-- what is no text is a namespace where it is a list of two
pub two_texts_read : (read : Result Namespace Unread) (j : Json) → as_str j ≡ None → GivesPart read (two_texts (view j)) → GivesPart read (namespace_of (view j))
two_texts_read read j is gives = subst (GivesPart read) (sym (two_texts_left j is)) gives
