-- What a value of each form is read as.
use Rattle.std.proofs.Common.{◌≡◌, ℕ, List, Bool, refl, rules}
use Rattle.std.specs.Prelude.{Some}
use denote.Hole.Carrier.{out}
use Rattle.bson_lite.specs.declared.bson.Bson.{Bson}
use Rattle.bson_lite.specs.declared.bson.Bson as bson
use Rattle.bson_lite.specs.declared.document.Pair.{Pair}
use Rattle.driver_link.specs.Values.{array_of, bool_of, document_of, text_of}

pub text_is : (text : List ℕ) → text_of (bson.String text) ≡ Some text
unfolding bson.out-Bson out
text_is text = refl

pub bool_is : (flag : Bool) → bool_of (bson.Boolean flag) ≡ Some flag
unfolding bson.out-Bson out
bool_is flag = refl

pub document_is : (pairs : List (Pair Bson)) → document_of (bson.Document pairs) ≡ Some pairs
document_is pairs = search (rules, bson.the_lemmas)

pub array_is : (values : List Bson) → array_of (bson.Array values) ≡ Some values
array_is values = search (rules, bson.the_lemmas)
