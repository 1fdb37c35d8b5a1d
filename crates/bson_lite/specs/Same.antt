-- Equality of values as a test: two are the same where the logic stores them as the same tree.
use Rattle.std.specs.Prelude.{Bool, true, false, ◌&&◌, ◌==◌, List}
use Rattle.std.specs.Coded.{Coded, coded_list}
use base.Stored.{Gv, gnil, gnum, gcons}
use Rattle.bson_lite.specs.PairCode.{pair_code}
use Rattle.bson_lite.specs.declared.bson.Bson.{Bson}
use Rattle.bson_lite.specs.declared.document.Pair.{Pair}
use Rattle.bson_lite.specs.contracts.bson.Bson as stored

-- two stored trees are the same
unfoldable pub same_trees : Gv → Gv → Bool
same_trees gnil gnil = true
same_trees (gnum m) (gnum n) = m == n
same_trees (gcons a b) (gcons c d) = same_trees a c && same_trees b d
same_trees _ _ = false

-- two values are the same
abbrev pub same_by : {A : Type 0} → Coded A → A → A → Bool
same_by coded x y = same_trees (coded.code x) (coded.code y)

-- how the logic stores a value, and a document
abbrev pub bson_code : Coded Bson
bson_code = stored.the_row.coded

abbrev pub document_code : Coded (List (Pair Bson))
document_code = coded_list (pair_code bson_code)
