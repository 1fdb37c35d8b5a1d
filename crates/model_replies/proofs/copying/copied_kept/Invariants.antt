-- The copies so far with the entries that are left are all of them.
use Rattle.std.proofs.Common.{◌≡◌, drop}
use Rattle.bson_lite.specs.Indexed.{insert_each}
use Rattle.model_replies.proofs.copying.copied_kept.Given as goal

abbrev pub invariant-loop-pair : goal.invariant-loop-pair
invariant-loop-pair l = insert_each l.copies (drop l.pair-index l.pairs) ≡ l.kept
