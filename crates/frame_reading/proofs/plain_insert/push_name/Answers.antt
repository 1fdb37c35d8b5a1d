-- What stands before the name, and the name.
use Rattle.std.proofs.Common.{ℕ, List, ◌++◌, sym, ap, ◌∙◌}
use Rattle.bson_lite.specs.Spelling.{counted}
use Rattle.frame_reading.proofs.PlainBytes.{database_spelled, two_parts}
use Rattle.frame_reading.proofs.plain_insert.push_name.Goals as goal

pub returns : goal.returns
returns c =
    c.in_ok-push_counted.ensures ∙ ap (λ (bytes : List ℕ). bytes ++ counted c.args.name.now) c.in_ok-extend_from_slice.ensures.ok
    ∙ two_parts c.args.out.now _ (counted c.args.name.now) ∙ ap (λ (bytes : List ℕ). c.args.out.now ++ bytes) (sym (database_spelled c.args.name.now))
