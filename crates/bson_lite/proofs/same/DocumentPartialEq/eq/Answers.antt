use Rattle.std.proofs.lemmas.Bool.Decides.{same_from_decides}
use Rattle.bson_lite.specs.Same.{same_by, document_code}
use Rattle.bson_lite.specs.Sameness.{same_by-Decides}
use Rattle.bson_lite.proofs.same.DocumentPartialEq.eq.Goals as goal

pub returns-clause-same : goal.returns-clause-same
returns-clause-same c =
    same_from_decides c.same_pairs.result (same_by document_code c.args.self.now c.args.other.now) (rw (c.pairs.ensures, c.pairs-2.ensures) at c.same_pairs.ensures) (same_by-Decides document_code c.args.self.now c.args.other.now)
