use Rattle.std.proofs.Common.{List, Result, ap, subst, ◌∙◌, ℕ}
use Rattle.bson_lite.specs.declared.bson.Bson.{Bson}
use Rattle.bson_lite.specs.declared.document.Pair.{Pair}
use Rattle.bson_lite.specs.Reading.{Gives, read}
use Rattle.bson_lite.proofs.Nested.{read_again}
use Rattle.bson_reading.proofs.Found.{is_found}
use Rattle.bson_reading.proofs.decoding.decode.Goals as goal

pub returns-clause-found : goal.returns-clause-found
returns-clause-found c = is_found c.args.bytes.now c.whole.result c.whole.ensures

pub returns-clause-only : goal.returns-clause-only
returns-clause-only c = λ d spells.
    subst (λ (given : Result (List (Pair Bson)) ℕ). Gives (λ document. document) c.whole.result given) (ap read spells.is ∙ read_again d spells.has) c.whole.ensures
