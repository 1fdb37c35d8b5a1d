-- What stands behind a key in front of the bytes begins with a zero byte, or none ends the key.
use Rattle.std.proofs.Common.{◌∷◌, None, Some}
use Rattle.std.proofs.lemmas.Bool.Decides.{Decides-eqb}
use Rattle.std.proofs.lemmas.Slice.Eq.{strip_prefix_is}
use Rattle.bson_reading.proofs.Places.{behind_none, behind_some}
use Rattle.bson_reading.proofs.parts.behind_key.Goals as goal

pub returns-in-None-clause-none : goal.returns-in-None-clause-none
returns-in-None-clause-none c =
    λ rest is. strip_prefix_is Decides-eqb c.args.bytes.now c.args.key.now None c.in-None.ensures.cases (0 ∷ rest) is

pub returns-in-Some-clause-some : goal.returns-in-Some-clause-some
returns-in-Some-clause-some c =
    behind_some c.args.bytes.now c.args.key.now c.in-Some.behind.now c.behind_zero.result
    (strip_prefix_is Decides-eqb c.args.bytes.now c.args.key.now (Some c.in-Some.behind) c.in-Some.ensures.cases) c.behind_zero.ensures.some

pub returns-in-Some-clause-none : goal.returns-in-Some-clause-none
returns-in-Some-clause-none c =
    behind_none c.args.bytes.now c.args.key.now c.in-Some.behind.now c.behind_zero.result
    (strip_prefix_is Decides-eqb c.args.bytes.now c.args.key.now (Some c.in-Some.behind) c.in-Some.ensures.cases) c.behind_zero.ensures.none
