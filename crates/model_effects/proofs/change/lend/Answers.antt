use Rattle.std.proofs.Common.{ap, ◌∙◌, is_some}
use Rattle.std.specs.Cmp.Lexicographic.{nat_list_cmp_total}
use Rattle.std.specs.FinMap as finite
use Rattle.bson_lite.proofs.FinMaps.{get_inserted, insert_again}
use Rattle.model_effects.proofs.change.lend.Goals as goal

pub returns-clause-there : goal.returns-clause-there
returns-clause-there c =
    ap is_some (ap (λ m. finite.get m c.args.id) c.in-Ok-Some.ensures.ok ∙ get_inserted nat_list_cmp_total c.args.sessions.now c.args.id _)

pub returns-clause-back : goal.returns-clause-back
returns-clause-back c = λ known.
    ap (λ m. finite.insert m c.args.id known) c.in-Ok-Some.ensures.ok
    ∙ insert_again nat_list_cmp_total (finite.slice_cmp-IsAntisymmetric finite.nat_cmp-IsAntisymmetric) _ _ _ _
