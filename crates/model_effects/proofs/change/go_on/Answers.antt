use Rattle.std.proofs.Common.{ap, ◌∙◌}
use Rattle.std.specs.Cmp.Lexicographic.{nat_list_cmp_total}
use Rattle.std.specs.FinMap as finite
use Rattle.bson_lite.proofs.FinMaps.{insert_there}
use Rattle.model_effects.proofs.change.go_on.Goals as goal

pub returns-in-Err-clause-err : goal.returns-in-Err-clause-err
returns-in-Err-clause-err c = λ i. record c.args.server.now {
  sessions = (
      c.give_back-in-Err.ensures ∙ c.lend-known.ensures.back _
      ∙ ap (finite.insert c.args.server.now.sessions c.args.id) c.in-Err.ensures.known_err
      ∙ insert_there nat_list_cmp_total (finite.slice_cmp-IsAntisymmetric finite.nat_cmp-IsAntisymmetric) _ _ _ c.lend-known.ensures.known
      ) i;
  log = c.in-Err.ensures.log_err i;
}
