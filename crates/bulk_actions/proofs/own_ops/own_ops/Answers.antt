-- One op more, and what was drawn for the models so far.
use Rattle.std.proofs.Common.{◌+◌, [], ◌∷◌, ◌++◌, refl, ◌∙◌}
use Rattle.std.proofs.lemmas.Result.{err_from_is_err_and}
use Rattle.driver_attempt.specs.Client.{store_of}
use Rattle.bulk_actions.proofs.OwnOps.{models_may, models_none, models_of, ops_more, ops_start, ops_whole, tells_one_model}
use Rattle.bulk_actions.proofs.own_ops.own_ops.Goals as goal

pub returns-in_err-own-clause-draws : goal.returns-in_err-own-clause-draws
returns-in_err-own-clause-draws g c = models_none (g.S.SessionStore.tells (store_of c.args.client.now)) c.args.models.now

pub loop-model-init : goal.loop-model-init
loop-model-init g c = record {
  owns = ops_start (g.S.SessionStore.tells (store_of c.args.client.now)) c.args.models.now c.in_ok-own.own c.in_ok-own.ensures;
  options = refl;
}

pub loop-model-preserved : goal.loop-model-preserved
loop-model-preserved g c =
    let store = g.S.SessionStore.tells (store_of c.args.client.now) in
    let mid = g.S.SessionStore.tells (store_of c.loop-model.client) in
    let now = g.S.SessionStore.tells (store_of c.sent_op.new.client) in
    record {
      owns = ops_more store mid now c.args.models.now c.loop-model.model-index c.model-item.result c.loop-model.own c.push.new.self c.in_ok-made.made
          c.loop-model-test.true c.model-item.is c.loop-model.invariant.owns c.in_ok-made.ensures.sends c.in_ok-push.ensures.ok;
      options = c.in_ok-made.ensures.options ∙ c.loop-model.invariant.options;
    }

pub returns-in_err-made-clause-refusal : goal.returns-in_err-made-clause-refusal
returns-in_err-made-clause-refusal g c =
    let p = err_from_is_err_and c.from_residual-in_err-made.result c.from_residual-in_err-made.ensures.1 in
    rw (p.1, p.2) (tells_one_model c.args.models.now c.loop-model.model-index c.model-item.result _ c.loop-model-test.true c.model-item.is c.in_err-made.ensures.sends)

pub returns-in_err-made-clause-draws : goal.returns-in_err-made-clause-draws
returns-in_err-made-clause-draws g c =
    let store = g.S.SessionStore.tells (store_of c.args.client.now) in
    let mid = g.S.SessionStore.tells (store_of c.loop-model.client) in
    let now = g.S.SessionStore.tells (store_of c.sent_op.new.client) in
    models_may store mid now c.args.models.now c.loop-model.model-index c.model-item.result c.loop-model.own c.loop-model-test.true c.model-item.is
    c.loop-model.invariant.owns c.in_err-made.ensures.draws

pub returns-in_err-push-clause-draws : goal.returns-in_err-push-clause-draws
returns-in_err-push-clause-draws g c =
    let store = g.S.SessionStore.tells (store_of c.args.client.now) in
    let mid = g.S.SessionStore.tells (store_of c.loop-model.client) in
    let now = g.S.SessionStore.tells (store_of c.sent_op.new.client) in
    let own = c.loop-model.own ++ c.in_ok-made.made ∷ [] in
    models_of store now c.args.models.now (c.loop-model.model-index + 1) own
    (ops_more store mid now c.args.models.now c.loop-model.model-index c.model-item.result c.loop-model.own own c.in_ok-made.made
    c.loop-model-test.true c.model-item.is c.loop-model.invariant.owns c.in_ok-made.ensures.sends refl)

pub returns-clause-owns : goal.returns-clause-owns
returns-clause-owns g c =
    ops_whole (g.S.SessionStore.tells (store_of c.args.client.now)) (g.S.SessionStore.tells (store_of c.loop-model.client)) c.args.models.now
    c.loop-model.model-index c.loop-model.own c.loop-model-test.false c.loop-model.invariant.owns

pub returns-clause-draws : goal.returns-clause-draws
returns-clause-draws g c =
    models_of (g.S.SessionStore.tells (store_of c.args.client.now)) (g.S.SessionStore.tells (store_of c.loop-model.client)) c.args.models.now
    c.loop-model.model-index c.loop-model.own c.loop-model.invariant.owns
