-- One document more with its id, and what was drawn for those so far.
use Rattle.std.proofs.Common.{◌+◌, [], ◌∷◌, ◌++◌, refl, ◌∙◌}
use Rattle.std.proofs.lemmas.Result.{err_from_is_err_and}
use Rattle.driver_attempt.specs.Client.{store_of}
use Rattle.driver_actions.proofs.OwnDocuments.{draws_none, front_may, front_of, owns_more, owns_start, owns_whole, tells_one}
use Rattle.driver_actions.proofs.own_ids.own_documents.Goals as goal

pub returns-in_err-own-clause-draws : goal.returns-in_err-own-clause-draws
returns-in_err-own-clause-draws g c = draws_none (g.S.SessionStore.tells (store_of c.args.client.now)) c.args.documents.now

pub loop-document-init : goal.loop-document-init
loop-document-init g c = record {
  owns = owns_start (g.S.SessionStore.tells (store_of c.args.client.now)) c.args.documents.now c.in_ok-own.own c.in_ok-own.ensures;
  options = refl;
}

pub loop-document-preserved : goal.loop-document-preserved
loop-document-preserved g c =
    let store = g.S.SessionStore.tells (store_of c.args.client.now) in
    let mid = g.S.SessionStore.tells (store_of c.loop-document.client) in
    let now = g.S.SessionStore.tells (store_of c.sent_document.new.client) in
    record {
      owns = owns_more store mid now c.args.documents.now c.loop-document.document-index c.document-item.result c.loop-document.own c.push.new.self c.in_ok-made.made
          c.loop-document-test.true c.document-item.is c.loop-document.invariant.owns c.in_ok-made.ensures.owns c.in_ok-push.ensures.ok;
      options = c.in_ok-made.ensures.options ∙ c.loop-document.invariant.options;
    }

pub returns-in_err-made-clause-refusal : goal.returns-in_err-made-clause-refusal
returns-in_err-made-clause-refusal g c =
    let p = err_from_is_err_and c.from_residual-in_err-made.result c.from_residual-in_err-made.ensures.1 in
    rw (p.1, p.2) (tells_one c.args.documents.now c.loop-document.document-index c.document-item.result _ c.loop-document-test.true c.document-item.is c.in_err-made.ensures.refusal)

pub returns-in_err-made-clause-draws : goal.returns-in_err-made-clause-draws
returns-in_err-made-clause-draws g c =
    let store = g.S.SessionStore.tells (store_of c.args.client.now) in
    let mid = g.S.SessionStore.tells (store_of c.loop-document.client) in
    let now = g.S.SessionStore.tells (store_of c.sent_document.new.client) in
    front_may store mid now c.args.documents.now c.loop-document.document-index c.document-item.result c.loop-document.own c.loop-document-test.true c.document-item.is
    c.loop-document.invariant.owns c.in_err-made.ensures.drawn c.in_err-made.ensures.unused

pub returns-in_err-push-clause-draws : goal.returns-in_err-push-clause-draws
returns-in_err-push-clause-draws g c =
    let store = g.S.SessionStore.tells (store_of c.args.client.now) in
    let mid = g.S.SessionStore.tells (store_of c.loop-document.client) in
    let now = g.S.SessionStore.tells (store_of c.sent_document.new.client) in
    let own = c.loop-document.own ++ c.in_ok-made.made ∷ [] in
    front_of store now c.args.documents.now (c.loop-document.document-index + 1) own
    (owns_more store mid now c.args.documents.now c.loop-document.document-index c.document-item.result c.loop-document.own own c.in_ok-made.made
    c.loop-document-test.true c.document-item.is c.loop-document.invariant.owns c.in_ok-made.ensures.owns refl)

pub returns-clause-owns : goal.returns-clause-owns
returns-clause-owns g c =
    owns_whole (g.S.SessionStore.tells (store_of c.args.client.now)) (g.S.SessionStore.tells (store_of c.loop-document.client)) c.args.documents.now
    c.loop-document.document-index c.loop-document.own c.loop-document-test.false c.loop-document.invariant.owns

pub returns-clause-draws : goal.returns-clause-draws
returns-clause-draws g c =
    front_of (g.S.SessionStore.tells (store_of c.args.client.now)) (g.S.SessionStore.tells (store_of c.loop-document.client)) c.args.documents.now
    c.loop-document.document-index c.loop-document.own c.loop-document.invariant.owns
