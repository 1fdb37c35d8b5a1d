-- The reply spells an error, or is read alone, or further pages were asked for behind it.
use Rattle.std.proofs.Common.{subst, ◌∙◌}
use Rattle.std.specs.Prelude.{◌∷◌, [], IfSome, Ok}
use Rattle.driver_ops.specs.declared.operation.Reading.TheVariants.{Page as Further}
use Rattle.driver_ops.specs.Operations.{OnPage}
use Rattle.driver_attempt.specs.Attempting.{besides_out}
use Rattle.driver_attempt.specs.Holding.{held_id}
use Rattle.driver_attempt.proofs.ReadingPages.{goes_on, reads_alone, reads_from_same, reads_further, spelled_alone}
use Rattle.driver_attempt.proofs.pages.read_exchanges.Goals as goal

pub returns-in-Err-clause-exchanges : goal.returns-in-Err-clause-exchanges
returns-in-Err-clause-exchanges g c = λ statements built.
    spelled_alone (g.O.Operation.spec c.args.op.now) statements c.args.reply.now c.args.conn.now (held_id c.args.held) (besides_out (g.L.Link.tells c.args.link.now)) c.args.held c.in-Err.error c.in-Err.ensures

pub returns-in-Err-more_of-clause-exchanges : goal.returns-in-Err-more_of-clause-exchanges
returns-in-Err-more_of-clause-exchanges g c = λ statements built.
    let spec = g.O.Operation.spec c.args.op.now in
    let reads = subst (λ o. IfSome o (λ n. spec.reads n (Ok c.in-Ok.response.body ∷ []) c.read_reply.result)) built c.read_reply.ensures.reads in
    reads_alone spec statements c.args.reply.now c.args.conn.now c.in-Ok.response c.in-Ok.ensures (held_id c.args.held) (besides_out (g.L.Link.tells c.args.link.now)) c.args.held
    c.read_reply.result c.in-Err-more_of.answer c.with_first.result reads c.in-Err-more_of.ensures c.with_first.ensures

pub returns-clause-exchanges : goal.returns-clause-exchanges
returns-clause-exchanges g c = λ statements built.
    let spec = g.O.Operation.spec c.args.op.now in
    let spec_now = g.O.Operation.spec c.read_reply.new.self in
    let page = Ok c.in-Ok.response.body in
    let reads = subst (λ o. IfSome o (λ n. spec.reads n (page ∷ []) c.read_reply.result)) built c.read_reply.ensures.reads in
    let goes = goes_on c.read_reply.result c.in-Ok-more_of.more c.in-Ok-more_of.ensures in
    let here = subst (λ r. spec.reads statements (page ∷ []) r) goes.is reads in
    let has = subst (λ r. OnPage r (g.O.Operation.has_read c.read_reply.new.self (page ∷ []))) goes.is c.read_reply.ensures.read in
    let further = c.read_pages-held.ensures.pages statements (c.read_reply.ensures.built ∙ built) page has goes.namespace goes.cursor goes.asks
    ((c.read_reply.ensures.spec.reads statements (page ∷ []) (Ok (Further goes.cursor goes.namespace))).0 here) in
    let link = besides_out (g.L.Link.tells c.args.link.now) in
    let link_now = besides_out (g.L.Link.tells c.read_pages-held.new.link) in
    reads_further spec statements c.args.reply.now c.args.conn.now c.in-Ok.response c.in-Ok.ensures (held_id c.args.held) link link_now c.args.held c.read_pages-held.result.0
    c.read_pages-held.result.1 c.with_first-2.result
    (reads_from_same spec spec_now c.read_reply.ensures.spec statements c.args.conn.now (held_id c.args.held) page link link_now c.args.held c.read_pages-held.result.0 c.read_pages-held.result.1 further) c.with_first-2.ensures
