-- The page was asked for and read: there is one more, or the answer ends.
use Rattle.std.proofs.Common.{subst, ◌∙◌, ap}
use Rattle.std.specs.Prelude.{◌∷◌, Err, IfSome}
use Rattle.driver_ops.specs.declared.get_more.GetMore.{GetMore}
use Rattle.driver_ops.specs.Operations.{OnPage}
use Rattle.driver_attempt.specs.Attempting.{besides_out}
use Rattle.driver_attempt.specs.inside.AttemptExchanges.{GoesOnOrEnds, page_in}
use Rattle.driver_attempt.proofs.ReadingPages.{behind_next, behind_output, behind_where, goes_on, where_told}
use Rattle.driver_attempt.proofs.pages.read_one_page.Goals as goal

pub returns-in-Ok-clause-page : goal.returns-in-Ok-clause-page
returns-in-Ok-clause-page g c = λ pages has.
    let spec = g.O.Operation.spec c.args.op.now in
    let page = page_in c.ask_page-held.result.1 in
    let goes = goes_on c.read_page.result c.in-Ok.next c.in-Ok.ensures in (
      page,
      (
        subst (λ r. OnPage r (g.O.Operation.has_read c.read_page.new.op (page ∷ pages))) goes.is (c.read_page.ensures.read pages has),
        λ statements built namespace cursor asks.
            let asked = c.ask_page-held.ensures.asks namespace cursor asks in record {
              mid = besides_out (g.L.Link.tells c.ask_page-held.new.link);
              asks = asked;
              reading = c.read_page.result;
              reads = subst (λ o. IfSome o (λ n. spec.reads n (page ∷ pages) c.read_page.result)) built (c.read_page.ensures.reads pages has);
              goes = behind_next c.args.conn.now (besides_out (g.L.Link.tells c.ask_page-held.new.link)) (record { cursor = cursor; namespace = namespace; answered = asked.answered; page = page })
                  c.read_page.result c.in-Ok.next c.in-Ok.ensures;
            },
      ),
    )

pub returns-in-Err-Ok-clause-page : goal.returns-in-Err-Ok-clause-page
returns-in-Err-Ok-clause-page g c = λ pages has.
    let spec = g.O.Operation.spec c.args.op.now in
    let page = page_in c.ask_page-held.result.1 in (
      page,
      (
        tt,
        λ statements built namespace cursor asks.
            let asked = c.ask_page-held.ensures.asks namespace cursor asks in record {
              mid = besides_out (g.L.Link.tells c.ask_page-held.new.link);
              asks = asked;
              reading = c.read_page.result;
              reads = subst (λ o. IfSome o (λ n. spec.reads n (page ∷ pages) c.read_page.result)) built (c.read_page.ensures.reads pages has);
              goes = behind_output c.args.conn.now (besides_out (g.L.Link.tells c.ask_page-held.new.link)) (record { cursor = cursor; namespace = namespace; answered = asked.answered; page = page })
                  c.read_page.result c.in-Err-Ok.output (subst (λ a. GoesOnOrEnds c.read_page.result (Err a)) c.in-Err-Ok.field-0-is c.in-Err-Ok.ensures);
            },
      ),
    )

pub returns-in-Err-Err-clause-page : goal.returns-in-Err-Err-clause-page
returns-in-Err-Err-clause-page g c = λ pages has.
    let spec = g.O.Operation.spec c.args.op.now in
    let page = page_in c.ask_page-held.result.1 in
    let mid = besides_out (g.L.Link.tells c.ask_page-held.new.link) in
    let now = besides_out (g.L.Link.tells c.end_failed-ended.new.link) in (
      page,
      (
        tt,
        λ statements built namespace cursor asks.
            let asked = c.ask_page-held.ensures.asks namespace cursor asks in record {
              mid = mid;
              asks = asked;
              reading = c.read_page.result;
              reads = subst (λ o. IfSome o (λ n. spec.reads n (page ∷ pages) c.read_page.result)) built (c.read_page.ensures.reads pages has);
              goes = behind_where c.args.conn.now mid (record { cursor = cursor; namespace = namespace; answered = asked.answered; page = page })
                  now c.read_page.result c.in-Err-Err.error c.end_failed-ended.result _ (subst (λ a. GoesOnOrEnds c.read_page.result (Err a)) c.in-Err-Err.field-0-is c.in-Err-Err.ensures)
                  (where_told c.ask_page-held.result.1 c.is_lost-lost.result c.is_ok-came.result c.in-Err-Err.error c.is_lost-lost.ensures c.is_ok-came.ensures.value)
                  (c.end_failed-ended.ensures.ends namespace cursor (ap (λ (m : GetMore). m.target) c.ask_page-held.ensures.more ∙ asks.0, ap (λ (m : GetMore). m.cursor) c.ask_page-held.ensures.more ∙ asks.1));
            },
      ),
    )
