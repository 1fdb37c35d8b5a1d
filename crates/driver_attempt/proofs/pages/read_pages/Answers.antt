-- Each page goes on from those before it, and the last one ends the answer.
use Rattle.std.proofs.Common.{refl, subst, ◌∙◌}
use Rattle.std.specs.Prelude.{◌<◌, ◌∷◌, [], ◌++◌, IfOk, OnOk}
use Rattle.driver_attempt.specs.Attempting.{besides_out}
use Rattle.driver_attempt.specs.Holding.{held_id}
use Rattle.driver_attempt.proofs.AttemptSequence.{same_spec, same_twice}
use Rattle.driver_attempt.proofs.ReadingPages.{asked_none, pages_last, pages_more}
use Rattle.driver_attempt.proofs.pages.read_pages.Goals as goal

-- nothing was asked for yet
pub pages-init : goal.pages-init
pages-init g c = record {
  far = λ page has. (
    [],
    (
      has,
      λ statements built namespace cursor asks reads. record {
        asked = [];
        are = refl;
        so_far = asked_none (g.O.Operation.spec c.args.op.now) (g.met.O.Operation.law c.args.op.now) statements page c.args.conn.now (held_id c.args.held) (besides_out (g.L.Link.tells c.args.link.now)) c.args.held
            c.args.first namespace cursor asks reads;
      },
    ),
  );
  some = c.requires;
  spec = same_spec (g.O.Operation.spec c.args.op.now);
  built = refl;
  next = refl;
  out = refl;
}

pub pages-preserved : goal.pages-preserved
pages-preserved g c =
    let spec = g.O.Operation.spec c.args.op.now in
    let link = besides_out (g.L.Link.tells c.args.link.now) in
    let mid = besides_out (g.L.Link.tells c.pages.link) in
    let now = besides_out (g.L.Link.tells c.read_one_page-now.new.link) in record {
      far = λ page has.
          let before = c.pages.invariant.far page has in
          let one = c.read_one_page-now.ensures.page (before.0 ++ page ∷ []) before.1.0 in (
            one.0 ∷ before.0,
            (
              subst (λ r. IfOk r (λ next. g.O.Operation.has_read c.read_one_page-now.new.op (one.0 ∷ before.0 ++ page ∷ []))) c.in-Ok.is one.1.0,
              λ statements built namespace cursor asks reads.
                  let so_far = before.1.1 statements built namespace cursor asks reads in
                  let more = one.1.1 statements (c.pages.invariant.built ∙ built) so_far.so_far.namespace so_far.so_far.cursor so_far.so_far.next in
                  pages_more spec (g.O.Operation.spec c.pages.op) c.pages.invariant.spec (g.met.O.Operation.law c.args.op.now) statements page c.args.conn.now link mid now c.args.held c.pages.held c.read_one_page-now.result.0
                  before.0 c.pages.more so_far one.0 c.read_one_page-now.result.1 more c.in-Ok.next c.in-Ok.is,
            ),
          );
      some = c.pages.invariant.some;
      spec = same_twice spec (g.O.Operation.spec c.pages.op) (g.O.Operation.spec c.read_one_page-now.new.op) c.pages.invariant.spec c.read_one_page-now.ensures.spec;
      built = c.read_one_page-now.ensures.built ∙ c.pages.invariant.built;
      next = c.read_one_page-now.ensures.next ∙ c.pages.invariant.next;
      out = c.read_one_page-now.ensures.out ∙ c.pages.invariant.out;
    }

pub pages-smaller : goal.pages-smaller
pages-smaller g c =
    let some = c.pages.invariant.some in
    let before = c.pages.invariant.far some.0 some.1 in
    subst (λ r. OnOk r (g.O.Operation.left c.read_one_page-now.new.op < g.O.Operation.left c.pages.op)) c.in-Ok.is (c.read_one_page-now.ensures.left (before.0 ++ some.0 ∷ []) before.1.0)

pub returns-in-Err-clause-pages : goal.returns-in-Err-clause-pages
returns-in-Err-clause-pages g c = λ statements built page has namespace cursor asks reads.
    let spec = g.O.Operation.spec c.args.op.now in
    let link = besides_out (g.L.Link.tells c.args.link.now) in
    let mid = besides_out (g.L.Link.tells c.pages.link) in
    let now = besides_out (g.L.Link.tells c.read_one_page-now.new.link) in
    let before = c.pages.invariant.far page has in
    let one = c.read_one_page-now.ensures.page (before.0 ++ page ∷ []) before.1.0 in
    let so_far = before.1.1 statements built namespace cursor asks reads in
    let last = one.1.1 statements (c.pages.invariant.built ∙ built) so_far.so_far.namespace so_far.so_far.cursor so_far.so_far.next in
    pages_last spec (g.O.Operation.spec c.pages.op) c.pages.invariant.spec (g.met.O.Operation.law c.args.op.now) statements page c.args.conn.now link mid now c.args.held c.pages.held c.read_one_page-now.result.0
    before.0 c.pages.more so_far one.0 c.read_one_page-now.result.1 last c.in-Err.answer c.in-Err.is

pub returns-in-Err-clause-spec : goal.returns-in-Err-clause-spec
returns-in-Err-clause-spec g c =
    same_twice (g.O.Operation.spec c.args.op.now) (g.O.Operation.spec c.pages.op) (g.O.Operation.spec c.read_one_page-now.new.op) c.pages.invariant.spec c.read_one_page-now.ensures.spec
