-- A place further to the end.
use Rattle.std.proofs.Common.{◌≡◌, ◌<◌, arith, length, nat_eq, not, subst, sym, ◌∙◌}
use Rattle.std.specs.Prelude.{if◌then◌else◌}
use Rattle.std.specs.FinMap as finite
use Rattle.std.specs.HashSet.{contains}
use Rattle.write_ops.specs.declared.own_document.OwnDocument.{OwnDocument}
use Rattle.write_ops.proofs.UnfailedIds.{ids_more, ids_none, ids_passed}
use Rattle.write_ops.proofs.inserted.ids_besides.Goals as goal

pub documents-init : goal.documents-init
documents-init c = record {
  within = omega arith;
  found = c.new-ids.ensures ∙ ids_none (λ at. not (contains nat_eq c.args.failed.now at)) c.args.documents.now;
}

pub documents-preserved : goal.documents-preserved
documents-preserved c =
    let before : c.documents.at < length c.args.documents.now = c.documents-test.true in
    record {
      within = omega (arith, before);
      found = ids_more (λ at. not (contains nat_eq c.args.failed.now at)) c.args.documents.now c.documents.at c.index-documents-at.result c.documents.ids c.put_id.new.ids
          before c.index-documents-at.is c.documents.invariant.found
          (subst (λ (own : OwnDocument). c.put_id.new.ids ≡ (if not (contains nat_eq c.args.failed.now c.documents.at) then finite.insert c.documents.ids c.documents.at own.id else c.documents.ids))
          (sym c.index-documents-at.is) c.in_ok-put_id.ensures);
    }

pub returns : goal.returns
returns c =
    ids_passed (λ at. not (contains nat_eq c.args.failed.now at)) c.args.documents.now c.documents.at c.documents.ids
    c.documents-test.false c.documents.invariant.found
