-- The counts of an insert that is ordered or not.
use Rattle.std.proofs.Common.{◌≡◌, Bool, IfOk, ap, subst, sym, ◌∙◌}
use Rattle.write_ops.specs.InsertAnswers.{counts_all, counts_ordered, counts_unordered}
use Rattle.write_ops.proofs.insert.counts_all.Goals as goal

pub returns-then-ordered : goal.returns-then-ordered
returns-then-ordered c =
    let found = c.args.found.now in
    c.counts_ordered.ensures ∙ ap (λ errors. counts_ordered c.args.count found.n errors) c.as_slice-errors.ensures
    ∙ ap (λ (ordered : Bool). counts_all ordered c.args.count found.n found.errors) (sym c.if-ordered.true)

pub returns-else-ordered : goal.returns-else-ordered
returns-else-ordered c =
    let found = c.args.found.now in
    subst (λ (told : Bool). IfOk c.counts_unordered.result (λ counted. counted ≡ told))
    (ap (λ errors. counts_unordered c.args.count found.n errors) c.as_slice-errors.ensures
    ∙ ap (λ (ordered : Bool). counts_all ordered c.args.count found.n found.errors) (sym c.if-ordered.false)) c.counts_unordered.ensures
