-- The counts where no two write errors are of one document, else none.
use Rattle.std.proofs.Common.{Bool, ◌&&◌, pos, ◌+ℤ◌, length, ap, sym, ◌∙◌}
use Rattle.std.specs.List.{list_all}
use Rattle.std.specs.Ordering.{int_eq}
use Rattle.write_ops.specs.InsertAnswers.{is_below}
use Rattle.write_ops.proofs.insert.counts_unordered.Goals as goal

pub returns-then-apart : goal.returns-then-apart
returns-then-apart c =
    let errors = c.args.errors.now in
    c.counts_others.ensures
    ∙ ap (λ (apart : Bool). apart && list_all (is_below c.args.count) errors && int_eq (c.args.found.now.n +ℤ pos (length errors)) (pos c.args.count))
    (sym c.if-apart.true ∙ c.in_ok-apart.ensures)

pub returns-else-apart : goal.returns-else-apart
returns-else-apart c =
    let errors = c.args.errors.now in
    ap (λ (apart : Bool). apart && list_all (is_below c.args.count) errors && int_eq (c.args.found.now.n +ℤ pos (length errors)) (pos c.args.count))
    (sym c.if-apart.false ∙ c.in_ok-apart.ensures)
