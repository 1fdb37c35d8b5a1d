-- The message is about the document at the position.
use Rattle.std.proofs.Common.{ℕ, ◌+◌, List, inl, subst, ap, ◌∙◌}
use Rattle.driver_error.specs.declared.kind.ErrorKind.TheVariants.{InvalidArgument}
use Rattle.driver_error.specs.Error.{IsAlone}
use Rattle.driver_error.specs.LabelTexts.{no_labels}
use Rattle.write_ops.specs.InsertFronts.{size_text}
use Rattle.write_ops.proofs.insert_front.oversized.Goals as goal

pub returns-in-Ok : goal.returns-in-Ok
returns-in-Ok c =
    inl (subst (λ (message : List ℕ). IsAlone (InvalidArgument message) no_labels c.from_kind.result)
    (c.in-Ok.ensures ∙ ap (λ size. size_text c.args.limits.now size (c.args.first + c.args.at)) c.size_at-size.ensures) c.from_kind.ensures)
