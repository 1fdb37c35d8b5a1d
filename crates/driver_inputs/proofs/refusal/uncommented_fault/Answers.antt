-- A body with a short name is short.
use Rattle.std.proofs.Common.{sym, ◌∙◌}
use Rattle.driver_inputs.proofs.InsertLengths.{short_body}
use Rattle.driver_inputs.proofs.refusal.uncommented_fault.Goals as goal

pub returns-then-is_short : goal.returns-then-is_short
returns-then-is_short c =
    short_body c.args.namespace.now c.args.options.now c.requires (sym c.is_short.ensures ∙ c.if-is_short.true)
