-- What the documents ask for is sent as the body says.
use Rattle.std.proofs.Common.{ℤ, Some, ap, sym, ◌∙◌}
use Rattle.std.specs.Int.{w64}
use Rattle.std.specs.Option.{option_map}
use Rattle.std.proofs.lemmas.Int.{to_z-of_z}
use Rattle.frame_reading.specs.inside.PlainInserts.{plain_send}
use Rattle.frame_reading.proofs.PlainBytes.{signed_64}
use Rattle.frame_reading.proofs.reading.plain_send.Goals as goal

pub returns-in-Some : goal.returns-in-Some
returns-in-Some c =
    ap (λ (number : ℤ). Some (record (plain_send c.args.plain c.in-Some.body) { number = Some number })) (to_z-of_z w64 c.args.plain.number (signed_64 c.args.plain.number c.requires))
    ∙ ap (option_map (plain_send c.args.plain)) (sym c.in-Some.is ∙ c.in_ok-asked.ensures)

pub returns-in-None : goal.returns-in-None
returns-in-None c = ap (option_map (plain_send c.args.plain)) (sym c.in-None.is ∙ c.in_ok-asked.ensures)
