use Rattle.std.proofs.Common.{sym, ◌∙◌}
use Rattle.frame_reading.proofs.ReadLaws.{sequence_read, sequence_unread}
use Rattle.frame_reading.proofs.reading.decoded_sequence.Goals as goal

pub returns-in_default : goal.returns-in_default
returns-in_default c = λ sequence read here spells.
    absurd (sequence_unread c.args.frame.now.sequences c.args.place sequence read here spells (λ ds all. sym c.in_default.is ∙ c.in_ok-documents.ensures ds all))

pub returns : goal.returns
returns c = λ sequence read here spells.
    sequence_read c.args.frame.now.sequences c.args.place sequence read c.in_ok-name.name c.in-Some.documents here spells
    (c.in_ok-name.ensures ∙ c.sequence_name.ensures)
    (λ ds all. sym c.in-Some.is ∙ c.in_ok-documents.ensures ds all)
