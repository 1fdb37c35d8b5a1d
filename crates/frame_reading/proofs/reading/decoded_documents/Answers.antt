use Rattle.std.proofs.Common.{◌≤◌, ◌+◌, Some, ap, sym, ◌∙◌, length, arith, subst}
use Rattle.driver_link.specs.Sequences.{documents_at}
use Rattle.frame_reading.proofs.ReadLaws.{Halves, halves_start, halves_next, halves_none, halves_end}
use Rattle.frame_reading.proofs.reading.decoded_documents.Goals as goal

pub loop-at-init : goal.loop-at-init
loop-at-init c = λ documents spelled.
    subst (λ made. Halves documents (documents_at c.args.frame.now.sequences c.args.place) made 0) (sym c.in_ok-documents.ensures.items) (halves_start documents _ spelled)

pub returns-in_default : goal.returns-in_default
returns-in_default c = λ documents spelled.
    absurd (halves_none documents _ _ _ _ c.document.ensures (λ d s. sym c.in_default.is ∙ c.in_ok-document.ensures d s) (c.loop-at.invariant documents spelled))

pub loop-at-preserved : goal.loop-at-preserved
loop-at-preserved c = λ documents spelled.
    subst (λ made. Halves documents (documents_at c.args.frame.now.sequences c.args.place) made (c.loop-at.at + 1)) (sym c.in_ok-push.ensures.items)
    (halves_next documents _ _ _ _ c.in-Some.document c.document.ensures (λ d s. sym c.in-Some.is ∙ c.in_ok-document.ensures d s) (c.loop-at.invariant documents spelled))

pub returns : goal.returns
returns c = λ documents spelled.
    let past : length (documents_at c.args.frame.now.sequences c.args.place) ≤ c.loop-at.at = omega (arith, c.document_count-count.ensures) in
    ap (λ made. Some made) c.from_vec.ensures ∙ halves_end documents _ _ _ past (c.loop-at.invariant documents spelled)
