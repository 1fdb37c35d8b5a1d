use Rattle.std.proofs.Common.{◌≤◌, ◌<◌, ◌+◌, [], Some, ap, sym, ◌∙◌, length, arith, subst}
use Rattle.std.proofs.lemmas.Option.{slice_get-get_or}
use Rattle.driver_link.specs.declared.frame.Sequence.{Sequence}
use Rattle.frame_reading.proofs.ReadLaws.{Parted, parted_start, parted_next, parted_none, parted_end}
use Rattle.frame_reading.proofs.reading.decoded_sequences.Goals as goal

pub loop-at-init : goal.loop-at-init
loop-at-init c = λ all spelled.
    subst (λ made. Parted all c.args.frame.now.sequences made 0) (sym c.in_ok-sequences.ensures.items) (parted_start all _ spelled)

pub returns-in_default : goal.returns-in_default
returns-in_default c = λ all spelled.
    let within : c.loop-at.at < length c.args.frame.now.sequences = omega (arith, c.sequence_count-count.ensures) in
    let none : Sequence = record { name = []; documents = [] } in
    absurd (parted_none all _ _ _ _ (slice_get-get_or c.args.frame.now.sequences c.loop-at.at none within)
    (λ d s. sym c.in_default.is ∙ c.in_ok-sequence.ensures _ d (slice_get-get_or c.args.frame.now.sequences c.loop-at.at none within) s) (c.loop-at.invariant all spelled))

pub loop-at-preserved : goal.loop-at-preserved
loop-at-preserved c = λ all spelled.
    let within : c.loop-at.at < length c.args.frame.now.sequences = omega (arith, c.sequence_count-count.ensures) in
    let none : Sequence = record { name = []; documents = [] } in
    subst (λ made. Parted all c.args.frame.now.sequences made (c.loop-at.at + 1)) (sym c.in_ok-push.ensures.items)
    (parted_next all _ _ _ _ c.in-Some.sequence (slice_get-get_or c.args.frame.now.sequences c.loop-at.at none within)
    (λ d s. sym c.in-Some.is ∙ c.in_ok-sequence.ensures _ d (slice_get-get_or c.args.frame.now.sequences c.loop-at.at none within) s) (c.loop-at.invariant all spelled))

pub returns : goal.returns
returns c = λ all spelled.
    let past : length c.args.frame.now.sequences ≤ c.loop-at.at = omega (arith, c.sequence_count-count.ensures) in
    ap (λ made. Some made) c.from_vec.ensures ∙ parted_end all _ _ _ past (c.loop-at.invariant all spelled)
