use Rattle.std.proofs.Common.{◌≡◌, ap, sym, ◌∙◌, subst}
use Rattle.std.proofs.lemmas.Result.{IfOk-weaker}
use Rattle.bson_lite.specs.Spelling.{Spells}
use Rattle.driver_link.specs.Asking.{spelled}
use Rattle.frame_reading.proofs.ReadLaws.{read_law}
use Rattle.frame_reading.proofs.reading.document_send.Goals as goal

pub returns : goal.returns
returns c =
    IfOk-weaker c.send_of.result
    (λ found. found ≡ spelled c.database.result.now c.in-Some.body c.in-Some-2.sequences c.args.places.now) _
    (λ found is send reads.
    is
    ∙ ap (λ name. spelled name c.in-Some.body c.in-Some-2.sequences c.args.places.now) c.database.ensures
    ∙ read_law c.args.frame.now c.args.places.now send c.in-Some.body c.in-Some-2.sequences
    (λ d spelled. sym c.in-Some.is ∙ c.in_ok-body.ensures d (subst (Spells d) (sym c.body.ensures) spelled))
    (λ ds all. sym c.in-Some-2.is ∙ c.in_ok-sequences.ensures ds all) reads)
    c.send_of.ensures
