-- A plain insert's body is the document that its bytes spell.
use Rattle.std.proofs.Common.{◌≡◌, List, ap, refl, subst, sym, ◌∙◌}
use Rattle.std.proofs.lemmas.Result.{IfOk-weaker}
use Rattle.std.specs.Prelude.{Option}
use Rattle.std.specs.Option.{option_and_then, option_map}
use Rattle.bson_lite.specs.declared.bson.Bson.{Bson}
use Rattle.bson_lite.specs.declared.document.Pair.{Pair}
use Rattle.frame_reading.specs.inside.PlainInserts.{asks_inserts, plain_send}
use Rattle.frame_reading.specs.inside.ReadFrames.{AreLone, ReadsFrame}
use Rattle.frame_reading.proofs.PlainInserts.{plain_read, plain_spelled}
use Rattle.frame_reading.proofs.reading.insert_send.Goals as goal

pub plain_send-requires : goal.plain_send-requires
plain_send-requires c = c.requires.sound.number

pub returns-in-Some : goal.returns-in-Some
returns-in-Some c =
    IfOk-weaker c.plain_send.result
    (λ found. found ≡ option_map (plain_send c.args.plain) (asks_inserts c.args.plain.namespace c.args.plain.ordered c.args.places.now c.in-Some.documents))
    (λ found. ReadsFrame c.args.frame.now c.args.places.now found)
    (λ found is send reads.
    is
    ∙ ap (λ (documents : Option (List (List (Pair Bson)))). option_map (plain_send c.args.plain) (option_and_then (λ all. asks_inserts c.args.plain.namespace c.args.plain.ordered c.args.places.now all) documents))
    (sym (subst (λ found. AreLone c.args.frame.now.sequences found) c.in-Some.is c.in_ok-documents.ensures reads.sequences reads.sequences_spelled))
    ∙ sym (plain_spelled c.args.plain c.requires.sound.session reads.sequences c.args.places.now)
    ∙ plain_read c.args.frame.now c.args.frame.now.database c.args.frame.now.body c.args.plain reads.body reads.sequences c.args.places.now refl refl c.requires reads.body_spelled
    ∙ reads.spelled)
    c.plain_send.ensures
