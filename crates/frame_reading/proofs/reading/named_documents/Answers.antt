-- The one sequence has the name, so it is the only one.
use Rattle.std.proofs.Common.{◌≡◌, List, Some, sym, ◌∙◌, ap}
use Rattle.std.specs.Prelude.{bytes_eq}
use Rattle.std.proofs.lemmas.Result.{IfOk-weaker}
use Rattle.bson_lite.specs.declared.bson.Bson.{Bson}
use Rattle.bson_lite.specs.declared.document.Pair.{Pair}
use Rattle.wire_keys.specs.declared.keys.TheConstants.{DOCUMENTS}
use Rattle.driver_link.specs.Reads.{SpellAll}
use Rattle.driver_link.specs.Sequences.{documents_at}
use Rattle.frame_reading.specs.inside.ReadFrames.{AreLone}
use Rattle.frame_reading.proofs.ReadLaws.{are_lone}
use Rattle.frame_reading.proofs.reading.named_documents.Goals as goal

pub returns-then-is_documents : goal.returns-then-is_documents
returns-then-is_documents c =
    IfOk-weaker c.decoded_documents.result
    (λ found. (documents : List (List (Pair Bson))) → SpellAll documents (documents_at c.args.frame.now.sequences 0) → found ≡ Some documents)
    (λ found. AreLone c.args.frame.now.sequences found)
    (λ found each. are_lone c.args.frame.now.sequences found c.requires
    (ap (λ name. bytes_eq name DOCUMENTS.now) (sym c.sequence_name.ensures) ∙ sym c.is_documents.ensures ∙ c.if-is_documents.true) each)
    c.decoded_documents.ensures
