use Rattle.bson_lite.proofs.raw.RawDocumentBuf.from_spelling.Goals as goal

pub invariant_of-result : goal.invariant_of-result
invariant_of-result c = record { document = c.args.document.now; spells = c.requires }
