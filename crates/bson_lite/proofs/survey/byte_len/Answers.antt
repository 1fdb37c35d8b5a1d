use Rattle.std.proofs.lemmas.Str.{is_utf8-from_IsUtf8}
use Rattle.bson_lite.proofs.survey.byte_len.Goals as goal

pub returns-clause-utf8 : goal.returns-clause-utf8
returns-clause-utf8 c = is_utf8-from_IsUtf8 c.args.text.now c.as_str.ensures.utf8
