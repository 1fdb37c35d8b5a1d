use Rattle.std.proofs.Common.{◌∷◌, [], rules, arith, map}
use Rattle.std.proofs.lemmas.List.{length-append}
use Rattle.bson_lite.specs.Spelling.{spelled, body_of, numbered}
use Rattle.bson_lite.proofs.Framing.{framed_there}
use Rattle.bson_lite.proofs.encoding.+put.Goals as goal

pub put_array-returns : goal.put_array-returns
put_array-returns t c = framed_there c.args.out.now c.put_values-end.new.out c.close.new.out (numbered 0 (map spelled c.args.values.now)) c.args.at c.put_values-end.result c.close.result (search rules) (omega (arith, c.requires, c.put_values-end.ensures.0, c.put_values-end.ensures.2, length-append (numbered 0 (map spelled c.args.values.now)) (0 ∷ []))) c.put_values-end.ensures c.close.ensures

pub put_document-returns : goal.put_document-returns
put_document-returns t c = framed_there c.args.out.now c.put_pairs-end.new.out c.close.new.out (body_of c.args.pairs.now) c.args.at c.put_pairs-end.result c.close.result (search rules) (omega (arith, c.requires, c.put_pairs-end.ensures.0, c.put_pairs-end.ensures.2, length-append (body_of c.args.pairs.now) (0 ∷ []))) c.put_pairs-end.ensures c.close.ensures
