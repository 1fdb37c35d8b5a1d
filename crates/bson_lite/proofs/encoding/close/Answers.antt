use Rattle.std.proofs.Common.{rules}
use Rattle.bson_lite.proofs.Framing.{closed}
use Rattle.bson_lite.proofs.encoding.close.Goals as goal

pub returns : goal.returns
returns c = closed c.args.out.now c.put-after.new.out c.patch.new.out c.args.at c.args.end c.put-after.result c.requires.start c.requires.room c.put-after.ensures (search rules) (search rules)
