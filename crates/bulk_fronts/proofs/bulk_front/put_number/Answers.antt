-- The number stands at the text, and at each other text what stood there.
use Rattle.std.proofs.lemmas.Map.Text.{hash_map_updates_str}
use Rattle.bulk_fronts.proofs.bulk_front.put_number.Goals as goal

pub returns : goal.returns
returns c = hash_map_updates_str c.args.text.now c.args.numbers.now c.insert.new.self _ c.in_ok-insert.ensures.updates
