-- An entry in its place is a value at its index.
use Rattle.bson_lite.proofs.Rising.{put_inserts, put_rises, put_stays}
use Rattle.bson_lite.proofs.by_index.ByIndex.insert.Goals as goal

pub invariant_of-self : goal.invariant_of-self
invariant_of-self g c =
    put_rises c.self.inside.entries.items c.put_entry.new.entries.items c.args.index c.args.value c.put_entry.result c.self.invariant
    c.put_entry.ensures.ok c.put_entry.ensures.err

pub returns-clause-ok : goal.returns-clause-ok
returns-clause-ok g c =
    put_inserts c.self.inside.entries.items c.put_entry.new.entries.items c.args.index c.args.value _ c.put_entry.result c.self.invariant
    c.self.view_is c.put_entry.ensures.ok

pub returns-clause-err : goal.returns-clause-err
returns-clause-err g c =
    put_stays c.self.inside.entries.items c.put_entry.new.entries.items _ c.put_entry.result c.self.view_is c.put_entry.ensures.err
