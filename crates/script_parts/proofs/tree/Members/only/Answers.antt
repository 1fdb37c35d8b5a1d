-- What stands last under the key is smaller than all members.
use Rattle.script_parts.proofs.Only.{only_smaller}
use Rattle.script_parts.proofs.tree.Members.only.Goals as goal

pub returns-in-Some-last_of-clause-smaller : goal.returns-in-Some-last_of-clause-smaller
returns-in-Some-last_of-clause-smaller c =
    only_smaller c.args.self c.next.new.self c.in-Some.key.now c.in-Some.first c.in-Some-last_of.last c.in-Some.ensures c.in-Some-last_of.ensures
