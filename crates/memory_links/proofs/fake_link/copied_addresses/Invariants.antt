-- What was copied so far is the front of the addresses.
use Rattle.std.proofs.Common.{◌≡◌, ◌++◌, drop}
use Rattle.memory_links.proofs.fake_link.copied_addresses.Given as goal

abbrev pub invariant-loop-address : goal.invariant-loop-address
invariant-loop-address l = l.copies ++ drop l.address-index l.addresses ≡ l.addresses
