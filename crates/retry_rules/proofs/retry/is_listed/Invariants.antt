-- None of the servers so far is the one.
use Rattle.std.proofs.Common.{◌≡◌, drop}
use Rattle.std.specs.List.{list_any}
use Rattle.retry_rules.specs.Retry.{is_server}
use Rattle.retry_rules.proofs.retry.is_listed.Given as goal

abbrev pub invariant-loop-server : goal.invariant-loop-server
invariant-loop-server l = list_any (is_server l.address) (drop l.server-index l.servers) ≡ list_any (is_server l.address) l.servers
