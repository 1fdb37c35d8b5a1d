-- A pair is a list of two.
use Rattle.std.proofs.lemmas.Result.{err_from_is_err_and}
use Rattle.script_parts.proofs.Pairs.{pair_read, pair_wrong}
use Rattle.script_parts.proofs.values.+value.Goals as goal

pub read_pair-returns-in_err-read_value-in-None : goal.read_pair-returns-in_err-read_value-in-None
read_pair-returns-in_err-read_value-in-None t c =
    let p = err_from_is_err_and c.from_residual-in_err-read_value-in-None.result c.from_residual-in_err-read_value-in-None.ensures.1 in
    rw (p.1, p.2) (pair_wrong c.args.value.now c.in-Some-next.key c.in-Some-next-2.inner c.in-Some.items c.next.new.self c.next-2.new.self c.in_ok-read_key-in-None.field-0 _
    c.in-Some.ensures c.in-Some-next.ensures c.in-Some-next-2.ensures c.in-None.ensures c.in_ok-read_key-in-None.ensures c.in_err-read_value-in-None.ensures)

pub read_pair-returns-in_ok-read_value-in-None : goal.read_pair-returns-in_ok-read_value-in-None
read_pair-returns-in_ok-read_value-in-None t c =
    pair_read c.args.value.now c.in-Some-next.key c.in-Some-next-2.inner c.in-Some.items c.next.new.self c.next-2.new.self c.in_ok-read_key-in-None.field-0 c.in_ok-read_value-in-None.field-0
    c.in-Some.ensures c.in-Some-next.ensures c.in-Some-next-2.ensures c.in-None.ensures c.in_ok-read_key-in-None.ensures c.in_ok-read_value-in-None.ensures
