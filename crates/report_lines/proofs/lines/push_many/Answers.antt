-- How many documents an insert of many put in: as many as it lists.
use Rattle.std.proofs.Common.{◌≡◌, ◌++◌, string_bytes, subst}
use Rattle.std.specs.Fmt.{decimal}
use Rattle.std.specs.Prelude.{codes}
use Rattle.report_lines.specs.Lines.{many_text}
use Rattle.report_lines.proofs.lines.push_many.Goals as goal

pub returns : goal.returns
unfolding many_text
returns c =
    subst (λ n. string_bytes c.write.new.self ≡ string_bytes c.args.out.now ++ (codes "ok inserted=" ++ decimal n)) c.len-count.ensures c.in_ok-write.ensures.bytes
