-- What was written is the name and the code.
use Rattle.std.proofs.Common.{rules, to_z-of_z}
use mir.Syntax.{w32}
use mir.Val.{SFits}
use Rattle.report_lines.specs.Words.{failure_text}
use Rattle.report_lines.proofs.details.push_failure.Goals as goal

pub returns-in_ok-write-in-WriteError : goal.returns-in_ok-write-in-WriteError
unfolding failure_text
returns-in_ok-write-in-WriteError c =
    let fits : SFits w32 c.in-WriteError.error.code = search rules in
    rw (c.in-WriteError.is) (simp to_z-of_z at c.in_ok-write-in-WriteError.ensures.bytes)
