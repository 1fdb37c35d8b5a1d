-- What was written, then the codes that are left.
use Rattle.std.proofs.Common.{◌≡◌, ◌++◌, drop, map, string_bytes}
use Rattle.report_lines.specs.Words.{error_code, listed, more_texts}
use Rattle.report_lines.proofs.details.push_concern_codes.Given as goal

abbrev pub invariant-loop-concern : goal.invariant-loop-concern
invariant-loop-concern l =
    string_bytes l.out ++ more_texts (map error_code (drop l.concern-index l.rest))
    ≡ string_bytes l.fn.out ++ listed (map error_code l.fn.concerns)
