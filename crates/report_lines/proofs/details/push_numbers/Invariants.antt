-- What was written, then the numbers that are left.
use Rattle.std.proofs.Common.{◌≡◌, ◌++◌, drop, map, string_bytes}
use Rattle.std.specs.Fmt.{signed_decimal}
use Rattle.report_lines.specs.Words.{listed, more_texts}
use Rattle.report_lines.proofs.details.push_numbers.Given as goal

abbrev pub invariant-loop-number : goal.invariant-loop-number
invariant-loop-number l =
    string_bytes l.out ++ more_texts (map signed_decimal (drop l.number-index l.rest))
    ≡ string_bytes l.fn.out ++ listed (map signed_decimal l.fn.numbers)
