-- What was written, then the labels that are left.
use Rattle.std.proofs.Common.{◌≡◌, ◌++◌, drop, string_bytes}
use Rattle.report_lines.specs.Words.{listed, more_texts}
use Rattle.report_lines.proofs.words.push_labels.Given as goal

abbrev pub invariant-loop-label : goal.invariant-loop-label
invariant-loop-label l =
    string_bytes l.out ++ more_texts (drop l.label-index l.rest) ≡ string_bytes l.fn.out ++ listed l.fn.labels
