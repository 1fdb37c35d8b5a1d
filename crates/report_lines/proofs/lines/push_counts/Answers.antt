-- Two counts, one behind the other.
use Rattle.std.proofs.Common.{◌≡◌, ◌++◌, ap, subst, ◌∙◌, string_bytes, OnOk}
use Rattle.std.proofs.lemmas.List.{append_assoc}
use Rattle.std.specs.Prelude.{codes}
use Rattle.report_lines.specs.Lines.{count_text, counts_text}
use Rattle.report_lines.proofs.lines.push_counts.Goals as goal

pub returns : goal.returns
unfolding counts_text
returns c =
    let old = string_bytes c.args.out.now in
    let first = count_text (codes "ok matched=") c.args.updated.now.matched_count in
    let second = count_text (codes " modified=") c.args.updated.now.modified_count in
    subst (λ s. OnOk c.push_count-2.result (string_bytes c.push_count-2.new.out ≡ s))
    (ap (λ s. s ++ second) c.in_ok-push_count.ensures ∙ append_assoc old first second) c.push_count-2.ensures
