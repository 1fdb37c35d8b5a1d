-- Those of the documents before the last, and that of the last.
use Rattle.std.proofs.Common.{List, [], ◌∷◌, ◌++◌, sym, ap, ◌∙◌}
use Rattle.std.proofs.lemmas.List.{map_push}
use Rattle.driver_link.specs.Writes.{write_on, writes_on}
use Rattle.driver_link.specs.declared.machine.Written.{Written}
use Rattle.frame_reading.proofs.writing.written_into.Goals as goal

pub returns-in-None : goal.returns-in-None
returns-in-None c =
    c.new.ensures ∙ ap (λ documents. writes_on c.args.kind c.args.namespace documents) (sym c.in-None.ensures.0)

pub returns-in_ok-push-in-Some : goal.returns-in_ok-push-in-Some
returns-in_ok-push-in-Some c =
    c.in_ok-push-in-Some.ensures.ok
    ∙ ap (λ (writes : List Written). writes ++ write_on c.args.kind c.args.namespace c.in-Some.document ∷ []) c.in_ok-writes-in-Some.ensures
    ∙ sym (map_push (write_on c.args.kind c.args.namespace) c.pop.new.self c.in-Some.document)
    ∙ ap (λ documents. writes_on c.args.kind c.args.namespace documents) (sym c.in-Some.ensures)
