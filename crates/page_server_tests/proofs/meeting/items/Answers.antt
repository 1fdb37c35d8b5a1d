-- One step more, whose item a model server takes.
use Rattle.std.proofs.Common.{◌≡◌, [], ◌∷◌, Ok, OnOk, Result, subst, sym}
use Rattle.std.specs.List.{All}
use Rattle.std.proofs.lemmas.List.Elements.{All-append, All-cons, All-nil}
use Rattle.driver_link.specs.declared.machine.Scheduled.{Scheduled}
use Rattle.driver_link.specs.WellFormed.{IsItem}
use Rattle.page_server_tests.proofs.meeting.items.Goals as goal

-- a step has an item that a model server takes
abbrev IsStep : Scheduled → Type 0
IsStep step = IsItem step.item

-- what a result says where it is fine holds, where it is
said : {X E : Type 0} (A : Type 0) (r : Result X E) (x : X) → r ≡ Ok x → OnOk r A → A
said A r x is given = subst (λ r. OnOk r A) is given

pub items-init : goal.items-init
items-init g c = subst (All IsStep) (sym c.new-steps.ensures) (All-nil IsStep)

pub items-preserved : goal.items-preserved
items-preserved g c =
    subst (All IsStep) (sym (said _ _ _ c.made.ensures c.push.ensures.ok)) (All-append IsStep c.items.steps (_ ∷ []) c.items.invariant (All-cons IsStep _ [] c.item.ensures (All-nil IsStep)))
