use Rattle.std.proofs.Common.{◌<◌, ◌+◌, ◌∷◌, ◌++◌, Some, ap, sym, ◌∙◌, arith, drop, get_or, length}
use Rattle.std.proofs.lemmas.Option.{slice_get-get_or}
use Rattle.std.specs.Option.{option_map}
use Rattle.driver_link.specs.Writes.{placed}
use Rattle.driver_link.specs.declared.machine.Place.{Place}
use Rattle.driver_link.specs.declared.machine.Written.{Written}
use Rattle.frame_reading.proofs.WriteLaws.{none_before, placed_next, placed_few, placed_many, placed_end}
use Rattle.frame_reading.proofs.writing.placed.Goals as goal

pub loop-written-init : goal.loop-written-init
loop-written-init c =
    (λ i. option_map (λ more. c.in_ok-list.ensures.items i ++ more)
    (placed ((c.into_iter-written-iterator.ensures.into_iter_gives.0 ∙ c.into_vec-writes.ensures) i) c.args.places.now))
    ∙ none_before _

pub returns-then-at-places : goal.returns-then-at-places
returns-then-at-places c =
    placed_few _ _ _ _ _ _ _ c.in-Some.ensures.steps.0 c.if-at-places.true c.loop-written.invariant

pub loop-written-preserved : goal.loop-written-preserved
loop-written-preserved c =
    let none : Place = record { call = 0; index = 0 } in
    let within : c.loop-written.at < length c.args.places.now = omega arith in
    let there = c.in-Some.ensures.steps.0 ∙ ap (λ (written : Written). written ∷ c.next.new.self.rest.items) (sym c.in_ok-shared.ensures) in
    (λ i. option_map (λ more. c.in_ok-push.ensures.items i ++ more) (placed c.next.new.self.rest.items (drop (c.loop-written.at + 1) c.args.places.now)))
    ∙ placed_next c.in_ok-shared.shared _ c.next.new.self.rest.items c.args.places.now c.loop-written.at (get_or c.args.places.now c.loop-written.at none) c.loop-written.list.items _ there (slice_get-get_or c.args.places.now c.loop-written.at none within) c.loop-written.invariant

pub returns-then-at-places-2 : goal.returns-then-at-places-2
returns-then-at-places-2 c =
    placed_many _ _ _ _ _ (sym c.loop-written.written-iterator.rest.ok.0 ∙ c.in-None.ensures.steps.0) c.if-at-places-2.true c.loop-written.invariant

pub returns : goal.returns
returns c =
    ap (λ made. Some made) c.from_vec.ensures
    ∙ placed_end _ _ _ _ _ (sym c.loop-written.written-iterator.rest.ok.0 ∙ c.in-None.ensures.steps.0) c.if-at-places-2.false c.loop-written.invariant
