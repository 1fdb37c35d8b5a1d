-- The digits of a place are its key.
use Rattle.std.proofs.Common.{◌≡◌, ℕ, List, ◌∷◌, ◌++◌, sym, ap, ◌∙◌, arith}
use Rattle.std.specs.Prelude.{decimal}
use Rattle.bson_lite.specs.Reading.{or_at}
use Rattle.bson_reading.proofs.Places.{place_is, place_is_not}
use Rattle.bson_reading.proofs.parts.place_of.Goals as goal

pub returns-in-Some-clause-gives : goal.returns-in-Some-clause-gives
returns-in-Some-clause-gives c =
    let digits : c.as_bytes.result.now ≡ decimal c.args.place = c.as_bytes.ensures.value ∙ c.format.ensures.text in
    ap (or_at c.args.at)
    (place_is c.args.place c.args.bytes.now c.in-Some.rest.now (omega (arith, c.ranges.place.fits))
    (c.in-Some.ensures.some ∙ ap (λ (key : List ℕ). key ++ 0 ∷ c.in-Some.rest.now) digits))

pub returns-in-None-clause-gives : goal.returns-in-None-clause-gives
returns-in-None-clause-gives c =
    let digits : c.as_bytes.result.now ≡ decimal c.args.place = c.as_bytes.ensures.value ∙ c.format.ensures.text in
    ap (or_at c.args.at)
    (place_is_not c.args.place c.args.bytes.now
    (λ rest is. c.in-None.ensures.none rest (is ∙ sym (ap (λ (key : List ℕ). key ++ 0 ∷ rest) digits))))
