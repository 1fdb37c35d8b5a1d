-- An index that is greater than the last one would stand behind it.
use Rattle.std.proofs.Common.{ap, ltb-true, sym, ◌∙◌}
use Rattle.std.specs.Option.{option_copied}
use Rattle.bson_lite.proofs.Rising.{past_last, past_none}
use Rattle.bson_lite.proofs.by_index.is_past.Goals as goal

pub returns-in-None : goal.returns-in-None
returns-in-None g c past =
    past_none c.args.entries.now.items c.deref.result.now _ c.args.index c.deref.ensures.value c.args.entries.now.ok.0
    (sym (ap option_copied c.in-None.is) ∙ c.last.ensures.value)

pub returns-in-Some : goal.returns-in-Some
returns-in-Some g c past =
    past_last c.args.entries.now.items c.deref.result.now _ c.args.index c.in-Some.last.now c.deref.ensures.value c.args.entries.now.ok.0
    (sym (ap option_copied c.in-Some.is) ∙ c.last.ensures.value) c.requires (ltb-true _ _ past)
