-- The closure gives an entry's index.
use Rattle.std.proofs.Common.{rules}
use Rattle.std.proofs.lemmas.List.Sorted.{answers_always}
use Rattle.bson_lite.proofs.Rising.{places}
use Rattle.bson_lite.proofs.by_index.place_among.Goals as goal

pub returns : goal.returns
returns g c =
    let facts = c.binary_search_by_key.ensures in
    let by_key = facts.position (λ entry. entry.0) (answers_always _ _ _ (λ f a r h called. search rules)) in
    rw (← c.deref.ensures.value) (places c.deref.result.now (rw c.deref.ensures.value c.requires) c.args.index _ facts.bound by_key)
