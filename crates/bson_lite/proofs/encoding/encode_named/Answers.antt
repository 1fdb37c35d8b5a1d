-- A document behind an id has the length with it, and fills the bytes.
use Rattle.std.proofs.Common.{◌≡◌, ℕ, ◌+◌, ◌≤◌, List, ◌++◌, length, subst, sym, ◌∙◌, rules, arith}
use Rattle.std.proofs.lemmas.List.{take_at}
use Rattle.std.specs.Prelude.{Ok}
use Rattle.bson_lite.specs.Fields.{id_element, with_id}
use Rattle.bson_lite.specs.Spelling.{EncodesWithin, body_of, framed, spelling}
use Rattle.bson_lite.specs.Writing.{Puts}
use Rattle.bson_lite.proofs.Named.{spells_named}
use Rattle.bson_lite.proofs.encoding.encode_named.Goals as goal

pub returns : goal.returns
returns c =
    let size : length c.as_mut_slice.result.now ≡ length (spelling c.args.document.now) + 17 = search rules in
    let puts : Puts (framed (id_element c.args.id.now ++ body_of c.args.document.now)) 0 c.as_mut_slice.result.now c.put_named.new.out c.put_named.result = search rules in
    let filled : length c.put_named.new.out ≡ c.in_ok-out.out.len = search rules in
    let is : c.from_vec.result ≡ c.put_named.new.out = c.from_vec.ensures ∙ take_at c.put_named.new.out _ c.in_ok-out.out.len filled in
    let twelve : length c.args.id.now.bytes ≡ 12 = search rules in
    let fits : length (spelling c.args.document.now) ≤ 2147483630 = omega (arith, c.in_ok-length.ensures.length) in
    subst (λ (bytes : List ℕ). EncodesWithin c.args.levels (with_id c.args.id.now c.args.document.now) (Ok bytes)) (sym is)
    (spells_named c.args.levels c.args.id.now c.args.document.now c.as_mut_slice.result.now c.put_named.new.out c.put_named.result c.requires.none twelve
    c.in_ok-length.ensures.none c.in_ok-length.ensures.has fits size puts)
