-- The elements of both stand between the length of all and the last byte.
use Rattle.std.proofs.Common.{◌≤◌, ℕ, List, [], ◌∷◌, ◌++◌, ap, subst, ◌∙◌}
use Rattle.bson_lite.specs.Spelling.{four}
use Rattle.driver_attempt.specs.inside.JoinedBodies.{elements_in}
use Rattle.driver_attempt.proofs.JoinedBodies.{regrouped}
use Rattle.driver_attempt.proofs.joined_body.joined.Goals as goal

pub returns : goal.returns
returns c = record {
  is = c.in_ok-push.ensures.ok
      ∙ ap (λ (bytes : List ℕ). bytes ++ 0 ∷ []) (c.in_ok-extend_from_slice.ensures.ok ∙ (λ i. c.in_ok-out.ensures i ++ c.as_slice.ensures i))
      ∙ regrouped (four c.args.count) (elements_in c.args.own.now) c.args.more.now (0 ∷ [])
      ∙ ap (λ (n : ℕ). four n ++ ((elements_in c.args.own.now ++ c.args.more.now) ++ 0 ∷ [])) c.requires.count;
  short = subst (λ (n : ℕ). n ≤ 2147483647) c.requires.count c.requires.short;
}
