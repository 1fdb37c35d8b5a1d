-- The parts of a gentle part of a schedule are gentle: one for each command of a call, whose sends carry the same.
use Rattle.std.proofs.Common.{◌≡◌, ℕ, zero, suc, ◌+◌, ◌-◌, ◌^◌, ◌<◌, ◌≤◌, min, false, List, [], ◌∷◌, ◌++◌, length, refl, sym, ap, subst, ◌∙◌, arith}
use Rattle.std.specs.Prelude.{Some, ◌⊎◌, slice_get}
use Rattle.driver_link.specs.declared.machine.Item.{Item}
use Rattle.driver_link.specs.declared.machine.Send.{Send}
use Rattle.driver_link.specs.Counting.{is_listed}
use Rattle.driver_link.specs.Exchange.{step_at}
use Rattle.driver_link.specs.ServerRun.{ServerRun}
use Rattle.driver_exec.specs.Gentle.{IsGentlePart, IsLossy, IsOfPart, NoneListed}
use Rattle.driver_exec.specs.Resending.{SendsWhereTold}
use Rattle.driver_exec.proofs.Moments.{IsBefore}
use Rattle.driver_exec.proofs.Moves.{new_is}
use Rattle.driver_actions.specs.CallParts.{CarrySame}
use Rattle.many_actions.specs.ManyCompleteness.{IsGentleCallPart}

-- a count that is reached from a part was reached from the whole
reached_from : (most whole part at : ℕ) → min whole most ≤ part → min part most ≤ at → min whole most ≤ at
reached_from most whole part at within above = omega arith

-- and by its end
reached_by : (most at part whole : ℕ) → min (at + 1) most ≤ part → min part most ≤ whole → min (at + 1) most ≤ whole
reached_by most at part whole within above = omega arith

-- what stands before the end of a list stands there in a longer one
pub before_more : {A : Type 0} (xs more : List A) (at : ℕ) → at < length xs → slice_get (xs ++ more) at ≡ slice_get xs at
before_more [] more at below = absurd (omega (arith, below))
before_more (x ∷ xs) more zero below = refl
before_more (x ∷ xs) more (suc at) below = before_more xs more at (omega (arith, below))

-- the sends of one command carry the same, in a longer trace too
pub command_alike : (told now whole : ServerRun) (send : Send) (count : ℕ) (later : List Send) → SendsWhereTold false told now send count → whole.server.trace ≡ now.server.trace ++ later
    → (a b : ℕ) → IsOfPart told now a → IsOfPart told now b → CarrySame whole a b
command_alike told now whole send count later sends trace a b here there = λ one other at also.
    let at_now : slice_get now.server.trace a ≡ Some one = sym (before_more now.server.trace later a here.1) ∙ ap (λ t. slice_get t a) (sym trace) ∙ at in
    let also_now : slice_get now.server.trace b ≡ Some other = sym (before_more now.server.trace later b there.1) ∙ ap (λ t. slice_get t b) (sym trace) ∙ also in
    let one_is : send ≡ one = new_is told send count now sends a one here.0 at_now in
    let other_is : send ≡ other = new_is told send count now sends b other there.0 also_now in
    ap (λ s. s.body) (sym one_is ∙ other_is)

-- a part from one moment to another, within one that is gentle for a call
module _ (Serves : Send → Item → Type 0) (repeats : Send → Type 0) (told a b told_now : ServerRun) (gentle : IsGentleCallPart Serves repeats told told_now) (first_part : IsBefore told a) (part : IsBefore a b) (last_part : IsBefore b told_now) where
  -- the numbers of calls of a kind that are listed
  none_listed : (numbers kept : List ℕ) (from from_part to_part to : ℕ) → kept ≡ numbers → min from (2 ^ 64 - 1) ≤ from_part → min to_part (2 ^ 64 - 1) ≤ to → NoneListed numbers from to
      → NoneListed kept from_part to_part
  none_listed numbers kept from from_part to_part to same begins ends none = λ at counted.
      subst (λ n. is_listed n at ≡ false) (sym same)
      (none at (reached_from (2 ^ 64 - 1) from from_part at begins counted.0, reached_by (2 ^ 64 - 1) at to_part to counted.1 ends))

  -- an exchange of the part is one of the whole
  of_whole : (at : ℕ) → IsOfPart a b at → IsOfPart told told_now at
  of_whole at of_part =
      let begins = first_part.trace in
      let ends = last_part.trace in
      (omega (arith, begins, of_part.0), omega (arith, ends, of_part.1))

  -- so the part is gentle for one command, where its sends that get no reply carry the same
  pub part_gentle : ((one other : ℕ) → IsOfPart a b one → IsOfPart a b other → IsLossy (step_at told.schedule one).item → IsLossy (step_at told.schedule other).item → CarrySame told_now one other)
      → IsGentlePart Serves repeats a b
  part_gentle alike = record {
    selects = none_listed told.schedule.selects a.schedule.selects told.counts.selects a.counts.selects b.counts.selects told_now.counts.selects (ap (λ s. s.selects) first_part.schedule) first_part.selects
        last_part.selects gentle.selects;
    check_outs = none_listed told.schedule.check_outs a.schedule.check_outs told.counts.check_outs a.counts.check_outs b.counts.check_outs told_now.counts.check_outs
        (ap (λ s. s.check_outs) first_part.schedule) first_part.check_outs last_part.check_outs gentle.check_outs;
    overloaded = none_listed told.schedule.overloaded_check_outs a.schedule.overloaded_check_outs told.counts.check_outs a.counts.check_outs b.counts.check_outs told_now.counts.check_outs
        (ap (λ s. s.overloaded_check_outs) first_part.schedule) first_part.check_outs last_part.check_outs gentle.overloaded;
    items = λ at send of_part is.
        subst (λ s. Serves send (step_at s at).item ⊎ (repeats send × IsLossy (step_at s at).item)) (sym first_part.schedule)
        (gentle.items at send (of_whole at of_part) (last_part.stays at send is));
    one = λ one other of_part also_of loses also_loses.
        let here = subst (λ s. IsLossy (step_at s one).item) first_part.schedule loses in
        let there = subst (λ s. IsLossy (step_at s other).item) first_part.schedule also_loses in
        gentle.one one other (of_whole one of_part) (of_whole other also_of) here there (alike one other of_part also_of here there);
  }
