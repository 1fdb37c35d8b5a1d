-- Calls behind those that were made change nothing of what is said of these.
use Rattle.std.proofs.Common.{◌≡◌, ℕ, zero, suc, ◌+◌, List, [], ◌∷◌, ◌++◌, length, take, refl, sym, ap, subst, ◌∙◌, arith}
use Rattle.std.specs.Prelude.{Option, None, Some, IsSome, slice_get}
use Rattle.std.specs.Option.{option_and_then}
use Rattle.std.specs.Result.{result_ok}
use Rattle.driver_link.specs.declared.machine.Entry.{Entry}
use Rattle.driver_link.specs.declared.machine.Place.{Place}
use Rattle.driver_link.specs.declared.machine.Send.{Send}
use Rattle.driver_link.specs.declared.machine.Server.{Server}
use Rattle.driver_link.specs.declared.machine.Written.{Written}
use Rattle.driver_link.proofs.Lists.{get_left, some_is_some}
use Rattle.driver_session.specs.Pool.{Pool}
use Rattle.call_runs.specs.MainTheorem.{answer_at}
use Rattle.call_runs.specs.Standing.{AllOwn}
use Rattle.call_runs.proofs.RunSteps.{Ran}
use Rattle.call_runs.proofs.SpelledAnswers.{Answered}
use Rattle.driver_inputs.specs.declared.call.Answer.{Answer}
use Rattle.driver_inputs.specs.declared.call.Call.{Call}
use Rattle.driver_inputs.specs.declared.call.Outcome.{Outcome}
use Rattle.driver_inputs.specs.Calls.{OwnAt, Done, write_at, write_in, result_of, call_result}

-- a number after another is not 0
no_length : (count : ℕ) → suc count ≡ 0 → ⊥
no_length count is = omega arith

-- numbers whose next ones are equal are equal
one_less : (a b : ℕ) → suc a ≡ suc b → a ≡ b
one_less a b is = omega arith

-- where a list of the same length has an element, elements appended to this one change nothing
get_before : {A B : Type 0} (xs more : List A) (ys : List B) (at : ℕ) (y : B) → length ys ≡ length xs → slice_get ys at ≡ Some y
    → slice_get (xs ++ more) at ≡ slice_get xs at
get_before {B = B} xs more [] at y same is = absurd (let e : ◌≡◌ {A = Option B} None (Some y) = is in cc)
get_before [] more (z ∷ ys) at y same is = absurd (no_length (length ys) same)
get_before (x ∷ xs) more (z ∷ ys) zero y same is = refl
get_before (x ∷ xs) more (z ∷ ys) (suc at) y same is = get_before xs more ys at y (one_less (length ys) (length xs) same) is

-- the first elements, where they are none
pub take_none : {A : Type 0} (xs : List A) → take 0 xs ≡ []
take_none [] = refl
take_none (x ∷ xs) = refl

-- the first elements with the next one, by the number after this one
take_suc : {A : Type 0} (xs : List A) (at : ℕ) (x : A) → slice_get xs at ≡ Some x → take (suc at) xs ≡ take at xs ++ x ∷ []
take_suc {A = A} [] at x is = absurd (let e : ◌≡◌ {A = Option A} None (Some x) = is in cc)
take_suc (y ∷ xs) zero x is = ap (λ rest. y ∷ rest) (take_none xs) ∙ ap (λ first. first ∷ []) (some_is_some y x is)
take_suc (y ∷ xs) (suc at) x is = ap (λ rest. y ∷ rest) (take_suc xs at x is)

-- the first elements with the next one
pub take_next : {A : Type 0} (xs : List A) (at : ℕ) (x : A) → slice_get xs at ≡ Some x → take (at + 1) xs ≡ take at xs ++ x ∷ []
take_next xs at x is = let one : at + 1 ≡ suc at = omega arith in ap (λ count. take count xs) one ∙ take_suc xs at x is

-- a write that is own at a place stays so
own_at_left : (calls more : List Call) (place : Place) (sent : Written) → OwnAt (write_at calls place) sent → OwnAt (write_at (calls ++ more) place) sent
unfolding write_at
own_at_left calls more place sent own = of_found (slice_get calls place.call) refl own
  where
    -- by whether there is a call
    of_found : (found : Option Call) → slice_get calls place.call ≡ found → OwnAt (option_and_then (λ call. write_in call place.index) found) sent
        → OwnAt (option_and_then (λ call. write_in call place.index) (slice_get (calls ++ more) place.call)) sent
    of_found None is own = absurd own
    of_found (Some call) is own =
        subst (λ found. OwnAt (option_and_then (λ call. write_in call place.index) found) sent) (sym (get_left calls more place.call call is)) own

-- so do all writes of a trace
own_left : (calls more : List Call) (trace : List Send) → AllOwn calls trace → AllOwn (calls ++ more) trace
own_left calls more trace own = λ send at write has stands. own_at_left calls more write.place write.written (own send at write has stands)

-- an answer is of a call that was made
answer_from : (outcomes : List Outcome) (call : ℕ) (given : Answer) → answer_at outcomes call ≡ Some given → (outcome : Outcome) × (slice_get outcomes call ≡ Some outcome)
answer_from outcomes call given is = of_found (slice_get outcomes call) refl is
  where
    -- by whether there is an outcome
    of_found : (found : Option Outcome) → slice_get outcomes call ≡ found → option_and_then (λ outcome. result_ok outcome.result) found ≡ Some given
        → (outcome : Outcome) × (slice_get outcomes call ≡ Some outcome)
    of_found None at is = absurd (let e : ◌≡◌ {A = Option Answer} None (Some given) = is in cc)
    of_found (Some outcome) at is = (outcome, at)

module _ (calls more : List Call) (outcomes : List Outcome) (count : length outcomes ≡ length calls) where
  -- the call of an answer is the same
  same_call : (call : ℕ) (given : Answer) → answer_at outcomes call ≡ Some given → slice_get (calls ++ more) call ≡ slice_get calls call
  same_call call given is =
      let from = answer_from outcomes call given is in
      get_before calls more outcomes call from.0 count from.1

  -- what is done of it stays done
  done_same : (call : ℕ) (log : List Entry) → slice_get (calls ++ more) call ≡ slice_get calls call → Done calls call log → Done (calls ++ more) call log
  unfolding write_at
  done_same call log same done = λ index there.
      done index (subst (λ found. IsSome (option_and_then (λ made. write_in made index) found)) same there)

  -- and its answer stays
  result_same : (call : ℕ) (log : List Entry) → slice_get (calls ++ more) call ≡ slice_get calls call → call_result (calls ++ more) call log ≡ call_result calls call log
  unfolding call_result
  result_same call log same = ap (λ found. option_and_then (λ made. result_of made call log) found) same

  -- so the answers are those of the longer list
  answered_same : (log : List Entry) → Answered calls outcomes log → Answered (calls ++ more) outcomes log
  answered_same log answered = record {
    done = λ call given is. done_same call log (same_call call given is) (answered.done call given is);
    result = λ call given is. result_same call log (same_call call given is) ∙ answered.result call given is;
  }

  -- what holds after a number of calls
  pub ran_appended : (pool : Pool) (server : Server) → Ran calls outcomes pool server → Ran (calls ++ more) outcomes pool server
  ran_appended pool server ran = record {
    between = ran.between;
    sound = ran.sound;
    below = ran.below;
    own = own_left calls more server.trace ran.own;
    answered = answered_same server.log ran.answered;
  }
