-- Completeness of a single write: a valid one whose part of the schedule is gentle ends well.
use Rattle.std.specs.Prelude.{ℕ, ◌+◌, pos, true, Option, Some, Result}
use Rattle.driver_error.specs.declared.error.Error.{Error}
use Rattle.driver_link.specs.declared.machine.Place.{Place}
use Rattle.driver_link.specs.Retried.{IsGentleItem}
use Rattle.driver_link.specs.LinkState.{server_run, setup_of}
use Rattle.driver_link.specs.ServerRun.{ServerRun}
use Rattle.driver_session.specs.Pool.{Pool}
use Rattle.driver_attempt.specs.Moment.{Moment}
use Rattle.driver_exec.specs.BetweenCalls.{NumbersWithin}
use Rattle.driver_exec.specs.Gentle.{EndsWell, IsGentleWhereTold}
use Rattle.driver_exec.specs.OperationCauses.{DrawsNumbers}
use Rattle.driver_actions.specs.CallParts.{IsValidWrite}
use Rattle.driver_actions.specs.SingleEntries.{MayWrite}
use Rattle.driver_inputs.specs.declared.call.SingleAnswer.{SingleAnswer}
use Rattle.driver_inputs.specs.Forms.{WriteForm, kind_in, repeats_in}

-- the numbers of idle sessions rise by one at most, where the pool is told
abbrev pub RaisesWhereTold : Option Pool → Option Pool → Type 0
RaisesWhereTold (Some pool) (Some pool_now) = (most : ℕ) → NumbersWithin (pos most) pool.idle → NumbersWithin (pos (most + 1)) pool_now.idle
RaisesWhereTold pool pool_now = Unit {0}

-- the same of two moments
abbrev pub RaisesNumbers : Moment → Moment → Type 0
RaisesNumbers before now = RaisesWhereTold before.store.pool now.store.pool

-- such a write may be made, and no idle session has a number above this one
pub record MayComplete (most : ℕ) (pool pool_now : Pool) (run : ServerRun) (place : Place) : Type 0 where
  pub writes : MayWrite pool pool_now run place
  pub numbers : NumbersWithin (pos most) pool.idle

-- the same, where pool and server are told
abbrev pub MayCompleteWhereTold : ℕ → Option Pool → Option Pool → Option ServerRun → Place → Type 0
MayCompleteWhereTold most (Some pool) (Some pool_now) (Some run) place = MayComplete most pool pool_now run place
MayCompleteWhereTold most pool pool_now run place = ⊥

-- so it ends well, where it is valid after at most so many writes and its part of the schedule is gentle
abbrev pub CompletesSingle : Moment → Moment → WriteForm → Place → Result SingleAnswer Error → Type 0
CompletesSingle before now form place result =
    (most : ℕ) → MayCompleteWhereTold most before.store.pool now.store.pool (server_run before.link) place → IsValidWrite most before.client.options (setup_of before.link) form
    → IsGentleWhereTold (λ send. IsGentleItem (kind_in form)) (λ send. DrawsNumbers true (repeats_in form before.client.options) (setup_of before.link)) (server_run before.link) (server_run now.link)
    → EndsWell result
