-- By how much the numbers of idle sessions rise.
use Rattle.std.specs.Prelude.{ℕ, ◌+◌, pos, Option, Some}
use Rattle.driver_session.specs.Pool.{Pool}
use Rattle.driver_attempt.specs.Moment.{Moment}
use Rattle.driver_exec.specs.BetweenCalls.{NumbersWithin}

-- the numbers of idle sessions rise by so many at most, where the pool is told
abbrev pub RaisesByWhereTold : ℕ → Option Pool → Option Pool → Type 0
RaisesByWhereTold count (Some pool) (Some pool_now) = (most : ℕ) → NumbersWithin (pos most) pool.idle → NumbersWithin (pos (most + count)) pool_now.idle
RaisesByWhereTold count pool pool_now = Unit {0}

-- the same of two moments
abbrev pub RaisesBy : ℕ → Moment → Moment → Type 0
RaisesBy count before now = RaisesByWhereTold count before.store.pool now.store.pool
