-- What the functions of the pool find.
use Rattle.std.specs.Prelude.{◌≡◌, ℕ, ◌+◌, ◌<◌, true, false, List, ◌++◌, length, take, drop, Option, None, Some}
use Rattle.driver_session.specs.declared.pool.IdleSession.{IdleSession}
use Rattle.driver_session.specs.Session.{Session}
use Rattle.driver_session.specs.Pool.{is_lent, without_first}

-- an idle session holds what a lent one does
abbrev pub IsNext : Session → IdleSession → Type 0
IsNext session idle = session ≡ record { id = idle.id; number = idle.number; last_use = idle.last_use; dirty = false }

-- the place of the first lent id that is this one, or none where it is not lent
abbrev pub FindsLent : List ℕ → List (List ℕ) → Option ℕ → Type 0
FindsLent id lent None = is_lent id lent ≡ false
FindsLent id lent (Some at) =
    (is_lent id lent ≡ true) × (at < length lent) × (take at lent ++ drop (at + 1) lent ≡ without_first id lent)
