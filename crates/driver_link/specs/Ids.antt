-- Ids to come, whichever draws are made before.
use Rattle.std.specs.Prelude.{ℕ, ◌+◌, List, [], ◌∷◌}
use Rattle.driver_link.specs.declared.ids.IdKind.{IdKind}
use Rattle.driver_link.specs.declared.ids.IdKind.TheVariants.{Session, Object}

-- the id of a kind that a source gives after these draws, the next draw first
abbrev pub IdsToCome : Type 0
IdsToCome = List IdKind → IdKind → List ℕ

-- the ids to come after one draw
abbrev pub after_draw : IdKind → IdsToCome → IdsToCome
after_draw drawn to_come = λ kinds kind. to_come (drawn ∷ kinds) kind

-- those after these draws, the first of them first
abbrev pub after_draws : List IdKind → IdsToCome → IdsToCome
after_draws [] to_come = to_come
after_draws (drawn ∷ kinds) to_come = after_draws kinds (after_draw drawn to_come)

-- the session ids that these draws give
abbrev pub session_ids : List IdKind → IdsToCome → List (List ℕ)
session_ids [] to_come = []
session_ids (Session ∷ kinds) to_come = to_come [] Session ∷ session_ids kinds (after_draw Session to_come)
session_ids (Object ∷ kinds) to_come = session_ids kinds (after_draw Object to_come)

-- one draw more, where it is of this kind
abbrev pub count_after_draw : IdKind → IdKind → ℕ → ℕ
count_after_draw Session Session count = count + 1
count_after_draw Object Object count = count + 1
count_after_draw kind drawn count = count

-- how many of these draws are of one kind
abbrev pub times : IdKind → List IdKind → ℕ
times kind [] = 0
times kind (drawn ∷ kinds) = count_after_draw kind drawn (times kind kinds)
