-- No write stands twice in the log.
use Rattle.std.specs.Prelude.{◌≢◌, List, [], ◌∷◌}
use Rattle.driver_link.specs.declared.machine.Entry.{Entry}
use Rattle.driver_link.specs.declared.machine.Place.{Place}

-- no entry has this place
abbrev pub NoneAt : Place → List Entry → Type 0
NoneAt place [] = Unit {0}
NoneAt place (entry ∷ log) = (entry.place ≢ place) × NoneAt place log

-- no two entries have the same place
abbrev pub Once : List Entry → Type 0
Once [] = Unit {0}
Once (entry ∷ log) = NoneAt entry.place log × Once log
