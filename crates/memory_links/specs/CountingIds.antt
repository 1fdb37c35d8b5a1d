-- Ids that count from 1 to the greatest number of their width, and then from 1 again.
use Rattle.std.specs.Prelude.{ℕ, ◌+◌, ◌-◌, ◌%◌, ◌^◌, List}
use Rattle.std.specs.Int.{bytes_high_first}
use Rattle.driver_link.specs.declared.ids.IdKind.TheVariants.{Session, Object}
use Rattle.driver_link.specs.Ids.{IdsToCome, times}

-- how many session ids and object ids were drawn since their numbers last began with 1
pub record IdsDrawn : Type 0 where
  pub sessions : ℕ
  pub objects : ℕ

-- none
abbrev pub none_drawn : IdsDrawn
none_drawn = record { sessions = 0; objects = 0 }

-- the number that the k-th draw from now on gives, from 0
abbrev pub number_at : ℕ → ℕ → ℕ → ℕ
number_at greatest drawn k = (drawn + k) % greatest + 1

-- the k-th session id to come: the sixteen bytes of its number, the high byte first
unfoldable pub session_at : IdsDrawn → ℕ → List ℕ
session_at ids k = bytes_high_first 16 (number_at (2 ^ 128 - 1) ids.sessions k)

-- the k-th object id to come, in twelve bytes
unfoldable pub object_at : IdsDrawn → ℕ → List ℕ
object_at ids k = bytes_high_first 12 (number_at (2 ^ 96 - 1) ids.objects k)

-- the id of a kind after these draws: its number counts the draws of its kind alone
abbrev pub counted_ids : IdsDrawn → IdsToCome
counted_ids ids kinds Session = session_at ids (times Session kinds)
counted_ids ids kinds Object = object_at ids (times Object kinds)
