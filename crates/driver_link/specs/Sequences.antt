-- The sequences of a frame by their places.
use Rattle.std.specs.Prelude.{ℕ, List, [], slice_get}
use Rattle.std.specs.Option.{option_map_or}
use Rattle.driver_link.specs.declared.frame.Sequence.{Sequence}

-- the name of the sequence at a place, and no text where there is none
abbrev pub name_at : List Sequence → ℕ → List ℕ
name_at sequences at = option_map_or (λ sequence. sequence.name) (slice_get sequences at) []

-- the documents of the sequence at a place, and none where there is none
abbrev pub documents_at : List Sequence → ℕ → List (List ℕ)
documents_at sequences at = option_map_or (λ sequence. sequence.documents) (slice_get sequences at) []
