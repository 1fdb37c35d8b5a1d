-- Which ids are among others.
use Rattle.std.proofs.Common.{◌≡◌, ℕ, List, [], ◌∷◌, ◌++◌, refl, sym, ◌∙◌, inl, inr}
use Rattle.driver_link.specs.Apart.{NotAmong, AllApart}
use Rattle.driver_session.specs.Pool.{Among}

pub among_left : (id : List ℕ) (ids more : List (List ℕ)) → Among id ids → Among id (ids ++ more)
among_left id [] more among = absurd among
among_left id (other ∷ ids) more among = elim among [ inl same ↦ inl same | inr rest ↦ inr (among_left id ids more rest) ]

pub among_last : (id : List ℕ) (ids : List (List ℕ)) → Among id (ids ++ id ∷ [])
among_last id [] = inl refl
among_last id (other ∷ ids) = inr (among_last id ids)

pub not_among_left : (id : List ℕ) (ids more : List (List ℕ)) → NotAmong id (ids ++ more) → NotAmong id ids
not_among_left id [] more not = tt
not_among_left id (other ∷ ids) more not = (not.0, not_among_left id ids more not.1)

pub apart_left : (ids more : List (List ℕ)) → AllApart (ids ++ more) → AllApart ids
apart_left [] more apart = tt
apart_left (id ∷ ids) more apart = (not_among_left id ids more apart.0, apart_left ids more apart.1)

not_last : (id last : List ℕ) (ids : List (List ℕ)) → NotAmong id (ids ++ last ∷ []) → last ≡ id → ⊥
not_last id last [] not same = not.0 (sym same)
not_last id last (other ∷ ids) not same = not_last id last ids not.1 same

-- the last of ids that are apart is not among those before it
pub apart_last : (ids : List (List ℕ)) (last : List ℕ) → AllApart (ids ++ last ∷ []) → NotAmong last ids
apart_last [] last apart = tt
apart_last (id ∷ ids) last apart = (not_last id last ids apart.0, apart_last ids last apart.1)

pub among_differs : (id other : List ℕ) (ids : List (List ℕ)) → Among id ids → NotAmong other ids → other ≡ id → ⊥
among_differs id other [] among not same = absurd among
among_differs id other (first ∷ ids) among not same = elim among [
  | inl is ↦ not.0 (same ∙ is)
  | inr rest ↦ among_differs id other ids rest not.1 same
]
