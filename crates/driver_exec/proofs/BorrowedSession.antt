-- The session that an operation borrows: lent by its store, and what comes back of it.
use Rattle.std.proofs.Common.{◌≡◌, ℕ, ◌<◌, ◌≤◌, List, sym, subst, arith}
use Rattle.std.specs.Prelude.{ℤ, Option, None, Some, unwrap_or}
use Rattle.std.specs.Option.{option_map}
use Rattle.driver_session.specs.StoreTells.{LendsSession, StoreTells}
use Rattle.driver_session.specs.Session.{Raises, Session}
use Rattle.driver_exec.specs.Resending.{IsNumbered}

-- what a store that stays lends stays lent
pub lends_then_stays : (a b c : StoreTells) (at : ℕ) (session : Session) → LendsSession a b at session → c ≡ b → LendsSession a c at session
lends_then_stays a b c at session lends stays = subst (λ store. LendsSession a store at session) (sym stays) lends

-- a session's number beside the number of the send before: that number, which is the session's next, or none was drawn
abbrev pub NumberFits : Option (Option ℤ) → Session → Session → Type 0
NumberFits (Some (Some number)) lent session = (session.number ≡ number) × Raises lent session
NumberFits (Some None) lent session = session.number ≡ lent.number
NumberFits None lent session = session.number ≡ lent.number

-- without a session there is no number
abbrev pub Unnumbered : Option (Option ℤ) → Type 0
Unnumbered (Some (Some number)) = ⊥
Unnumbered (Some None) = Unit {0}
Unnumbered None = Unit {0}

-- a session that is held was lent by the store
pub record HeldFrom (P : Session → Session → Type 0) (store now : StoreTells) (session : Session) : Type 0 where
  pub at : ℕ
  pub lent : Session
  pub lends : LendsSession store now at lent
  pub id : session.id ≡ lent.id
  pub number : P lent session

-- what is held was lent, or the store stays
abbrev pub HoldsFrom : StoreTells → StoreTells → Option (Option ℤ) → Option Session → Type 0
HoldsFrom store now sent None = (now ≡ store) × Unnumbered sent
HoldsFrom store now sent (Some session) = HeldFrom (NumberFits sent) store now session

-- the same once the operation is over
abbrev pub HoldsLast : StoreTells → StoreTells → Option ℤ → Option Session → Type 0
HoldsLast store now number None = (now ≡ store) × (number ≡ None)
HoldsLast store now number (Some session) = HeldFrom (IsNumbered number) store now session

-- how many sends there were, by the number of the send before
abbrev pub CountFits : Option (Option ℤ) → ℕ → Type 0
CountFits None count = count ≡ 0
CountFits (Some None) count = count ≡ 1
CountFits (Some (Some number)) count = 0 < count

-- a further send has a number
abbrev pub MayGoOn : Option (Option ℤ) → Type 0
MayGoOn (Some None) = ⊥
MayGoOn (Some (Some number)) = Unit {0}
MayGoOn None = Unit {0}

-- the id of what is held
abbrev pub id_of : Option Session → Option (List ℕ)
id_of session = option_map (λ s. s.id) session

-- the number of the send before
abbrev pub number_of : Option (Option ℤ) → Option ℤ
number_of sent = unwrap_or sent None

-- without a number at most one send went out
pub one_at_most : (sent : Option (Option ℤ)) (count : ℕ) → CountFits sent count → number_of sent ≡ None → count ≤ 1
one_at_most None count fits none = omega (arith, fits)
one_at_most (Some None) count fits none = omega (arith, fits)
one_at_most (Some (Some number)) count fits none = absurd (let e : ◌≡◌ {A = Option ℤ} (Some number) None = none in cc)
