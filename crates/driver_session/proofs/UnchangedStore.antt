-- What follows a store that stays is as if it were there at first.
use Rattle.std.proofs.Common.{◌≡◌, ℕ, subst, ◌∙◌}
use Rattle.driver_session.specs.StoreTells.{StoreTells, LendsSession}
use Rattle.driver_session.specs.Session.{Session}

-- a store that stays twice stays
pub stays_twice : (a b c : StoreTells) → b ≡ a → c ≡ b → c ≡ a
stays_twice a b c first second = second ∙ first

-- a store that stays lends what it did
pub stays_then_lends : (a b c : StoreTells) (at : ℕ) (session : Session) → b ≡ a → LendsSession b c at session → LendsSession a c at session
stays_then_lends a b c at session stays lends = subst (λ store. LendsSession store c at session) stays lends
