-- A session with the number of its next write.
use Rattle.std.specs.Prelude.{ℕ, ℤ, Ok}
use Rattle.driver_session.specs.Session.{Numbers, Session}
use Rattle.driver_session.specs.StoreTells.{LendsSession, StoreTells}

-- a store lent a session at a time, which then gave its next number
pub record LendsNumbered (old now : StoreTells) (at : ℕ) (session : Session) (number : ℤ) : Type 0 where
  pub lent : Session
  pub lends : LendsSession old now at lent
  pub numbers : Numbers lent session (Ok number)
