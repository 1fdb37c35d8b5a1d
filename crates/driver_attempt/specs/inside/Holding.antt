-- A session that is lent, or comes back, at a reading of the clock, as the functions that do it say.
use Rattle.std.specs.Prelude.{Bool, Option, Result}
use Rattle.driver_error.specs.declared.error.Error.{Error}
use Rattle.driver_link.specs.Clock.{ClockTells}
use Rattle.driver_session.specs.Session.{Session}
use Rattle.driver_session.specs.StoreTells.{StoreTells}
use Rattle.driver_attempt.specs.Holding.{ExecutionSession, GivesBack, HoldsSession, IsBackAt, IsLentAt}

-- a session was lent where one is needed, at a reading of the clock
pub record HoldsAt (needed : Bool) (store now : StoreTells) (clock clock_now : ClockTells) (held held_now : ExecutionSession) (result : Result (Unit {0}) Error) : Type 0 where
  pub holds : HoldsSession needed store now held held_now result
  pub lent_at : IsLentAt needed store now held held_now result holds clock clock_now

-- a session that is held comes back, at a reading of the clock
pub record GivesBackAt (store now : StoreTells) (clock clock_now : ClockTells) (session : Option Session) : Type 0 where
  pub back : GivesBack store now session
  pub back_at : IsBackAt store now session back clock clock_now
