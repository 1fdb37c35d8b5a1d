-- What holds of the server that is told after a call before which all stood.
use Rattle.std.proofs.Common.{ℕ}
use Rattle.std.specs.Prelude.{Option, None, Some, IfSome}
use Rattle.driver_link.specs.ServerRun.{ServerRun}
use Rattle.driver_session.specs.Pool.{Pool}
use Rattle.many_actions.specs.ManyCompleteness.{MayCompleteCallWhereTold}
use Rattle.many_actions.specs.ManyEntries.{MayWriteCall}

-- by what holds where pool and server are told and the call may be made
pub by_told : (most number : ℕ) (P : ServerRun → ServerRun → Type 0) (Q : Option Pool → Option Pool → Option ServerRun → Option ServerRun → Type 0)
    → ((pool pool_now : Pool) (told told_now : ServerRun) → Q (Some pool) (Some pool_now) (Some told) (Some told_now) → MayWriteCall pool pool_now told number → P told told_now)
    → (store store_now : Option Pool) (link link_now : Option ServerRun) → Q store store_now link link_now → MayCompleteCallWhereTold most store store_now link number → IfSome link (λ told. IfSome link_now (λ told_now. P told told_now))
by_told most number P Q gives store store_now None link_now holds may = tt
by_told most number P Q gives store store_now (Some told) None holds may = tt
by_told most number P Q gives None store_now (Some told) (Some told_now) holds may = absurd may
by_told most number P Q gives (Some pool) None (Some told) (Some told_now) holds may = absurd may
by_told most number P Q gives (Some pool) (Some pool_now) (Some told) (Some told_now) holds may = gives pool pool_now told told_now holds may.writes
