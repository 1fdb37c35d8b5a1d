-- The making of a told server stays, and before the first call it is the fold of its empty trace.
use Rattle.std.proofs.Common.{◌≡◌, refl, sym, subst, ◌∙◌}
use Rattle.std.specs.Prelude.{Option, None, Some}
use Rattle.driver_link.specs.declared.machine.Server.{Server}
use Rattle.driver_link.specs.Exchange.{empty_server, replayed}
use Rattle.driver_link.specs.LinkState.{server_run}
use Rattle.driver_link.specs.ServerRun.{IsFresh, ServerRun}
use Rattle.driver_attempt.specs.Moment.{Moment}
use Rattle.driver_actions.specs.CallParts.{IsReplayed, IsReplayedWhereTold, KeepsMaking, KeepsMakingWhereTold}

-- a making that stays twice stays
told_twice : (a b c : Option ServerRun) → KeepsMakingWhereTold a b → KeepsMakingWhereTold b c → KeepsMakingWhereTold a c
told_twice None b c first second = subst (λ run. KeepsMakingWhereTold run c) first second
told_twice (Some old) None c first second = absurd first
told_twice (Some old) (Some mid) None first second = absurd second
told_twice (Some old) (Some mid) (Some now) first second = (second.0 ∙ first.0, second.1 ∙ first.1)

-- a making is the same as itself
pub told_refl : (run : Option ServerRun) → KeepsMakingWhereTold run run
told_refl None = refl
told_refl (Some told) = (refl, refl)

-- a server that has seen nothing is the fold of nothing
told_fresh : (run : Option ServerRun) → IsFresh run → IsReplayedWhereTold run
unfolding replayed
told_fresh None fresh = tt
told_fresh (Some told) fresh =
    let P : Server → Type 0 = λ server. server ≡ replayed told.schedule empty_server server.trace in
    subst P (sym fresh.0) refl

-- the same of moments
pub keeps_making_twice : (a b c : Moment) → KeepsMaking a b → KeepsMaking b c → KeepsMaking a c
keeps_making_twice a b c first second = told_twice (server_run a.link) (server_run b.link) (server_run c.link) first second

-- at one moment the making is the same
pub keeps_refl : (now : Moment) → KeepsMaking now now
keeps_refl now = told_refl (server_run now.link)

-- before the first send the server is the fold of its trace
pub fresh_replayed : (now : Moment) → IsFresh (server_run now.link) → IsReplayed now
fresh_replayed now fresh = told_fresh (server_run now.link) fresh
