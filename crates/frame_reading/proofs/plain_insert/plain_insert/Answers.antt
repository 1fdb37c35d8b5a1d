-- The guess names the database.
use Rattle.std.proofs.Common.{◌≡◌, ℕ, List, subst}
use Rattle.std.specs.Prelude.{IfOk, IfSome}
use Rattle.frame_reading.specs.inside.PlainInserts.{ReadsPlain}
use Rattle.frame_reading.proofs.plain_insert.plain_insert.Goals as goal

pub returns-in-Some : goal.returns-in-Some
returns-in-Some c =
    subst (λ (db : List ℕ). IfOk c.confirmed.result (λ found. ReadsPlain db c.args.body.now found))
    (subst (λ guess. IfSome guess (λ plain. plain.namespace.db ≡ c.args.database.now)) c.in-Some.is c.in_ok-guess.ensures.names) c.confirmed.ensures
