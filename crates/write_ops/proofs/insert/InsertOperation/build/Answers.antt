-- The command is an insert's, of as many documents as go out; or the build is refused for one that does not.
use Rattle.std.proofs.Common.{◌≡◌, ◌∙◌, ap, length, map, refl, subst}
use Rattle.bson_lite.specs.Spelling.{spelling}
use Rattle.driver_ops.specs.Limits.{built_count, limits_for}
use Rattle.driver_ops.specs.Inserts.{IsOneSequence, insert_command}
use Rattle.driver_ops.specs.SendKinds.{first}
use Rattle.driver_ops.specs.Targets.{database_of, namespace_of}
use Rattle.write_ops.specs.InsertFronts.{insert_limits}
use Rattle.write_ops.specs.InsertSpec.{statements_fixed}
use Rattle.write_ops.proofs.InsertCommand.{builds_insert, refuses_insert}
use Rattle.write_ops.proofs.insert.InsertOperation.build.Goals as goal

pub returns-clause-builds : goal.returns-clause-builds
returns-clause-builds c =
    let insert = c.args.self.now in
    let body_is : c.in_ok-body.body ≡ insert_command (namespace_of insert.target) insert.options.now =
    c.in_ok-body.ensures (database_of insert.target)
    ∙ ap (λ coll. insert_command (record { db = database_of insert.target; coll = coll }) insert.options.now) c.collection.ensures in
    let limits_are : c.limits_beside-limits.result ≡ insert_limits (namespace_of insert.target) insert.options.now c.args.description.now =
    c.limits_beside-limits.ensures ∙ ap (λ body. limits_for c.args.description.now (length (spelling body))) body_is in
    builds_insert insert.target insert.first insert.documents.now insert.options.now first c.args.description.now c.limits_beside-limits.result
    c.statements_fixed-fixed.result (statements_fixed insert.documents.now (built_count insert.fixed)) c.in-Ok.count c.in_ok-command.command
    limits_are c.statements_fixed-fixed.ensures.value c.in-Ok.ensures.takes c.in_ok-command.ensures.name c.in_ok-command.ensures.database (c.in_ok-command.ensures.body ∙ body_is)
    (subst (λ own. IsOneSequence c.in_ok-command.command.sequences (map (λ document. document.bytes) own)) c.front.ensures c.in_ok-command.ensures.sequences)

pub returns-in-Err-clause-builds : goal.returns-in-Err-clause-builds
returns-in-Err-clause-builds c =
    let insert = c.args.self.now in
    let body_is : c.in_ok-body.body ≡ insert_command (namespace_of insert.target) insert.options.now =
    c.in_ok-body.ensures (database_of insert.target)
    ∙ ap (λ coll. insert_command (record { db = database_of insert.target; coll = coll }) insert.options.now) c.collection.ensures in
    let limits_are : c.limits_beside-limits.result ≡ insert_limits (namespace_of insert.target) insert.options.now c.args.description.now =
    c.limits_beside-limits.ensures ∙ ap (λ body. limits_for c.args.description.now (length (spelling body))) body_is in (
      refl,
      refuses_insert insert.target insert.first insert.documents.now insert.options.now c.args.description.now c.limits_beside-limits.result
          c.statements_fixed-fixed.result (statements_fixed insert.documents.now (built_count insert.fixed)) c.in-Err.at c.oversized.result
          limits_are c.statements_fixed-fixed.ensures.value c.in-Err.ensures.takes c.oversized.ensures,
    )
