-- The command is a bulk write's, of as many ops as go out; or the build is refused.
use Rattle.std.proofs.Common.{◌≡◌, ap, length, refl, sym, ◌∙◌}
use Rattle.bson_lite.specs.Spelling.{spelling}
use Rattle.driver_ops.specs.Limits.{built_count, limits_for}
use Rattle.driver_ops.specs.SendKinds.{first}
use Rattle.bulk_fronts.specs.BulkFronts.{bulk_limits}
use Rattle.bulk_ops.specs.BulkSpec.{is_verbose}
use Rattle.bulk_fronts.specs.BulkWrites.{bulk_command}
use Rattle.bulk_ops.proofs.BulkTaken.{builds_taken, refuses_none, refuses_old, refuses_past}
use Rattle.bulk_ops.proofs.bulk_write.BulkWriteOpOperation.build.Goals as goal

pub returns-then-not-serves-clause-builds : goal.returns-then-not-serves-clause-builds
returns-then-not-serves-clause-builds g c =
    let op = c.args.self.now in (
      refl,
      refuses_old op.target op.first op.ops.now op.options.now g.R.BulkWriteResult.tells c.args.description.now (built_count op.fixed) c.old_server.result
          (sym c.serves_bulk-serves.ensures ∙ c.if-not-serves.true) c.old_server.ensures,
    )

pub returns-in-Stops-clause-builds : goal.returns-in-Stops-clause-builds
returns-in-Stops-clause-builds g c =
    let op = c.args.self.now in
    let limits_are : c.limits_beside-limits.result ≡ bulk_limits op.options.now (is_verbose g.R.BulkWriteResult.tells) c.args.description.now =
    c.limits_beside-limits.ensures ∙ ap (λ body. limits_for c.args.description.now (length (spelling body))) (c.in_ok-body.ensures ∙ ap (bulk_command op.options.now) c.is_verbose.ensures) in (
      refl,
      refuses_none op.target op.first op.ops.now op.options.now g.R.BulkWriteResult.tells c.args.description.now (built_count op.fixed) (sym c.serves_bulk-serves.ensures ∙ c.if-not-serves.false)
          c.limits_beside-limits.result c.fixed_count-fixed.result c.in_ok-found.found c.in-Stops.at c.oversized_op.result
          limits_are c.fixed_count-fixed.ensures.value c.in-Stops.is c.in_ok-found.ensures c.oversized_op.ensures,
    )

pub returns-then-not-numbered-clause-builds : goal.returns-then-not-numbered-clause-builds
returns-then-not-numbered-clause-builds g c =
    let op = c.args.self.now in
    let limits_are : c.limits_beside-limits.result ≡ bulk_limits op.options.now (is_verbose g.R.BulkWriteResult.tells) c.args.description.now =
    c.limits_beside-limits.ensures ∙ ap (λ body. limits_for c.args.description.now (length (spelling body))) (c.in_ok-body.ensures ∙ ap (bulk_command op.options.now) c.is_verbose.ensures) in (
      refl,
      refuses_past op.target op.first op.ops.now op.options.now g.R.BulkWriteResult.tells c.args.description.now (built_count op.fixed) (sym c.serves_bulk-serves.ensures ∙ c.if-not-serves.false)
          c.limits_beside-limits.result c.fixed_count-fixed.result c.in_ok-found.found c.in-Front.front c.is_numbered-numbered.result c.past_numbers.result
          limits_are c.fixed_count-fixed.ensures.value c.in-Front.is c.in_ok-found.ensures c.if-not-numbered.true c.is_numbered-numbered.ensures c.past_numbers.ensures,
    )

pub returns-clause-builds : goal.returns-clause-builds
returns-clause-builds g c =
    let op = c.args.self.now in
    let limits_are : c.limits_beside-limits.result ≡ bulk_limits op.options.now (is_verbose g.R.BulkWriteResult.tells) c.args.description.now =
    c.limits_beside-limits.ensures ∙ ap (λ body. limits_for c.args.description.now (length (spelling body))) (c.in_ok-body.ensures ∙ ap (bulk_command op.options.now) c.is_verbose.ensures) in
    builds_taken op.target op.first op.ops.now op.options.now g.R.BulkWriteResult.tells c.args.description.now (built_count op.fixed) (sym c.serves_bulk-serves.ensures ∙ c.if-not-serves.false)
    first c.limits_beside-limits.result c.fixed_count-fixed.result c.in_ok-found.found c.in-Front.front c.is_numbered-numbered.result c.len-count.result c.in_ok-command.command
    limits_are c.fixed_count-fixed.ensures.value c.in-Front.is c.in_ok-found.ensures c.if-not-numbered.false c.is_numbered-numbered.ensures c.len-count.ensures
    c.in_ok-command.ensures.name c.in_ok-command.ensures.database (c.in_ok-command.ensures.body ∙ (c.in_ok-body.ensures ∙ ap (bulk_command op.options.now) c.is_verbose.ensures)) c.in_ok-command.ensures.sequences
