-- The command is one of an update.
use Rattle.std.proofs.Common.{◌∙◌, ap, refl}
use Rattle.driver_ops.specs.SendKinds.{first}
use Rattle.driver_ops.specs.Targets.{database_of}
use Rattle.statement_ops.specs.Updating.{update_command, update_statement}
use Rattle.statement_ops.proofs.StatementCommand.{built_update}
use Rattle.statement_ops.proofs.update.UpdateOperation.build.Goals as goal

pub returns-clause-builds : goal.returns-clause-builds
returns-clause-builds c =
    record {
      statements = 1;
      built = built_update c.args.self.now.target c.args.self.now.filter c.args.self.now.change c.args.self.now.multi c.args.self.now.options _ first refl (record {
        one = refl;
        database = c.in_ok-from_str.ensures ∙ c.database.ensures;
        body = c.in_ok-update_body.ensures (database_of c.args.self.now.target) ∙ ap (λ coll. update_command (record { db = database_of c.args.self.now.target; coll = coll }) (update_statement c.args.self.now.filter c.args.self.now.change c.args.self.now.multi c.args.self.now.options) c.args.self.now.options) c.collection.ensures;
        sequences = c.new.ensures;
      });
      takes = refl;
      fixed = refl;
      now_is = refl;
    }
