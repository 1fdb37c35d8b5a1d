-- The command is one of a delete.
use Rattle.std.proofs.Common.{◌∙◌, ap, refl}
use Rattle.driver_ops.specs.SendKinds.{first}
use Rattle.driver_ops.specs.Targets.{database_of}
use Rattle.statement_ops.specs.Deleting.{delete_command, delete_statement}
use Rattle.statement_ops.proofs.StatementCommand.{built_delete}
use Rattle.statement_ops.proofs.delete.DeleteOperation.build.Goals as goal

pub returns-clause-builds : goal.returns-clause-builds
returns-clause-builds c =
    record {
      statements = 1;
      built = built_delete c.args.self.now.target c.args.self.now.filter c.args.self.now.multi c.args.self.now.options _ first refl (record {
        one = refl;
        database = c.in_ok-from_str.ensures ∙ c.database.ensures;
        body = c.in_ok-delete_body.ensures (database_of c.args.self.now.target) ∙ ap (λ coll. delete_command (record { db = database_of c.args.self.now.target; coll = coll }) (delete_statement c.args.self.now.filter c.args.self.now.multi c.args.self.now.options) c.args.self.now.options) c.collection.ensures;
        sequences = c.new.ensures;
      });
      takes = refl;
      fixed = refl;
      now_is = refl;
    }
