-- The command is one of a findAndModify.
use Rattle.std.proofs.Common.{◌∙◌, ap, refl}
use Rattle.driver_ops.specs.SendKinds.{first}
use Rattle.driver_ops.specs.Targets.{database_of}
use Rattle.statement_ops.specs.FindingAndModifying.{find_command}
use Rattle.statement_ops.proofs.FindCommand.{built_find}
use Rattle.statement_ops.proofs.find_and_modify.FindAndModifyOperation.build.Goals as goal

pub returns-clause-builds : goal.returns-clause-builds
returns-clause-builds c =
    record {
      statements = 1;
      built = built_find c.args.self.now.target c.args.self.now.filter c.args.self.now.modification c.args.self.now.options _ first refl (record {
        one = refl;
        database = c.in_ok-from_str.ensures ∙ c.database.ensures;
        body = c.in_ok-find_and_modify_body.ensures (database_of c.args.self.now.target)
            ∙ ap (λ coll. find_command (record { db = database_of c.args.self.now.target; coll = coll }) c.args.self.now.filter c.args.self.now.modification c.args.self.now.options) c.collection.ensures;
        sequences = c.new.ensures;
      });
      takes = refl;
      fixed = refl;
      now_is = refl;
    }
