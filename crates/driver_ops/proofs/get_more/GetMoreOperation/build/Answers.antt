-- The command asks for the next page of its cursor.
use Rattle.std.proofs.Common.{rules, FitsSigned, w64, ◌∙◌, ap, refl}
use Rattle.std.proofs.lemmas.Int.{to_z-of_z}
use Rattle.driver_ops.specs.GetMores.{more_command}
use Rattle.driver_ops.specs.SendKinds.{first}
use Rattle.driver_ops.specs.Targets.{database_of}
use Rattle.driver_ops.proofs.CursorCommands.{built_more}
use Rattle.driver_ops.proofs.get_more.GetMoreOperation.build.Goals as goal

pub returns-clause-builds : goal.returns-clause-builds
returns-clause-builds c =
    let fits : FitsSigned w64 c.args.self.now.cursor = search rules in record {
      statements = 0;
      built = built_more c.args.self.now.target c.args.self.now.cursor _ first refl (record {
        none = refl;
        database = c.in_ok-from_str.ensures ∙ c.database.ensures;
        body = c.in_ok-more_body.ensures (database_of c.args.self.now.target)
            ∙ ap (λ cursor. more_command (record { db = database_of c.args.self.now.target; coll = c.collection.result.now }) cursor) (to_z-of_z w64 c.args.self.now.cursor fits)
            ∙ ap (λ coll. more_command (record { db = database_of c.args.self.now.target; coll = coll }) c.args.self.now.cursor) c.collection.ensures;
        sequences = c.new.ensures;
      });
      takes = refl;
      fixed = refl;
      now_is = refl;
    }
