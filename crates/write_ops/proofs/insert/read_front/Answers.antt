-- The documents of the front.
use Rattle.std.proofs.Common.{[], ◌∷◌, subst, sym, take}
use Rattle.std.specs.Prelude.{IfSome, Ok}
use Rattle.driver_ops.specs.Operations.{ReadsAlone}
use Rattle.write_ops.specs.InsertAnswers.{ReadsInsert}
use Rattle.write_ops.proofs.insert.read_front.Goals as goal

pub returns-in-Some-clause-reads : goal.returns-in-Some-clause-reads
returns-in-Some-clause-reads c =
    subst (λ f. IfSome f (λ statements. ReadsAlone (ReadsInsert c.args.ordered (take statements c.args.documents.now)) (Ok c.args.reply.now ∷ []) c.read_done.result)) (sym c.in-Some.is)
    (subst (λ own. ReadsAlone (ReadsInsert c.args.ordered own) (Ok c.args.reply.now ∷ []) c.read_done.result) c.front.ensures c.read_done.ensures.reads)
