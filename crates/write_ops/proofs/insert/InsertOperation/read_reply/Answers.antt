-- The reply is read for the documents of the front that is fixed.
use Rattle.std.proofs.Common.{ℕ, Bool, [], ◌∷◌, take, subst}
use Rattle.std.specs.Prelude.{IfSome, Option, Ok}
use Rattle.driver_ops.specs.Operations.{ReadsAlone}
use Rattle.driver_ops.specs.Inserts.{insert_is_ordered}
use Rattle.write_ops.specs.InsertAnswers.{ReadsInsert}
use Rattle.write_ops.proofs.insert.InsertOperation.read_reply.Goals as goal

pub returns-clause-reads : goal.returns-clause-reads
returns-clause-reads c =
    let insert = c.args.self.now in
    subst (λ (fixed : Option ℕ). IfSome fixed (λ statements.
    ReadsAlone (ReadsInsert (insert_is_ordered insert.options.now) (take statements insert.documents.now)) (Ok c.args.reply.now ∷ []) c.read_front.result))
    c.statements_fixed-fixed.ensures.value
    (subst (λ (ordered : Bool). IfSome c.statements_fixed-fixed.result (λ statements.
    ReadsAlone (ReadsInsert ordered (take statements insert.documents.now)) (Ok c.args.reply.now ∷ []) c.read_front.result))
    c.insert_is_ordered.ensures c.read_front.ensures.reads)
