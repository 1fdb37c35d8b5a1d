-- The operation was run where it was executed, with the number of its sends, and its error takes the form of a single write's.
use Rattle.std.proofs.Common.{ap, refl}
use Rattle.std.specs.Prelude.{Ok, Err}
use Rattle.driver_exec.proofs.WholeOperation.{executes_client}
use Rattle.driver_actions.proofs.CallWrites.WriteOperations.{executed_runs, still_fixed, still_one}
use Rattle.driver_actions.proofs.single_operation.run_single.Goals as goal

pub returns-in-Ok-clause-runs : goal.returns-in-Ok-clause-runs
returns-in-Ok-clause-runs g c =
    let of = c.execute_operation-result.ensures in
    let fixed = still_one _ _ c.requires.built of.fixed in
    let still = still_fixed _ _ c.requires.built of.fixed in λ asked asks.
    executed_runs _ _ asked c.args.place _ _ _ _ _ _ _ (Ok c.in-Ok.output) (Ok c.in-Ok.output) c.requires.next c.new-sends.ensures c.requires.built still asks (g.met.O.Operation.law c.args.op).alone (of.executes 1 fixed) (of.one_command 1 fixed) of.caused
    (of.keeps 1 fixed asked asks) (of.entries 1 fixed asked asks) c.in-Ok.is refl

pub returns-clause-runs : goal.returns-clause-runs
returns-clause-runs g c =
    let of = c.execute_operation-result.ensures in
    let fixed = still_one _ _ c.requires.built of.fixed in
    let still = still_fixed _ _ c.requires.built of.fixed in λ asked asks.
    executed_runs _ _ asked c.args.place _ _ _ _ _ _ _ (Err c.in-Err.error) (Err c.convert_insert_many_error.result) c.requires.next c.new-sends.ensures c.requires.built still asks (g.met.O.Operation.law c.args.op).alone (of.executes 1 fixed)
    (of.one_command 1 fixed) of.caused (of.keeps 1 fixed asked asks) (of.entries 1 fixed asked asks) c.in-Err.is c.convert_insert_many_error.ensures

pub returns-in-Ok-clause-options : goal.returns-in-Ok-clause-options
returns-in-Ok-clause-options g c =
    let of = c.execute_operation-result.ensures in
    ap (λ client. client.options) (executes_client _ _ _ _ _ _ _ _ _ _ (of.executes 1 (still_one _ _ c.requires.built of.fixed)))

pub returns-clause-options : goal.returns-clause-options
returns-clause-options g c =
    let of = c.execute_operation-result.ensures in
    ap (λ client. client.options) (executes_client _ _ _ _ _ _ _ _ _ _ (of.executes 1 (still_one _ _ c.requires.built of.fixed)))
