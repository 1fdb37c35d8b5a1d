use Rattle.bulk_ops.proofs.laws.op_fronts_are_fewest.Goals as goal

-- the law at these limits
pub returns : goal.returns
returns c limits = c.longest_fronts_are_fewest.ensures (record { limits = limits }) (c.ops_keep_fitting.ensures limits)
