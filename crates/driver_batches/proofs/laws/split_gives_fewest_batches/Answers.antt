use Rattle.driver_batches.proofs.laws.split_gives_fewest_batches.Goals as goal

-- the law at these limits
pub returns : goal.returns
returns c limits = c.longest_fronts_are_fewest.ensures limits (c.sizes_keep_fitting.ensures limits)
