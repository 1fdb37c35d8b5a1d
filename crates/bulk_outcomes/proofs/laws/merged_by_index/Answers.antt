use Rattle.bson_lite.proofs.Uniting.{get-union}
use Rattle.bulk_outcomes.proofs.laws.merged_by_index.Goals as goal

pub returns-clause-inserts : goal.returns-clause-inserts
returns-clause-inserts c a b = get-union a.insert_results b.insert_results

pub returns-clause-updates : goal.returns-clause-updates
returns-clause-updates c a b = get-union a.update_results b.update_results

pub returns-clause-deletes : goal.returns-clause-deletes
returns-clause-deletes c a b = get-union a.delete_results b.delete_results
