-- An error whose kind is not put in other words stays as it is.
use Rattle.std.proofs.Common.{◌≡◌, ap, ◌∙◌}
use Rattle.driver_error.specs.declared.error.Error.{Error, roll-out-Error}
use Rattle.driver_error.specs.Error.{kind_of, with_kind}
use Rattle.retry_rules.specs.OldDeployment.{reworded, reworded_kind}

same_kind : (error : Error) → with_kind (kind_of error) error ≡ error
unfolding with_kind
same_kind error = roll-out-Error error

pub reworded_as_it_is : (error : Error) → reworded_kind (kind_of error) ≡ kind_of error → reworded error ≡ error
unfolding reworded
reworded_as_it_is error stays = ap (λ why. with_kind why error) stays ∙ same_kind error
