-- A kind that may be reworded, as the function that rewords it says.
use Rattle.std.specs.Prelude.{◌≡◌, Option, None, Some}
use Rattle.driver_error.specs.Error.{ErrorKind}
use Rattle.retry_rules.specs.OldDeployment.{reworded_kind}

-- a kind that is reworded, or one that stays
abbrev pub MayReword : ErrorKind → Option ErrorKind → Type 0
MayReword old None = reworded_kind old ≡ old
MayReword old (Some now) = now ≡ reworded_kind old
