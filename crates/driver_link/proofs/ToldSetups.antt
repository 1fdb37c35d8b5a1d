-- What a link that tells its server tells of the server's setup.
use Rattle.std.proofs.Common.{◌≡◌, ap}
use Rattle.std.specs.Prelude.{Some}
use Rattle.driver_link.specs.LinkState.{Described, Making, Served, Untold, run_in, setup_in}
use Rattle.driver_link.specs.ServerRun.{ServerRun}
use Rattle.driver_link.proofs.Lists.{none_is_some, some_is_some}

-- it is the server's own
pub served_setup : (making : Making) (run : ServerRun) → run_in making ≡ Some run → setup_in making ≡ Some run.setup
served_setup Untold run is = absurd (none_is_some run is)
served_setup (Described setup) run is = absurd (none_is_some run is)
served_setup (Served found) run is = ap (λ (told : ServerRun). Some told.setup) (some_is_some found run is)
