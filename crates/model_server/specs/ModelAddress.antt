-- Where the model server stands.
use Rattle.std.specs.Prelude.{◌≡◌, codes}
use Rattle.model_server.specs.declared.server.TheConstants.{HOST, PORT}

-- its host and its port
pub record IsModelAddress : Type 0 where
  pub host : HOST.now ≡ codes "model"
  pub port : PORT ≡ 27017
