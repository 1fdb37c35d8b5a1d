-- Where the server of a fake link stands that was asked for no other.
use Rattle.std.specs.Prelude.{◌≡◌, codes}
use Rattle.memory_links.specs.declared.fake_link.TheConstants.{HOST, PORT}

-- its host and its port
pub record IsFakeAddress : Type 0 where
  pub host : HOST.now ≡ codes "fake"
  pub port : PORT ≡ 27017
