-- What `decode` found was spelled so.
use Rattle.std.proofs.Common.{ℕ, List, Result, Ok, Err}
use Rattle.std.specs.Prelude.{IfOk}
use Rattle.bson_lite.specs.declared.bson.Bson.{Bson}
use Rattle.bson_lite.specs.declared.document.Pair.{Pair}
use Rattle.bson_lite.specs.declared.fault.DecodeFault.{DecodeFault}
use Rattle.bson_lite.specs.Reading.{Gives, read}
use Rattle.bson_lite.specs.Spelling.{Spells}
use Rattle.bson_reading.proofs.Sound.{read_took}

pub is_found : (bytes : List ℕ) (result : Result (List (Pair Bson)) DecodeFault) → Gives (λ document. document) result (read bytes) → IfOk result (λ document. Spells document bytes)
is_found bytes (Ok document) e = read_took bytes document e
is_found bytes (Err fault) e = tt
