-- How the logic stores a pair of key and value: as the two of them.
use Rattle.std.specs.Prelude.{ℕ, List, refl}
use Rattle.std.specs.Coded.{Coded, code_by, coded×, coded_list, coded_ℕ}
use Rattle.bson_lite.specs.declared.document.Pair.{Pair}

abbrev pub pair_code : {V : Type 0} → Coded V → Coded (Pair V)
pair_code {V} value = code_by (List ℕ × V) (coded× (coded_list coded_ℕ) value) (λ pair. (pair.key, pair.value))
    (λ parts. record { key = parts.0; value = parts.1 }) (λ _. refl)
