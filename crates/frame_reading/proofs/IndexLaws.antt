-- The namespace at an index.
use Rattle.std.proofs.Common.{◌≡◌, ℕ, ℤ, pos, negsuc, List, Option, refl, slice_get, ◌∙◌, ap}
use Rattle.std.specs.Option.{option_and_then}
use Rattle.bson_lite.specs.declared.namespace.Namespace.{Namespace}
use Rattle.driver_link.specs.Writes.{namespace_at}
use Rattle.frame_reading.specs.Indexes.{place_in}

by_place : (namespaces : List Namespace) (index : ℤ) → option_and_then (slice_get namespaces) (place_in index) ≡ namespace_at namespaces index
by_place namespaces (pos index) = refl
by_place namespaces (negsuc index) = refl

pub at_place : (namespaces : List Namespace) (index : ℤ) (found : Option ℕ) → found ≡ place_in index
    → option_and_then (slice_get namespaces) found ≡ namespace_at namespaces index
at_place namespaces index found is = ap (option_and_then (slice_get namespaces)) is ∙ by_place namespaces index
