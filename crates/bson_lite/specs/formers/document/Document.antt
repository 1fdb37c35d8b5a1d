-- `Document` as a holder inside a type that leads back to itself: where its values lie, and that
-- changing them by a function changes nothing else.
use Rattle.std.specs.Prelude.{ℕ}
use Rattle.std.specs.Coded.{coded_list, coded_ℕ}
use Rattle.std.specs.formers.vec.Vec as vec
use Rattle.std.specs.declared.alloc.Global.{Global}
use Rattle.std.specs.contracts.alloc.Global as heap
use Rattle.std.specs.contracts.impls.GlobalAllocator.TheImpl.{ghosts}
use mathlib.Core.Path.{refl, sym}
use mathlib.Core.List.{List, [], map}
use mathlib.Core.Former.{Former, this, list, const, pair, via}
use base.Stored.{code_map, gcons}
use denote.RattleType.{RattleType}
use denote.HoleLaws.{Alike}
use denote.HolePlaces.{Recodes, struct_places, laid, stays}
use denote.Hole.Fix.{over}
use denote.Param.Weighed.{Weighed, w_list, w_via, w_pair, w_const}
use denote.Model.Placed.{view_places}
use Rattle.bson_lite.specs.declared.document.Pair.{Pair}
use Rattle.bson_lite.specs.declared.document.Document.TheInside.{Inside}
use Rattle.bson_lite.specs.declared.document.Document.TheView.{view, invariant}
use Rattle.bson_lite.specs.contracts.document.Pair as Element
use Rattle.bson_lite.specs.contracts.document.Document as Whole
use Rattle.bson_lite.specs.contracts.document.Document.TheInside as Fields
use Rattle.bson_lite.specs.contracts.key.Key as keys
use Rattle.bson_lite.specs.PairCode.{pair_code}

-- a pair holds its value beside its key
abbrev element : Former {0} → Former {0}
element value = via (pair (const (List ℕ)) value) (λ X. Pair (value.Of X)) (λ X p. (p.key, p.value))
    (λ X v. record { key = v.0; value = v.1 }) (λ X p. refl) (λ X v. refl)

abbrev element_weighed : {value : Former {0}} → Weighed value → Weighed (element value)
element_weighed {value} weight = w_via (w_pair (w_const (List ℕ)) weight) (λ X. Pair (value.Of X)) (λ X p. (p.key, p.value))
    (λ X v. record { key = v.0; value = v.1 }) (λ X p. refl) (λ X v. refl)

-- the value is the list of its pairs
abbrev pub the_former : Former {0} → Former {0}
the_former value = list (element value)

abbrev pub the_weighed : {value : Former {0}} → Weighed value → Weighed (the_former value)
the_weighed weight = w_list (element_weighed weight)

pub the_empty : List (Pair ⊥)
the_empty = []

-- a document's values, in order
abbrev pub the_items : (X : Type 0) → List (Pair X) → List X
the_items X pairs = map (λ pair. pair.value) pairs

abbrev fields : Former {0}
fields = via (vec.the_former (element this) Global) Inside (λ X inside. inside.pairs) (λ X v. record { pairs = v }) (λ X inside. refl) (λ X v. refl)

-- a pair with its value changed
abbrev on_value : {X Y : Type 0} → (X → Y) → Pair X → Pair Y
on_value h p = record { key = p.key; value = h p.value }

module _ (R S : RattleType) (h : R.Denot → S.Denot) where
  element_places : Alike R S h → Alike (Element.the_row R) (Element.the_row S) (on_value h)
  element_places alike =
      struct_places (Element.the_type R) (Element.the_type S) ((λ key. key), (h, tt)) (on_value h) (λ d. refl) refl
      (stays keys.the_row, (laid R S h alike, tt))

  pub the_places : Alike R S h → Alike (Whole.the_row R) (Whole.the_row S) ((the_former this).map R.Denot S.Denot h)
  the_places alike =
      view_places fields (list (element this)) view (λ X Y k u. refl) (λ X u. refl) R.Denot S.Denot h (Whole.the_row R).coded (Whole.the_row S).coded
      (invariant R.Denot) (invariant S.Denot) (λ u p q. refl) (λ u p q. refl) (λ u e. tt) (λ u e. tt)
      (over (Fields.the_row R)) (over (Fields.the_row S))
      (struct_places (Fields.the_type R) (Fields.the_type S) (vec.mapped (on_value h), tt) _ (λ d. refl) refl
      (laid _ _ _ (vec.the_places heap.the_row ghosts (Element.the_row R) (Element.the_row S) (on_value h) (element_places alike)), tt))

  pub the_codes_placed : Recodes R S h → Recodes (Whole.the_row R) (Whole.the_row S) ((the_former this).map R.Denot S.Denot h)
  the_codes_placed recodes pairs =
      sym (code_map (pair_code R.coded).code (pair_code S.coded).code (on_value h)
      (λ x i. gcons ((coded_list coded_ℕ).code x.key) (sym (recodes x.value) i)) pairs)
