-- What holds of what a script is read as.
use Rattle.std.proofs.Common.{◌≡◌, ℕ, Bool, true, false, List, [], ◌∷◌, refl, subst, sym}
use Rattle.std.proofs.lemmas.List.Elements.{All-cons, All-nil}
use Rattle.std.specs.Prelude.{All, Option, None, Some, IfSome, Result, unwrap_or, if◌then◌else◌}
use Rattle.std.specs.Option.{option_and_then, option_map}
use Rattle.driver_link.proofs.Lists.{none_is_some, some_is_some}
use Rattle.script_parts.specs.Json.{GivesPart, each, list_of, needed_part, optional_part, where_there}
use Rattle.script_parts.specs.declared.forms.Unread.{Unread}
use Rattle.serde_json.specs.Data.{Data, null, boolean, number, string, array, object, Items, no_items, item}
use Rattle.serde_json.specs.Find.{get}

-- what a tree is read as is what its data is read as
pub read_on : {A : Type 0} (asked : Result A Unread) (form : Data → Option A) (given : Option Data) (d : Data) → given ≡ Some d → GivesPart asked (form d)
    → GivesPart asked (option_and_then form given)
read_on asked form given d is gives = subst (λ found. GivesPart asked (option_and_then form found)) (sym is) gives

-- what holds of all that a reading makes of what was found
pub mapped : {A B : Type 0} (P : B → Type 0) (f : A → B) (found : Option A) → ((x : A) → found ≡ Some x → P (f x)) → (y : B)
    → option_map f found ≡ Some y → P y
mapped P f None well y is = absurd (none_is_some y is)
mapped P f (Some x) well y is = subst P (some_is_some (f x) y is) (well x refl)

pub chained : {A B : Type 0} (P : B → Type 0) (f : A → Option B) (found : Option A)
    → ((x : A) → found ≡ Some x → (y : B) → f x ≡ Some y → P y) → (y : B) → option_and_then f found ≡ Some y → P y
chained P f None well y is = absurd (none_is_some y is)
chained P f (Some x) well y is = well x refl y is

-- and of what is found where a test holds, or one of two things by a test
pub where_so : {A : Type 0} (P : A → Type 0) (test : Bool) (found : Option A) → (test ≡ true → (x : A) → found ≡ Some x → P x) → (x : A)
    → (if test then found else None) ≡ Some x → P x
where_so P true found well x is = well refl x is
where_so P false found well x is = absurd (none_is_some x is)

pub either : {A : Type 0} (P : A → Type 0) (test : Bool) (first second : Option A) → ((x : A) → first ≡ Some x → P x)
    → ((x : A) → second ≡ Some x → P x) → (x : A) → (if test then first else second) ≡ Some x → P x
either P true first second one other x is = one x is
either P false first second one other x is = other x is

-- what holds of each thing that is left out or found, and of each of a list
abbrev pub AllOf : {A : Type 0} → (A → Type 0) → Option (List A) → Type 0
AllOf P found = All P (unwrap_or found [])

module _ {A : Type 0} (P : A → Type 0) (form : Data → Option A) (well : (d : Data) (x : A) → form d ≡ Some x → P x) where
  pub needed_holds : (key : List ℕ) (d : Data) (x : A) → needed_part form key d ≡ Some x → P x
  unfolding needed_part
  needed_holds key d x is = chained P form (get key d) (λ inner _. well inner) x is

  if_there : (given : Option Data) (found : Option A) → where_there form given ≡ Some found → IfSome found P
  if_there None found is = subst (λ (o : Option A). IfSome o P) (some_is_some None found is) tt
  if_there (Some d) found is = mapped (λ (o : Option A). IfSome o P) (λ x. Some x) (form d) (well d) found is

  pub optional_holds : (key : List ℕ) (d : Data) (found : Option A) → optional_part form key d ≡ Some found → IfSome found P
  unfolding optional_part
  optional_holds key d found is = if_there (get key d) found is

  each_holds : (items : Items) (found : List A) → each form items ≡ Some found → All P found
  unfolding each
  each_holds no_items found is = subst (All P) (some_is_some [] found is) (All-nil P)
  each_holds (item d items) found is =
      chained (All P) (λ one. option_map (λ rest. one ∷ rest) (each form items)) (form d)
      (λ one here. mapped (All P) (λ rest. one ∷ rest) (each form items)
      (λ rest more. All-cons P one rest (well d one here) (each_holds items rest more))) found is

  list_holds : (d : Data) (found : List A) → list_of form d ≡ Some found → All P found
  unfolding list_of
  list_holds (array items) found is = each_holds items found is
  list_holds null found is = absurd (none_is_some found is)
  list_holds (boolean flag) found is = absurd (none_is_some found is)
  list_holds (number n) found is = absurd (none_is_some found is)
  list_holds (string text) found is = absurd (none_is_some found is)
  list_holds (object _) found is = absurd (none_is_some found is)

  list_there : (given : Option Data) (found : Option (List A)) → where_there (list_of form) given ≡ Some found → AllOf P found
  list_there None found is = subst (AllOf P) (some_is_some None found is) (All-nil P)
  list_there (Some d) found is = mapped (AllOf P) (λ list. Some list) (list_of form d) (list_holds d) found is

  pub list_optional : (key : List ℕ) (d : Data) (found : Option (List A)) → optional_part (list_of form) key d ≡ Some found → AllOf P found
  unfolding optional_part
  list_optional key d found is = list_there (get key d) found is
