-- What stands in a log at a place, and what stays of it as the log grows.
use Rattle.std.proofs.Common.{◌≡◌, ◌≢◌, ℕ, true, false, cond, List, [], ◌∷◌, ◌++◌, refl, sym, ap, ◌∙◌, inl, inr}
use Rattle.std.specs.Prelude.{Option, None, Some, ◌==◌, ◌&&◌}
use Rattle.std.proofs.lemmas.Bool.{and_parts, cond-true, cond-false, false_from_ne_true}
use Rattle.std.proofs.lemmas.Bool.Decides.{Decides-eqb}
use Rattle.driver_link.specs.declared.machine.Entry.{Entry}
use Rattle.driver_link.specs.declared.machine.Place.{Place}
use Rattle.driver_link.specs.Once.{Once, NoneAt}
use Rattle.driver_link.specs.Settled.{Has}
use Rattle.driver_inputs.specs.declared.call.Call.{Call}
use Rattle.driver_inputs.specs.Calls.{OwnAt, Mine, HasPlace, Done, write_at, same_place, entry_at}

-- what has a place in a log has it in a longer one
stands_left : (place : Place) (log more : List Entry) → HasPlace place log → HasPlace place (log ++ more)
stands_left place [] more stands = absurd stands
stands_left place (entry ∷ log) more stands = elim stands [ inl at ↦ inl at | inr rest ↦ inr (stands_left place log more rest) ]

-- what is done stays done as the log grows
pub done_left : (calls : List Call) (call : ℕ) (log more : List Entry) → Done calls call log → Done calls call (log ++ more)
done_left calls call log more done = λ index given. stands_left (record { call = call; index = index }) log more (done index given)

-- equal places are found to be the same
is_same : (a b : Place) → a ≡ b → same_place a b ≡ true
is_same a b at =
    let call = (Decides-eqb a.call b.call).1 (ap (λ place. place.call) at) in
    let index = (Decides-eqb a.index b.index).1 (ap (λ place. place.index) at) in
    ap (λ t. t && (a.index == b.index)) call ∙ index

-- places that differ are not
not_same : (a b : Place) → (a ≢ b) → same_place a b ≡ false
not_same a b differs = false_from_ne_true (same_place a b) (λ same. differs (places_equal a b same))
  where
    -- places that are found to be the same are equal
    places_equal : (a b : Place) → same_place a b ≡ true → a ≡ b
    places_equal a b same =
        let call : a.call ≡ b.call = (Decides-eqb a.call b.call).0 (and_parts (a.call == b.call) (a.index == b.index) same).0 in
        let index : a.index ≡ b.index = (Decides-eqb a.index b.index).0 (and_parts (a.call == b.call) (a.index == b.index) same).1 in
        λ i. record { call = call i; index = index i }

-- an entry that was found stays the one that is found
pub entry_left : (place : Place) (log more : List Entry) (entry : Entry) → entry_at place log ≡ Some entry → entry_at place (log ++ more) ≡ Some entry
unfolding entry_at
entry_left place [] more entry found = absurd (let e : ◌≡◌ {A = Option Entry} None (Some entry) = found in cc)
entry_left place (first ∷ log) more entry found =
    elim (same_place first.place place)
    as (λ b. cond b (Some first) (entry_at place log) ≡ Some entry → cond b (Some first) (entry_at place (log ++ more)) ≡ Some entry) [
      | true ↦ λ is. is
      | false ↦ λ is. entry_left place log more entry is
    ] found

-- no entry has a place that no entry has
none_has : (place : Place) (log : List Entry) (entry : Entry) → NoneAt place log → Has log entry → entry.place ≡ place → ⊥
none_has place [] entry none has at = has
none_has place (first ∷ log) entry none has at = elim has [
  | inl same ↦ none.0 (ap (λ e. e.place) same ∙ at)
  | inr rest ↦ none_has place log entry none.1 rest at
]

-- where no place stands twice, the entry that stands at a place is found
pub entry_found : (place : Place) (log : List Entry) (entry : Entry) → Once log → Has log entry → entry.place ≡ place → entry_at place log ≡ Some entry
unfolding entry_at
entry_found place [] entry once has at = absurd has
entry_found place (first ∷ log) entry once has at = elim has [
  | inl same ↦
      cond-true (same_place first.place place) (Some first) (entry_at place log) (is_same first.place place (ap (λ e. e.place) same ∙ at))
      ∙ ap (λ e. Some e) same
  | inr rest ↦
      cond-false (same_place first.place place) (Some first) (entry_at place log)
      (not_same first.place place (λ is. none_has first.place log entry once.0 rest (at ∙ sym is)))
      ∙ entry_found place log entry once.1 rest at
]

-- an entry that stands has its place
pub stands_has : (place : Place) (log : List Entry) (entry : Entry) → Has log entry → entry.place ≡ place → HasPlace place log
stands_has place [] entry has at = absurd has
stands_has place (first ∷ log) entry has at = elim has [
  | inl same ↦ inl (ap (λ e. e.place) same ∙ at)
  | inr rest ↦ inr (stands_has place log entry rest at)
]

-- each entry is the caller's own where each that stands is
pub mine_all : (calls : List Call) (log : List Entry) → ((entry : Entry) → Has log entry → OwnAt (write_at calls entry.place) entry.written) → Mine calls log
mine_all calls [] own = tt
mine_all calls (entry ∷ log) own = (own entry (inl refl), mine_all calls log (λ other has. own other (inr has)))
