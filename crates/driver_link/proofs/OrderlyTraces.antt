-- What an orderly trace says of two of its sends, and which sends may join it.
use Rattle.std.proofs.Common.{◌≡◌, ℕ, List, [], ◌∷◌, ◌++◌, length, sym, ap, subst, ◌∙◌, inl, inr}
use Rattle.std.specs.Prelude.{ℤ, Option, None, Some, ◌⊎◌, slice_get}
use Rattle.driver_link.specs.declared.machine.PlacedWrite.{PlacedWrite}
use Rattle.driver_link.specs.declared.machine.Send.{Send}
use Rattle.driver_link.specs.Cases.{writes_of}
use Rattle.driver_link.specs.Settled.{Has, IsAside, IsEither, IsOneNumber, IsOrderly, IsPlain, IsSamePlace, IsUnder, IsUnnumbered, MayJoin, PlacesApart, SharePlace}
use Rattle.driver_link.proofs.Lists.{earlier_or_last, get_last, get_left, has_at, has_either, none_beyond, none_is_some, position_of, some_is_some}

-- a number is no lack of one
pub numbered_or_not : (found : Option ℤ) (number : ℤ) → found ≡ Some number → found ≡ None → ⊥
numbered_or_not found number is none = none_is_some number (sym none ∙ is)

-- a share of a place, seen from the other send
pub share_back : (a b : Send) → SharePlace a b → SharePlace b a
share_back a b share = record {
  first = share.second;
  second = share.first;
  one = share.other;
  other = share.one;
  stands = share.also;
  also = share.stands;
  same = sym share.same;
}

-- two sends at one position are one
one_send : (trace : List Send) (p q : ℕ) (a b : Send) → slice_get trace p ≡ Some a → slice_get trace q ≡ Some b → p ≡ q → a ≡ b
one_send trace p q a b at_p at_q same = some_is_some a b (sym at_p ∙ ap (λ k. slice_get trace k) same ∙ at_q)

-- two sends with a write of one place: the same session, number and position of the write
pub record IsAlike (a b : Send) (i j : ℕ) : Type 0 where
  pub session : a.session ≡ b.session
  pub number : a.number ≡ b.number
  pub position : i ≡ j

pub alike : (trace : List Send) → IsOrderly trace → (a b : Send) (i j : ℕ) (v w : PlacedWrite) → Has trace a → Has trace b → slice_get (writes_of a) i ≡ Some v
    → slice_get (writes_of b) j ≡ Some w → v.place ≡ w.place → IsAlike a b i j
alike trace orderly a b i j v w left right at_i at_j same =
    let p = position_of trace a left in
    let q = position_of trace b right in
    let one = orderly.one_place p.0 q.0 a b i j v w p.1 q.1 at_i at_j same in
    elim one.sends [
      | inl number ↦ record { session = number.session; number = number.number; position = one.position }
      | inr here ↦
          let is = one_send trace p.0 q.0 a b p.1 q.1 here in
          record { session = ap (λ s. s.session) is; number = ap (λ s. s.number) is; position = one.position }
    ]

-- the places of one send's writes differ
pub all_places : (trace : List Send) → IsOrderly trace → (send : Send) → Has trace send → PlacesApart (writes_of send)
all_places trace orderly send sent = λ i j v w at_i at_j same. (alike trace orderly send send i j v w sent sent at_i at_j same).position

-- a send that is not plain has no number
lacks_number : (send : Send) → IsUnnumbered send ⊎ IsAside send → send.number ≡ None
lacks_number send (inl free) = free.none
lacks_number send (inr aside) = aside.none

-- a send under a number is plain
pub plain_under : (trace : List Send) → IsOrderly trace → (send : Send) → Has trace send → (id : List ℕ) (number : ℤ) → IsUnder id number send → IsPlain send
plain_under trace orderly send sent id number under = elim (orderly.either send sent) [
  | inl plain ↦ plain
  | inr other ↦ absurd (numbered_or_not send.number number under.numbered (lacks_number send other))
]

-- a send without a number shares no place with one under a number
pub free_apart : (trace : List Send) → IsOrderly trace → (a b : Send) (number : ℤ) → Has trace a → Has trace b → a.number ≡ Some number → b.number ≡ None → SharePlace a b → ⊥
free_apart trace orderly a b number left right numbered none share =
    let is = alike trace orderly a b share.first share.second share.one share.other left right share.stands share.also share.same in
    numbered_or_not a.number number numbered (is.number ∙ none)

-- two sends of which one has no number, where one joins the trace, share no place
pub new_apart : (trace : List Send) (send other : Send) → IsOrderly (trace ++ send ∷ []) → Has trace other → IsUnnumbered other ⊎ IsUnnumbered send → SharePlace other send → ⊥
new_apart trace send other orderly before free share =
    let p = position_of trace other before in
    let one = orderly.one_place p.0 (length trace) other send share.first share.second share.one share.other
    (get_left trace (send ∷ []) p.0 other p.1) (get_last trace send) share.stands share.also share.same in
    elim one.sends [
      | inl number ↦ of_number number free
      | inr here ↦ none_beyond trace p.0 other p.1 here
    ]
  where
    of_number : IsOneNumber other send → IsUnnumbered other ⊎ IsUnnumbered send → ⊥
    of_number number (inl unnumbered) = numbered_or_not other.number number.plain.number number.plain.numbered unnumbered.none
    of_number number (inr unnumbered) = numbered_or_not other.number number.plain.number number.plain.numbered (number.number ∙ unnumbered.none)

-- a send of a trace with one more is an earlier one or the last
pub last_or : (trace : List Send) (send one : Send) → Has (trace ++ send ∷ []) one → Has trace one ⊎ (send ≡ one)
last_or trace send one has = elim (has_either trace (send ∷ []) one has) [
  | inl before ↦ inl before
  | inr last ↦ elim last [ inl same ↦ inr same | inr none ↦ absurd none ]
]

-- a send whose places are new may join, under a number that is new or under none
module _ (trace : List Send) (send : Send) (is_either : IsEither send) (apart : PlacesApart (writes_of send))
    (new_places : (earlier : Send) → Has trace earlier → SharePlace earlier send → ⊥)
    (new_number : (earlier : Send) → Has trace earlier → IsPlain send → earlier.session ≡ send.session → earlier.number ≡ send.number → ⊥)
    (orderly : IsOrderly trace) where
  new_either : (one : Send) → Has (trace ++ send ∷ []) one → IsEither one
  new_either one has = elim (last_or trace send one has) [
    | inl before ↦ orderly.either one before
    | inr same ↦ subst IsEither same is_either
  ]

  -- an earlier send has another number
  other_number : (earlier : Send) → Has trace earlier → IsPlain earlier → earlier.session ≡ send.session → earlier.number ≡ send.number → ⊥
  other_number earlier before plain session number = elim is_either [
    | inl here ↦ new_number earlier before here session number
    | inr other ↦ numbered_or_not earlier.number plain.number plain.numbered (number ∙ lacks_number send other)
  ]

  new_list : (a b : Send) → IsPlain a → Has (trace ++ send ∷ []) a → Has (trace ++ send ∷ []) b → a.session ≡ b.session → a.number ≡ b.number → writes_of a ≡ writes_of b
  new_list a b plain left right session number = elim (last_or trace send a left) [
    | inl before ↦ elim (last_or trace send b right) [
      | inl earlier ↦ orderly.one_list a b plain before earlier session number
      | inr is_b ↦ absurd (other_number a before plain (session ∙ ap (λ s. s.session) (sym is_b)) (number ∙ ap (λ s. s.number) (sym is_b)))
    ]
    | inr is_a ↦ elim (last_or trace send b right) [
      | inl earlier ↦
          absurd (new_number b earlier (subst IsPlain (sym is_a) plain) (sym session ∙ ap (λ s. s.session) (sym is_a)) (sym number ∙ ap (λ s. s.number) (sym is_a)))
      | inr is_b ↦ ap writes_of (sym is_a ∙ is_b)
    ]
  ]

  no_share : (earlier other : Send) (i j : ℕ) (v w : PlacedWrite) → Has trace earlier → send ≡ other → slice_get (writes_of earlier) i ≡ Some v
      → slice_get (writes_of other) j ≡ Some w → v.place ≡ w.place → ⊥
  no_share earlier other i j v w before is at_i at_j same =
      new_places earlier before
      (record { first = i; second = j; one = v; other = w; stands = at_i; also = ap (λ s. slice_get (writes_of s) j) is ∙ at_j; same = same })

  new_place : (p q : ℕ) (a b : Send) (i j : ℕ) (v w : PlacedWrite) → slice_get (trace ++ send ∷ []) p ≡ Some a → slice_get (trace ++ send ∷ []) q ≡ Some b
      → slice_get (writes_of a) i ≡ Some v → slice_get (writes_of b) j ≡ Some w → v.place ≡ w.place → IsSamePlace p q a b i j
  new_place p q a b i j v w at_p at_q at_i at_j same = elim (earlier_or_last trace send p a at_p) [
    | inl before ↦ elim (earlier_or_last trace send q b at_q) [
      | inl earlier ↦ orderly.one_place p q a b i j v w before earlier at_i at_j same
      | inr last ↦ absurd (no_share a b i j v w (has_at trace p a before) last.1 at_i at_j same)
    ]
    | inr is_last ↦ elim (earlier_or_last trace send q b at_q) [
      | inl earlier ↦ absurd (no_share b a j i w v (has_at trace q b earlier) is_last.1 at_j at_i (sym same))
      | inr last ↦ record {
        position =
            apart i j v w (ap (λ s. slice_get (writes_of s) i) is_last.1 ∙ at_i) (ap (λ s. slice_get (writes_of s) j) last.1 ∙ at_j) same;
        sends = inr (is_last.0 ∙ sym last.0);
      }
    ]
  ]

  pub orderly_new : MayJoin trace send
  orderly_new = record { either = new_either; one_list = new_list; one_place = new_place }

-- a send under a number may be sent again
module _ (trace : List Send) (send : Send) (sent : Has trace send) (plain : IsPlain send) (orderly : IsOrderly trace) where
  -- each send of the longer trace stood in it before
  was : (one : Send) → Has (trace ++ send ∷ []) one → Has trace one
  was one has = elim (last_or trace send one has) [
    | inl before ↦ before
    | inr same ↦ subst (Has trace) same sent
  ]

  again_place : (p q : ℕ) (a b : Send) (i j : ℕ) (v w : PlacedWrite) → slice_get (trace ++ send ∷ []) p ≡ Some a → slice_get (trace ++ send ∷ []) q ≡ Some b
      → slice_get (writes_of a) i ≡ Some v → slice_get (writes_of b) j ≡ Some w → v.place ≡ w.place → IsSamePlace p q a b i j
  again_place p q a b i j v w at_p at_q at_i at_j same =
      let has_a = was a (has_at (trace ++ send ∷ []) p a at_p) in
      let has_b = was b (has_at (trace ++ send ∷ []) q b at_q) in
      let is = alike trace orderly a b i j v w has_a has_b at_i at_j same in
      elim (earlier_or_last trace send p a at_p) [
        | inl before ↦ elim (earlier_or_last trace send q b at_q) [
          | inl earlier ↦ orderly.one_place p q a b i j v w before earlier at_i at_j same
          | inr last ↦ by_number (plain_like (subst IsPlain last.1 plain) (sym is.session) (sym is.number) has_a) is
        ]
        | inr is_last ↦ by_number (subst IsPlain is_last.1 plain) is
      ]
    where
      plain_like : IsPlain b → b.session ≡ a.session → b.number ≡ a.number → Has trace a → IsPlain a
      plain_like like session number has =
          plain_under trace orderly a has like.id like.number (record { session = sym session ∙ like.session; numbered = sym number ∙ like.numbered })

      by_number : IsPlain a → IsAlike a b i j → IsSamePlace p q a b i j
      by_number here is = record { position = is.position; sends = inl (record { plain = here; session = is.session; number = is.number }) }

  pub orderly_again : MayJoin trace send
  orderly_again = record {
    either = λ one has. orderly.either one (was one has);
    one_list = λ a b here left right. orderly.one_list a b here (was a left) (was b right);
    one_place = again_place;
  }
