-- Taking a waiting send out, and putting it back.
use Rattle.std.proofs.Common.{◌≡◌, ℕ, zero, suc, List, [], ◌∷◌, Option, None, Some, refl, sym, ap, ◌∙◌, slice_get, slice_set, unwrap_or}
use Rattle.driver_link.specs.Exchange.{arrived, delivered}
use Rattle.driver_link.specs.Serving.{served, usual}
use Rattle.driver_link.specs.declared.machine.Send.{Send}
use Rattle.driver_link.specs.declared.machine.Server.{Server}
use Rattle.model_effects.specs.Waiting.{waits_at}

-- no send waits there
none_arrives : (server : Server) (at : ℕ) (found : Option (Option Send)) → unwrap_or found None ≡ None → arrived server at found ≡ server
unfolding arrived
none_arrives server at None none = refl
none_arrives server at (Some None) none = refl
none_arrives server at (Some (Some send)) none = cc

-- one does
one_arrives : (server : Server) (at : ℕ) (found : Option (Option Send)) (send : Send) → unwrap_or found None ≡ Some send
    → arrived server at found ≡ served usual (record server { waiting = slice_set server.waiting at None }) send
unfolding arrived
one_arrives server at None send one = cc
one_arrives server at (Some None) send one = cc
one_arrives server at (Some (Some other)) send one =
    let same : other ≡ send = cc in ap (served usual (record server { waiting = slice_set server.waiting at None })) same

-- a place where none waits stays as it is
pub none_left : {A : Type 0} (waiting : List (Option A)) (at : ℕ) → waits_at waiting at ≡ None → slice_set waiting at None ≡ waiting
none_left [] at none = refl
none_left (first ∷ waiting) zero none = ap (λ w. w ∷ waiting) (sym none)
none_left (first ∷ waiting) (suc at) none = ap (λ rest. first ∷ rest) (none_left waiting at none)

pub none_delivered : (server : Server) (at : ℕ) → waits_at server.waiting at ≡ None
    → record server { waiting = slice_set server.waiting at None } ≡ delivered server at
unfolding delivered
none_delivered server at none =
    (λ i. record server { waiting = none_left server.waiting at none i }) ∙ sym (none_arrives server at (slice_get server.waiting at) none)

pub one_delivered : (server : Server) (at : ℕ) (send : Send) → waits_at server.waiting at ≡ Some send
    → delivered server at ≡ served usual (record server { waiting = slice_set server.waiting at None }) send
unfolding delivered
one_delivered server at send one = one_arrives server at (slice_get server.waiting at) send one

-- what was taken out and put back stands as before
pub back_again : {A : Type 0} (waiting : List (Option A)) (at : ℕ) (send : A) → waits_at waiting at ≡ Some send
    → slice_set (slice_set waiting at None) at (Some send) ≡ waiting
back_again [] at send one = cc
back_again (first ∷ waiting) zero send one = ap (λ w. w ∷ waiting) (sym one)
back_again (first ∷ waiting) (suc at) send one = ap (λ rest. first ∷ rest) (back_again waiting at send one)
