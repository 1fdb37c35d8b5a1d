-- A number that a session has taken, and the case of a send, whatever trace the server has.
use Rattle.std.proofs.Common.{◌≡◌, ℕ, ℤ, Bool, true, false, List, Option, None, Some, refl, ap, if◌then◌else◌}
use Rattle.std.specs.Prelude.{int_lt}
use Rattle.std.proofs.Common.{arith}
use Rattle.std.proofs.lemmas.Int.{ints}
use Rattle.std.specs.FinMap as finite
use Rattle.driver_link.specs.Cases.{case_as, case_under, is_decided, known_as, known_under, numbered_case, too_old}
use Rattle.driver_link.specs.Sessions.{begin_session, is_below, is_new, taken}
use Rattle.driver_link.specs.declared.machine.KnownSession.{KnownSession}
use Rattle.driver_link.specs.declared.machine.Send.{Send}
use Rattle.driver_link.specs.declared.machine.Server.{Server}

-- a number is not below itself
pub not_below_itself : (number : ℤ) → int_lt number number ≡ false
not_below_itself number = grind (arith, ints)

-- a number that was taken is not new
pub not_new : (number : ℤ) (in_transaction start : Bool) (before : Option KnownSession)
    → int_lt (taken number in_transaction start before).greatest number ≡ false
unfolding taken
not_new number in_transaction start None = not_below_itself number
not_new number in_transaction start (Some known) = by_test (int_lt known.greatest number) refl
  where
    by_test : (b : Bool) → int_lt known.greatest number ≡ b → int_lt (if b then begin_session number in_transaction start else known).greatest number ≡ false
    by_test true is = not_below_itself number
    by_test false is = is

-- it is not taken again
pub taken_again : (number : ℤ) (in_transaction start : Bool) (known : KnownSession) → int_lt known.greatest number ≡ false
    → taken number in_transaction start (Some known) ≡ known
unfolding taken
taken_again number in_transaction start known is = ap (λ b. if b then begin_session number in_transaction start else known) is

-- a number that was taken is not below the greatest of its session
pub not_below_taken : (number : ℤ) (inside start : Bool) (before : Option KnownSession) → is_below number before ≡ false
    → int_lt number (taken number inside start before).greatest ≡ false
unfolding taken is_below
not_below_taken number inside start None above = not_below_itself number
not_below_taken number inside start (Some known) above = by_test (int_lt known.greatest number)
  where
    by_test : (b : Bool) → int_lt number (if b then begin_session number inside start else known).greatest ≡ false
    by_test true = not_below_itself number
    by_test false = above

-- a send that the rules on numbers and transactions do not decide is not too old
pub open_above : (number : ℤ) (id : List ℕ) (server : Server) (send : Send) → is_decided (case_under id number server send) ≡ false
    → is_below number (finite.get server.sessions id) ≡ false
unfolding case_under
open_above number id server send undecided = by_test (is_below number (finite.get server.sessions id)) undecided
  where
    by_test : (b : Bool)
        → is_decided (if b then too_old else numbered_case (known_under id number server send) (is_new number (finite.get server.sessions id)) send send.body) ≡ false → b ≡ false
    by_test true is = let no = is in cc
    by_test false is = refl

-- what is known of a session does not depend on the trace
pub known_traced : (session : Option (List ℕ)) (number : Option ℤ) (server : Server) (trace : List Send) (send : Send)
    → known_as session number (record server { trace = trace }) send ≡ known_as session number server send
unfolding known_as
known_traced None number server trace send = refl
known_traced (Some id) None server trace send = refl
known_traced (Some id) (Some number) server trace send = refl

-- nor does the case
pub case_traced : (session : Option (List ℕ)) (number : Option ℤ) (server : Server) (trace : List Send) (send : Send)
    → case_as session number (record server { trace = trace }) send ≡ case_as session number server send
unfolding case_as case_under
case_traced None number server trace send = refl
case_traced (Some id) None server trace send = refl
case_traced (Some id) (Some number) server trace send = refl
