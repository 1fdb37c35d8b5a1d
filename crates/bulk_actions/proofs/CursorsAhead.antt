-- What waits asks for no cursor that is yet to be opened: so it stays by late deliveries and by the exchanges of a gentle part, and
-- what is left of a cursor that was opened behind it stays there.
use Rattle.std.proofs.Common.{◌≡◌, ℕ, zero, suc, ◌+◌, ◌-◌, ◌<◌, ◌≤◌, ◌==◌, Bool, true, false, List, [], ◌∷◌, ◌++◌, length, ne_eqb, length-append, refl, sym, ap, subst, ◌∙◌, inl, inr, arith}
use Rattle.std.specs.Prelude.{ℤ, pos, negsuc, ◌≤ℤ◌, Option, None, Some, ◌⊎◌, slice_get, slice_set, unwrap_or, if◌then◌else◌}
use Rattle.std.specs.Option.{option_and_then, option_map_or}
use Rattle.std.proofs.lemmas.Bool.{cond-false}
use Rattle.std.proofs.lemmas.Int.{ints}
use Rattle.driver_link.specs.declared.machine.Item.{Item}
use Rattle.driver_link.specs.declared.machine.Item.TheVariants.{Serve, Lost, Late, ReplyLost}
use Rattle.driver_link.specs.declared.machine.Scheduled.{Scheduled}
use Rattle.driver_link.specs.declared.machine.Send.{Send}
use Rattle.driver_link.specs.declared.machine.SendBody.{SendBody}
use Rattle.driver_link.specs.declared.machine.SendBody.TheVariants.{Write, Commit, Abort, More, Kill}
use Rattle.driver_link.specs.declared.machine.SendCommand.TheVariants as command
use Rattle.driver_link.specs.declared.machine.Server.{Server}
use Rattle.driver_link.specs.declared.machine.Statement.{Statement}
use Rattle.driver_link.specs.Cases.{Case, aborts, case_of, commits, denied, gathers, known_of, nothing, of_cursor, outside, results_of, too_old}
use Rattle.driver_link.specs.Cursors.{Reply, closed, cursors_with, pages_left, place_of, results_left, rows, with_cursor, without_cursor}
use Rattle.driver_link.specs.Exchange.{after_picks, arrived, delivered, exchanged, met, plan_of, traced}
use Rattle.driver_link.specs.Serving.{Plan, cursors_after, done_in, served, served_in, usual}
use Rattle.driver_link.specs.Settled.{IsWrite}
use Rattle.driver_link.proofs.Lists.{earlier_or_last, none_is_some, set_none, some_is_some}
use Rattle.bulk_actions.specs.BulkCompleteness.{AsksWithin, NoneAhead, ServesBulk, WaitsWithin}
use Rattle.driver_exec.specs.Gentle.{IsLossy}

-- ---- what a send makes of the cursors
-- a list with one place set is as long
set_long : {A : Type 0} (xs : List A) (at : ℕ) (x : A) → length (slice_set xs at x) ≡ length xs
set_long [] at x = refl
set_long (y ∷ ys) zero x = refl
set_long (y ∷ ys) (suc at) x = ap suc (set_long ys at x)

-- and any other place is as it was
set_other : {A : Type 0} (xs : List A) (at k : ℕ) (x : A) → at < k → slice_get (slice_set xs at x) k ≡ slice_get xs k
set_other [] at k x less = refl
set_other (y ∷ ys) zero zero x less = absurd (omega (arith, less))
set_other (y ∷ ys) zero (suc k) x less = refl
set_other (y ∷ ys) (suc at) zero x less = absurd (omega (arith, less))
set_other (y ∷ ys) (suc at) (suc k) x less = set_other ys at k x (omega (arith, less))

-- an end to a cursor leaves as many places
closed_long : (cursor : ℤ) (cursors : List (Option (List Reply))) → length (closed cursor cursors) ≡ length cursors
unfolding closed
closed_long cursor cursors = by_place (place_of cursor)
  where
    by_place : (at : Option ℕ) → length (option_map_or (λ k. slice_set cursors k None) at cursors) ≡ length cursors
    by_place None = refl
    by_place (Some at) = set_long cursors at None

-- a bulk write opens one at most, behind the others
with_more : (left : List Reply) (cursors : List (Option (List Reply))) → length cursors ≤ length (with_cursor left cursors)
with_more [] cursors = omega arith
with_more (first ∷ left) cursors = let long = length-append cursors (Some (first ∷ left) ∷ []) in omega (arith, long)

body_more : (page : Option ℕ) (done : List Statement) (body : SendBody) (cursors : List (Option (List Reply))) → length cursors ≤ length (cursors_with page done body cursors)
body_more page done (Write command.BulkWrite ordered writes) cursors = with_more (pages_left page (rows 0 writes done)) cursors
body_more page done (Write command.Insert ordered writes) cursors = omega arith
body_more page done (Write command.Update ordered writes) cursors = omega arith
body_more page done (Write command.Delete ordered writes) cursors = omega arith
body_more page done (Write command.FindAndModify ordered writes) cursors = omega arith
body_more page done Commit cursors = omega arith
body_more page done Abort cursors = omega arith
body_more page done (More cursor) cursors = omega arith
body_more page done (Kill cursor) cursors = omega arith

same_more : (a b : ℕ) → b ≡ a → a ≤ b
same_more a b same = omega (arith, same)

ended_more : (body : SendBody) (cursors : List (Option (List Reply))) → length cursors ≤ length (without_cursor body cursors)
ended_more (Write does ordered writes) cursors = omega arith
ended_more Commit cursors = omega arith
ended_more Abort cursors = omega arith
ended_more (More cursor) cursors = same_more (length cursors) (length (closed cursor cursors)) (closed_long cursor cursors)
ended_more (Kill cursor) cursors = same_more (length cursors) (length (closed cursor cursors)) (closed_long cursor cursors)

case_more : (case : Case) (page : Option ℕ) (done : List Statement) (send : Send) (server : Server) → length server.cursors ≤ length (cursors_after case page done send server)
case_more too_old page done send server = omega arith
case_more outside page done send server = body_more page done send.body server.cursors
case_more (gathers entries) page done send server = body_more page done send.body server.cursors
case_more (commits entries) page done send server = omega arith
case_more aborts page done send server = omega arith
case_more of_cursor page done send server = ended_more send.body server.cursors
case_more nothing page done send server = omega arith
case_more denied page done send server = omega arith

-- no send takes a place of a cursor away, and none is set waiting by being served
pub served_more : (plan : Plan) (server : Server) (send : Send) → length server.cursors ≤ length (served plan server send).cursors
unfolding served served_in
served_more plan server send = case_more (case_of server send) plan.page (done_in (case_of server send) plan (results_of (known_of server send)) send.body) send server

pub served_waits : (plan : Plan) (server : Server) (send : Send) → (served plan server send).waiting ≡ server.waiting
unfolding served served_in
served_waits plan server send = refl

-- ---- what waits
module _ (opened : ℕ) where
  pub same_waits : (old now : Server) → now.waiting ≡ old.waiting → WaitsWithin opened old → WaitsWithin opened now
  same_waits old now same waits = λ at send is. waits at send (ap (λ w. slice_get w at) (sym same) ∙ is)

  arrived_waits : (server : Server) (at : ℕ) (found : Option (Option Send)) → WaitsWithin opened server → WaitsWithin opened (arrived server at found)
  unfolding arrived
  arrived_waits server at None waits = waits
  arrived_waits server at (Some None) waits = waits
  arrived_waits server at (Some (Some send)) waits =
      let less : Server = record server { waiting = slice_set server.waiting at None } in
      same_waits less (served usual less send) (served_waits usual less send) (λ k other is. waits k other (set_none server.waiting at k other is))

  delivered_waits : (server : Server) (pick : ℕ) → WaitsWithin opened server → WaitsWithin opened (delivered server pick)
  unfolding delivered
  delivered_waits server pick waits = arrived_waits server pick (slice_get server.waiting pick) waits

  pub picks_wait : (server : Server) (picks : List ℕ) → WaitsWithin opened server → WaitsWithin opened (after_picks server picks)
  unfolding after_picks
  picks_wait server [] waits = waits
  picks_wait server (pick ∷ picks) waits = picks_wait (delivered server pick) picks (delivered_waits server pick waits)

arrived_more : (server : Server) (at : ℕ) (found : Option (Option Send)) → length server.cursors ≤ length (arrived server at found).cursors
unfolding arrived
arrived_more server at None = omega arith
arrived_more server at (Some None) = omega arith
arrived_more server at (Some (Some send)) = served_more usual (record server { waiting = slice_set server.waiting at None }) send

delivered_more : (server : Server) (pick : ℕ) → length server.cursors ≤ length (delivered server pick).cursors
unfolding delivered
delivered_more server pick = arrived_more server pick (slice_get server.waiting pick)

pub picks_more : (server : Server) (picks : List ℕ) → length server.cursors ≤ length (after_picks server picks).cursors
unfolding after_picks
picks_more server [] = omega arith
picks_more server (pick ∷ picks) = let one = delivered_more server pick in let rest = picks_more (delivered server pick) picks in omega (arith, one, rest)

-- what is within so many is within more
pub more_within : (a b : ℕ) (cursor : ℤ) → a ≤ b → cursor ≤ℤ pos a → cursor ≤ℤ pos b
more_within a b cursor less within = omega (arith, ints)

pub body_within : (a b : ℕ) (body : SendBody) → a ≤ b → AsksWithin a body → AsksWithin b body
body_within a b (Write does ordered writes) less within = tt
body_within a b Commit less within = tt
body_within a b Abort less within = tt
body_within a b (More cursor) less within = more_within a b cursor less within
body_within a b (Kill cursor) less within = more_within a b cursor less within

pub waits_more : (a b : ℕ) (server : Server) → a ≤ b → WaitsWithin a server → WaitsWithin b server
waits_more a b server less waits = λ at send is. body_within a b send.body less (waits at send is)

-- ---- what waits asks for none but opened cursors
pub picks_ahead : (server : Server) (picks : List ℕ) → NoneAhead server → NoneAhead (after_picks server picks)
picks_ahead server picks none =
    waits_more (length server.cursors) (length (after_picks server picks).cursors) (after_picks server picks) (picks_more server picks) (picks_wait (length server.cursors) server picks none)

served_ahead : (plan : Plan) (server : Server) (send : Send) → NoneAhead server → NoneAhead (served plan server send)
served_ahead plan server send none =
    waits_more (length server.cursors) (length (served plan server send).cursors) (served plan server send) (served_more plan server send)
    (same_waits (length server.cursors) server (served plan server send) (served_waits plan server send) none)

-- a command of writes asks for no cursor
pub write_within : (opened : ℕ) (body : SendBody) → IsWrite body → AsksWithin opened body
write_within opened (Write does ordered writes) write = tt
write_within opened Commit write = absurd write
write_within opened Abort write = absurd write
write_within opened (More cursor) write = absurd write
write_within opened (Kill cursor) write = absurd write

-- behind those that wait another one may wait that asks for none ahead
pub late_ahead : (server : Server) (send : Send) → AsksWithin (length server.cursors) send.body → NoneAhead server → NoneAhead (record server { waiting = server.waiting ++ Some send ∷ [] })
late_ahead server send within none = λ at other is. elim (earlier_or_last server.waiting (Some send) at (Some other) is) [
  | inl earlier ↦ none at other earlier
  | inr last ↦ subst (λ (s : Send). AsksWithin (length server.cursors) s.body) (some_is_some send other last.1) within
]

met_lossy : (server : Server) (send : Send) (item : Item) → IsWrite send.body → IsLossy item → NoneAhead server → NoneAhead (met server send item)
unfolding met
met_lossy server send Lost write lossy none = none
met_lossy server send Late write lossy none = late_ahead server send (write_within (length server.cursors) send.body write) none
met_lossy server send ReplyLost write lossy none = served_ahead usual server send none
met_lossy server send _ write lossy none = absurd lossy

met_served : (server : Server) (send : Send) (item : Item) → ServesBulk send item → NoneAhead server → NoneAhead (met server send item)
unfolding met
met_served server send (Serve results fail concern page) serves none = served_ahead (plan_of results fail concern page) server send none
met_served server send _ serves none = absurd serves

-- so it stays by an exchange that is gentle
pub exchanged_ahead : (server : Server) (send : Send) (step : Scheduled) → ServesBulk send step.item ⊎ (IsWrite send.body × IsLossy step.item) → NoneAhead server → NoneAhead (exchanged server send step)
unfolding exchanged
exchanged_ahead server send step gentle none =
    let here : NoneAhead (traced (after_picks server step.deliver) send) = picks_ahead server step.deliver none in
    elim gentle [
      | inl serves ↦ met_served (traced (after_picks server step.deliver) send) send step.item serves here
      | inr loses ↦ met_lossy (traced (after_picks server step.deliver) send) send step.item loses.0 loses.1 here
    ]

-- ---- what is left of the cursor behind so many
no_zero : (count : ℕ) → count + 1 ≡ 0 → ⊥
no_zero count is = omega (arith, is)

positive : (n : ℕ) → (n == 0) ≡ false → 1 ≤ n
positive zero none = absurd (let e : true ≡ false = none in cc)
positive (suc n) none = omega arith

number_within : (number opened : ℕ) → pos number ≤ℤ pos opened → number ≤ opened
number_within number opened within = omega (arith, ints)

place_by : (opened number at : ℕ) (none : Bool) → (number == 0) ≡ none → number ≤ opened → (if none then None else Some (number - 1)) ≡ Some at → at < opened
place_by opened number at true none below is = absurd (none_is_some at is)
place_by opened number at false none below is =
    let same : number - 1 ≡ at = some_is_some (number - 1) at is in
    let some = positive number none in
    omega (arith, same, some, below)

-- the place of a cursor among the first so many is below theirs
place_below : (opened : ℕ) (cursor : ℤ) (at : ℕ) → cursor ≤ℤ pos opened → place_of cursor ≡ Some at → at < opened
place_below opened (negsuc number) at within is = absurd (none_is_some at is)
place_below opened (pos number) at within is = place_by opened number at (number == 0) refl (number_within number opened within) is

module _ (opened : ℕ) (left : List Reply) where
  -- the cursor, and its results
  abbrev HasLeft : List (Option (List Reply)) → Type 0
  HasLeft cursors = slice_get cursors opened ≡ Some (Some left)

  closed_keeps : (cursor : ℤ) (cursors : List (Option (List Reply))) → cursor ≤ℤ pos opened → HasLeft cursors → HasLeft (closed cursor cursors)
  unfolding closed
  closed_keeps cursor cursors within has = by_place (place_of cursor) refl
    where
      by_place : (at : Option ℕ) → place_of cursor ≡ at → HasLeft (option_map_or (λ k. slice_set cursors k None) at cursors)
      by_place None is = has
      by_place (Some at) is = set_other cursors at opened None (place_below opened cursor at within is) ∙ has

  body_keeps : (done : List Statement) (body : SendBody) (cursors : List (Option (List Reply))) → HasLeft cursors → HasLeft (cursors_with None done body cursors)
  body_keeps done (Write command.BulkWrite ordered writes) cursors has = has
  body_keeps done (Write command.Insert ordered writes) cursors has = has
  body_keeps done (Write command.Update ordered writes) cursors has = has
  body_keeps done (Write command.Delete ordered writes) cursors has = has
  body_keeps done (Write command.FindAndModify ordered writes) cursors has = has
  body_keeps done Commit cursors has = has
  body_keeps done Abort cursors has = has
  body_keeps done (More cursor) cursors has = has
  body_keeps done (Kill cursor) cursors has = has

  ended_keeps : (body : SendBody) (cursors : List (Option (List Reply))) → AsksWithin opened body → HasLeft cursors → HasLeft (without_cursor body cursors)
  ended_keeps (Write does ordered writes) cursors within has = has
  ended_keeps Commit cursors within has = has
  ended_keeps Abort cursors within has = has
  ended_keeps (More cursor) cursors within has = closed_keeps cursor cursors within has
  ended_keeps (Kill cursor) cursors within has = closed_keeps cursor cursors within has

  case_keeps : (case : Case) (done : List Statement) (send : Send) (server : Server) → AsksWithin opened send.body → HasLeft server.cursors → HasLeft (cursors_after case None done send server)
  case_keeps too_old done send server within has = has
  case_keeps outside done send server within has = body_keeps done send.body server.cursors has
  case_keeps (gathers entries) done send server within has = body_keeps done send.body server.cursors has
  case_keeps (commits entries) done send server within has = has
  case_keeps aborts done send server within has = has
  case_keeps of_cursor done send server within has = ended_keeps send.body server.cursors within has
  case_keeps nothing done send server within has = has
  case_keeps denied done send server within has = has

  served_keeps : (server : Server) (send : Send) → AsksWithin opened send.body → HasLeft server.cursors → HasLeft (served usual server send).cursors
  unfolding served served_in
  served_keeps server send within has = case_keeps (case_of server send) (done_in (case_of server send) usual (results_of (known_of server send)) send.body) send server within has

  arrived_keeps : (server : Server) (at : ℕ) (found : Option (Option Send)) → slice_get server.waiting at ≡ found → WaitsWithin opened server → HasLeft server.cursors → HasLeft (arrived server at found).cursors
  unfolding arrived
  arrived_keeps server at None is waits has = has
  arrived_keeps server at (Some None) is waits has = has
  arrived_keeps server at (Some (Some send)) is waits has = served_keeps (record server { waiting = slice_set server.waiting at None }) send (waits at send is) has

  delivered_keeps : (server : Server) (pick : ℕ) → WaitsWithin opened server → HasLeft server.cursors → HasLeft (delivered server pick).cursors
  unfolding delivered
  delivered_keeps server pick waits has = arrived_keeps server pick (slice_get server.waiting pick) refl waits has

  pub picks_keep : (server : Server) (picks : List ℕ) → WaitsWithin opened server → HasLeft server.cursors → HasLeft (after_picks server picks).cursors
  unfolding after_picks
  picks_keep server [] waits has = has
  picks_keep server (pick ∷ picks) waits has = picks_keep (delivered server pick) picks (delivered_waits opened server pick waits) (delivered_keeps server pick waits has)

  one_less : (count : ℕ) → count + 1 - 1 ≡ count
  one_less count = omega arith

  -- which is what is left of it by its number
  pub left_of_number : (cursors : List (Option (List Reply))) → HasLeft cursors → results_left (pos (opened + 1)) cursors ≡ Some left
  unfolding results_left
  left_of_number cursors has =
      ap (option_and_then (λ at. unwrap_or (slice_get cursors at) None)) (cond-false _ _ _ (ne_eqb (opened + 1) 0 (no_zero opened)) ∙ ap (λ (k : ℕ). Some k) (one_less opened))
      ∙ ap (λ (found : Option (Option (List Reply))). unwrap_or found None) has
