-- The sends of one batch of a bulk write, one by one: those of its command, and those of commands of cursors. In a gentle part no send of a
-- cursor waits, and those that get no reply carry the same.
use Rattle.std.proofs.Common.{◌≡◌, ℕ, zero, suc, ◌+◌, ◌-◌, ◌<◌, true, List, [], ◌∷◌, ◌++◌, length, length-append, append_assoc, refl, sym, ap, subst, ◌∙◌, inl, inr, arith}
use Rattle.std.specs.Prelude.{Option, Some, ◌⊎◌, slice_get}
use Rattle.std.proofs.lemmas.List.{append-nil}
use Rattle.driver_options.specs.declared.models.WriteModel.{WriteModel}
use Rattle.driver_options.specs.declared.options.ClientOptions.{ClientOptions}
use Rattle.driver_link.specs.declared.machine.Item.{Item}
use Rattle.driver_link.specs.declared.machine.Item.TheVariants.{Lost, Late, ReplyLost}
use Rattle.driver_link.specs.declared.machine.Schedule.{Schedule}
use Rattle.driver_link.specs.declared.machine.Send.{Send}
use Rattle.driver_link.specs.declared.machine.SendBody.{SendBody}
use Rattle.driver_link.specs.declared.machine.SendBody.TheVariants.{Write, Commit, Abort, More, Kill}
use Rattle.driver_link.specs.declared.machine.Server.{Server}
use Rattle.driver_link.specs.declared.machine.Setup.{Setup}
use Rattle.driver_link.specs.Cases.{body_writes}
use Rattle.driver_link.specs.Counting.{KeepsServer}
use Rattle.driver_link.specs.Exchange.{exchanged, next_step, replayed, step_at}
use Rattle.driver_link.specs.ServerRun.{ServerRun, run_after}
use Rattle.driver_link.specs.Settled.{IsOfCursor, IsWrite}
use Rattle.driver_link.proofs.Lists.{none_is_some}
use Rattle.driver_link.proofs.Replays.{exchanged_trace}
use Rattle.driver_exec.specs.Gentle.{IsGentlePart, IsLossy, IsOfPart}
use Rattle.driver_exec.specs.Resending.{PassesAside, SendsWhereTold}
use Rattle.driver_actions.specs.CallParts.{CarrySame}
use Rattle.many_actions.proofs.GentleParts.{before_more}
use Rattle.bulk_actions.specs.BulkCompleteness.{BulkRepeats, NoneAhead, RepeatsFrom, ServesBulk}
use Rattle.bulk_actions.proofs.CursorsAhead.{exchanged_ahead}

-- ---- elements of lists by their places
get_either : {A : Type 0} (xs ys : List A) (at : ℕ) (x : A) → slice_get (xs ++ ys) at ≡ Some x → (slice_get xs at ≡ Some x) ⊎ ((k : ℕ) × (slice_get ys k ≡ Some x))
get_either [] ys at x is = inr (at, is)
get_either (y ∷ xs) ys zero x is = inl is
get_either (y ∷ xs) ys (suc at) x is = get_either xs ys at x is

get_behind : {A : Type 0} (xs ys : List A) (at : ℕ) → slice_get (xs ++ ys) (length xs + at) ≡ slice_get ys at
get_behind [] ys at = let same : 0 + at ≡ at = omega arith in ap (λ k. slice_get ys k) same
get_behind (x ∷ xs) ys at = let same : suc (length xs) + at ≡ suc (length xs + at) = omega arith in ap (λ k. slice_get (x ∷ (xs ++ ys)) k) same ∙ get_behind xs ys at

get_below : {A : Type 0} (xs : List A) (at : ℕ) (x : A) → slice_get xs at ≡ Some x → at < length xs
get_below [] at x is = absurd (none_is_some x is)
get_below (y ∷ xs) zero x is = omega arith
get_below (y ∷ xs) (suc at) x is = let less = get_below xs at x is in omega (arith, less)

-- ---- what went out
pub replayed_join : (schedule : Schedule) (server : Server) (xs ys : List Send) → replayed schedule server (xs ++ ys) ≡ replayed schedule (replayed schedule server xs) ys
unfolding replayed
replayed_join schedule server [] ys = refl
replayed_join schedule server (x ∷ xs) ys = replayed_join schedule (exchanged server x (next_step schedule server)) xs ys

-- a server went on by these sends: each is this one, or of a command of a cursor
pub record Replays (send : Send) (told now : ServerRun) : Type 0 where
  pub sends : List Send
  pub schedule : now.schedule ≡ told.schedule
  pub trace : now.server.trace ≡ told.server.trace ++ sends
  pub server : now.server ≡ replayed told.schedule told.server sends
  pub each : (at : ℕ) (found : Send) → slice_get sends at ≡ Some found → (send ≡ found) ⊎ IsOfCursor found.body

module _ (send : Send) where
  replays_none : (told now : ServerRun) → KeepsServer told now → Replays send told now
  unfolding replayed
  replays_none told now keeps = record {
    sends = [];
    schedule = keeps.schedule;
    trace = ap (λ s. s.trace) keeps.server ∙ sym (append-nil told.server.trace);
    server = keeps.server;
    each = λ at found is. absurd (none_is_some found is);
  }

  replays_one : (told : ServerRun) (found : Send) → (send ≡ found) ⊎ IsOfCursor found.body → Replays send told (run_after told found)
  unfolding replayed
  replays_one told found is = record {
    sends = found ∷ [];
    schedule = refl;
    trace = exchanged_trace told.server found (next_step told.schedule told.server);
    server = refl;
    each = λ at other here. by_place at other here;
  }
    where
      by_place : (at : ℕ) (other : Send) → slice_get (found ∷ []) at ≡ Some other → (send ≡ other) ⊎ IsOfCursor other.body
      by_place zero other here = let same : found ≡ other = cc in subst (λ s. (send ≡ s) ⊎ IsOfCursor s.body) same is
      by_place (suc at) other here = absurd (none_is_some other here)

  replays_twice : (told mid now : ServerRun) → Replays send told mid → Replays send mid now → Replays send told now
  replays_twice told mid now first second = record {
    sends = first.sends ++ second.sends;
    schedule = second.schedule ∙ first.schedule;
    trace = second.trace ∙ ap (λ t. t ++ second.sends) first.trace ∙ append_assoc told.server.trace first.sends second.sends;
    server =
        second.server
        ∙ ap (λ schedule. replayed schedule mid.server second.sends) first.schedule
        ∙ ap (λ server. replayed told.schedule server second.sends) first.server
        ∙ sym (replayed_join told.schedule told.server first.sends second.sends);
    each = λ at found is. elim (get_either first.sends second.sends at found is) [
      | inl earlier ↦ first.each at found earlier
      | inr later ↦ second.each later.0 found later.1
    ];
  }

  replays_aside : (sends : List Send) (told now : ServerRun) → PassesAside told now sends → Replays send told now
  replays_aside [] told now keeps = replays_none told now keeps
  replays_aside (one ∷ sends) told now passes =
      let mid = passes.0 in
      replays_twice told mid now (replays_none told mid passes.1.0)
      (replays_twice mid (run_after mid one) now (replays_one mid one (inr passes.1.1.cursor)) (replays_aside sends (run_after mid one) now passes.1.2))

  pub replays_sends : (told : ServerRun) (count : ℕ) (now : ServerRun) → SendsWhereTold true told now send count → Replays send told now
  replays_sends told zero now leaves = replays_aside leaves.sends told now leaves.passes
  replays_sends told (suc count) now sends =
      let mid = sends.0 in
      replays_twice told mid now (replays_sends told count mid sends.1.0)
      (replays_twice mid (run_after mid send) now (replays_one mid send (inl refl)) (replays_aside sends.1.1.sends (run_after mid send) now sends.1.1.passes))

-- ---- within a gentle part
-- what serves a send gives a reply
lossy_serves : (send : Send) (item : Item) → ServesBulk send item → IsLossy item → ⊥
lossy_serves send Lost serves lossy = serves
lossy_serves send Late serves lossy = serves
lossy_serves send ReplyLost serves lossy = serves
lossy_serves send _ serves lossy = lossy

-- what may go out again carries writes
body_repeats : (models : List WriteModel) (client : ClientOptions) (setup : Option Setup) (body : SendBody) → RepeatsFrom models client setup (body_writes body) → IsWrite body
body_repeats models client setup (Write does ordered writes) repeats = tt
body_repeats models client setup Commit repeats = absurd repeats
body_repeats models client setup Abort repeats = absurd repeats
body_repeats models client setup (More cursor) repeats = absurd repeats
body_repeats models client setup (Kill cursor) repeats = absurd repeats

cursor_write : (body : SendBody) → IsOfCursor body → IsWrite body → ⊥
cursor_write (More cursor) is write = write
cursor_write (Kill cursor) is write = write
cursor_write _ is write = is

module _ (schedule : Schedule) where
  -- nothing that waits is ahead, exchange by exchange
  ahead_replayed : (server : Server) (sends : List Send)
      → ((at : ℕ) (found : Send) → slice_get sends at ≡ Some found
      → ServesBulk found (step_at schedule (length server.trace + at)).item ⊎ (IsWrite found.body × IsLossy (step_at schedule (length server.trace + at)).item))
      → NoneAhead server → NoneAhead (replayed schedule server sends)
  unfolding replayed
  ahead_replayed server [] gentle ahead = ahead
  ahead_replayed server (send ∷ sends) gentle ahead =
      let step = next_step schedule server in
      let here : length server.trace + 0 ≡ length server.trace = omega arith in
      let longer : length (exchanged server send step).trace ≡ length server.trace + 1 = ap (λ (t : List Send). length t) (exchanged_trace server send step) ∙ length-append server.trace (send ∷ []) in
      ahead_replayed (exchanged server send step) sends
      (λ at found is.
      let same : length server.trace + suc at ≡ length (exchanged server send step).trace + at = omega (arith, longer) in
      subst (λ k. ServesBulk found (step_at schedule k).item ⊎ (IsWrite found.body × IsLossy (step_at schedule k).item)) same (gentle (suc at) found is))
      (exchanged_ahead server send step (subst (λ k. ServesBulk send (step_at schedule k).item ⊎ (IsWrite send.body × IsLossy (step_at schedule k).item)) here (gentle 0 send refl)) ahead)

module _ (models : List WriteModel) (client : ClientOptions) (setup : Option Setup) (send : Send) (told now : ServerRun) (replays : Replays send told now) where
  -- the place of a send that went out
  placed : (at : ℕ) (found : Send) → slice_get replays.sends at ≡ Some found → IsOfPart told now (length told.server.trace + at) × (slice_get now.server.trace (length told.server.trace + at) ≡ Some found)
  placed at found is =
      let below = get_below replays.sends at found is in
      let long : length now.server.trace ≡ length told.server.trace + length replays.sends = ap (λ (t : List Send). length t) replays.trace ∙ length-append told.server.trace replays.sends in (
        (omega arith, omega (arith, below, long)),
        ap (λ t. slice_get t (length told.server.trace + at)) replays.trace ∙ get_behind told.server.trace replays.sends at ∙ is,
      )

  -- so nothing that waits is ahead behind a gentle part
  pub ahead_behind : IsGentlePart ServesBulk (BulkRepeats models client setup) told now → NoneAhead told.server → NoneAhead now.server
  ahead_behind gentle ahead =
      subst NoneAhead (sym replays.server) (ahead_replayed told.schedule told.server replays.sends (λ at found is.
      let here = placed at found is in
      elim (gentle.items (length told.server.trace + at) found here.0 here.1) [
        | inl serves ↦ inl serves
        | inr loses ↦ inr (body_repeats models client setup found.body loses.0, loses.1)
      ]) ahead)

  -- and a send that gets no reply is this one, in a longer trace too
  lossy_is : (last : ServerRun) (later : List Send) → last.server.trace ≡ now.server.trace ++ later → (at : ℕ) (found : Send) → IsOfPart told now at → slice_get last.server.trace at ≡ Some found → (item : Item)
      → ServesBulk found item ⊎ (BulkRepeats models client setup found × IsLossy item) → IsLossy item → send ≡ found
  lossy_is last later gained at found of_part is item gentle lossy =
      let k : ℕ = at - length told.server.trace in
      let same : at ≡ length told.server.trace + k = (let above = of_part.0 in omega (arith, above)) in
      let here : slice_get now.server.trace at ≡ Some found = sym (before_more now.server.trace later at of_part.1) ∙ ap (λ t. slice_get t at) (sym gained) ∙ is in
      let sent : slice_get replays.sends k ≡ Some found
      = sym (get_behind told.server.trace replays.sends k) ∙ ap (λ n. slice_get (told.server.trace ++ replays.sends) n) (sym same) ∙ ap (λ t. slice_get t at) (sym replays.trace) ∙ here in
      elim (replays.each k found sent) [
        | inl own ↦ own
        | inr cursor ↦ elim gentle [
          | inl serves ↦ absurd (lossy_serves found item serves lossy)
          | inr loses ↦ absurd (cursor_write found.body cursor (body_repeats models client setup found.body loses.0))
        ]
      ]

  -- so all that get none carry the same
  pub lossy_alike : (last : ServerRun) (later : List Send) → last.server.trace ≡ now.server.trace ++ later → (item : ℕ → Item)
      → ((at : ℕ) (found : Send) → IsOfPart told now at → slice_get last.server.trace at ≡ Some found → ServesBulk found (item at) ⊎ (BulkRepeats models client setup found × IsLossy (item at)))
      → (one other : ℕ) → IsOfPart told now one → IsOfPart told now other → IsLossy (item one) → IsLossy (item other) → CarrySame last one other
  lossy_alike last later gained item gentle one other of_part also_of loses also_loses = λ first second is also.
      let first_is = lossy_is last later gained one first of_part is (item one) (gentle one first of_part is) loses in
      let second_is = lossy_is last later gained other second also_of also (item other) (gentle other second also_of also) also_loses in
      ap (λ s. s.body) (sym first_is ∙ second_is)
