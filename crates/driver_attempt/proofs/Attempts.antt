-- What the calls of an attempt leave: the numbers of a session, a document by its bytes, a server whose calls were only
-- counted, and the number of the attempt's send.
use Rattle.std.proofs.Common.{◌≡◌, ℕ, List, [], ◌∷◌, refl, sym, ap, subst, ◌∙◌, inl, inr, arith}
use Rattle.std.specs.Prelude.{ℤ, pos, ◌+ℤ◌, ◌≤ℤ◌, Bool, true, false, Option, None, Some, Result, Ok, Err, if◌then◌else◌}
use Rattle.std.proofs.lemmas.Int.{ints}
use Rattle.driver_error.specs.declared.error.Error.{Error}
use Rattle.driver_options.specs.declared.options.Address.{Address}
use Rattle.driver_options.specs.declared.options.Conn.{Conn}
use Rattle.link_faults.specs.declared.fault.LinkError.{LinkError}
use Rattle.link_faults.specs.declared.fault.LinkError.TheVariants.{Fault, Memory}
use Rattle.driver_link.specs.Counting.{Counts, KeepsServer, Listed, OnlyCounts, check_out_fault, checked_out, select_fault, selected}
use Rattle.link_faults.specs.Failures.{is_network}
use Rattle.driver_link.specs.ServerRun.{ServerRun}
use Rattle.driver_session.specs.Session.{MayRaise, Numbers, Raises, Session}
use Rattle.driver_attempt.specs.AttemptExchanges.{PageAsked, held_after, held_after_answer, held_after_pages}
use Rattle.driver_attempt.specs.Attempting.{AttemptState, AttemptedOperation, MayReadOn, ReadsOn, Sends}
use Rattle.driver_attempt.specs.Holding.{ExecutionSession, dirty_session_held, number_before}
use Rattle.retry_rules.specs.Retry.{RetryState}

-- a next number is the last one and one more
pub raises : (old now : Session) (number : ℤ) → Numbers old now (Ok number) → Raises old now
raises old now number numbers = ap (λ session. session.number) numbers.2 ∙ numbers.1

-- a number that is the next or the same
pub may_raise : (session back : Session) → Raises session back → MayRaise session back
may_raise session back raised = above session.number back.number raised
  where
    above : (number more : ℤ) → more ≡ (number +ℤ pos 1) → (number ≤ℤ more) × (more ≤ℤ (number +ℤ pos 1))
    above number more is = (omega (arith, ints), omega (arith, ints))

-- a number that stayed
pub stays : (session back : Session) → back.number ≡ session.number → MayRaise session back
stays session back same = within session.number back.number same
  where
    within : (number more : ℤ) → more ≡ number → (number ≤ℤ more) × (more ≤ℤ (number +ℤ pos 1))
    within number more is = (omega (arith, ints), omega (arith, ints))

-- calls that are only counted
pub counts_refl : (link : Option ServerRun) → OnlyCounts link link
counts_refl None = refl
counts_refl (Some told) = record { server = refl; setup = refl; schedule = refl }

pub counts_twice : (a b c : Option ServerRun) → OnlyCounts a b → OnlyCounts b c → OnlyCounts a c
counts_twice None b c first second = subst (λ link. OnlyCounts link c) first second
counts_twice (Some old) None c first second = absurd first
counts_twice (Some old) (Some mid) None first second = absurd second
counts_twice (Some old) (Some mid) (Some now) first second =
    record { server = second.server ∙ first.server; setup = second.setup ∙ first.setup; schedule = second.schedule ∙ first.schedule }

module _ (A : Type 0) (next : ServerRun → ServerRun) (fault : ServerRun → Option Listed) (keeps : (told : ServerRun) → KeepsServer told (next told)) where
  counted : (told : ServerRun) (now : Option ServerRun) → now ≡ Some (next told) → OnlyCounts (Some told) now
  counted told now is = subst (OnlyCounts (Some told)) (sym is) (keeps told)

  only_counts : (link now : Option ServerRun) (result : Result A LinkError) → Counts {A = A} next fault link now result → OnlyCounts link now
  only_counts None now result counts = counts
  only_counts (Some told) now (Ok given) counts = counted told now counts.0
  only_counts (Some told) now (Err (Fault found labels)) counts = counted told now counts.0
  only_counts (Some told) now (Err Memory) counts = elim counts [
    | inl same ↦ subst (OnlyCounts (Some told)) (sym same) (counts_refl (Some told))
    | inr is ↦ counted told now is
  ]

keeps_selected : (told : ServerRun) → KeepsServer told (selected told)
keeps_selected told = record { server = refl; setup = refl; schedule = refl }

keeps_checked : (told : ServerRun) → KeepsServer told (checked_out told)
keeps_checked told = record { server = refl; setup = refl; schedule = refl }

-- a selection and a check-out leave the server that is told
pub select_counts : (A : Type 0) (link now : Option ServerRun) (result : Result A LinkError) → Counts {A = A} selected select_fault link now result → OnlyCounts link now
select_counts A link now result counts = only_counts A selected select_fault keeps_selected link now result counts

pub check_out_counts : (A : Type 0) (link now : Option ServerRun) (result : Result A LinkError) → Counts {A = A} checked_out check_out_fault link now result → OnlyCounts link now
check_out_counts A link now result counts = only_counts A checked_out check_out_fault keeps_checked link now result counts

-- a failed exchange changes no number
number_after : (result : Result (List ℕ) LinkError) (held : ExecutionSession) → number_before (held_after result held) ≡ number_before held
number_after (Ok reply) held = refl
number_after (Err (Fault fault labels)) held = by_network (is_network fault)
  where
    by_network : (dirty : Bool) → number_before (if dirty then dirty_session_held held else held) ≡ number_before held
    by_network true = refl
    by_network false = refl
number_after (Err Memory) held = refl

-- nor do further pages
number_after_answer : (answered : Option (Result (List ℕ) LinkError)) (held : ExecutionSession) → number_before (held_after_answer answered held) ≡ number_before held
number_after_answer None held = refl
number_after_answer (Some result) held = number_after result held

pub number_after_pages : (asked : List PageAsked) (held : ExecutionSession) → number_before (held_after_pages asked held) ≡ number_before held
number_after_pages [] held = refl
number_after_pages (last ∷ earlier) held = number_after_answer last.answered held

-- so the number of the last send before the end of an attempt is that of its own send
pub sent_number : {A : Type 0} {op : AttemptedOperation A} {past : Option RetryState} {before now : AttemptState} {address : Address} {conn : Conn} (result : Result (List ℕ) LinkError)
    (sends : Sends op past before now address conn result) → number_before now.held ≡ sends.number
sent_number result sends = ap number_before sends.held_is ∙ number_after result (record sends.numbered { sent = Some sends.number })

-- what is read behind the exchange of a command leaves all but the link and what is held, of which the number stays
pub record LeavesRest (behind now : AttemptState) : Type 0 where
  pub store : now.store ≡ behind.store
  pub clock : now.clock ≡ behind.clock
  pub count : now.count ≡ behind.count
  pub fixed : now.fixed ≡ behind.fixed
  pub number : number_before now.held ≡ number_before behind.held

pub reads_leave : {A : Type 0} {op : AttemptedOperation A} {conn : Conn} {reply : List ℕ} {answer : Result A Error} (behind now : AttemptState) → ReadsOn op conn reply behind now answer → LeavesRest behind now
reads_leave behind now reads = record {
  store = reads.store;
  clock = reads.clock;
  count = reads.count;
  fixed = reads.fixed;
  number = ap number_before reads.exchanges.held_is ∙ number_after_pages reads.exchanges.asked behind.held;
}

pub may_read_leaves : {A : Type 0} (op : AttemptedOperation A) (conn : Conn) (result : Result (List ℕ) LinkError) (behind now : AttemptState) → MayReadOn op conn result behind now → LeavesRest behind now
may_read_leaves op conn (Ok reply) behind now reads = reads_leave behind now reads.reads
may_read_leaves op conn (Err failure) behind now same = record {
  store = ap (λ s. s.store) same;
  clock = ap (λ s. s.clock) same;
  count = ap (λ s. s.count) same;
  fixed = ap (λ s. s.fixed) same;
  number = ap (λ s. number_before s.held) same;
}
