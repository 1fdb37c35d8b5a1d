-- The moments of a link that tells its server, in order: each call leads to one that is not before it.
use Rattle.std.proofs.Common.{◌≡◌, ℕ, ◌+◌, ◌-◌, ◌^◌, ◌≤◌, min, true, false, List, [], ◌∷◌, length, refl, sym, ap, subst, ◌∙◌, inl, inr, arith, length-append}
use Rattle.std.specs.Prelude.{Bool, Option, None, Some, Result, Ok, Err, slice_get}
use Rattle.driver_error.specs.declared.error.Error.{Error}
use Rattle.driver_error.specs.declared.kind.IoKind.TheVariants.{ConnectionRefused}
use Rattle.driver_options.specs.declared.options.Address.{Address}
use Rattle.driver_options.specs.declared.options.Conn.{Conn}
use Rattle.link_faults.specs.declared.fault.LinkCall.{LinkCall}
use Rattle.link_faults.specs.declared.fault.LinkCall.TheVariants.{CheckOut, Select}
use Rattle.link_faults.specs.declared.fault.LinkError.{LinkError}
use Rattle.link_faults.specs.declared.fault.LinkError.TheVariants.{Fault, Memory}
use Rattle.link_faults.specs.declared.fault.LinkFault.{LinkFault}
use Rattle.link_faults.specs.declared.fault.LinkFault.TheVariants.{Io, Selection}
use Rattle.wire_keys.specs.declared.keys.TheConstants.{SELECTION_FAILURE}
use Rattle.driver_link.specs.declared.machine.Send.{Send}
use Rattle.driver_link.specs.declared.machine.SendBody.{SendBody}
use Rattle.driver_link.specs.declared.machine.SendBody.TheVariants.{Kill, More}
use Rattle.driver_link.specs.declared.machine.Item.{Item}
use Rattle.driver_link.specs.Counting.{Counts, Listed, check_out_fault, checked_out, fault_where, is_listed, one_more, overload_labels, select_fault, selected}
use Rattle.driver_link.specs.Exchange.{next_step}
use Rattle.driver_link.specs.LinkCalls.{CallsLink}
use Rattle.driver_link.specs.LinkState.{LinkState, server_run, setup_of}
use Rattle.driver_link.specs.ServerRun.{ServerRun, TakesStep, run_after}
use Rattle.driver_link.proofs.Lists.{get_last, get_left, none_is_some}
use Rattle.driver_link.proofs.Replays.{exchanged_trace}
use Rattle.driver_ops.specs.Fields.{SendContext, under}
use Rattle.driver_ops.specs.GetMores.{AsksCursor, at_namespace, kill_spec, more_spec}
use Rattle.driver_ops.specs.Operations.{AsksFor, OperationSpec, send_of}
use Rattle.driver_ops.specs.SendKinds.{SendKind}
use Rattle.retry_rules.specs.declared.failure.FailurePhase.{FailurePhase}
use Rattle.retry_rules.specs.declared.failure.FailurePhase.TheVariants.{ConnectionEstablishment, Execution}
use Rattle.driver_attempt.specs.AttemptExchanges.{AsksPage, AsksPages, AttemptExchanges, EndsCursor, EndsCursorWhere, EndsPages, Exchanges, PageAsked, ends_cursor, no_statements}
use Rattle.driver_attempt.specs.Attempting.{AttemptState, AttemptedOperation, Connects, FailsIn, MayReadOn, NotConnected, ReadsOn, Sends}
use Rattle.driver_attempt.specs.Holding.{ExecutionSession, held_id}
use Rattle.retry_rules.specs.Retry.{RetryState}
use Rattle.driver_exec.specs.Gentle.{IsCounted, IsGentlePart}

-- a moment is not after another: the schedule is the same, neither the trace nor a count became less, and each send of the trace
-- stands where it stood
pub record IsBefore (a b : ServerRun) : Type 0 where
  pub schedule : b.schedule ≡ a.schedule
  pub trace : length a.server.trace ≤ length b.server.trace
  pub selects : min a.counts.selects (2 ^ 64 - 1) ≤ b.counts.selects
  pub check_outs : min a.counts.check_outs (2 ^ 64 - 1) ≤ b.counts.check_outs
  pub stays : (at : ℕ) (send : Send) → slice_get a.server.trace at ≡ Some send → slice_get b.server.trace at ≡ Some send

-- counts that stand still at a greatest one
capped_self : (most a : ℕ) → min a most ≤ a
capped_self most a = omega arith

-- a count does not fall by one more
capped_more : (most a : ℕ) → min a most ≤ min (a + 1) most
capped_more most a = omega arith

-- a count that did not fall twice did not fall
capped_twice : (most a b c : ℕ) → min a most ≤ b → min b most ≤ c → min a most ≤ c
capped_twice most a b c first second = omega (arith, first, second)

-- the last count of a part bounds one more
capped_last : (most a to : ℕ) → min (min (a + 1) most) most ≤ to → min (a + 1) most ≤ to
capped_last most a to within = omega (arith, within)

-- a moment is not after itself
pub before_refl : (a : ServerRun) → IsBefore a a
before_refl a = record {
  schedule = refl;
  trace = omega arith;
  selects = capped_self (2 ^ 64 - 1) a.counts.selects;
  check_outs = capped_self (2 ^ 64 - 1) a.counts.check_outs;
  stays = λ at send is. is;
}

-- a moment before one before a third is before that
pub before_twice : (a b c : ServerRun) → IsBefore a b → IsBefore b c → IsBefore a c
before_twice a b c first second = record {
  schedule = second.schedule ∙ first.schedule;
  trace = omega (arith, first.trace, second.trace);
  selects = capped_twice (2 ^ 64 - 1) a.counts.selects b.counts.selects c.counts.selects first.selects second.selects;
  check_outs = capped_twice (2 ^ 64 - 1) a.counts.check_outs b.counts.check_outs c.counts.check_outs first.check_outs second.check_outs;
  stays = λ at send is. second.stays at send (first.stays at send is);
}

-- a selection comes after
selected_before : (a : ServerRun) → IsBefore a (selected a)
selected_before a = record {
  schedule = refl;
  trace = omega arith;
  selects = capped_more (2 ^ 64 - 1) a.counts.selects;
  check_outs = capped_self (2 ^ 64 - 1) a.counts.check_outs;
  stays = λ at send is. is;
}

-- so does a check-out
checked_before : (a : ServerRun) → IsBefore a (checked_out a)
checked_before a = record {
  schedule = refl;
  trace = omega arith;
  selects = capped_self (2 ^ 64 - 1) a.counts.selects;
  check_outs = capped_more (2 ^ 64 - 1) a.counts.check_outs;
  stays = λ at send is. is;
}

-- an exchange adds one send
pub longer_after : (a : ServerRun) (send : Send) → length (run_after a send).server.trace ≡ length a.server.trace + 1
longer_after a send = ap length (exchanged_trace a.server send (next_step a.schedule a.server)) ∙ length-append a.server.trace (send ∷ [])

-- it stands behind the others
pub sent_last : (a : ServerRun) (send : Send) → slice_get (run_after a send).server.trace (length a.server.trace) ≡ Some send
sent_last a send = ap (λ t. slice_get t (length a.server.trace)) (exchanged_trace a.server send (next_step a.schedule a.server)) ∙ get_last a.server.trace send

-- so does an exchange
pub after_before : (a : ServerRun) (send : Send) → IsBefore a (run_after a send)
after_before a send = record {
  schedule = refl;
  trace = omega (arith, longer_after a send);
  selects = capped_self (2 ^ 64 - 1) a.counts.selects;
  check_outs = capped_self (2 ^ 64 - 1) a.counts.check_outs;
  stays = λ at found is.
      ap (λ t. slice_get t at) (exchanged_trace a.server send (next_step a.schedule a.server)) ∙ get_left a.server.trace (send ∷ []) at found is;
}

-- a link tells a moment, and is of the setup that it was
pub record Leads (a : ServerRun) (before now : LinkState) : Type 0 where
  pub moment : ServerRun
  pub is : server_run now ≡ Some moment
  pub later : IsBefore a moment
  pub setup : setup_of now ≡ setup_of before

-- the same, and the server is as it was
pub record LeadsCalling (a : ServerRun) (before now : LinkState) : Type 0 where
  pub leads : Leads a before now
  pub server : leads.moment.server ≡ a.server

-- a link leads to itself
pub leads_same : (a : ServerRun) (link : LinkState) → server_run link ≡ Some a → Leads a link link
leads_same a link is = record { moment = a; is = is; later = before_refl a; setup = refl }

-- what leads on leads from the first
pub leads_twice : (a : ServerRun) (before mid now : LinkState) (first : Leads a before mid) → Leads first.moment mid now → Leads a before now
leads_twice a before mid now first second =
    record { moment = second.moment; is = second.is; later = before_twice a first.moment second.moment first.later second.later; setup = second.setup ∙ first.setup }

-- a link tells one moment
pub one_moment : (link : LinkState) (a b : ServerRun) → server_run link ≡ Some a → server_run link ≡ Some b → a ≡ b
one_moment link a b first second = cc (sym first ∙ second)

-- calls that are counted
module _ {B : Type 0} (which : LinkCall) (next : ServerRun → ServerRun) (fault : ServerRun → Option Listed) (ahead : (t : ServerRun) → IsBefore t (next t)) (keeps : (t : ServerRun) → (next t).server ≡ t.server) where
  -- what is behind a link moves by its count alone
  counts_lead : (a : ServerRun) (before now : LinkState) (result : Result B LinkError) → setup_of now ≡ setup_of before → Counts next fault (Some a) (server_run now) result → LeadsCalling a before now
  counts_lead a before now result setup counts = by_result result counts
    where
      moved : server_run now ≡ Some (next a) → LeadsCalling a before now
      moved is = record { leads = record { moment = next a; is = is; later = ahead a; setup = setup }; server = keeps a }

      stayed : server_run now ≡ Some a → LeadsCalling a before now
      stayed is = record { leads = record { moment = a; is = is; later = before_refl a; setup = setup }; server = refl }

      by_result : (result : Result B LinkError) → Counts next fault (Some a) (server_run now) result → LeadsCalling a before now
      by_result (Ok given) counts = moved counts.0
      by_result (Err (Fault found labels)) counts = moved counts.0
      by_result (Err Memory) counts = elim counts [ inl same ↦ stayed same | inr more ↦ moved more ]

  -- the same of a call
  calls_lead : (a : ServerRun) (before now : LinkState) (result : Result B LinkError) → server_run before ≡ Some a → CallsLink which next fault before now result → LeadsCalling a before now
  calls_lead a before now result is calls = counts_lead a before now result calls.setup (subst (λ s. Counts next fault s (server_run now) result) is calls.counts)

-- a selection
pub selects_lead : {B : Type 0} (a : ServerRun) (before now : LinkState) (result : Result B LinkError) → server_run before ≡ Some a → CallsLink Select selected select_fault before now result
    → LeadsCalling a before now
selects_lead a before now result is calls = calls_lead Select selected select_fault selected_before (λ t. refl) a before now result is calls

-- a check-out
pub checks_lead : {B : Type 0} (a : ServerRun) (before now : LinkState) (result : Result B LinkError) → server_run before ≡ Some a → CallsLink CheckOut checked_out check_out_fault before now result
    → LeadsCalling a before now
checks_lead a before now result is calls = calls_lead CheckOut checked_out check_out_fault checked_before (λ t. refl) a before now result is calls

-- what leads on by calls leads from the first
pub calling_twice : (a : ServerRun) (before mid now : LinkState) (first : LeadsCalling a before mid) → LeadsCalling first.leads.moment mid now → LeadsCalling a before now
unfolding leads_twice
calling_twice a before mid now first second = record { leads = leads_twice a before mid now first.leads second.leads; server = second.server ∙ first.server }

-- a connection that was had
pub connects_lead : {avoid : List Address} (a : ServerRun) (before now : LinkState) (address : Address) (conn : Conn) → server_run before ≡ Some a → Connects avoid before now address conn → LeadsCalling a before now
connects_lead a before now address conn is connects =
    let first = selects_lead a before connects.mid (Ok address) is connects.selects.calls in
    calling_twice a before connects.mid now first (checks_lead first.leads.moment connects.mid now (Ok conn) first.leads.is connects.checks_out.calls)

-- an exchange
steps_lead : (a : ServerRun) (before now : LinkState) (send : Send) (result : Result (List ℕ) LinkError) → setup_of now ≡ setup_of before → TakesStep (Some a) (server_run now) send result → Leads a before now
steps_lead a before now send result setup steps = by_result result steps
  where
    moved : server_run now ≡ Some (run_after a send) → Leads a before now
    moved is = record { moment = run_after a send; is = is; later = after_before a send; setup = setup }

    stayed : server_run now ≡ Some a → Leads a before now
    stayed is = record { moment = a; is = is; later = before_refl a; setup = setup }

    by_result : (result : Result (List ℕ) LinkError) → TakesStep (Some a) (server_run now) send result → Leads a before now
    by_result (Ok bytes) steps = moved steps.0
    by_result (Err (Fault found labels)) steps = moved steps.0
    by_result (Err Memory) steps = elim steps [ inl same ↦ stayed same | inr more ↦ moved more ]

-- the exchanges behind that of a command
is_asked : (body : SendBody) → AsksCursor body 0 [] body
is_asked body = record { none = refl; alone = refl; is = refl }

exchange_leads : {B : Type 0} {which : SendKind} (spec : OperationSpec B) (body : SendBody) → spec.bodies 0 [] body → (a : ServerRun) (before now : LinkState) (conn : Conn) (context : SendContext) (result : Result (List ℕ) LinkError)
    → server_run before ≡ Some a → Exchanges spec which no_statements before now conn context result → Leads a before now
exchange_leads spec body asks a before now conn context result is exchanges =
    let send = send_of context body in
    steps_lead a before now send result exchanges.exchanges.setup (subst (λ s. TakesStep s (server_run now) send result) is (exchanges.exchanges.steps send (exchanges.reads body asks)))

stays_lead : (a : ServerRun) (before now : LinkState) → server_run before ≡ Some a → now ≡ before → Leads a before now
stays_lead a before now is same = subst (λ l. Leads a before l) (sym same) (leads_same a before is)

pub asked_leads : (a : ServerRun) (before now : LinkState) (conn : Conn) (session : Option (List ℕ)) (asked : PageAsked) → server_run before ≡ Some a → AsksPage conn session before now asked → Leads a before now
asked_leads a before now conn session asked is asks = elim asks [
  | inl out ↦ exchange_leads (more_spec (at_namespace asked.namespace) asked.cursor) (More asked.cursor) (is_asked (More asked.cursor)) a before now conn (under session None) out.result is out.exchanges
  | inr lacks ↦ stays_lead a before now is lacks.same
]

cursor_leads : (a : ServerRun) (before now : LinkState) (conn : Conn) (asked : PageAsked) → server_run before ≡ Some a → EndsCursor conn before now asked → Leads a before now
cursor_leads a before now conn asked is ends = elim ends [
  | inl out ↦ exchange_leads (kill_spec (at_namespace asked.namespace) asked.cursor) (Kill asked.cursor) (is_asked (Kill asked.cursor)) a before now conn (under None None) out.result is out.exchanges
  | inr lacks ↦ stays_lead a before now is lacks.same
]

where_leads : (ended : Bool) (a : ServerRun) (before now : LinkState) (conn : Conn) (asked : PageAsked) → server_run before ≡ Some a → EndsCursorWhere ended conn before now asked → Leads a before now
where_leads true a before now conn asked is ends = cursor_leads a before now conn asked is ends
where_leads false a before now conn asked is same = stays_lead a before now is same

module _ {A : Type 0} (spec : OperationSpec A) (statements : ℕ) (bytes : List ℕ) (conn : Conn) where
  pub pages_lead : (session : Option (List ℕ)) (a : ServerRun) (before : LinkState) → server_run before ≡ Some a → (asked : List PageAsked) (mid : LinkState) → AsksPages spec statements bytes conn session before asked mid → Leads a before mid
  pages_lead session a before is [] mid same = stays_lead a before mid is same
  pages_lead session a before is (last ∷ earlier) mid asks =
      let leads = pages_lead session a before is earlier asks.0 asks.1.0 in
      leads_twice a before asks.0 mid leads (asked_leads leads.moment asks.0 mid conn session last leads.is asks.1.2)

  pub pages_end_leads : (a : ServerRun) (before now : LinkState) → server_run before ≡ Some a → (asked : List PageAsked) (answer : Result A Error) → EndsPages spec statements bytes conn before now asked answer → Leads a before now
  pages_end_leads a before now is [] answer ends = stays_lead a before now is ends.1
  pages_end_leads a before now is (last ∷ earlier) (Ok output) ends = stays_lead a before now is ends.1
  pages_end_leads a before now is (last ∷ earlier) (Err error) ends = elim ends [
    | inl fails ↦ where_leads (ends_cursor last.page error) a before now conn last is fails.ends
    | inr lacks ↦ elim lacks.may [ inl same ↦ stays_lead a before now is same | inr ended ↦ where_leads (ends_cursor last.page lacks.bare) a before now conn last is ended ]
  ]

  pub behind_lead : (session : Option (List ℕ)) (a : ServerRun) (before now : LinkState) (held held_now : ExecutionSession) (answer : Result A Error) → server_run before ≡ Some a
      → AttemptExchanges spec statements bytes conn session before now held held_now answer → Leads a before now
  behind_lead session a before now held held_now answer is exchanges =
      let leads = pages_lead session a before is exchanges.asked exchanges.mid exchanges.asks in
      leads_twice a before exchanges.mid now leads (pages_end_leads leads.moment exchanges.mid now leads.is exchanges.asked answer exchanges.ends)

-- an attempt that failed
module _ {A : Type 0} (op : AttemptedOperation A) (past : Option RetryState) (body : SendBody) (asked : AsksFor op.spec op.batch body) (a : ServerRun) (mid now : AttemptState) (is : server_run mid.link ≡ Some a) where
  -- its command went out
  pub sends_lead : (behind : AttemptState) (address : Address) (conn : Conn) (result : Result (List ℕ) LinkError) → Sends op past mid behind address conn result → Leads a mid.link behind.link
  sends_lead behind address conn result sends =
      let ready = sends.ready in
      let first = (connects_lead a mid.link ready.link address conn is sends.readies.connects).leads in
      let send = send_of (under (held_id sends.numbered) sends.number) body in
      let steps = subst (λ s. TakesStep s (server_run behind.link) send result) first.is (sends.exchanges.exchanges.steps send (sends.exchanges.reads body asked)) in
      leads_twice a mid.link ready.link behind.link first (steps_lead first.moment ready.link behind.link send result sends.exchanges.exchanges.setup steps)

  -- and its answer was read
  pub read_leads : (behind : AttemptState) (address : Address) (conn : Conn) (reply : List ℕ) (answer : Result A Error) → Sends op past mid behind address conn (Ok reply) → ReadsOn op conn reply behind now answer
      → Leads a mid.link now.link
  read_leads behind address conn reply answer sends reads =
      let leads = sends_lead behind address conn (Ok reply) sends in
      leads_twice a mid.link behind.link now.link leads
      (behind_lead op.spec op.batch.statements reply conn (held_id behind.held) leads.moment behind.link now.link behind.held now.held answer leads.is reads.exchanges)

  pub may_read_leads : (behind : AttemptState) (address : Address) (conn : Conn) (result : Result (List ℕ) LinkError) → Sends op past mid behind address conn result → MayReadOn op conn result behind now
      → Leads a mid.link now.link
  may_read_leads behind address conn (Ok reply) sends reads = read_leads behind address conn reply reads.answer sends reads.reads
  may_read_leads behind address conn (Err failure) sends same = subst (λ s. Leads a mid.link s.link) (sym same) (sends_lead behind address conn (Err failure) sends)

  -- it had no connection
  pub unconnected_leads : (address : Address) (error : Error) → NotConnected op past mid now address error → Leads a mid.link now.link
  unconnected_leads address error fails =
      let first = selects_lead a mid.link fails.mid (Ok address) is fails.selects.calls in
      (calling_twice a mid.link fails.mid now.link first
      (checks_lead first.leads.moment fails.mid now.link (Err (Fault fails.fault fails.labels)) first.leads.is fails.checks_out.calls)).leads

  -- it failed either way
  pub fails_lead : (address : Address) (phase : FailurePhase) (error : Error) → FailsIn op past mid now address phase error → Leads a mid.link now.link
  fails_lead address ConnectionEstablishment error fails = unconnected_leads address error fails
  fails_lead address Execution error fails = elim fails [
    | inl lost ↦ sends_lead now address lost.conn (Err (Fault lost.fault lost.labels)) lost.sends
    | inr spelled ↦ read_leads spelled.behind address spelled.conn spelled.reply (Err spelled.bare) spelled.sends spelled.reads
  ]

-- in a gentle part no call fails that is counted
module _ {Serves : Send → Item → Type 0} (repeats : Send → Type 0) (told told_now : ServerRun) (gentle : IsGentlePart Serves repeats told told_now) where
  -- a call that was counted before the end of the part is of it
  counted : (from at to : ℕ) → min from (2 ^ 64 - 1) ≤ at → min (one_more at) (2 ^ 64 - 1) ≤ to → IsCounted from to at
  counted from at to after before = (after, capped_last (2 ^ 64 - 1) at to before)

  -- a count that is not listed has no fault
  unlisted : (numbers : List ℕ) (at : ℕ) (fault : LinkFault) (labels : List (List ℕ)) (other : Option Listed) → is_listed numbers at ≡ false
      → fault_where (is_listed numbers at) fault labels other ≡ other
  unlisted numbers at fault labels other none = ap (λ listed. fault_where listed fault labels other) none

  -- no selection of the part has a fault
  pub no_select_fault : (a : ServerRun) (listed : Listed) → IsBefore told a → IsBefore (selected a) told_now → select_fault a ≡ Some listed → ⊥
  no_select_fault a listed after before is =
      let of_part = counted told.counts.selects a.counts.selects told_now.counts.selects after.selects before.selects in
      let none = gentle.selects a.counts.selects of_part in
      let here : is_listed a.schedule.selects a.counts.selects ≡ false = ap (λ s. is_listed s.selects a.counts.selects) after.schedule ∙ none in
      none_is_some listed (sym (unlisted a.schedule.selects a.counts.selects (Selection SELECTION_FAILURE.now) [] None here) ∙ is)

  -- nor has a check-out
  pub no_check_out_fault : (a : ServerRun) (listed : Listed) → IsBefore told a → IsBefore (checked_out a) told_now → check_out_fault a ≡ Some listed → ⊥
  no_check_out_fault a listed after before is =
      let of_part = counted told.counts.check_outs a.counts.check_outs told_now.counts.check_outs after.check_outs before.check_outs in
      let none = gentle.check_outs a.counts.check_outs of_part in
      let here : is_listed a.schedule.check_outs a.counts.check_outs ≡ false = ap (λ s. is_listed s.check_outs a.counts.check_outs) after.schedule ∙ none in
      let none_over = gentle.overloaded a.counts.check_outs of_part in
      let here_over : is_listed a.schedule.overloaded_check_outs a.counts.check_outs ≡ false
      = ap (λ s. is_listed s.overloaded_check_outs a.counts.check_outs) after.schedule ∙ none_over in
      let later = fault_where (is_listed a.schedule.check_outs a.counts.check_outs) (Io ConnectionRefused) [] None in
      none_is_some listed (
      sym (unlisted a.schedule.overloaded_check_outs a.counts.check_outs (Io ConnectionRefused) overload_labels later here_over
      ∙ unlisted a.schedule.check_outs a.counts.check_outs (Io ConnectionRefused) [] None here) ∙ is
      )

  module _ (a : ServerRun) (after : IsBefore told a) (before now : LinkState) (m : ServerRun) (is : server_run before ≡ Some a) (is_now : server_run now ≡ Some m) (later : IsBefore m told_now) where
    -- a moment that is the one told now
    at_now : (next : ServerRun) → server_run now ≡ Some next → IsBefore next told_now
    at_now next found = subst (λ t. IsBefore t told_now) (one_moment now m next is_now found) later

    -- a selection of the part does not fail
    pub selects_well : {B : Type 0} (found : LinkFault) (labels : List (List ℕ)) → CallsLink {A = B} Select selected select_fault before now (Err (Fault found labels)) → ⊥
    selects_well {B = B} found labels calls =
        let counts = subst (λ s. Counts {A = B} selected select_fault s (server_run now) (Err (Fault found labels))) is calls.counts in
        no_select_fault a (record { fault = found; labels = labels }) after (at_now (selected a) counts.0) counts.1

    -- nor does a check-out
    pub checks_well : {B : Type 0} (found : LinkFault) (labels : List (List ℕ)) → CallsLink {A = B} CheckOut checked_out check_out_fault before now (Err (Fault found labels)) → ⊥
    checks_well {B = B} found labels calls =
        let counts = subst (λ s. Counts {A = B} checked_out check_out_fault s (server_run now) (Err (Fault found labels))) is calls.counts in
        no_check_out_fault a (record { fault = found; labels = labels }) after (at_now (checked_out a) counts.0) counts.1
