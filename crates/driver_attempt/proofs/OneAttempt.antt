-- One attempt of an operation, from the calls in which it was made.
use Rattle.std.proofs.Common.{◌≡◌, ℕ, ◌+◌, ◌≤◌, List, [], ◌∷◌, ◌++◌, refl, sym, ap, subst, ◌∙◌, inl, inr, arith}
use Rattle.std.specs.Prelude.{ℤ, Bool, true, false, Option, None, Some, is_some, Result, Ok, Err}
use Rattle.std.proofs.lemmas.Bool.{and_parts}
use Rattle.bson_lite.specs.declared.namespace.Namespace.{Namespace}
use Rattle.driver_error.specs.declared.error.Error.{Error}
use Rattle.driver_error.specs.declared.kind.ErrorKind.TheVariants as kind
use Rattle.driver_error.specs.Error.{IsAlone}
use Rattle.driver_error.specs.LabelTexts.{no_labels}
use Rattle.driver_options.specs.declared.concerns.WriteConcern.{WriteConcern}
use Rattle.driver_options.specs.declared.options.Address.{Address}
use Rattle.driver_options.specs.declared.options.Conn.{Conn}
use Rattle.driver_options.specs.declared.options.Description.{Description}
use Rattle.driver_link.specs.Clock.{ClockTells, ReadsClock}
use Rattle.link_faults.specs.declared.fault.Answered.{Answered}
use Rattle.link_faults.specs.declared.fault.LinkCall.{LinkCall}
use Rattle.link_faults.specs.declared.fault.LinkCall.TheVariants.{CheckOut, Select}
use Rattle.link_faults.specs.declared.fault.LinkError.{LinkError}
use Rattle.link_faults.specs.declared.fault.LinkError.TheVariants.{Fault, Memory}
use Rattle.driver_link.specs.declared.machine.Place.{Place}
use Rattle.driver_link.specs.Counting.{Listed, OnlyCounts, check_out_fault, checked_out, select_fault, selected}
use Rattle.driver_link.specs.Faults.{HasLinkCause}
use Rattle.driver_link.specs.Framed.{Framed}
use Rattle.driver_link.specs.LinkCalls.{CallsLink, ChecksInConnection, ChecksOutConnection, ExchangesFrame, SelectsServer}
use Rattle.driver_link.specs.LinkState.{GainsAll, GainsAnswer, HandsBack, LinkState, TellsFrame, noted, nothing_noted, server_run, setup_of}
use Rattle.driver_link.proofs.ConnectionsOut.{handed_back_last, same_number}
use Rattle.driver_link.specs.ServerRun.{ServerRun}
use Rattle.driver_session.specs.declared.retryability.Retryability.{Retryability}
use Rattle.driver_session.specs.Session.{Session}
use Rattle.driver_session.specs.StoreTells.{LendsSession, StoreTells, TakesSession}
use Rattle.driver_ops.specs.declared.command.Command.{Command}
use Rattle.driver_ops.specs.declared.operation.Reading.TheVariants as read
use Rattle.driver_ops.specs.Fields.{SendContext, in_context}
use Rattle.driver_ops.specs.Operations.{Batch, IsBuilt, IsFramed, IsUnframed, LeavesCursor, OperationSpec, Page, ReadsPages, ReadsPagesError, ReadsPagesOutput, Refuses, SameSpec}
use Rattle.driver_ops.specs.SendKinds.{SendKind}
use Rattle.driver_attempt.specs.declared.attempt_end.AttemptEnd.{AttemptEnd}
use Rattle.driver_attempt.specs.declared.attempt_end.AttemptEnd.TheVariants.{Ended, Failed, Stopped, Unselected}
use Rattle.driver_attempt.specs.AttemptExchanges.{AsksPages, AttemptExchanges, EndsPages, Exchanges, PageAsked, held_after, pages_of}
use Rattle.driver_attempt.specs.Attempting.{AsksEarly, AttemptState, AttemptedOperation, Connects, FailsIn, LacksFrame, LosesExchange, MayFix, MakesAttempt, NotConnected, Readies, ReadsOn, Selects, Sends, SpellsFailure, asked_for, asks_session, attempted_operation, avoided, besides_out, is_nothing, may_use, on_connection, stops}
use Rattle.driver_attempt.specs.Causes.{AllEarly}
use Rattle.driver_attempt.specs.Holding.{DrawsNumber, ExecutionSession, held_id, needs_session, number_before}
use Rattle.retry_rules.specs.Retry.{RetryState}
use Rattle.driver_attempt.proofs.Attempts.{check_out_counts, counts_twice, number_after_pages, select_counts, sent_number}
use Rattle.driver_attempt.proofs.Causes.{notes_since}
use Rattle.driver_attempt.specs.inside.Attempting.{Comes, Sending, attempt_state}
use Rattle.driver_attempt.specs.inside.Holding.{GivesBackAt, HoldsAt}
use Rattle.driver_attempt.specs.inside.Failures.{EndsLost, EndsRead, EndsUnconnected, EndsUnselected}

-- only calls of the link were counted, and nothing was exchanged
pub record OnlyCounted (link now : LinkState) : Type 0 where
  pub server : OnlyCounts (server_run link) (server_run now)
  pub setup : setup_of now ≡ setup_of link
  pub items : List Answered
  pub notes : GainsAll link.answers now.answers items
  pub early : AllEarly items
  pub later : link.faults ≤ now.faults

pub later_of : {B : Type 0} (before now : ℕ) (result : Result B LinkError) → HasLinkCause before now result → before ≤ now
later_of before now (Ok given) cause = cause
later_of before now (Err (Fault fault labels)) cause = cause.1
later_of before now (Err Memory) cause = cause

-- a selection and a check-out note no exchange
pub select_early : {B : Type 0} (result : Result B LinkError) → AllEarly (noted Select nothing_noted result)
select_early (Ok given) = tt
select_early (Err (Fault fault labels)) = tt
select_early (Err Memory) = tt

pub check_out_early : {B : Type 0} (result : Result B LinkError) → AllEarly (noted CheckOut nothing_noted result)
check_out_early (Ok given) = tt
check_out_early (Err (Fault fault labels)) = tt
check_out_early (Err Memory) = tt

-- a call that is counted, besides what is out
calls_besides : {A : Type 0} (which : LinkCall) (next : ServerRun → ServerRun) (fault : ServerRun → Option Listed) (link now : LinkState) (result : Result A LinkError)
    → CallsLink which next fault link now result → CallsLink which next fault (besides_out link) (besides_out now) result
calls_besides which next fault link now result calls = record {
  counts = calls.counts;
  setup = calls.setup;
  answers = calls.answers;
  frames = calls.frames;
  over = calls.over;
  cause = calls.cause;
}

-- a selection asks for a server outside these
pub asks_avoided : (given avoid : List Address) (link now : LinkState) (result : Result Address LinkError) → given ≡ avoid
    → SelectsServer link now (asked_for given) result → Selects avoid (besides_out link) (besides_out now) result
asks_avoided given avoid link now result is selects =
    subst (λ a. Selects a (besides_out link) (besides_out now) result) is (record {
      calls = calls_besides Select selected select_fault link now result selects.calls;
      asked = selects.asked;
      addresses = selects.addresses;
      connections = selects.connections;
      out = refl;
    })

-- a check-out, besides what is out
pub checks_besides : (link now : LinkState) (address : Address) (result : Result Conn LinkError) → ChecksOutConnection link now address result
    → ChecksOutConnection (besides_out link) (besides_out now) address result
checks_besides link now address result checks = record {
  calls = calls_besides CheckOut checked_out check_out_fault link now result checks.calls;
  to = checks.to;
  connections = checks.connections;
  out = untold result;
  asked = checks.asked;
  addresses = checks.addresses;
}
  where
    untold : (result : Result Conn LinkError) → GainsAnswer None None result
    untold result = refl

-- an exchange, besides what is out
pub exchanges_besides : (link now : LinkState) (conn : Conn) (frame : Framed) (places : List Place) (result : Result (List ℕ) LinkError)
    → ExchangesFrame link now conn frame places result → ExchangesFrame (besides_out link) (besides_out now) conn frame places result
exchanges_besides link now conn frame places result exchanges = record {
  steps = exchanges.steps;
  setup = exchanges.setup;
  answers = exchanges.answers;
  given = given_besides result exchanges.given;
  rest = record {
    asked = exchanges.rest.asked;
    addresses = exchanges.rest.addresses;
    connections = exchanges.rest.connections;
    out = refl;
  };
  cause = exchanges.cause;
}
  where
    given_besides : (result : Result (List ℕ) LinkError) → TellsFrame link now frame conn.number result
        → TellsFrame (besides_out link) (besides_out now) frame conn.number result
    given_besides (Ok reply) given = given
    given_besides (Err (Fault fault labels)) given = given
    given_besides (Err Memory) given = given

-- a connection that is handed back changes nothing besides what is out
pub handed_besides : (link now : LinkState) (conn : Conn) → ChecksInConnection link now conn → besides_out now ≡ besides_out link
handed_besides link now conn handed = ap besides_out handed.rest

-- a connection that was checked out and is handed back leaves what is out as it was
pub out_again : (out mid now : Option (List Conn)) (conn : Conn) → GainsAnswer out mid (Ok conn) → HandsBack mid now conn.number → now ≡ out
out_again None mid now conn gains back = subst (λ m. HandsBack m now conn.number) gains back
out_again (Some out) mid now conn gains back =
    subst (λ m. HandsBack m now conn.number) gains back ∙ ap (λ conns. Some conns) (handed_back_last out conn (same_number conn.number conn.number refl))

-- a selection is a call that was counted
pub selected_counted : {avoid : List Address} (link now : LinkState) (result : Result Address LinkError) → Selects avoid link now result → OnlyCounted link now
selected_counted link now result selects = record {
  server = select_counts Address (server_run link) (server_run now) result selects.calls.counts;
  setup = selects.calls.setup;
  items = noted Select nothing_noted result;
  notes = selects.calls.answers;
  early = select_early result;
  later = later_of link.faults now.faults result selects.calls.cause;
}

-- so is a check-out after it
pub checked_counted : {avoid : List Address} (link mid now : LinkState) (address : Address) (result : Result Conn LinkError)
    → Selects avoid link mid (Ok address) → ChecksOutConnection mid now address result → OnlyCounted link now
checked_counted link mid now address result selects checks = record {
  server = counts_twice (server_run link) (server_run mid) (server_run now) (select_counts Address (server_run link) (server_run mid) (Ok address) selects.calls.counts)
      (check_out_counts Conn (server_run mid) (server_run now) result checks.calls.counts);
  setup = checks.calls.setup ∙ selects.calls.setup;
  items = noted CheckOut nothing_noted result;
  notes = notes_since link.answers mid.answers now.answers (noted CheckOut nothing_noted result) selects.calls.answers checks.calls.answers;
  early = check_out_early result;
  later = omega (arith, later_of link.faults mid.faults (Ok address) selects.calls.cause, later_of mid.faults now.faults result checks.calls.cause);
}

pub connected_counted : {avoid : List Address} (link now : LinkState) (address : Address) (conn : Conn) → Connects avoid link now address conn → OnlyCounted link now
connected_counted link now address conn connects = checked_counted link connects.mid now address (Ok conn) connects.selects connects.checks_out

asks_connection : (avoid : List Address) (link mid now : LinkState) (address : Address) (result : Result Conn LinkError) → Selects avoid link mid (Ok address) → ChecksOutConnection mid now address result
    → AsksEarly avoid link now
asks_connection avoid link mid now address result selects checks = inr (record { mid = mid; address = address; selects = selects; result = result; checks_out = checks })

-- the calls of an attempt that came to no session were only counted
pub early_counted : {avoid : List Address} (link now : LinkState) → AsksEarly avoid link now → OnlyCounted link now
early_counted link now asks = elim asks [
  | inl fails ↦ selected_counted link now (Err fails.failure) fails.selects
  | inr more ↦ checked_counted link more.mid now more.address more.result more.selects more.checks_out
]

-- it told the same before
pub same_back : {A : Type 0} (old now : OperationSpec A) → SameSpec old now → SameSpec now old
same_back old now same = record {
  name = sym same.name;
  target = sym same.target;
  commands = λ which statements command. ((same.commands which statements command).1, (same.commands which statements command).0);
  bodies = λ statements places body. ((same.bodies statements places body).1, (same.bodies statements places body).0);
  takes = λ fixed description statements. ((same.takes fixed description statements).1, (same.takes fixed description statements).0);
  refused = λ fixed description error. ((same.refused fixed description error).1, (same.refused fixed description error).0);
  write_concern = λ which. sym (same.write_concern which);
  read_concern = sym same.read_concern;
  selection_criteria = λ which. sym (same.selection_criteria which);
  sessions = sym same.sessions;
  retryability = λ options. sym (same.retryability options);
  backpressure = λ options. sym (same.backpressure options);
  after_cluster_time = sym same.after_cluster_time;
  paged = sym same.paged;
  reads = λ statements pages result. ((same.reads statements pages result).1, (same.reads statements pages result).0);
  output = λ entries output. ((same.output entries output).1, (same.output entries output).0);
}

-- an operation tells before and now the same
module _ {A : Type 0} (old now : OperationSpec A) (same : SameSpec old now) where
  built_same : (which : SendKind) (statements : ℕ) (command : Command) → IsBuilt now which statements command → IsBuilt old which statements command
  built_same which statements command built = record {
    name = built.name ∙ same.name;
    is = (same.commands which statements command).1 built.is;
    plain = built.plain;
    asks = λ places body asked. built.asks places body ((same.bodies statements places body).0 asked);
    within = λ places body asked. built.within places body ((same.bodies statements places body).0 asked);
  }

  -- a frame of the operation as it is now is one of it as it was
  pub framed_same : (which : SendKind) (statements : ℕ) (context : SendContext) (frame : Framed) → IsFramed now which statements context frame → IsFramed old which statements context frame
  framed_same which statements context frame framed =
      record { command = framed.command; built = built_same which statements framed.command framed.built; is = framed.is }

  -- so is a refused build
  pub refuses_same : (fixed : Option ℕ) (description : Description) (error : Error) → Refuses now fixed description error → Refuses old fixed description error
  refuses_same fixed description error refuses = record { refused = (same.refused fixed description error).1 refuses.refused; may = refuses.may; alone = refuses.alone }

  -- so is a command without a spelling
  unspelled_same : (context : SendContext) (error : Error) → IsUnframed now context error → IsUnframed old context error
  unspelled_same context error unframed =
      let none = unframed.none in record {
        fault = unframed.fault;
        none = record {
          which = none.which;
          statements = none.statements;
          command = none.command;
          is = (same.commands none.which none.statements none.command).1 none.is;
          sixteen = none.sixteen;
          refused = none.refused;
        };
        is = unframed.is;
      }

  -- of what was built for a connection
  pub lacks_same : (context : SendContext) (description : Description) (fixed fixed_now : Option ℕ) (error : Error) → LacksFrame now context description fixed fixed_now error → LacksFrame old context description fixed fixed_now error
  unfolding unspelled_same
  lacks_same context description fixed fixed_now error lacks = record {
    statements = lacks.statements;
    takes = (same.takes fixed description lacks.statements).1 lacks.takes;
    by = lacks.by;
    fixes = lacks.fixes;
    unframed = unspelled_same context error lacks.unframed;
    same = lacks.same;
  }

  -- a number that may be fixed
  pub may_fix_same : (description : Description) (fixed fixed_now : Option ℕ) → MayFix now description fixed fixed_now → MayFix old description fixed fixed_now
  may_fix_same description fixed fixed_now may = elim may [
    | inl stays ↦ inl stays
    | inr takes ↦ inr (takes.0, (same.takes fixed description takes.0).1 takes.1, takes.2, takes.3)
  ]

  -- and an error that was read in a reply and the pages behind it
  pages_error_same : (statements : ℕ) (bytes : List ℕ) (pages : List Page) (error : Error) → ReadsPagesError now statements bytes pages error → ReadsPagesError old statements bytes pages error
  pages_error_same statements bytes pages error reads = record {
    response = reads.response;
    done = reads.done;
    bare = reads.bare;
    reads = (same.reads statements (pages ++ Ok reads.response.body ∷ []) (Err reads.bare)).1 reads.reads;
    kept = reads.kept;
  }

  pages_output_same : (statements : ℕ) (bytes : List ℕ) (pages : List Page) (output : A) → ReadsPagesOutput now statements bytes pages output → ReadsPagesOutput old statements bytes pages output
  pages_output_same statements bytes pages output reads = record {
    response = reads.response;
    done = reads.done;
    reads = (same.reads statements (pages ++ Ok reads.response.body ∷ []) (Ok (read.Done output))).1 reads.reads;
  }

  -- and a cursor that they left open
  leaves_same : (statements : ℕ) (bytes : List ℕ) (pages : List Page) (cursor : ℤ) (namespace : Namespace) → LeavesCursor now statements bytes pages cursor namespace → LeavesCursor old statements bytes pages cursor namespace
  leaves_same statements bytes pages cursor namespace leaves = record {
    response = leaves.response;
    done = leaves.done;
    reads = (same.reads statements (pages ++ Ok leaves.response.body ∷ []) (Ok (read.Page cursor namespace))).1 leaves.reads;
  }

  answers_same : (statements : ℕ) (bytes : List ℕ) (answer : Result A Error) → ReadsPages now statements bytes [] answer → ReadsPages old statements bytes [] answer
  answers_same statements bytes (Ok output) reads = pages_output_same statements bytes [] output reads
  answers_same statements bytes (Err error) reads = elim reads [
    | inl spelled ↦ inl spelled
    | inr other ↦ elim other [
      | inl found ↦ inr (inl (pages_error_same statements bytes [] error found))
      | inr memory ↦ inr (inr memory)
    ]
  ]

  asks_same : (statements : ℕ) (bytes : List ℕ) (conn : Conn) (session : Option (List ℕ)) (link : LinkState) (asked : List PageAsked) (mid : LinkState)
      → AsksPages now statements bytes conn session link asked mid → AsksPages old statements bytes conn session link asked mid
  asks_same statements bytes conn session link [] mid asks = asks
  asks_same statements bytes conn session link (last ∷ earlier) mid asks = (
    asks.0,
    (
      asks_same statements bytes conn session link earlier asks.0 asks.1.0,
      leaves_same statements bytes (pages_of earlier) last.cursor last.namespace asks.1.1,
      asks.1.2,
    ),
  )

  ends_pages_same : (statements : ℕ) (bytes : List ℕ) (conn : Conn) (link link_now : LinkState) (asked : List PageAsked) (answer : Result A Error)
      → EndsPages now statements bytes conn link link_now asked answer → EndsPages old statements bytes conn link link_now asked answer
  ends_pages_same statements bytes conn link link_now [] answer ends = (answers_same statements bytes answer ends.0, ends.1)
  ends_pages_same statements bytes conn link link_now (last ∷ earlier) (Ok output) ends =
      (pages_output_same statements bytes (pages_of (last ∷ earlier)) output ends.0, ends.1)
  ends_pages_same statements bytes conn link link_now (last ∷ earlier) (Err error) ends = elim ends [
    | inl fails ↦ inl (record { reads = pages_error_same statements bytes (pages_of (last ∷ earlier)) error fails.reads; ends = fails.ends })
    | inr lacks ↦ inr (record {
      why = lacks.why;
      response = lacks.response;
      done = lacks.done;
      bare = lacks.bare;
      reads = (same.reads statements (pages_of (last ∷ earlier) ++ Ok lacks.response.body ∷ []) (Err lacks.bare)).1 lacks.reads;
      may = lacks.may;
    })
  ]

  -- so are the exchanges behind that of the command
  pub behind_same : (statements : ℕ) (bytes : List ℕ) (conn : Conn) (session : Option (List ℕ)) (link link_now : LinkState) (held held_now : ExecutionSession) (answer : Result A Error)
      → AttemptExchanges now statements bytes conn session link link_now held held_now answer → AttemptExchanges old statements bytes conn session link link_now held held_now answer
  behind_same statements bytes conn session link link_now held held_now answer exchanges = record {
    asked = exchanges.asked;
    mid = exchanges.mid;
    asks = asks_same statements bytes conn session link exchanges.asked exchanges.mid exchanges.asks;
    ends = ends_pages_same statements bytes conn exchanges.mid link_now exchanges.asked answer exchanges.ends;
    held_is = exchanges.held_is;
  }

  pub comes_same : (statements : ℕ) (link link_now : LinkState) (connection_retryability : Retryability) (conn : Conn) (address : Address) (held held_now : ExecutionSession) (result : Result (List ℕ) LinkError) (attempt : AttemptEnd A)
      → Comes now statements link link_now connection_retryability conn address held held_now result attempt → Comes old statements link link_now connection_retryability conn address held held_now result attempt
  comes_same statements link link_now connection_retryability conn address held held_now (Ok reply) attempt comes = record {
    answer = comes.answer;
    exchanges = behind_same statements reply conn (held_id held) link link_now held held_now comes.answer comes.exchanges;
    ends = comes.ends;
  }
  comes_same statements link link_now connection_retryability conn address held held_now (Err failure) attempt comes = comes

-- a session that was lent where one was needed, at a reading of the clock
pub holds_lent : (needed : Bool) → needed ≡ true → (store now : StoreTells) (clock clock_now : ClockTells) (held held_now : ExecutionSession) (session : Session) (at : ℕ)
    → LendsSession store now at session → held_now ≡ record held { session = Some session } → ReadsClock clock clock_now at → HoldsAt needed store now clock clock_now held held_now (Ok tt)
holds_lent needed need store now clock clock_now held held_now session at lends is reads =
    subst (λ n. HoldsAt n store now clock clock_now held held_now (Ok tt)) (sym need) (record { holds = record { at = at; session = session; lends = lends; is = is }; lent_at = reads })

-- a session that came back at a reading of the clock
pub gives_held : (held : Option Session) (session : Session) → held ≡ Some session → (store now : StoreTells) (clock clock_now : ClockTells) (at : ℕ)
    → TakesSession store now session at → ReadsClock clock clock_now at → GivesBackAt store now clock clock_now held
gives_held held session is store now clock clock_now at takes reads =
    subst (GivesBackAt store now clock clock_now) (sym is) (record { back = record { at = at; takes = takes }; back_at = reads })

module _ {A : Type 0} (spec : OperationSpec A) (batch : Batch) (which : SendKind) (retryability : Retryability) (concern : Option WriteConcern) (past : Option RetryState) where
  abbrev op : AttemptedOperation A
  op = attempted_operation spec batch which retryability concern

  -- no server was selected
  pub unselected_attempt_made : (store : StoreTells) (link now : LinkState) (clock : ClockTells) (held : ExecutionSession) (count : ℕ) (fixed : Option ℕ) (failure : LinkError) (attempt : AttemptEnd A)
      → Selects (avoided past) (besides_out link) (besides_out now) (Err failure) → EndsUnselected failure attempt → MakesAttempt op past (attempt_state store link clock held count fixed) (attempt_state store now clock held count fixed) attempt
  unselected_attempt_made store link now clock held count fixed (Fault fault labels) (Unselected error) selects is =
      record { fault = fault; labels = labels; selects = selects; is = is; rest = record { store = refl; clock = refl; held = refl; count = refl; fixed = refl } }
  unselected_attempt_made store link now clock held count fixed (Fault fault labels) (Ended error) selects memory =
      inl (record { asks = inl (record { failure = Fault fault labels; selects = selects }); store = refl; clock = inl refl; held = refl; count = refl; fixed = refl; why = memory })
  unselected_attempt_made store link now clock held count fixed Memory (Ended error) selects memory =
      inl (record { asks = inl (record { failure = Memory; selects = selects }); store = refl; clock = inl refl; held = refl; count = refl; fixed = refl; why = memory })
  unselected_attempt_made store link now clock held count fixed (Fault fault labels) _ selects ends = absurd ends
  unselected_attempt_made store link now clock held count fixed Memory _ selects ends = absurd ends

  -- no connection was had
  pub unconnected_attempt_made : (store : StoreTells) (link mid now : LinkState) (clock : ClockTells) (held : ExecutionSession) (count : ℕ) (fixed : Option ℕ) (address : Address) (failure : LinkError) (attempt : AttemptEnd A)
      → Selects (avoided past) (besides_out link) mid (Ok address) → ChecksOutConnection mid (besides_out now) address (Err failure) → EndsUnconnected retryability address (number_before held) failure attempt
      → MakesAttempt op past (attempt_state store link clock held count fixed) (attempt_state store now clock held count fixed) attempt
  unconnected_attempt_made store link mid now clock held count fixed address (Fault fault labels) (Failed attempt_failure) selects checks ends = (
    subst (λ phase. FailsIn op past (attempt_state store link clock held count fixed) (attempt_state store now clock held count fixed) attempt_failure.address phase attempt_failure.error) (sym ends.phase_is)
        (subst (λ at. NotConnected op past (attempt_state store link clock held count fixed) (attempt_state store now clock held count fixed) at attempt_failure.error) (sym ends.address_is) (record {
          mid = mid;
          selects = selects;
          fault = fault;
          labels = labels;
          checks_out = checks;
          is = ends.error;
          rest = record { store = refl; clock = refl; held = refl; count = refl; fixed = refl };
        })),
    ends.number_is,
  )
  unconnected_attempt_made store link mid now clock held count fixed address (Fault fault labels) (Ended error) selects checks memory =
      inl (record { asks = asks_connection (avoided past) (besides_out link) mid (besides_out now) address (Err (Fault fault labels)) selects checks; store = refl; clock = inl refl; held = refl; count = refl; fixed = refl; why = memory })
  unconnected_attempt_made store link mid now clock held count fixed address Memory (Ended error) selects checks memory =
      inl (record { asks = asks_connection (avoided past) (besides_out link) mid (besides_out now) address (Err Memory) selects checks; store = refl; clock = inl refl; held = refl; count = refl; fixed = refl; why = memory })
  unconnected_attempt_made store link mid now clock held count fixed address (Fault fault labels) _ selects checks ends = absurd ends
  unconnected_attempt_made store link mid now clock held count fixed address Memory _ selects checks ends = absurd ends

  module _ (store store_now : StoreTells) (before link : LinkState) (clock clock_now : ClockTells) (held ready : ExecutionSession) (count : ℕ) (fixed : Option ℕ) (address : Address) (conn : Conn) (connects : Connects (avoided past) (besides_out before) (besides_out link) address conn)
      (asked sessions : Bool) (sessions_is : sessions ≡ spec.sessions) (asked_is : asked ≡ asks_session sessions conn.description) (given : Result (Unit {0}) Error)
      (lent : HoldsAt (needs_session asked held) store store_now clock clock_now held ready given) where
    -- a session was asked for where both sides take one
    holds_asked : (result : Result (Unit {0}) Error) → given ≡ result → HoldsAt (needs_session (asks_session spec.sessions conn.description) held) store store_now clock clock_now held ready result
    holds_asked result is_given =
        let is_asked : asked ≡ asks_session spec.sessions conn.description = asked_is ∙ ap (λ s. asks_session s conn.description) sessions_is in
        subst (λ a. HoldsAt (needs_session a held) store store_now clock clock_now held ready result) is_asked
        (subst (λ r. HoldsAt (needs_session asked held) store store_now clock clock_now held ready r) is_given lent)

    -- there was no memory for a session
    pub unready_attempt_made : (error : Error) → given ≡ Err error
        → MakesAttempt op past (attempt_state store before clock held count fixed) (attempt_state store_now link clock_now ready count fixed) (Ended error)
    unready_attempt_made error is_given = by_need (needs_session (asks_session spec.sessions conn.description) held) (holds_asked (Err error) is_given)
      where
        ok_err : ◌≡◌ {A = Result (Unit {0}) Error} (Ok tt) (Err error) → ⊥
        ok_err same = cc

        by_need : (needed : Bool) → HoldsAt needed store store_now clock clock_now held ready (Err error) → MakesAttempt op past (attempt_state store before clock held count fixed) (attempt_state store_now link clock_now ready count fixed) (Ended error)
        by_need false holds = absurd (ok_err (sym holds.holds.2))
        by_need true holds = inl (record { asks = asks_connection (avoided past) (besides_out before) connects.mid (besides_out link) address (Ok conn) connects.selects connects.checks_out; store = holds.holds.0; clock = inr holds.lent_at; held = holds.holds.1; count = refl; fixed = refl; why = holds.holds.2 })

    module _ (is_given : given ≡ Ok tt) where
      holds : HoldsAt (needs_session (asks_session spec.sessions conn.description) held) store store_now clock clock_now held ready (Ok tt)
      holds = holds_asked (Ok tt) is_given

      readied : Readies op past (attempt_state store before clock held count fixed) (attempt_state store_now link clock_now ready count fixed) address conn
      readied = record { connects = connects; holds = holds.holds; lent_at = holds.lent_at; count = refl; fixed = refl }

      -- a session is held, and the connection takes none
      pub sessionless_attempt_made : (error : Error) → may_use ready conn.description ≡ false → IsAlone kind.SessionsNotSupported no_labels error
          → MakesAttempt op past (attempt_state store before clock held count fixed) (attempt_state store_now link clock_now ready count fixed) (Ended error)
      sessionless_attempt_made error none is = inr (inl (record {
        ready = attempt_state store_now link clock_now ready count fixed;
        address = address;
        conn = conn;
        readies = readied;
        link = refl;
        store = refl;
        clock = refl;
        count = refl;
        refused = inl (record { none = none; same = refl; unfixed = refl; is = is });
      }))

      -- nothing may be repeated
      pub stopped_attempt_made : is_some past ≡ true → may_use ready conn.description ≡ true → is_nothing (on_connection retryability conn.description) ≡ true → MakesAttempt op past (attempt_state store before clock held count fixed) (attempt_state store_now link clock_now ready count fixed) Stopped
      stopped_attempt_made is allowed nothing = (is, record { address = address; conn = conn; readies = readied; allowed = allowed; nothing = nothing })

      module _ (allowed : may_use ready conn.description ≡ true) (goes : stops (is_some past) (on_connection retryability conn.description) ≡ false) (link_now : LinkState) (held_now : ExecutionSession) (count_now : ℕ) (fixed_now : Option ℕ) where
        abbrev connection_retryability : Retryability
        connection_retryability = on_connection retryability conn.description

        abbrev version : Option ℤ
        version = conn.description.max_wire_version

        abbrev began : AttemptState
        began = attempt_state store before clock held count fixed

        abbrev came : AttemptState
        came = attempt_state store_now link_now clock_now held_now count_now fixed_now

        -- what was told behind the exchange of the command
        abbrev behind_at : LinkState → ExecutionSession → AttemptState
        behind_at told_link told_held = record { store = store_now; link = told_link; clock = clock_now; held = told_held; count = count_now; fixed = fixed_now }

        module _ (told_link : LinkState) (sent : ExecutionSession) (reply : List ℕ) (sends : Sends op past began (behind_at told_link sent) address conn (Ok reply)) where
          abbrev behind : AttemptState
          behind = behind_at told_link sent

          module _ (answer : Result A Error) (exchanges : AttemptExchanges spec batch.statements reply conn (held_id sent) told_link (besides_out link_now) sent held_now answer) where
            reads_on : ReadsOn op conn reply behind came answer
            reads_on = record { exchanges = exchanges; store = refl; clock = refl; count = refl; fixed = refl }

            -- the number of the send stays
            number_stays : number_before held_now ≡ number_before sent
            number_stays = ap number_before exchanges.held_is ∙ number_after_pages exchanges.asked sent

            -- there was no memory behind a reply
            memory_attempt_made : (error : Error) → IsAlone kind.Memory no_labels error → MakesAttempt op past began came (Ended error)
            memory_attempt_made error memory = inr (inr (record {
              address = address;
              conn = conn;
              result = Ok reply;
              behind = behind;
              sends = sends;
              reads = record { answer = answer; reads = reads_on };
              why = memory;
            }))

          -- the answer to the command was read
          read_attempt_made : (answer : Result A Error) (attempt : AttemptEnd A) → AttemptExchanges spec batch.statements reply conn (held_id sent) told_link (besides_out link_now) sent held_now answer
              → EndsRead connection_retryability version address (number_before sent) answer attempt → MakesAttempt op past began came attempt
          read_attempt_made (Ok output) attempt exchanges ends =
              subst (λ a. MakesAttempt op past began came a) (sym ends) (record { address = address; conn = conn; reply = reply; behind = behind; sends = sends; reads = reads_on (Ok output) exchanges })
          read_attempt_made (Err spelled) (Failed attempt_failure) exchanges ends = (
            subst (λ phase. FailsIn op past began came attempt_failure.address phase attempt_failure.error) (sym ends.phase_is)
                (inr (subst (λ at. SpellsFailure op past began came at attempt_failure.error) (sym ends.address_is) (record {
                  conn = conn;
                  reply = reply;
                  behind = behind;
                  sends = sends;
                  bare = spelled;
                  reads = reads_on (Err spelled) exchanges;
                  is = ends.error;
                }))),
            ends.number_is ∙ sym (number_stays (Err spelled) exchanges),
          )
          read_attempt_made (Err spelled) (Ended error) exchanges memory = memory_attempt_made (Err spelled) exchanges error memory
          read_attempt_made (Err spelled) _ exchanges ends = absurd ends

        -- its exchange failed
        lost_attempt_made : (failure : LinkError) (attempt : AttemptEnd A) (number : Option ℤ) → number_before held_now ≡ number → Sends op past began came address conn (Err failure)
            → EndsLost connection_retryability version address number failure attempt → MakesAttempt op past began came attempt
        lost_attempt_made (Fault fault labels) (Failed attempt_failure) number number_is sends ends = (
          subst (λ phase. FailsIn op past began came attempt_failure.address phase attempt_failure.error) (sym ends.phase_is)
              (inl (subst (λ at. LosesExchange op past began came at attempt_failure.error) (sym ends.address_is) (record {
                conn = conn;
                fault = fault;
                labels = labels;
                sends = sends;
                is = ends.error;
              }))),
          ends.number_is ∙ sym number_is,
        )
        lost_attempt_made (Fault fault labels) (Ended error) number number_is sends memory =
            inr (inr (record { address = address; conn = conn; result = Err (Fault fault labels); behind = came; sends = sends; reads = refl; why = memory }))
        lost_attempt_made Memory (Ended error) number number_is sends memory =
            inr (inr (record { address = address; conn = conn; result = Err Memory; behind = came; sends = sends; reads = refl; why = memory }))
        lost_attempt_made (Fault fault labels) _ number number_is sends ends = absurd ends
        lost_attempt_made Memory _ number number_is sends ends = absurd ends

        -- the command went out, and this came of it
        module _ (numbered : ExecutionSession) (number : Option ℤ) (draws : DrawsNumber ready.sent connection_retryability ready numbered (Ok number)) (takes : spec.takes fixed conn.description batch.statements)
            (counted : count_now ≡ count + 1) (fixed_is : fixed_now ≡ Some batch.statements) where
          -- what is held as it goes out
          abbrev sent : ExecutionSession
          sent = record numbered { sent = Some number }

          sends_at : (told_link : LinkState) (told_held : ExecutionSession) (result : Result (List ℕ) LinkError)
              → Exchanges spec which batch (besides_out link) told_link conn (in_context (held_id numbered) number concern) result → told_held ≡ held_after result sent
              → Sends op past began (behind_at told_link told_held) address conn result
          sends_at told_link told_held result exchanges held_is = record {
            ready = attempt_state store_now link clock_now ready count fixed;
            readies = readied;
            allowed = allowed;
            goes = goes;
            numbered = numbered;
            number = number;
            draws = draws;
            takes = takes;
            exchanges = exchanges;
            store_is = refl;
            clock_is = refl;
            held_is = held_is;
            counted = counted;
            fixed_is = fixed_is;
          }

          came_attempt_made : (told_link : LinkState) (result : Result (List ℕ) LinkError) (attempt : AttemptEnd A)
              → Exchanges spec which batch (besides_out link) told_link conn (in_context (held_id numbered) number concern) result
              → Comes spec batch.statements told_link (besides_out link_now) connection_retryability conn address sent held_now result attempt → MakesAttempt op past began came attempt
          unfolding sends_at
          came_attempt_made told_link (Ok reply) attempt exchanges comes =
              read_attempt_made told_link sent reply (sends_at told_link sent (Ok reply) exchanges refl) comes.answer attempt comes.exchanges comes.ends
          came_attempt_made told_link (Err failure) attempt exchanges comes =
              let here = subst (λ l. Exchanges spec which batch (besides_out link) l conn (in_context (held_id numbered) number concern) (Err failure)) (sym comes.same) exchanges in
              let sends = sends_at (besides_out link_now) held_now (Err failure) here comes.held_is in
              lost_attempt_made failure attempt number (sent_number (Err failure) sends) sends comes.ends

        sending_attempt_made : (attempt : AttemptEnd A) → Sending spec which concern batch (is_some past) (besides_out link) (besides_out link_now) connection_retryability conn address ready held_now count count_now fixed fixed_now attempt → MakesAttempt op past began came attempt
        sending_attempt_made attempt sending = elim sending [
          | inl none ↦ subst (λ a. MakesAttempt op past began came a) (sym none.ends) (inr (inl (record {
            ready = attempt_state store_now link clock_now ready count fixed;
            address = address;
            conn = conn;
            readies = readied;
            link = none.link_is;
            store = refl;
            clock = refl;
            count = none.uncounted;
            refused = inr (inl (record { allowed = allowed; goes = goes; draws = none.draws; unfixed = none.unfixed }));
          })))
          | inr other ↦ elim other [
            | inl none ↦ subst (λ a. MakesAttempt op past began came a) (sym none.ends) (inr (inl (record {
              ready = attempt_state store_now link clock_now ready count fixed;
              address = address;
              conn = conn;
              readies = readied;
              link = none.link_is;
              store = refl;
              clock = refl;
              count = none.uncounted;
              refused = inr (inr (record { goes = goes; number = none.number; draws = none.draws; allowed = allowed; why = none.why }));
            })))
            | inr more ↦ elim more [
              | inl unfit ↦ subst (λ a. MakesAttempt op past began came a) (sym unfit.ends) (
                (and_parts (is_some past) (is_some ready.sent) unfit.again_is).0,
                record {
                  ready = attempt_state store_now link clock_now ready count fixed;
                  address = address;
                  conn = conn;
                  readies = readied;
                  link = unfit.link_is;
                  store = refl;
                  clock = refl;
                  count = unfit.uncounted;
                  fixed = unfit.unfixed;
                  allowed = allowed;
                  goes = goes;
                  number = unfit.number;
                  draws = unfit.draws;
                  again = unfit.again_is;
                  error = unfit.error;
                  refused = unfit.refused;
                },
              )
              | inr out ↦ came_attempt_made out.numbered out.number out.draws out.takes out.counted out.fixed_is out.exchanging.behind out.exchanging.result attempt out.exchanging.exchanges out.exchanging.comes
            ]
          ]
        ]

        -- the command of an attempt on its connection
        pub sent_attempt_made : (found : Retryability) (again : Bool) (attempt : AttemptEnd A) → found ≡ connection_retryability → again ≡ is_some past
            → Sending spec which concern batch again (besides_out link) (besides_out link_now) found conn address ready held_now count count_now fixed fixed_now attempt → MakesAttempt op past began came attempt
        sent_attempt_made found again attempt is again_is sending =
            sending_attempt_made attempt
            (subst (λ a. Sending spec which concern batch a (besides_out link) (besides_out link_now) connection_retryability conn address ready held_now count count_now fixed fixed_now attempt) again_is
            (subst (λ t. Sending spec which concern batch again (besides_out link) (besides_out link_now) t conn address ready held_now count count_now fixed fixed_now attempt) is sending))
