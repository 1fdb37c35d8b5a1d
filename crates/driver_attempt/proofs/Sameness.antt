-- An attempt of an operation that tells now what it told before is one of the operation as it was.
use Rattle.std.proofs.Common.{ℕ, List, subst, inl, inr}
use Rattle.std.specs.Prelude.{Option, Result, Ok, Err}
use Rattle.driver_error.specs.declared.error.Error.{Error}
use Rattle.driver_options.specs.declared.concerns.WriteConcern.{WriteConcern}
use Rattle.driver_options.specs.declared.options.Address.{Address}
use Rattle.driver_options.specs.declared.options.Conn.{Conn}
use Rattle.link_faults.specs.declared.fault.LinkError.{LinkError}
use Rattle.driver_link.specs.LinkState.{LinkState}
use Rattle.driver_session.specs.declared.retryability.Retryability.{Retryability}
use Rattle.driver_ops.specs.Fields.{SendContext}
use Rattle.driver_ops.specs.Operations.{Batch, OperationSpec, SameSpec}
use Rattle.driver_ops.specs.SendKinds.{SendKind}
use Rattle.driver_attempt.specs.declared.attempt_end.AttemptEnd.{AttemptEnd}
use Rattle.driver_attempt.specs.declared.attempt_end.AttemptEnd.TheVariants.{Done, Ended, Failed, Stopped, Unfit, Unselected}
use Rattle.retry_rules.specs.declared.failure.FailurePhase.{FailurePhase}
use Rattle.retry_rules.specs.declared.failure.FailurePhase.TheVariants.{ConnectionEstablishment, Execution}
use Rattle.driver_attempt.specs.AttemptExchanges.{Exchanges}
use Rattle.driver_attempt.specs.Attempting.{EndsAtOnce, FailsIn, MayReadOn, Readies, ReadsOn, AttemptState, Sends, AttemptedOperation, MakesAttempt, asks_session, attempted_operation}
use Rattle.driver_attempt.specs.Holding.{held_id, needs_session}
use Rattle.driver_attempt.specs.inside.Holding.{HoldsAt}
use Rattle.retry_rules.specs.Retry.{RetryState}
use Rattle.driver_attempt.proofs.OneAttempt.{behind_same, framed_same, lacks_same, may_fix_same, refuses_same}

module _ {A : Type 0} (old now : OperationSpec A) (same : SameSpec old now) (batch : Batch) (which : SendKind) (retryability : Retryability) (concern : Option WriteConcern) where
  abbrev told : AttemptedOperation A
  told = attempted_operation now batch which retryability concern

  abbrev was : AttemptedOperation A
  was = attempted_operation old batch which retryability concern

  readies_same : {past : Option RetryState} (before after : AttemptState) (address : Address) (conn : Conn) → Readies told past before after address conn → Readies was past before after address conn
  readies_same before after address conn readies =
      let holds = subst (λ sessions. HoldsAt (needs_session (asks_session sessions conn.description) before.held) before.store after.store before.clock after.clock before.held after.held (Ok tt))
      same.sessions (record { holds = readies.holds; lent_at = readies.lent_at }) in
      record { connects = readies.connects; holds = holds.holds; lent_at = holds.lent_at; count = readies.count; fixed = readies.fixed }

  exchanges_same : (link link_now : LinkState) (conn : Conn) (context : SendContext) (result : Result (List ℕ) LinkError)
      → Exchanges now which batch link link_now conn context result → Exchanges old which batch link link_now conn context result
  exchanges_same link link_now conn context result exchanges = record {
    frame = exchanges.frame;
    framed = framed_same old now same which batch.statements context exchanges.frame exchanges.framed;
    reads = λ body asked. exchanges.reads body ((same.bodies batch.statements batch.places body).0 asked);
    exchanges = exchanges.exchanges;
  }

  sends_same : (past : Option RetryState) (before after : AttemptState) (address : Address) (conn : Conn) (result : Result (List ℕ) LinkError) → Sends told past before after address conn result
      → Sends was past before after address conn result
  sends_same past before after address conn result sends = record {
    ready = sends.ready;
    readies = readies_same before sends.ready address conn sends.readies;
    allowed = sends.allowed;
    goes = sends.goes;
    numbered = sends.numbered;
    number = sends.number;
    draws = sends.draws;
    takes = (same.takes sends.ready.fixed conn.description batch.statements).1 sends.takes;
    exchanges = exchanges_same _ _ _ _ result sends.exchanges;
    store_is = sends.store_is;
    clock_is = sends.clock_is;
    held_is = sends.held_is;
    counted = sends.counted;
    fixed_is = sends.fixed_is;
  }

  -- what was read behind the exchange
  reads_same : (conn : Conn) (reply : List ℕ) (behind after : AttemptState) (answer : Result A Error) → ReadsOn told conn reply behind after answer → ReadsOn was conn reply behind after answer
  reads_same conn reply behind after answer reads = record {
    exchanges = behind_same old now same batch.statements reply conn (held_id behind.held) behind.link after.link behind.held after.held answer reads.exchanges;
    store = reads.store;
    clock = reads.clock;
    count = reads.count;
    fixed = reads.fixed;
  }

  may_read_same : (conn : Conn) (result : Result (List ℕ) LinkError) (behind after : AttemptState) → MayReadOn told conn result behind after → MayReadOn was conn result behind after
  may_read_same conn (Err failure) behind after reads = reads
  may_read_same conn (Ok reply) behind after reads = record { answer = reads.answer; reads = reads_same conn reply behind after reads.answer reads.reads }

  fails_same : (past : Option RetryState) (before after : AttemptState) (address : Address) (phase : FailurePhase) (error : Error) → FailsIn told past before after address phase error
      → FailsIn was past before after address phase error
  fails_same past before after address ConnectionEstablishment error fails = record {
    mid = fails.mid;
    selects = fails.selects;
    fault = fails.fault;
    labels = fails.labels;
    checks_out = fails.checks_out;
    is = fails.is;
    rest = fails.rest;
  }
  fails_same past before after address Execution error fails = elim fails [
    | inl lost ↦ inl (record {
      conn = lost.conn;
      fault = lost.fault;
      labels = lost.labels;
      sends = sends_same past before after address lost.conn _ lost.sends;
      is = lost.is;
    })
    | inr spelled ↦ inr (record {
      conn = spelled.conn;
      reply = spelled.reply;
      behind = spelled.behind;
      sends = sends_same past before spelled.behind address spelled.conn _ spelled.sends;
      bare = spelled.bare;
      reads = reads_same spelled.conn spelled.reply spelled.behind after (Err spelled.bare) spelled.reads;
      is = spelled.is;
    })
  ]

  ends_same : (past : Option RetryState) (before after : AttemptState) (error : Error) → EndsAtOnce told past before after error → EndsAtOnce was past before after error
  ends_same past before after error ends = elim ends [
    | inl unready ↦ inl unready
    | inr other ↦ elim other [
      | inl refused ↦ inr (inl (record {
        ready = refused.ready;
        address = refused.address;
        conn = refused.conn;
        readies = readies_same before refused.ready refused.address refused.conn refused.readies;
        link = refused.link;
        store = refused.store;
        clock = refused.clock;
        count = refused.count;
        refused = elim refused.refused [
          | inl none ↦ inl none
          | inr later ↦ elim later [
            | inl none ↦ inr (inl none)
            | inr none ↦ inr (inr (record {
              goes = none.goes;
              number = none.number;
              draws = none.draws;
              allowed = none.allowed;
              why = elim none.why [
                | inl early ↦ inl (early.0, refuses_same old now same refused.ready.fixed refused.conn.description error early.1, early.2)
                | inr late ↦ inr (elim late [
                  | inl lacks ↦ inl (lacks_same old now same _ refused.conn.description refused.ready.fixed after.fixed error lacks)
                  | inr memory ↦ inr (memory.0, may_fix_same old now same refused.conn.description refused.ready.fixed after.fixed memory.1)
                ])
              ];
            }))
          ]
        ];
      }))
      | inr sent ↦ inr (inr (record {
        address = sent.address;
        conn = sent.conn;
        result = sent.result;
        behind = sent.behind;
        sends = sends_same past before sent.behind sent.address sent.conn sent.result sent.sends;
        reads = may_read_same sent.conn sent.result sent.behind after sent.reads;
        why = sent.why;
      }))
    ]
  ]

  pub attempt_same : (past : Option RetryState) (before after : AttemptState) (attempt : AttemptEnd A) → MakesAttempt told past before after attempt → MakesAttempt was past before after attempt
  attempt_same past before after (Done output) makes = record {
    address = makes.address;
    conn = makes.conn;
    reply = makes.reply;
    behind = makes.behind;
    sends = sends_same past before makes.behind makes.address makes.conn (Ok makes.reply) makes.sends;
    reads = reads_same makes.conn makes.reply makes.behind after (Ok output) makes.reads;
  }
  attempt_same past before after (Failed failure) makes = (fails_same past before after failure.address failure.phase failure.error makes.0, makes.1)
  attempt_same past before after (Unselected error) makes = makes
  attempt_same past before after Stopped makes = (
    makes.0,
    record {
      address = makes.1.address;
      conn = makes.1.conn;
      readies = readies_same before after makes.1.address makes.1.conn makes.1.readies;
      allowed = makes.1.allowed;
      nothing = makes.1.nothing;
    },
  )
  attempt_same past before after Unfit makes = (
    makes.0,
    record {
      ready = makes.1.ready;
      address = makes.1.address;
      conn = makes.1.conn;
      readies = readies_same before makes.1.ready makes.1.address makes.1.conn makes.1.readies;
      link = makes.1.link;
      store = makes.1.store;
      clock = makes.1.clock;
      count = makes.1.count;
      fixed = makes.1.fixed;
      allowed = makes.1.allowed;
      goes = makes.1.goes;
      number = makes.1.number;
      draws = makes.1.draws;
      again = makes.1.again;
      error = makes.1.error;
      refused = refuses_same old now same makes.1.ready.fixed makes.1.conn.description makes.1.error makes.1.refused;
    },
  )
  attempt_same past before after (Ended error) makes = ends_same past before after error makes
