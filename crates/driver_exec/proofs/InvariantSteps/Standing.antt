-- What an operation does to what stands between operations, read off what it leaves; the entries of one that was done, and of one
-- whose failure a reply spells.
use Rattle.std.proofs.Common.{◌≡◌, ℕ, ◌+◌, List, [], ◌∷◌, refl, sym, ap, subst, inl, inr, arith}
use Rattle.std.specs.Prelude.{ℤ, false, Option, None, Some, Result, Ok, Err}
use Rattle.bson_lite.specs.declared.bson.Bson.{Bson}
use Rattle.bson_lite.specs.declared.document.Pair.{Pair}
use Rattle.bson_lite.specs.Spelling.{Spells}
use Rattle.driver_error.specs.declared.error.Error.{Error}
use Rattle.driver_error.specs.Error.{kind_of, source_of}
use Rattle.driver_link.specs.declared.machine.Entry.{Entry}
use Rattle.driver_link.specs.declared.machine.Scheduled.{Scheduled}
use Rattle.driver_link.specs.declared.machine.Send.{Send}
use Rattle.driver_link.specs.declared.machine.SendBody.{SendBody}
use Rattle.driver_link.specs.Cursors.{Reply}
use Rattle.driver_link.specs.Exchange.{next_step}
use Rattle.driver_link.specs.LinkState.{server_run}
use Rattle.driver_link.specs.Settled.{Has, IsWrite}
use Rattle.driver_link.specs.ServerRun.{IsReply, ServerRun, run_after, run_answer}
use Rattle.driver_session.specs.Pool.{Pool}
use Rattle.driver_ops.specs.Fields.{under}
use Rattle.driver_ops.specs.declared.operation.Reading.TheVariants.{Done}
use Rattle.driver_ops.specs.OperationLaw.{FurtherPages, IsLawful, TellsOutput, as_pages}
use Rattle.driver_ops.specs.Operations.{AsksFor, Batch, OperationSpec, Page, ReadsPages, ReadsPagesOutput, send_of}
use Rattle.driver_ops.proofs.Entries.{entries_are, entries_stand, told_entries_stand}
use Rattle.write_ops.proofs.FailureReading.{failure_told}
use Rattle.driver_attempt.specs.Moment.{Moment}
use Rattle.driver_exec.specs.Keeping.{AreWritten, HasEntries, KeepsInvariant, KeepsWhereTold, OkHasEntries}
use Rattle.driver_exec.specs.Reporting.{ErrIsReported, IsReported, IsToldBy}
use Rattle.driver_exec.specs.Resending.{AmongAnswers, AnsweredAmong, AnsweredLast, IsReadFailure, LastAnswer, SendsOneCommand}
use Rattle.driver_exec.proofs.InvariantSteps.CamePages.{pages_came}
use Rattle.driver_exec.proofs.InvariantSteps.Leaving.{MayGo, further, left_of, may_go}
use Rattle.driver_exec.proofs.PassesBy.{gives_leave, keeps_refl, passes_none}
use Rattle.driver_exec.proofs.ReadFailures.{read_when_done}

-- of two numbers that are none together each is none
none_first : (earlier later : ℕ) → earlier + later ≡ 0 → earlier ≡ 0
none_first earlier later none = omega (arith, none)

none_second : (earlier later : ℕ) → earlier + later ≡ 0 → later ≡ 0
none_second earlier later none = omega (arith, none)

module _ {A : Type 0} (spec : OperationSpec A) (batch : Batch) (before now : Moment) (body : SendBody) (asked : AsksFor spec batch body) where
  -- an operation keeps what stands
  pub one_command_keeps : (result : Result A Error) → SendsOneCommand spec batch before now result → KeepsInvariant spec.paged before now body
  one_command_keeps result sends = of_told before.store.pool now.store.pool (server_run before.link) (server_run now.link) refl refl refl refl
    where
      of_told : (pool pool_now : Option Pool) (run run_now : Option ServerRun) → before.store.pool ≡ pool → now.store.pool ≡ pool_now → server_run before.link ≡ run
          → server_run now.link ≡ run_now → KeepsWhereTold spec.paged pool pool_now run run_now body
      of_told (Some pool) (Some pool_now) (Some run) (Some run_now) is now_is run_is run_now_is = λ stands.
          let sent = sends.sends body asked in
          let left = left_of spec.paged before now pool pool_now run run_now is now_is run_is run_now_is body stands sends.session sends.number sent.count sends.borrows sent.once sent.sends in
          record {
            between = left.between;
            sound = left.sound;
            which = λ send has. elim (left.which send has) [
              | inl earlier ↦ inl earlier
              | inr later ↦ inr (elim later [ inl same ↦ inl (ap (λ s. s.body) (sym same)) | inr aside ↦ inr aside ])
            ];
          }
      of_told None pool_now run run_now is now_is run_is run_now_is = tt
      of_told (Some pool) None run run_now is now_is run_is run_now_is = tt
      of_told (Some pool) (Some pool_now) None run_now is now_is run_is run_now_is = tt
      of_told (Some pool) (Some pool_now) (Some run) None is now_is run_is run_now_is = tt

  -- a failure that is read in the reply to one of the sends is told, and the entries of what did not fail stand
  one_failure : IsWrite body → (session : Option (List ℕ)) (number : Option ℤ) (run run_now : ServerRun) (earlier later : ℕ) (bytes : List ℕ) (pages : List Page) (alone : spec.paged ≡ false → pages ≡ []) (bare error : Error)
      → (among : AmongAnswers spec batch.statements run run_now (send_of (under session number) body) earlier later bytes pages) → MayGo (send_of (under session number) body) among.mid.server
      → ((entry : Entry) → Has (run_after among.mid (send_of (under session number) body)).server.log entry → Has run_now.server.log entry)
      → ReadsPages spec batch.statements bytes pages (Err bare) → kind_of error ≡ kind_of bare → source_of error ≡ source_of bare → IsReadFailure (kind_of error)
      → IsToldBy spec batch.statements body run run_now error
  one_failure writes session number run run_now earlier later bytes pages alone bare error among may keeps reads same same_source failure = of_answer (run_answer among.mid (send_of (under session number) body)) refl among.reply
    where
      of_answer : (answer : Option (List (Pair Bson))) → run_answer among.mid (send_of (under session number) body) ≡ answer → IsReply answer bytes
          → IsToldBy spec batch.statements body run run_now error
      of_answer None is given = absurd given
      of_answer (Some reply) is given =
          let send = send_of (under session number) body in
          let step = next_step among.mid.schedule among.mid.server in
          let read = read_when_done spec batch.statements bytes pages bare reads (subst IsReadFailure same failure) in
          let tells = failure_told spec batch.statements body (under session number) among.mid.server step reply bytes pages bare writes is given read in
          record {
            context = under session number;
            earlier = earlier;
            later = later;
            bytes = bytes;
            pages = pages;
            alone = alone;
            among = among;
            reply = reply;
            answer = is;
            spelled = given;
            bare = bare;
            reads = reads;
            same_kind = same;
            same_source = same_source;
            done = tells.done;
            told = tells.told;
            stand = λ entry has. keeps entry
                (told_entries_stand among.mid.server.trace among.mid.server send step tells.done may.either may.joins may.settled tells.told entry has);
          }

  -- so it is of each told pool and server
  err_failures : (error : Error) → SendsOneCommand spec batch before now (Err error) → ErrIsReported spec batch body before now (Err error)
  err_failures error sends = of_told before.store.pool now.store.pool (server_run before.link) (server_run now.link) refl refl refl refl
    where
      among_told : (link link_now : Option ServerRun) (run run_now : ServerRun) (earlier later : ℕ) (bytes : List ℕ) (pages : List Page) → link ≡ Some run → link_now ≡ Some run_now
          → AnsweredAmong spec batch.statements link link_now (send_of (under sends.session sends.number) body) earlier later bytes pages
          → AmongAnswers spec batch.statements run run_now (send_of (under sends.session sends.number) body) earlier later bytes pages
      among_told link link_now run run_now earlier later bytes pages is now_is answered =
          subst (λ n. AnsweredAmong spec batch.statements (Some run) n (send_of (under sends.session sends.number) body) earlier later bytes pages) now_is
          (subst (λ o. AnsweredAmong spec batch.statements o link_now (send_of (under sends.session sends.number) body) earlier later bytes pages) is answered)

      of_told : (pool pool_now : Option Pool) (run run_now : Option ServerRun) → before.store.pool ≡ pool → now.store.pool ≡ pool_now → server_run before.link ≡ run
          → server_run now.link ≡ run_now → IsReported spec batch.statements body error pool pool_now run run_now
      of_told (Some pool) (Some pool_now) (Some run) (Some run_now) is now_is run_is run_now_is = λ stands failure.
          let one = sends.ends failure in
          let among = among_told (server_run before.link) (server_run now.link) run run_now one.earlier one.later one.bytes one.pages run_is run_now_is (one.answered body asked) in
          let may = may_go spec.paged before now pool pool_now run run_now is now_is run_is run_now_is body stands sends.session sends.number one.earlier among.mid sends.borrows
          (λ none. none_first one.earlier one.later (one.once none)) among.sent in
          let leaves = gives_leave spec batch.statements one.bytes sends.session (run_after among.mid (send_of (under sends.session sends.number) body)) among.behind one.pages among.gives in
          one_failure stands.may_send.writes sends.session sends.number run run_now one.earlier one.later one.bytes one.pages one.alone one.bare error among may
          (further spec.paged before now pool pool_now run run_now is now_is run_is run_now_is body stands sends.session sends.number one.earlier one.later among.mid sends.borrows
          (λ none. none_first one.earlier one.later (one.once none)) (λ none. none_second one.earlier one.later (one.once none)) among.sent among.behind leaves among.rest)
          one.reads one.same_kind one.same_source failure
      of_told None pool_now run run_now is now_is run_is run_now_is = tt
      of_told (Some pool) None run run_now is now_is run_is run_now_is = tt
      of_told (Some pool) (Some pool_now) None run_now is now_is run_is run_now_is = tt
      of_told (Some pool) (Some pool_now) (Some run) None is now_is run_is run_now_is = tt

  -- and of each end
  pub one_command_failures : (result : Result A Error) → SendsOneCommand spec batch before now result → ErrIsReported spec batch body before now result
  one_command_failures (Ok output) sends = tt
  one_command_failures (Err error) sends = err_failures error sends

  module _ (lawful : IsLawful spec) where
    -- the output that is read in the last reply and the pages behind it is told by entries that stand
    module _ (writes : IsWrite body) (session : Option (List ℕ)) (number : Option ℤ) (run run_now : ServerRun) (earlier : ℕ) (bytes : List ℕ) (pages : List Page) (output : A)
        (last : LastAnswer spec batch.statements run run_now (send_of (under session number) body) earlier bytes pages) (reads : ReadsPagesOutput spec batch.statements bytes pages output) where
      abbrev last_send : Send
      last_send = send_of (under session number) body

      abbrev last_step : Scheduled
      last_step = next_step last.mid.schedule last.mid.server

      -- by the machine's own reply and its own pages
      module _ (reply : Reply) (is : run_answer last.mid last_send ≡ Some reply) (spelled : Spells reply bytes) where
        by_replies : (replies : List Reply) → pages ≡ as_pages replies → FurtherPages spec batch.statements reply (run_after last.mid last_send).server replies run_now.server
            → TellsOutput spec last.mid.server last_send last_step output
        by_replies [] are further =
            lawful.reads_own batch.statements batch.places body asked writes (under session number) last.mid.server last_step reply is bytes spelled output
            (subst (λ p. ReadsPagesOutput spec batch.statements bytes p output) are reads)
        by_replies (page ∷ replies) are further =
            lawful.reads_further batch.statements batch.places body asked writes (under session number) last.mid.server last_step reply is bytes spelled page replies run_now.server further output
            (subst (λ p. ReadsPagesOutput spec batch.statements bytes p output) are reads)

        last_tells : TellsOutput spec last.mid.server last_send last_step output
        last_tells =
            let came = pages_came spec lawful batch.statements session bytes reply spelled (run_after last.mid last_send) pages run_now last.gives (Ok reads.response.body ∷ []) (Done output) reads.reads in
            by_replies came.replies came.are came.further

      last_entries : MayGo last_send last.mid.server → ((entry : Entry) → Has (run_after last.mid last_send).server.log entry → Has run_now.server.log entry) → HasEntries spec body run_now.server.log output
      last_entries may keeps = of_answer (run_answer last.mid last_send) refl last.reply
        where
          of_answer : (answer : Option (List (Pair Bson))) → run_answer last.mid last_send ≡ answer → IsReply answer bytes → HasEntries spec body run_now.server.log output
          of_answer None is given = absurd given
          of_answer (Some reply) is given =
              let tells = last_tells reply is given in
              record {
                session = session;
                number = number;
                entries = tells.entries;
                are = entries_are last.mid.server last_send last_step tells.entries tells.stand;
                stand = λ entry has. keeps entry
                    (entries_stand last.mid.server.trace last.mid.server last_send last_step tells.entries may.either may.joins may.settled tells.stand entry has);
                told = tells.told;
              }

    -- so it is of each told pool and server
    ok_entries : (output : A) → SendsOneCommand spec batch before now (Ok output) → OkHasEntries spec body before now (Ok output)
    ok_entries output sends = of_told before.store.pool now.store.pool (server_run before.link) (server_run now.link) refl refl refl refl
      where
        answered_told : (link link_now : Option ServerRun) (run run_now : ServerRun) → link ≡ Some run → link_now ≡ Some run_now
            → AnsweredLast spec batch.statements link link_now (send_of (under sends.session sends.number) body) sends.ends.earlier sends.ends.bytes sends.ends.pages
            → LastAnswer spec batch.statements run run_now (send_of (under sends.session sends.number) body) sends.ends.earlier sends.ends.bytes sends.ends.pages
        answered_told link link_now run run_now is now_is answered =
            subst (λ n. AnsweredLast spec batch.statements (Some run) n (send_of (under sends.session sends.number) body) sends.ends.earlier sends.ends.bytes sends.ends.pages) now_is
            (subst (λ o. AnsweredLast spec batch.statements o link_now (send_of (under sends.session sends.number) body) sends.ends.earlier sends.ends.bytes sends.ends.pages) is answered)

        of_told : (pool pool_now : Option Pool) (run run_now : Option ServerRun) → before.store.pool ≡ pool → now.store.pool ≡ pool_now → server_run before.link ≡ run
            → server_run now.link ≡ run_now → AreWritten spec body output pool pool_now run run_now
        of_told (Some pool) (Some pool_now) (Some run) (Some run_now) is now_is run_is run_now_is = λ stands.
            let ends = sends.ends in
            let last = answered_told (server_run before.link) (server_run now.link) run run_now run_is run_now_is (ends.answered body asked) in
            let leaves = gives_leave spec batch.statements ends.bytes sends.session (run_after last.mid (send_of (under sends.session sends.number) body)) run_now ends.pages last.gives in
            last_entries stands.may_send.writes sends.session sends.number run run_now ends.earlier ends.bytes ends.pages output last ends.reads
            (may_go spec.paged before now pool pool_now run run_now is now_is run_is run_now_is body stands sends.session sends.number ends.earlier last.mid sends.borrows ends.once last.sent)
            (further spec.paged before now pool pool_now run run_now is now_is run_is run_now_is body stands sends.session sends.number ends.earlier 0 last.mid sends.borrows ends.once (λ none. refl) last.sent
            run_now leaves (passes_none spec.paged run_now run_now (keeps_refl run_now)))
        of_told None pool_now run run_now is now_is run_is run_now_is = tt
        of_told (Some pool) None run run_now is now_is run_is run_now_is = tt
        of_told (Some pool) (Some pool_now) None run_now is now_is run_is run_now_is = tt
        of_told (Some pool) (Some pool_now) (Some run) None is now_is run_is run_now_is = tt

    -- and of each end
    pub one_command_entries : (result : Result A Error) → SendsOneCommand spec batch before now result → OkHasEntries spec body before now result
    one_command_entries (Ok output) sends = ok_entries output sends
    one_command_entries (Err error) sends = tt
