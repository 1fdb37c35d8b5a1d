-- The pages behind a reply whose answer is an output are the model server's own; behind one that ended with an error those are that came.
use Rattle.std.proofs.Common.{◌≡◌, ℕ, List, [], ◌∷◌, ◌++◌, refl, sym, ap, subst, ◌∙◌}
use Rattle.std.specs.Prelude.{ℤ, Option, None, Some, Ok, Err}
use Rattle.bson_lite.specs.declared.namespace.Namespace.{Namespace}
use Rattle.bson_lite.specs.Spelling.{Spells}
use Rattle.driver_error.specs.declared.error.Error.{Error}
use Rattle.driver_link.specs.declared.machine.Schedule.{Schedule}
use Rattle.driver_link.specs.declared.machine.Server.{Server}
use Rattle.driver_link.specs.Cursors.{Reply}
use Rattle.driver_link.specs.Exchange.{answered, exchanged, next_step}
use Rattle.driver_link.specs.ServerRun.{IsReply, ServerRun, run_after, run_answer}
use Rattle.driver_ops.specs.declared.operation.Reading.{Reading}
use Rattle.driver_ops.specs.declared.operation.Reading.TheVariants.{Page as Further}
use Rattle.driver_ops.specs.Fields.{under}
use Rattle.driver_ops.specs.OperationLaw.{FurtherPages, IsLawful, as_pages}
use Rattle.driver_ops.specs.Operations.{LeavesCursor, OperationSpec, Page}
use Rattle.driver_ops.specs.lawful.InsertRead.{spells_one}
use Rattle.driver_exec.specs.Resending.{AnswersQuestion, GivesPages, more_send}

module _ {A : Type 0} (spec : OperationSpec A) (lawful : IsLawful spec) (statements : ℕ) (session : Option (List ℕ)) (bytes : List ℕ) (reply : Reply) (spelled : Spells reply bytes) (told : ServerRun) where
  -- they are those of the machine, one after another
  pub record Came (pages : List Page) (now : ServerRun) : Type 0 where
    pub replies : List Reply
    pub are : pages ≡ as_pages replies
    pub further : FurtherPages spec statements reply told.server replies now.server

  -- a page that answers a question is the machine's
  is_own : (cursor : ℤ) (before now : ServerRun) (page : Reply) → AnswersQuestion session cursor before now (Ok page)
      → (answered before.server (more_send session cursor) (next_step before.schedule before.server) ≡ Some page)
      × (now.server ≡ exchanged before.server (more_send session cursor) (next_step before.schedule before.server))
  is_own cursor before now page answers = (same_run (λ server schedule. answered server (more_send session cursor) (next_step schedule server) ≡ Some page) (of_answer (run_answer answers.mid (more_send session cursor)) refl answers.reply), now_is)
    where
      same_run : (P : Server → Schedule → Type 0) → P answers.mid.server answers.mid.schedule → P before.server before.schedule
      same_run P p = subst (λ server. P server before.schedule) answers.before.server (subst (P answers.mid.server) answers.before.schedule p)

      of_answer : (answer : Option Reply) → run_answer answers.mid (more_send session cursor) ≡ answer → IsReply answer answers.bytes → run_answer answers.mid (more_send session cursor) ≡ Some page
      of_answer None is given = absurd given
      of_answer (Some found) is given =
          let came = answers.came in
          is ∙ ap (λ r. Some r) (spells_one found came.0.body answers.bytes given came.1.0.spelled ∙ sym came.1.1)

      now_is : now.server ≡ exchanged before.server (more_send session cursor) (next_step before.schedule before.server)
      now_is = answers.rest.server ∙ same_run (λ server schedule. (run_after answers.mid (more_send session cursor)).server ≡ exchanged server (more_send session cursor) (next_step schedule server)) refl

  -- what the reply and the pages left open, of the reply as it is
  pub left_open : (pages : List Page) (replies : List Reply) (cursor : ℤ) (namespace : Namespace) → pages ≡ as_pages replies → LeavesCursor spec statements bytes pages cursor namespace
      → spec.reads statements (as_pages replies ++ Ok reply ∷ []) (Ok (Further cursor namespace))
  left_open pages replies cursor namespace are left =
      subst (λ p. spec.reads statements (p ++ Ok reply ∷ []) (Ok (Further cursor namespace))) are
      (subst (λ (r : Reply). spec.reads statements (pages ++ Ok r ∷ []) (Ok (Further cursor namespace))) (spells_one left.response.body reply bytes left.done.spelled spelled) left.reads)

  -- with one page more that came
  came_more : (page : Reply) (pages : List Page) (now : ServerRun) (gives : GivesPages spec statements session bytes told now (Ok page ∷ pages)) → Came pages gives.0 → Came (Ok page ∷ pages) now
  came_more page pages now gives earlier =
      let given = gives.1.1 in
      let before = gives.0 in
      let own = is_own given.cursor before now page given.answers in record {
        replies = page ∷ earlier.replies;
        are = ap (λ rest. Ok page ∷ rest) earlier.are;
        further = (
          before.server,
          (
            earlier.further,
            record {
              cursor = given.cursor;
              namespace = given.namespace;
              left = left_open pages earlier.replies given.cursor given.namespace earlier.are given.left;
              context = under session None;
              step = next_step before.schedule before.server;
              came = own.0;
              after = own.1;
            },
          ),
        );
      }

  pub pages_came : (pages : List Page) (now : ServerRun) → GivesPages spec statements session bytes told now pages
      → (behind : List Page) (reading : Reading A) → spec.reads statements (pages ++ behind) (Ok reading) → Came pages now
  pages_came [] now keeps behind reading reads = record { replies = []; are = refl; further = keeps.server }
  pages_came (Err failure ∷ pages) now gives behind reading reads = absurd (lawful.failed statements failure (pages ++ behind) reading reads)
  pages_came (Ok page ∷ pages) now gives behind reading reads =
      let left = gives.1.1.left in
      came_more page pages now gives (pages_came pages gives.0 gives.1.0 (Ok left.response.body ∷ []) (Further gives.1.1.cursor gives.1.1.namespace) left.reads)

  -- those before a page that came or failed
  before_came : (page : Page) (pages : List Page) (now : ServerRun) (gives : GivesPages spec statements session bytes told now (page ∷ pages)) → Came pages gives.0
  before_came page pages now gives =
      let left = gives.1.1.left in
      pages_came pages gives.0 gives.1.0 (Ok left.response.body ∷ []) (Further gives.1.1.cursor gives.1.1.namespace) left.reads

  -- so where the newest page came all are the machine's
  pub newest_came : (page : Reply) (pages : List Page) (now : ServerRun) → GivesPages spec statements session bytes told now (Ok page ∷ pages) → Came (Ok page ∷ pages) now
  newest_came page pages now gives = came_more page pages now gives (before_came (Ok page) pages now gives)

  -- and where it failed those before it are, which left their cursor open
  pub record CameOpen (pages : List Page) : Type 0 where
    pub mid : ServerRun
    pub came : Came pages mid
    pub cursor : ℤ
    pub namespace : Namespace
    pub left : spec.reads statements (as_pages came.replies ++ Ok reply ∷ []) (Ok (Further cursor namespace))

  pub behind_failed : (failure : Error) (pages : List Page) (now : ServerRun) → GivesPages spec statements session bytes told now (Err failure ∷ pages) → CameOpen pages
  behind_failed failure pages now gives =
      let given = gives.1.1 in
      let earlier = before_came (Err failure) pages now gives in record {
        mid = gives.0;
        came = earlier;
        cursor = given.cursor;
        namespace = given.namespace;
        left = left_open pages earlier.replies given.cursor given.namespace earlier.are given.left;
      }
