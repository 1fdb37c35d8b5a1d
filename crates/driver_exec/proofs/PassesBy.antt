-- What goes out behind the command of an attempt: calls that are only counted, and commands of cursors.
use Rattle.std.proofs.Common.{◌≡◌, ℕ, List, [], ◌∷◌, ◌++◌, refl, sym, subst, ◌∙◌, inl, inr}
use Rattle.std.specs.Prelude.{ℤ, Bool, true, false, Option, None, Some, Result, Ok, Err}
use Rattle.bson_lite.specs.declared.bson.Bson.{Bson}
use Rattle.bson_lite.specs.declared.document.Pair.{Pair}
use Rattle.bson_lite.specs.declared.namespace.Namespace.{Namespace}
use Rattle.driver_error.specs.declared.error.Error.{Error}
use Rattle.driver_options.specs.declared.options.Conn.{Conn}
use Rattle.link_faults.specs.declared.fault.LinkError.{LinkError}
use Rattle.link_faults.specs.declared.fault.LinkError.TheVariants.{Fault, Memory}
use Rattle.driver_link.specs.declared.machine.Send.{Send}
use Rattle.driver_link.specs.declared.machine.SendBody.TheVariants.{Kill, More}
use Rattle.driver_link.specs.Counting.{KeepsServer, OnlyCounts}
use Rattle.driver_link.specs.LinkState.{LinkState, server_run}
use Rattle.driver_link.specs.ServerRun.{ServerRun, TakesStep, run_after}
use Rattle.driver_link.specs.Settled.{IsAside}
use Rattle.driver_ops.specs.Fields.{under}
use Rattle.driver_ops.specs.OperationLaw.{NeverOpen}
use Rattle.driver_ops.specs.Operations.{LeavesCursor, OperationSpec, Page, ReadsPages, ReadsPagesOutput, send_of}
use Rattle.driver_attempt.specs.AttemptExchanges.{AsksPage, AsksPages, AttemptExchanges, EndsCursor, EndsCursorWhere, EndsPages, PageAsked, PageCame, ends_cursor, pages_of}
use Rattle.driver_attempt.specs.Holding.{ExecutionSession}
use Rattle.driver_exec.specs.Resending.{AnswersPage, GivesPages, LeavesAside, PassesAside, PassesBy, more_send}

pub keeps_server_twice : (a b c : ServerRun) → KeepsServer a b → KeepsServer b c → KeepsServer a c
keeps_server_twice a b c first second =
    record { server = second.server ∙ first.server; setup = second.setup ∙ first.setup; schedule = second.schedule ∙ first.schedule }

pub keeps_refl : (told : ServerRun) → KeepsServer told told
keeps_refl told = record { server = refl; setup = refl; schedule = refl }

-- commands of cursors before and behind others
counted_before : (told mid now : ServerRun) (sends : List Send) → KeepsServer told mid → PassesAside mid now sends → PassesAside told now sends
counted_before told mid now [] keeps passes = keeps_server_twice told mid now keeps passes
counted_before told mid now (send ∷ sends) keeps passes = (passes.0, (keeps_server_twice told mid passes.0 keeps passes.1.0, passes.1.1, passes.1.2))

aside_twice : (told mid now : ServerRun) (first second : List Send) → PassesAside told mid first → PassesAside mid now second → PassesAside told now (first ++ second)
aside_twice told mid now [] second keeps more = counted_before told mid now second keeps more
aside_twice told mid now (send ∷ sends) second passes more =
    (passes.0, (passes.1.0, passes.1.1, aside_twice (run_after passes.0 send) mid now sends second passes.1.2 more))

leaves_none : (told now : ServerRun) → KeepsServer told now → LeavesAside told now
leaves_none told now keeps = record { sends = []; passes = keeps }

leaves_one : (told : ServerRun) (send : Send) → IsAside send → LeavesAside told (run_after told send)
leaves_one told send aside = record { sends = send ∷ []; passes = (told, (keeps_refl told, aside, keeps_refl (run_after told send))) }

leaves_twice : (told mid now : ServerRun) → LeavesAside told mid → LeavesAside mid now → LeavesAside told now
leaves_twice told mid now first second =
    record { sends = first.sends ++ second.sends; passes = aside_twice told mid now first.sends second.sends first.passes second.passes }

-- what may go out beside the sends
pub passes_none : (paged : Bool) (told now : ServerRun) → KeepsServer told now → PassesBy paged told now
passes_none true told now keeps = leaves_none told now keeps
passes_none false told now keeps = keeps

pub passes_twice : (paged : Bool) (told mid now : ServerRun) → PassesBy paged told mid → PassesBy paged mid now → PassesBy paged told now
passes_twice true told mid now first second = leaves_twice told mid now first second
passes_twice false told mid now first second = keeps_server_twice told mid now first second

-- the same for a link that may tell its server
abbrev pub PassesLink : Bool → Option ServerRun → Option ServerRun → Type 0
PassesLink paged None now = now ≡ None
PassesLink paged (Some told) None = ⊥
PassesLink paged (Some told) (Some now) = PassesBy paged told now

pub link_counted : (paged : Bool) (link now : Option ServerRun) → OnlyCounts link now → PassesLink paged link now
link_counted paged None now counts = counts
link_counted paged (Some told) None counts = absurd counts
link_counted paged (Some told) (Some now) counts = passes_none paged told now counts

pub link_stays : (paged : Bool) (link : Option ServerRun) → PassesLink paged link link
link_stays paged None = refl
link_stays paged (Some told) = passes_none paged told told (keeps_refl told)

pub link_twice : (paged : Bool) (link mid now : Option ServerRun) → PassesLink paged link mid → PassesLink paged mid now → PassesLink paged link now
link_twice paged None mid now first second = subst (λ m. PassesLink paged m now) first second
link_twice paged (Some told) None now first second = absurd first
link_twice paged (Some told) (Some mid) None first second = absurd second
link_twice paged (Some told) (Some mid) (Some now) first second = passes_twice paged told mid now first second

-- an exchange of a command of a cursor
link_aside : (link now : Option ServerRun) (send : Send) (result : Result (List ℕ) LinkError) → IsAside send → TakesStep link now send result → PassesLink true link now
link_aside None now send result aside steps = steps
link_aside (Some told) now send (Ok bytes) aside steps = subst (PassesLink true (Some told)) (sym steps.0) (leaves_one told send aside)
link_aside (Some told) now send (Err (Fault fault labels)) aside steps = subst (PassesLink true (Some told)) (sym steps.0) (leaves_one told send aside)
link_aside (Some told) now send (Err Memory) aside steps = elim steps [
  | inl same ↦ subst (PassesLink true (Some told)) (sym same) (leaves_none told told (keeps_refl told))
  | inr is ↦ subst (PassesLink true (Some told)) (sym is) (leaves_one told send aside)
]

-- the question for a page, and the end of its cursor
is_more : (session : Option (List ℕ)) (cursor : ℤ) → IsAside (more_send session cursor)
is_more session cursor = record { none = refl; outside = refl; cursor = tt }

is_kill : (cursor : ℤ) → IsAside (send_of (under None None) (Kill cursor))
is_kill cursor = record { none = refl; outside = refl; cursor = tt }

same_link : (paged : Bool) (link now : LinkState) → now ≡ link → PassesLink paged (server_run link) (server_run now)
same_link paged link now same = subst (λ l. PassesLink paged (server_run link) (server_run l)) (sym same) (link_stays paged (server_run link))

asked_aside : (conn : Conn) (session : Option (List ℕ)) (link now : LinkState) (asked : PageAsked) → AsksPage conn session link now asked → PassesLink true (server_run link) (server_run now)
asked_aside conn session link now asked asks = elim asks [
  | inl out ↦ link_aside (server_run link) (server_run now) (more_send session asked.cursor) out.result (is_more session asked.cursor)
      (out.exchanges.exchanges.steps _ (out.exchanges.reads (More asked.cursor) (record { none = refl; alone = refl; is = refl })))
  | inr lacks ↦ same_link true link now lacks.same
]

cursor_aside : (conn : Conn) (link now : LinkState) (asked : PageAsked) → EndsCursor conn link now asked → PassesLink true (server_run link) (server_run now)
cursor_aside conn link now asked ends = elim ends [
  | inl out ↦ link_aside (server_run link) (server_run now) (send_of (under None None) (Kill asked.cursor)) out.result (is_kill asked.cursor)
      (out.exchanges.exchanges.steps _ (out.exchanges.reads (Kill asked.cursor) (record { none = refl; alone = refl; is = refl })))
  | inr lacks ↦ same_link true link now lacks.same
]

where_aside : (is : Bool) (conn : Conn) (link now : LinkState) (asked : PageAsked) → EndsCursorWhere is conn link now asked → PassesLink true (server_run link) (server_run now)
where_aside true conn link now asked ends = cursor_aside conn link now asked ends
where_aside false conn link now asked same = same_link true link now same

module _ {A : Type 0} (spec : OperationSpec A) (statements : ℕ) (bytes : List ℕ) (conn : Conn) where
  -- questions for further pages, and what ends them
  asks_aside : (session : Option (List ℕ)) (link : LinkState) (asked : List PageAsked) (mid : LinkState) → AsksPages spec statements bytes conn session link asked mid → PassesLink true (server_run link) (server_run mid)
  asks_aside session link [] mid same = same_link true link mid same
  asks_aside session link (last ∷ earlier) mid asks =
      link_twice true (server_run link) (server_run asks.0) (server_run mid) (asks_aside session link earlier asks.0 asks.1.0) (asked_aside conn session asks.0 mid last asks.1.2)

  pub ends_aside : (link now : LinkState) (asked : List PageAsked) (answer : Result A Error) → EndsPages spec statements bytes conn link now asked answer → PassesLink true (server_run link) (server_run now)
  ends_aside link now [] answer ends = same_link true link now ends.1
  ends_aside link now (last ∷ earlier) (Ok output) ends = same_link true link now ends.1
  ends_aside link now (last ∷ earlier) (Err error) ends = elim ends [
    | inl fails ↦ where_aside (ends_cursor last.page error) conn link now last fails.ends
    | inr lacks ↦ elim lacks.may [ inl same ↦ same_link true link now same | inr ended ↦ where_aside (ends_cursor last.page lacks.bare) conn link now last ended ]
  ]

  -- an output was read at the end, and nothing ended a cursor
  pub reads_output : (link now : LinkState) (asked : List PageAsked) (output : A) → EndsPages spec statements bytes conn link now asked (Ok output)
      → ReadsPagesOutput spec statements bytes (pages_of asked) output × (now ≡ link)
  reads_output link now [] output ends = ends
  reads_output link now (last ∷ earlier) output ends = ends

  -- an error was
  pub reads_error : (link now : LinkState) (asked : List PageAsked) (error : Error) → EndsPages spec statements bytes conn link now asked (Err error) → ReadsPages spec statements bytes (pages_of asked) (Err error)
  reads_error link now [] error ends = ends.0
  reads_error link now (last ∷ earlier) error ends = elim ends [ inl fails ↦ inr (inl fails.reads) | inr lacks ↦ inr (inr lacks.why) ]

  -- an operation that reads no page behind which there is another one asks for none
  pub none_asked : NeverOpen spec → (session : Option (List ℕ)) (link : LinkState) (asked : List PageAsked) (mid : LinkState) → AsksPages spec statements bytes conn session link asked mid → asked ≡ []
  none_asked never session link [] mid asks = refl
  none_asked never session link (last ∷ earlier) mid asks = absurd (never statements _ last.cursor last.namespace asks.1.1.reads)

  module _ (alone : spec.paged ≡ false → NeverOpen spec) (session : Option (List ℕ)) (link now : LinkState) (held held_now : ExecutionSession) (answer : Result A Error)
      (exchanges : AttemptExchanges spec statements bytes conn session link now held held_now answer) where
    none_behind : spec.paged ≡ false → exchanges.asked ≡ []
    none_behind is = none_asked (alone is) session link exchanges.asked exchanges.mid exchanges.asks

    -- so no page is behind its reply
    pub no_pages : spec.paged ≡ false → pages_of exchanges.asked ≡ []
    no_pages is = subst (λ asked. pages_of asked ≡ []) (sym (none_behind is)) refl

    -- what ends the pages, where there may be some
    pub ends_pass : PassesLink spec.paged (server_run exchanges.mid) (server_run now)
    ends_pass = by_paged spec.paged refl
      where
        by_paged : (paged : Bool) → spec.paged ≡ paged → PassesLink paged (server_run exchanges.mid) (server_run now)
        by_paged true is = ends_aside exchanges.mid now exchanges.asked answer exchanges.ends
        by_paged false is = same_link false exchanges.mid now (subst (λ asked. EndsPages spec statements bytes conn exchanges.mid now asked answer) (none_behind is) exchanges.ends).1

    -- all that went out behind the command passes by
    pub behind_passes : PassesLink spec.paged (server_run link) (server_run now)
    behind_passes = link_twice spec.paged (server_run link) (server_run exchanges.mid) (server_run now) (by_paged spec.paged refl) ends_pass
      where
        by_paged : (paged : Bool) → spec.paged ≡ paged → PassesLink paged (server_run link) (server_run exchanges.mid)
        by_paged true is = asks_aside session link exchanges.asked exchanges.mid exchanges.asks
        by_paged false is = same_link false link exchanges.mid (subst (λ asked. AsksPages spec statements bytes conn session link asked exchanges.mid) (none_behind is) exchanges.asks)

module _ {A : Type 0} (spec : OperationSpec A) (statements : ℕ) (bytes : List ℕ) where
  -- the pages that came, for a link that may tell its server
  abbrev pub GivesLink : Option (List ℕ) → Option ServerRun → Option ServerRun → List Page → Type 0
  GivesLink session None now pages = now ≡ None
  GivesLink session (Some told) None pages = ⊥
  GivesLink session (Some told) (Some now) pages = GivesPages spec statements session bytes told now pages

  abbrev AnswersLink : Option (List ℕ) → ℤ → Option ServerRun → Option ServerRun → Page → Type 0
  AnswersLink session cursor None now page = now ≡ None
  AnswersLink session cursor (Some told) None page = ⊥
  AnswersLink session cursor (Some told) (Some now) page = AnswersPage session cursor told now page

  -- a page that did not come
  failed_link : (session : Option (List ℕ)) (cursor : ℤ) (link now : Option ServerRun) (failure : Error) → PassesLink true link now → AnswersLink session cursor link now (Err failure)
  failed_link session cursor None now failure passes = passes
  failed_link session cursor (Some told) None failure passes = absurd passes
  failed_link session cursor (Some told) (Some now) failure passes = passes

  -- a page that came
  came_link : (session : Option (List ℕ)) (cursor : ℤ) (link now : Option ServerRun) (result : Result (List ℕ) LinkError) (reply : List (Pair Bson))
      → TakesStep link now (more_send session cursor) result → PageCame result (Ok reply) → AnswersLink session cursor link now (Ok reply)
  came_link session cursor None now result reply steps came = steps
  came_link session cursor (Some told) now (Ok found) reply steps came =
      subst (λ n. AnswersLink session cursor (Some told) n (Ok reply)) (sym steps.0) (record {
        bytes = found;
        mid = told;
        before = keeps_refl told;
        reply = steps.1;
        came = came;
        rest = keeps_refl (run_after told (more_send session cursor));
      })
  came_link session cursor (Some told) now (Err cause) reply steps came = absurd came

  -- one page more
  gives_more : (session : Option (List ℕ)) (link mid now : Option ServerRun) (pages : List Page) (page : Page) (cursor : ℤ) (namespace : Namespace)
      → GivesLink session link mid pages → LeavesCursor spec statements bytes pages cursor namespace → AnswersLink session cursor mid now page → GivesLink session link now (page ∷ pages)
  gives_more session None mid now pages page cursor namespace gives left answers = subst (λ m. AnswersLink session cursor m now page) gives answers
  gives_more session (Some told) None now pages page cursor namespace gives left answers = absurd gives
  gives_more session (Some told) (Some mid) None pages page cursor namespace gives left answers = absurd answers
  gives_more session (Some told) (Some mid) (Some now) pages page cursor namespace gives left answers =
      (mid, (gives, record { cursor = cursor; namespace = namespace; left = left; answers = answers }))

  gives_none : (session : Option (List ℕ)) (link : Option ServerRun) → GivesLink session link link []
  gives_none session None = refl
  gives_none session (Some told) = keeps_refl told

  -- the questions for them are commands of cursors
  answers_leave : (session : Option (List ℕ)) (cursor : ℤ) (told now : ServerRun) (page : Page) → AnswersPage session cursor told now page → LeavesAside told now
  answers_leave session cursor told now (Err failure) leaves = leaves
  answers_leave session cursor told now (Ok reply) answers =
      let send = more_send session cursor in
      leaves_twice told (run_after answers.mid send) now
      (leaves_twice told answers.mid (run_after answers.mid send) (leaves_none told answers.mid answers.before) (leaves_one answers.mid send (is_more session cursor)))
      (leaves_none (run_after answers.mid send) now answers.rest)

  pub gives_leave : (session : Option (List ℕ)) (told now : ServerRun) (pages : List Page) → GivesPages spec statements session bytes told now pages → LeavesAside told now
  gives_leave session told now [] keeps = leaves_none told now keeps
  gives_leave session told now (page ∷ pages) gives =
      leaves_twice told gives.0 now (gives_leave session told gives.0 pages gives.1.0) (answers_leave session gives.1.1.cursor gives.0 now page gives.1.1.answers)

  -- calls that were only counted before the pages
  pub gives_before : (session : Option (List ℕ)) (told mid now : ServerRun) (pages : List Page) → KeepsServer told mid → GivesPages spec statements session bytes mid now pages
      → GivesPages spec statements session bytes told now pages
  gives_before session told mid now [] keeps gives = keeps_server_twice told mid now keeps gives
  gives_before session told mid now (page ∷ pages) keeps gives = (gives.0, (gives_before session told mid gives.0 pages keeps gives.1.0, gives.1.1))

  -- each question gives its page
  answers_link : (conn : Conn) (session : Option (List ℕ)) (link now : LinkState) (asked : PageAsked) → AsksPage conn session link now asked → AnswersLink session asked.cursor (server_run link) (server_run now) asked.page
  answers_link conn session link now asked asks = by_page asked.page refl
    where
      err_ok : (failure : Error) (reply : List (Pair Bson)) → ◌≡◌ {A = Page} (Ok reply) (Err failure) → ⊥
      err_ok failure reply same = cc

      by_page : (page : Page) → asked.page ≡ page → AnswersLink session asked.cursor (server_run link) (server_run now) page
      by_page (Err failure) is = failed_link session asked.cursor (server_run link) (server_run now) failure (asked_aside conn session link now asked asks)
      by_page (Ok reply) is = elim asks [
        | inl out ↦ came_link session asked.cursor (server_run link) (server_run now) out.result reply
            (out.exchanges.exchanges.steps _ (out.exchanges.reads (More asked.cursor) (record { none = refl; alone = refl; is = refl })))
            (subst (PageCame out.result) is out.came)
        | inr lacks ↦ absurd (err_ok lacks.failure reply (sym is ∙ lacks.page_is))
      ]

  pub asks_give : (conn : Conn) (session : Option (List ℕ)) (link : LinkState) (asked : List PageAsked) (mid : LinkState) → AsksPages spec statements bytes conn session link asked mid
      → GivesLink session (server_run link) (server_run mid) (pages_of asked)
  asks_give conn session link [] mid same = subst (λ l. GivesLink session (server_run link) (server_run l) []) (sym same) (gives_none session (server_run link))
  asks_give conn session link (last ∷ earlier) mid asks =
      gives_more session (server_run link) (server_run asks.0) (server_run mid) (pages_of earlier) last.page last.cursor last.namespace
      (asks_give conn session link earlier asks.0 asks.1.0) asks.1.1 (answers_link conn session asks.0 mid last asks.1.2)
