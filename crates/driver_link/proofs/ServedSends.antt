-- Serving a plain send keeps the invariant.
use Rattle.std.proofs.Common.{◌≡◌, ◌≢◌, ℕ, ◌+◌, Bool, true, false, List, ◌++◌, refl, sym, ap, subst, ◌∙◌, inl, inr, arith}
use Rattle.std.specs.Prelude.{ℤ, ◌<ℤ◌, ◌≤ℤ◌, int_lt, Option, None, Some, IsSome, is_some, ◌⊎◌, slice_get, if◌then◌else◌}
use Rattle.std.specs.FinMap as finite
use Rattle.std.specs.Ordering.{nat_cmp}
use Rattle.std.specs.Cmp.Lexicographic.{slice_cmp}
use Rattle.std.specs.Str.{bytes_eq}
use Rattle.std.proofs.lemmas.Bool.{cond-true, cond-false, false_from_ne_true}
use Rattle.std.proofs.lemmas.Cmp.{nat_list_cmp_total}
use Rattle.std.proofs.lemmas.Int.{ints}
use Rattle.std.proofs.lemmas.Map.Text.{is_eq-slice_cmp}
use Rattle.std.proofs.lemmas.Slice.Eq.{bytes_eq-Decides}
use Rattle.driver_link.specs.declared.machine.Counted.{Counted}
use Rattle.driver_link.specs.declared.machine.Entry.{Entry}
use Rattle.driver_link.specs.declared.machine.KnownSession.{KnownSession}
use Rattle.driver_link.specs.declared.machine.PlacedWrite.{PlacedWrite}
use Rattle.driver_link.specs.declared.machine.Send.{Send}
use Rattle.driver_link.specs.declared.machine.Server.{Server}
use Rattle.driver_link.specs.declared.machine.ServerTransaction.TheVariants as transaction
use Rattle.driver_link.specs.declared.machine.Statement.{Statement}
use Rattle.driver_link.specs.Once.{Once}
use Rattle.driver_link.specs.Cases.{writes_of}
use Rattle.driver_link.specs.Sessions.{begin_session, is_below, taken}
use Rattle.driver_link.specs.Settled.{Has, HasFreeOrigin, HasOrigin, HasRun, IsOrderly, IsSettled, IsSettledSession, IsUnder, IsUnnumbered, IsUnserved}
use Rattle.driver_link.specs.Statements.{entry_of, entries_of, has_run, kept_with}
use Rattle.driver_link.proofs.KeptStatements.{Follows, IsEntryOf, entry_from, entry_there, kept_from, kept_ran, kept_still, ran_free}
use Rattle.driver_link.proofs.Lists.{has_left, has_right, has_either, none_is_some, some_is_some}
use Rattle.driver_link.proofs.OrderlyTraces.{alike, all_places, free_apart, plain_under}
use Rattle.driver_link.proofs.Placing.{once_append, once_entries}

-- two ids are the same or differ
pub id_cases : (a b : List ℕ) → (a ≡ b) ⊎ (a ≡ b → ⊥)
id_cases a b = elim (bytes_eq a b) as (λ same. bytes_eq a b ≡ same → (a ≡ b) ⊎ (a ≡ b → ⊥)) [
  | true ↦ λ is. inl ((bytes_eq-Decides a b).0 is)
  | false ↦ λ is. inr (λ same. absurd (differ (sym ((bytes_eq-Decides a b).1 same) ∙ is)))
] refl
  where
    differ : ◌≡◌ {A = Bool} true false → ⊥
    differ is = cc

-- a session's id after another was put
pub id_same : {V : Type 0} (known : finite.FinMap (slice_cmp nat_cmp) V) (id : List ℕ) (value : V) → finite.get (finite.insert known id value) id ≡ Some value
id_same known id value =
    finite.get-insert nat_list_cmp_total known id value id
    ∙ cond-true _ (Some value) (finite.get known id) (is_eq-slice_cmp id id ∙ (bytes_eq-Decides id id).1 refl)

pub id_other : {V : Type 0} (known : finite.FinMap (slice_cmp nat_cmp) V) (id : List ℕ) (value : V) (other : List ℕ) → (other ≡ id → ⊥)
    → finite.get (finite.insert known id value) other ≡ finite.get known other
id_other known id value other differs =
    finite.get-insert nat_list_cmp_total known id value other
    ∙ cond-false _ (Some value) (finite.get known other)
    (is_eq-slice_cmp other id ∙ false_from_ne_true (bytes_eq other id) (λ same. differs ((bytes_eq-Decides other id).0 same)))

-- what a session becomes by a number that is not below its greatest: it has that number, and it is the
-- session that was known, or one that begins anew under a greater number
pub record IsTaken (number : ℤ) (before : Option KnownSession) (known : KnownSession) : Type 0 where
  pub greatest : known.greatest ≡ number
  pub is : (before ≡ Some known) ⊎ ((known ≡ begin_session number false false) × ((old : KnownSession) → before ≡ Some old → old.greatest <ℤ number))

pub taken_is : (number : ℤ) (before : Option KnownSession) → is_below number before ≡ false → IsTaken number before (taken number false false before)
unfolding taken is_below
taken_is number None above = record { greatest = refl; is = inr (refl, λ old is. absurd (none_is_some old is)) }
taken_is number (Some old) above = by_test (int_lt old.greatest number) refl
  where
    equal : (number greatest : ℤ) → int_lt number greatest ≡ false → int_lt greatest number ≡ false → greatest ≡ number
    equal number greatest above below = grind (arith, ints)

    less : (number greatest : ℤ) → int_lt greatest number ≡ true → greatest <ℤ number
    less number greatest is = grind (arith, ints)

    of_some : (other : KnownSession) → ◌≡◌ {A = Option KnownSession} (Some old) (Some other) → int_lt old.greatest number ≡ true → other.greatest <ℤ number
    of_some other is test = let same : old ≡ other = cc is in subst (λ k. k.greatest <ℤ number) same (less number old.greatest test)

    by_test : (b : Bool) → int_lt old.greatest number ≡ b → IsTaken number (Some old) (if b then begin_session number false false else old)
    by_test true test = record { greatest = refl; is = inr (refl, λ other is. of_some other is test) }
    by_test false test = record { greatest = equal number old.greatest above test; is = inl refl }

-- what a send outside transactions makes of a server, under a number that was taken: its session keeps
-- more results, and the log gains the entries of the statements that ran
pub record Runs (id : List ℕ) (number : ℤ) (known : KnownSession) (done : List Statement) (send : Send) (old now : Server) : Type 0 where
  pub after : KnownSession
  pub greatest : after.greatest ≡ known.greatest
  pub none : after.transaction ≡ transaction.None
  pub kept : after.kept ≡ kept_with known.kept 0 done
  pub sessions : now.sessions ≡ finite.insert old.sessions id after
  pub log : now.log ≡ old.log ++ entries_of (Some id) (Some number) (writes_of send) done
  pub waiting : (at : ℕ) (other : Send) → slice_get now.waiting at ≡ Some (Some other) → slice_get old.waiting at ≡ Some (Some other)

module _ (trace : List Send) (send : Send) (id : List ℕ) (number : ℤ) (known : KnownSession) (done : List Statement) (old now : Server)
    (orderly : IsOrderly trace) (sent : Has trace send) (under : IsUnder id number send) (is_taken : IsTaken number (finite.get old.sessions id) known)
    (follows : Follows known.kept 0 (writes_of send) done) (runs : Runs id number known done send old now) (settled : IsSettled trace old) where
  entries : List Entry
  entries = entries_of (Some id) (Some number) (writes_of send) done

  log_is : now.log ≡ old.log ++ entries
  unfolding entries
  log_is = runs.log

  known_here : finite.get now.sessions id ≡ Some runs.after
  known_here = ap (λ sessions. finite.get sessions id) runs.sessions ∙ id_same old.sessions id runs.after

  known_there : (other : List ℕ) → (other ≡ id → ⊥) → finite.get now.sessions other ≡ finite.get old.sessions other
  known_there other differs = ap (λ sessions. finite.get sessions other) runs.sessions ∙ id_other old.sessions id runs.after other differs

  has_before : (entry : Entry) → Has old.log entry → Has now.log entry
  has_before entry has = subst (λ log. Has log entry) (sym log_is) (has_left old.log entries entry has)

  has_new : (entry : Entry) → Has entries entry → Has now.log entry
  has_new entry has = subst (λ log. Has log entry) (sym log_is) (has_right old.log entries entry has)

  -- a result that was kept before has its entry
  pub kept_entry : (at : ℕ) (write : PlacedWrite) (result : Counted) → slice_get (writes_of send) at ≡ Some write → finite.get known.kept at ≡ Some result
      → Has now.log (entry_of (Some id) (Some number) write result)
  kept_entry at write result stands kept = elim is_taken.is [
    | inl before ↦
        let session = settled.sessions id known before in
        let same_session : session.newest.session ≡ send.session = session.under.session ∙ sym under.session in
        let same_number : session.newest.number ≡ send.number
        = session.under.numbered ∙ ap (λ n. Some n) is_taken.greatest ∙ sym under.numbered in
        let plain = plain_under trace orderly session.newest session.sent id known.greatest session.under in
        let writes = orderly.one_list session.newest send plain session.sent sent same_session same_number in
        let stands_newest : slice_get (writes_of session.newest) at ≡ Some write = ap (λ ws. slice_get ws at) writes ∙ stands in
        let has = session.kept at write result stands_newest kept in
        has_before (entry_of (Some id) (Some number) write result)
        (subst (λ n. Has old.log (entry_of (Some id) (Some n) write result)) is_taken.greatest has)
    | inr anew ↦
        let nothing : finite.get known.kept at ≡ None = ap (λ k. finite.get k.kept at) anew.0 ∙ finite.get-empty nat_cmp at in
        absurd (let e : ◌≡◌ {A = Option Counted} None (Some result) = sym nothing ∙ kept in cc)
  ]

  session_here : IsSettledSession trace now.log id runs.after
  unfolding entries
  session_here = record {
    newest = send;
    sent = sent;
    under = record { session = under.session; numbered = under.numbered ∙ ap (λ n. Some n) (sym greatest_is) };
    none = runs.none;
    kept = λ at write result stands kept.
        subst (λ n. Has now.log (entry_of (Some id) (Some n) write result)) (sym greatest_is)
        (kept_now at write result stands (ap (λ k. finite.get k at) (sym runs.kept) ∙ kept));
  }
    where
      greatest_is : runs.after.greatest ≡ number
      greatest_is = runs.greatest ∙ is_taken.greatest

      kept_now : (at : ℕ) (write : PlacedWrite) (result : Counted) → slice_get (writes_of send) at ≡ Some write
          → finite.get (kept_with known.kept 0 done) at ≡ Some result → Has now.log (entry_of (Some id) (Some number) write result)
      kept_now at write result stands kept = elim (kept_from known.kept 0 done at result kept) [
        | inl before ↦ kept_entry at write result stands before
        | inr ran ↦
            let same : at ≡ ran.0 = ran.1 ∙ omega arith in
            has_new (entry_of (Some id) (Some number) write result)
            (entry_there (Some id) (Some number) (writes_of send) done ran.0 write result (ap (λ k. slice_get (writes_of send) k) (sym same) ∙ stands) ran.2)
      ]

  session_there : (other : List ℕ) (found : KnownSession) → IsSettledSession trace old.log other found → IsSettledSession trace now.log other found
  session_there other found session = record {
    newest = session.newest;
    sent = session.sent;
    under = session.under;
    none = session.none;
    kept = λ at write result stands kept. has_before (entry_of (Some other) (Some found.greatest) write result) (session.kept at write result stands kept);
  }

  -- what had run has run
  run_before : (other : ℤ) (at : ℕ) (found : KnownSession) → finite.get old.sessions id ≡ Some found → HasRun other at found → HasRun other at runs.after
  run_before other at found is_found has_run = elim is_taken.is [
    | inl before ↦
        let same : found ≡ known = some_is_some found known (sym is_found ∙ before) in
        run_still (subst (HasRun other at) same has_run)
    | inr anew ↦
        let below : found.greatest <ℤ number = anew.1 found is_found in
        inl (passed other found.greatest number runs.after.greatest (at_most has_run) below (runs.greatest ∙ is_taken.greatest))
  ]
    where
      at_most : HasRun other at found → other ≤ℤ found.greatest
      at_most (inl less) = weaken other found.greatest less
        where
          weaken : (a b : ℤ) → a <ℤ b → a ≤ℤ b
          weaken a b less = omega (arith, ints)
      at_most (inr same) = equal other found.greatest same.0
        where
          equal : (a b : ℤ) → a ≡ b → a ≤ℤ b
          equal a b same = omega (arith, ints)

      passed : (a b c d : ℤ) → a ≤ℤ b → b <ℤ c → d ≡ c → a <ℤ d
      passed a b c d most below is = omega (arith, ints)

      run_still : HasRun other at known → HasRun other at runs.after
      run_still (inl less) = inl (subst (λ n. other <ℤ n) (sym runs.greatest) less)
      run_still (inr same) =
          inr (same.0 ∙ sym runs.greatest, subst (λ kept. IsSome (finite.get kept at)) (sym runs.kept) (kept_still known.kept 0 done at same.1))

  origin_before : (entry : Entry) → HasOrigin trace old entry → HasOrigin trace now entry
  origin_before entry origin = elim (id_cases origin.id id) [
    | inl same ↦
        let found : finite.get old.sessions id ≡ Some origin.known = ap (λ i. finite.get old.sessions i) (sym same) ∙ origin.is_known in
        let here : finite.get now.sessions origin.id ≡ Some runs.after = ap (λ i. finite.get now.sessions i) same ∙ known_here in
        with_known runs.after here (run_before origin.number origin.at origin.known found origin.has_run)
    | inr differs ↦ with_known origin.known (known_there origin.id differs ∙ origin.is_known) origin.has_run
  ]
    where
      with_known : (found : KnownSession) → finite.get now.sessions origin.id ≡ Some found → HasRun origin.number origin.at found → HasOrigin trace now entry
      with_known found is_known has_run = record {
        send = origin.send;
        at = origin.at;
        write = origin.write;
        result = origin.result;
        id = origin.id;
        number = origin.number;
        known = found;
        sent = origin.sent;
        under = origin.under;
        stands = origin.stands;
        is = origin.is;
        is_known = is_known;
        has_run = has_run;
      }

  origin_new : (entry : Entry) → IsEntryOf (Some id) (Some number) (writes_of send) done entry → HasOrigin trace now entry
  origin_new entry new = record {
    send = send;
    at = new.at;
    write = new.write;
    result = new.result;
    id = id;
    number = number;
    known = runs.after;
    sent = sent;
    under = under;
    stands = new.stands;
    is = new.is;
    is_known = known_here;
    has_run =
        inr (
          sym (runs.greatest ∙ is_taken.greatest),
          ap is_some (ap (λ kept. finite.get kept new.at) runs.kept ∙ at_zero new.at ∙ kept_ran known.kept 0 done new.at new.result new.ran),
        );
  }
    where
      at_zero : (k : ℕ) → finite.get (kept_with known.kept 0 done) k ≡ finite.get (kept_with known.kept 0 done) (0 + k)
      at_zero k = ap (λ p. finite.get (kept_with known.kept 0 done) p) (omega arith)

  -- an entry that stands has another place than one that is new
  apart : (a b : Entry) → HasOrigin trace old a → IsEntryOf (Some id) (Some number) (writes_of send) done b → a.place ≢ b.place
  apart a b origin new same =
      let place : origin.write.place ≡ new.write.place = sym (ap (λ e. e.place) origin.is) ∙ same ∙ ap (λ e. e.place) new.is in
      let one = alike trace orderly origin.send send origin.at new.at origin.write new.write origin.sent sent origin.stands new.stands place in
      let same_id : origin.id ≡ id = some_is_some origin.id id (sym origin.under.session ∙ one.session ∙ under.session) in
      let same_number : origin.number ≡ number = some_is_some origin.number number (sym origin.under.numbered ∙ one.number ∙ under.numbered) in
      let found : finite.get old.sessions id ≡ Some origin.known = ap (λ i. finite.get old.sessions i) (sym same_id) ∙ origin.is_known in
      let run : HasRun number new.at origin.known
      = subst (λ n. HasRun n new.at origin.known) same_number (subst (λ p. HasRun origin.number p origin.known) one.position origin.has_run) in
      not_run origin.known found run
    where
      below_itself : (a b : ℤ) → a <ℤ b → b ≡ a → ⊥
      below_itself a b less same = omega (arith, ints)

      beyond : (a b : ℤ) → a ≡ b → b <ℤ a → ⊥
      beyond a b same less = omega (arith, ints)

      beyond_less : (a b : ℤ) → a <ℤ b → b <ℤ a → ⊥
      beyond_less a b less more = omega (arith, ints)

      free : finite.get known.kept new.at ≡ None
      free = ap (λ p. finite.get known.kept p) (omega arith) ∙ ran_free known.kept 0 (writes_of send) done new.at new.result follows new.ran

      is_kept : HasRun number new.at known → ⊥
      is_kept (inl less) = below_itself number known.greatest less is_taken.greatest
      is_kept (inr kept) = let e : ◌≡◌ {A = Bool} false true = ap is_some (sym free) ∙ kept.1 in cc

      anew_run : (found : KnownSession) → found.greatest <ℤ number → HasRun number new.at found → ⊥
      anew_run found below (inl less) = beyond_less number found.greatest less below
      anew_run found below (inr kept) = beyond number found.greatest kept.0 below

      not_run : (found : KnownSession) → finite.get old.sessions id ≡ Some found → HasRun number new.at found → ⊥
      not_run found is_found run = elim is_taken.is [
        | inl before ↦ is_kept (subst (HasRun number new.at) (some_is_some found known (sym is_found ∙ before)) run)
        | inr anew ↦ anew_run found (anew.1 found is_found) run
      ]

  -- so has one without a number
  free_origin_apart : (a b : Entry) → HasFreeOrigin trace a → IsEntryOf (Some id) (Some number) (writes_of send) done b → a.place ≢ b.place
  free_origin_apart a b origin new same =
      let place : new.write.place ≡ origin.write.place = sym (sym (ap (λ e. e.place) origin.is) ∙ same ∙ ap (λ e. e.place) new.is) in
      free_apart trace orderly send origin.send number sent origin.sent under.numbered origin.none
      (record { first = new.at; second = origin.at; one = new.write; other = origin.write; stands = new.stands; also = origin.stands; same = place })

  either_apart : (a b : Entry) → Has old.log a → IsEntryOf (Some id) (Some number) (writes_of send) done b → a.place ≢ b.place
  either_apart a b has new = elim (settled.origin a has) [
    | inl origin ↦ apart a b origin new
    | inr origin ↦ free_origin_apart a b origin new
  ]

  -- a send without a number that waits is not served by this
  unserved_now : (at : ℕ) (other : Send) → slice_get now.waiting at ≡ Some (Some other) → IsUnnumbered other → IsUnserved other now.log
  unfolding entries
  unserved_now at other is free entry k write has stands same =
      let before = runs.waiting at other is in
      elim (has_either old.log entries entry (subst (λ log. Has log entry) log_is has)) [
        | inl stood ↦ settled.unserved at other before free entry k write stood stands same
        | inr joined ↦
            let new = entry_from (Some id) (Some number) (writes_of send) done entry joined in
            free_apart trace orderly send other number sent (settled.waiting at other before) under.numbered free.none
            (record { first = new.at; second = k; one = new.write; other = write; stands = new.stands; also = stands; same = sym (ap (λ e. e.place) new.is) ∙ same })
      ]

  pub runs_settled : IsSettled trace now
  unfolding entries
  runs_settled = record {
    waiting = λ at other is. settled.waiting at other (runs.waiting at other is);
    sessions = λ other found is_found. elim (id_cases other id) [
      | inl same ↦
          let here : found ≡ runs.after = some_is_some found runs.after (sym is_found ∙ ap (λ i. finite.get now.sessions i) same ∙ known_here) in
          subst (λ i. IsSettledSession trace now.log i found) (sym same) (subst (IsSettledSession trace now.log id) (sym here) session_here)
      | inr differs ↦ session_there other found (settled.sessions other found (sym (known_there other differs) ∙ is_found))
    ];
    origin = λ entry has. elim (has_either old.log entries entry (subst (λ log. Has log entry) log_is has)) [
      | inl before ↦ elim (settled.origin entry before) [
        | inl origin ↦ inl (origin_before entry origin)
        | inr free ↦ inr free
      ]
      | inr new ↦ inl (origin_new entry (entry_from (Some id) (Some number) (writes_of send) done entry new))
    ];
    once =
        subst Once (sym log_is) (once_append old.log entries settled.once (once_entries (Some id) (Some number) (writes_of send) done (all_places trace orderly send sent))
        (λ a b left right. either_apart a b left (entry_from (Some id) (Some number) (writes_of send) done b right)));
    unserved = unserved_now;
    alone = λ at other a b is_a is_b. settled.alone at other a b (runs.waiting at a is_a) (runs.waiting other b is_b);
  }
