-- The sends of a command, one after another: how many went out, what answers the last, and what answered one of them.
use Rattle.std.proofs.Common.{◌≡◌, ℕ, zero, suc, List, [], refl, sym, subst, inl, inr}
use Rattle.std.specs.Prelude.{Bool, Option, None, Some, ◌⊎◌, Ok, Err}
use Rattle.link_faults.specs.declared.fault.LinkError.TheVariants.{Fault, Memory}
use Rattle.link_faults.specs.declared.fault.LinkFault.{LinkFault}
use Rattle.driver_link.specs.declared.machine.Send.{Send}
use Rattle.driver_link.specs.ServerRun.{ServerRun, TakesStep, run_after}
use Rattle.driver_link.proofs.Lists.{none_is_some}
use Rattle.driver_ops.specs.Operations.{OperationSpec, Page}
use Rattle.driver_exec.specs.Resending.{AnsweredAmong, AnsweredLast, PassesBy, SendsWhereTold, SentTimes}
use Rattle.driver_exec.proofs.PassesBy.{GivesLink, PassesLink, gives_before, keeps_refl, passes_none, passes_twice}

-- what passed by behind the sends
sends_passed : (paged : Bool) (told mid now : ServerRun) (send : Send) (count : ℕ) → SendsWhereTold paged told mid send count → PassesBy paged mid now → SendsWhereTold paged told now send count
sends_passed paged told mid now send zero sends passes = passes_twice paged told mid now sends passes
sends_passed paged told mid now send (suc count) sends passes = (sends.0, (sends.1.0, passes_twice paged (run_after sends.0 send) mid now sends.1.1 passes))

pub sent_passed : (paged : Bool) (link mid now : Option ServerRun) (send : Send) (count : ℕ) → SentTimes paged link mid send count → PassesLink paged mid now → SentTimes paged link now send count
sent_passed paged None mid now send count sent passes = subst (λ told. PassesLink paged told now) sent passes
sent_passed paged (Some told) None now send count sent passes = absurd sent
sent_passed paged (Some told) (Some mid) None send count sent passes = absurd passes
sent_passed paged (Some told) (Some mid) (Some now) send count sent passes = sends_passed paged told mid now send count sent passes

-- nothing was sent, whatever it might be
pub none_sent : (paged : Bool) (link now : Option ServerRun) (send other : Send) (count : ℕ) → count ≡ 0 → SentTimes paged link now send count → SentTimes paged link now other 0
none_sent paged None now send other count none sent = sent
none_sent paged (Some told) None send other count none sent = absurd sent
none_sent paged (Some told) (Some now) send other count none sent = subst (SendsWhereTold paged told now send) none sent

pub begins_unsent : (paged : Bool) (link : Option ServerRun) (send : Send) → SentTimes paged link link send 0
begins_unsent paged None send = refl
begins_unsent paged (Some told) send = passes_none paged told told (keeps_refl told)

-- one send more
sent_more : (paged : Bool) (link mid : Option ServerRun) (now : Option ServerRun) (send : Send) (count : ℕ) → SentTimes paged link mid send count
    → ((told : ServerRun) → mid ≡ Some told → now ≡ Some (run_after told send)) → (mid ≡ None → now ≡ None) → SentTimes paged link now send (suc count)
sent_more paged None mid now send count sent steps none = none sent
sent_more paged (Some told) None now send count sent steps none = absurd sent
sent_more paged (Some told) (Some mid) now send count sent steps none =
    subst (λ n. SentTimes paged (Some told) n send (suc count)) (sym (steps mid refl))
    (mid, (sent, passes_none paged (run_after mid send) (run_after mid send) (keeps_refl (run_after mid send))))

module _ (paged : Bool) (link : Option ServerRun) (send : Send) (count : ℕ) where
  -- a reply was given
  pub sent_answered : (mid now : Option ServerRun) (bytes : List ℕ) → SentTimes paged link mid send count → TakesStep mid now send (Ok bytes) → SentTimes paged link now send (suc count)
  sent_answered None now bytes sent steps = sent_more paged link None now send count sent (λ told is. absurd (none_is_some told is)) (λ none. steps)
  sent_answered (Some mid) now bytes sent steps = sent_more paged link (Some mid) now send count sent (λ told is. steps_at told is) (λ none. absurd (none_is_some mid (sym none)))
    where
      steps_at : (told : ServerRun) → ◌≡◌ {A = Option ServerRun} (Some mid) (Some told) → now ≡ Some (run_after told send)
      steps_at told is = let same : mid ≡ told = cc is in subst (λ t. now ≡ Some (run_after t send)) same steps.0

  -- an exchange failed by a fault
  pub sent_lost : (mid now : Option ServerRun) (fault : LinkFault) (labels : List (List ℕ)) → SentTimes paged link mid send count → TakesStep mid now send (Err (Fault fault labels))
      → SentTimes paged link now send (suc count)
  sent_lost None now fault labels sent steps = sent_more paged link None now send count sent (λ told is. absurd (none_is_some told is)) (λ none. steps)
  sent_lost (Some mid) now fault labels sent steps = sent_more paged link (Some mid) now send count sent (λ told is. steps_at told is) (λ none. absurd (none_is_some mid (sym none)))
    where
      steps_at : (told : ServerRun) → ◌≡◌ {A = Option ServerRun} (Some mid) (Some told) → now ≡ Some (run_after told send)
      steps_at told is = let same : mid ≡ told = cc is in subst (λ t. now ≡ Some (run_after t send)) same steps.0

  -- after want of memory the send went out or not
  pub sent_maybe : (mid now : Option ServerRun) → SentTimes paged link mid send count → TakesStep mid now send (Err Memory)
      → SentTimes paged link now send count ⊎ SentTimes paged link now send (suc count)
  sent_maybe None now sent steps = inl (subst (λ n. SentTimes paged link n send count) (sym steps) sent)
  sent_maybe (Some mid) now sent steps = elim steps [
    | inl same ↦ inl (subst (λ n. SentTimes paged link n send count) (sym same) sent)
    | inr stepped ↦ inr (sent_lost_as stepped)
  ]
    where
      sent_lost_as : now ≡ Some (run_after mid send) → SentTimes paged link now send (suc count)
      sent_lost_as is = sent_more paged link (Some mid) now send count sent (λ told same. steps_at told same is) (λ none. absurd (none_is_some mid (sym none)))
        where
          steps_at : (told : ServerRun) → ◌≡◌ {A = Option ServerRun} (Some mid) (Some told) → now ≡ Some (run_after mid send) → now ≡ Some (run_after told send)
          steps_at told is stepped = let same : mid ≡ told = cc is in subst (λ t. now ≡ Some (run_after t send)) same stepped

module _ {A : Type 0} (spec : OperationSpec A) (statements : ℕ) where
  -- the reply answers the last send, and no page is behind it
  pub answered_last : (link : Option ServerRun) (send : Send) (count : ℕ) (mid now : Option ServerRun) (bytes : List ℕ) → SentTimes spec.paged link mid send count → TakesStep mid now send (Ok bytes)
      → AnsweredLast spec statements link now send count bytes []
  answered_last None send count mid now bytes sent steps = subst (λ m. TakesStep m now send (Ok bytes)) sent steps
  answered_last (Some told) send count None now bytes sent steps = absurd sent
  answered_last (Some told) send count (Some mid) now bytes sent steps = subst (λ n. AnsweredLast spec statements (Some told) n send count bytes []) (sym steps.0) (record {
    mid = mid;
    sent = sent;
    reply = steps.1;
    gives = keeps_refl (run_after mid send);
  })

  -- pages came behind it
  pub last_gives : (link mid now : Option ServerRun) (send : Send) (count : ℕ) (bytes : List ℕ) (pages : List Page) → AnsweredLast spec statements link mid send count bytes []
      → GivesLink spec statements bytes send.session mid now pages → AnsweredLast spec statements link now send count bytes pages
  last_gives None mid now send count bytes pages last gives = subst (λ m. GivesLink spec statements bytes send.session m now pages) last gives
  last_gives (Some told) None now send count bytes pages last gives = absurd last
  last_gives (Some told) (Some mid) None send count bytes pages last gives = absurd gives
  last_gives (Some told) (Some mid) (Some now) send count bytes pages last gives = record {
    mid = last.mid;
    sent = last.sent;
    reply = last.reply;
    gives = gives_before spec statements bytes send.session (run_after last.mid send) mid now pages last.gives gives;
  }

  -- the reply to the last send is the reply to one, behind which no other went out
  pub last_among : (link now : Option ServerRun) (send : Send) (earlier : ℕ) (bytes : List ℕ) (pages : List Page) → AnsweredLast spec statements link now send earlier bytes pages
      → AnsweredAmong spec statements link now send earlier 0 bytes pages
  last_among None now send earlier bytes pages last = last
  last_among (Some told) None send earlier bytes pages last = absurd last
  last_among (Some told) (Some now) send earlier bytes pages last =
      record { mid = last.mid; sent = last.sent; reply = last.reply; behind = now; gives = last.gives; rest = passes_none spec.paged now now (keeps_refl now) }

  -- the reply to one of the sends
  module _ (link : Option ServerRun) (send : Send) (earlier later : ℕ) (bytes : List ℕ) (pages : List Page) where
    -- before what passed by
    pub among_passed : (mid now : Option ServerRun) → AnsweredAmong spec statements link mid send earlier later bytes pages → PassesLink spec.paged mid now
        → AnsweredAmong spec statements link now send earlier later bytes pages
    among_passed mid now among passes = by_link link mid now among passes
      where
        by_link : (link mid now : Option ServerRun) → AnsweredAmong spec statements link mid send earlier later bytes pages → PassesLink spec.paged mid now
            → AnsweredAmong spec statements link now send earlier later bytes pages
        by_link None mid now among passes = subst (λ told. PassesLink spec.paged told now) among passes
        by_link (Some told) None now among passes = absurd among
        by_link (Some told) (Some mid) None among passes = absurd passes
        by_link (Some told) (Some mid) (Some now) among passes = record {
          mid = among.mid;
          sent = among.sent;
          reply = among.reply;
          behind = among.behind;
          gives = among.gives;
          rest = sends_passed spec.paged among.behind mid now send later among.rest passes;
        }

    -- before one send more
    among_more : (mid now : Option ServerRun) → AnsweredAmong spec statements link mid send earlier later bytes pages → ((told : ServerRun) → mid ≡ Some told → now ≡ Some (run_after told send)) → (mid ≡ None → now ≡ None)
        → AnsweredAmong spec statements link now send earlier (suc later) bytes pages
    among_more mid now among steps none = by_link link mid among steps none
      where
        by_link : (link mid : Option ServerRun) → AnsweredAmong spec statements link mid send earlier later bytes pages → ((told : ServerRun) → mid ≡ Some told → now ≡ Some (run_after told send)) → (mid ≡ None → now ≡ None)
            → AnsweredAmong spec statements link now send earlier (suc later) bytes pages
        by_link None mid among steps none = none among
        by_link (Some told) None among steps none = absurd among
        by_link (Some told) (Some mid) among steps none = subst (λ n. AnsweredAmong spec statements (Some told) n send earlier (suc later) bytes pages) (sym (steps mid refl)) (record {
          mid = among.mid;
          sent = among.sent;
          reply = among.reply;
          behind = among.behind;
          gives = among.gives;
          rest = (mid, (among.rest, passes_none spec.paged (run_after mid send) (run_after mid send) (keeps_refl (run_after mid send))));
        })

    -- before one that was answered
    pub among_answered : (mid now : Option ServerRun) (more : List ℕ) → AnsweredAmong spec statements link mid send earlier later bytes pages → TakesStep mid now send (Ok more)
        → AnsweredAmong spec statements link now send earlier (suc later) bytes pages
    among_answered None now more among steps = among_more None now among (λ told is. absurd (none_is_some told is)) (λ none. steps)
    among_answered (Some mid) now more among steps = among_more (Some mid) now among (λ told is. steps_at told is) (λ none. absurd (none_is_some mid (sym none)))
      where
        steps_at : (told : ServerRun) → ◌≡◌ {A = Option ServerRun} (Some mid) (Some told) → now ≡ Some (run_after told send)
        steps_at told is = let same : mid ≡ told = cc is in subst (λ t. now ≡ Some (run_after t send)) same steps.0

    -- before one whose exchange failed by a fault
    pub among_lost : (mid now : Option ServerRun) (fault : LinkFault) (labels : List (List ℕ)) → AnsweredAmong spec statements link mid send earlier later bytes pages → TakesStep mid now send (Err (Fault fault labels))
        → AnsweredAmong spec statements link now send earlier (suc later) bytes pages
    among_lost None now fault labels among steps = among_more None now among (λ told is. absurd (none_is_some told is)) (λ none. steps)
    among_lost (Some mid) now fault labels among steps = among_more (Some mid) now among (λ told is. steps_at told is) (λ none. absurd (none_is_some mid (sym none)))
      where
        steps_at : (told : ServerRun) → ◌≡◌ {A = Option ServerRun} (Some mid) (Some told) → now ≡ Some (run_after told send)
        steps_at told is = let same : mid ≡ told = cc is in subst (λ t. now ≡ Some (run_after t send)) same steps.0
