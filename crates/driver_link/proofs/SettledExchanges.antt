-- One exchange keeps the invariant, whatever its item is, and so do late deliveries.
use Rattle.std.proofs.Common.{◌≡◌, ℕ, List, [], ◌∷◌, ◌++◌, refl, sym, ap, subst, ◌∙◌, inl, inr}
use Rattle.std.specs.Prelude.{Option, None, Some, ◌⊎◌, slice_get, slice_set}
use Rattle.std.specs.FinMap as finite
use Rattle.std.specs.Ordering.{nat_cmp}
use Rattle.std.specs.Cmp.Lexicographic.{slice_cmp}
use Rattle.driver_link.specs.declared.machine.Entry.{Entry}
use Rattle.driver_link.specs.declared.machine.Item.{Item}
use Rattle.driver_link.specs.declared.machine.Item.TheVariants.{Serve, Lost, Late, ReplyLost, Interrupted, Refused, Reauthenticate}
use Rattle.driver_link.specs.declared.machine.KnownSession.{KnownSession}
use Rattle.driver_link.specs.declared.machine.Scheduled.{Scheduled}
use Rattle.driver_link.specs.declared.machine.Send.{Send}
use Rattle.driver_link.specs.declared.machine.Server.{Server}
use Rattle.driver_link.specs.Exchange.{after_picks, plan_of, arrived, delivered, empty_server, exchanged, interrupted, met, refused_labels, traced}
use Rattle.driver_link.specs.Interrupting.{told_of_error}
use Rattle.driver_link.specs.Serving.{Plan, usual, served}
use Rattle.driver_link.specs.Settled.{Has, HasFreeOrigin, HasOrigin, IsFrom, IsOrderly, IsSettled, IsSettledSession, IsUnnumbered, IsUnserved, SharePlace}
use Rattle.driver_link.specs.Statements.{entry_of}
use Rattle.driver_link.proofs.CursorSends.{cursors_settled, interrupted_aside, refused_aside, served_aside}
use Rattle.driver_link.proofs.Lists.{earlier_or_last, get_left, has_last, has_left, none_is_some, set_gone, set_none}
use Rattle.driver_link.proofs.OrderlyTraces.{new_apart, share_back}
use Rattle.driver_link.proofs.Plain.{interrupted_settled, refused_settled, served_settled}
use Rattle.driver_link.proofs.Unnumbered.{interrupted_free_settled, origin_moves, refused_free_settled, served_free_settled}

-- each entry is that of a write of a send of the trace
pub entry_is_from : (trace : List Send) (server : Server) → IsSettled trace server → (entry : Entry) → Has server.log entry → IsFrom trace entry
entry_is_from trace server settled entry has = elim (settled.origin entry has) [ inl origin ↦ of_origin origin | inr origin ↦ of_free origin ]
  where
    of_origin : HasOrigin trace server entry → IsFrom trace entry
    of_origin origin = record {
      send = origin.send;
      at = origin.at;
      write = origin.write;
      result = origin.result;
      sent = origin.sent;
      stands = origin.stands;
      is =
          origin.is ∙ ap (λ session. entry_of session (Some origin.number) origin.write origin.result) (sym origin.under.session)
          ∙ ap (λ number. entry_of origin.send.session number origin.write origin.result) (sym origin.under.numbered);
    }

    of_free : HasFreeOrigin trace entry → IsFrom trace entry
    of_free origin = record {
      send = origin.send;
      at = origin.at;
      write = origin.write;
      result = origin.result;
      sent = origin.sent;
      stands = origin.stands;
      is = origin.is ∙ ap (λ number. entry_of origin.send.session number origin.write origin.result) (sym origin.none);
    }

-- the front of an orderly trace is orderly
pub orderly_front : (trace : List Send) (send : Send) → IsOrderly (trace ++ send ∷ []) → IsOrderly trace
orderly_front trace send orderly = record {
  either = λ one has. orderly.either one (has_left trace (send ∷ []) one has);
  one_list = λ a b plain left right. orderly.one_list a b plain (has_left trace (send ∷ []) a left) (has_left trace (send ∷ []) b right);
  one_place = λ p q a b i j v w at_p at_q.
      orderly.one_place p q a b i j v w (get_left trace (send ∷ []) p a at_p) (get_left trace (send ∷ []) q b at_q);
}

-- a server with one place of its waiting sends set to nothing
abbrev pub without_waiting : Server → ℕ → Server
without_waiting server at = record server { waiting = slice_set server.waiting at None }

pub less_settled : (trace : List Send) (server : Server) (at : ℕ) → IsSettled trace server → IsSettled trace (without_waiting server at)
less_settled trace server at settled = record {
  waiting = λ k other stands. settled.waiting k other (set_none server.waiting at k other stands);
  sessions = settled.sessions;
  origin = λ entry has. elim (settled.origin entry has) [
    | inl origin ↦ inl (origin_moves trace trace server (without_waiting server at) entry (λ one sent. sent) refl origin)
    | inr free ↦ inr free
  ];
  once = settled.once;
  unserved = λ k other stands. settled.unserved k other (set_none server.waiting at k other stands);
  alone = λ k l a b is_a is_b. settled.alone k l a b (set_none server.waiting at k a is_a) (set_none server.waiting at l b is_b);
}

-- a waiting send that arrives
module _ (trace : List Send) (server : Server) (at : ℕ) (send : Send) (orderly : IsOrderly trace) (is : slice_get server.waiting at ≡ Some (Some send))
    (settled : IsSettled trace server) where
  -- where it has no number, no other that waits shares a place with it
  others_apart : IsUnnumbered send → (k : ℕ) (other : Send) → slice_get (without_waiting server at).waiting k ≡ Some (Some other) → SharePlace send other → ⊥
  others_apart free k other stands share =
      let here = settled.alone at k send other is (set_none server.waiting at k other stands) free share in
      set_gone server.waiting at other (ap (λ p. slice_get (slice_set server.waiting at None) p) here ∙ stands)

  arrives_one : IsSettled trace (served usual (without_waiting server at) send)
  arrives_one =
      let sent = settled.waiting at send is in
      let rest = less_settled trace server at settled in
      elim (orderly.either send sent) [
        | inl plain ↦ served_settled send plain (without_waiting server at) trace orderly sent rest usual
        | inr other ↦ elim other [
          | inl free ↦ served_free_settled send free (without_waiting server at) trace orderly sent (settled.unserved at send is free) (others_apart free) rest usual
          | inr aside ↦
              cursors_settled trace (without_waiting server at) (served usual (without_waiting server at) send) (served_aside send aside (without_waiting server at) usual) rest
        ]
      ]

arrives : (trace : List Send) (server : Server) (at : ℕ) (found : Option (Option Send)) → IsOrderly trace → slice_get server.waiting at ≡ found → IsSettled trace server
    → IsSettled trace (arrived server at found)
unfolding arrived
arrives trace server at None orderly is settled = settled
arrives trace server at (Some None) orderly is settled = settled
arrives trace server at (Some (Some send)) orderly is settled = arrives_one trace server at send orderly is settled

delivered_settled : (trace : List Send) (server : Server) (pick : ℕ) → IsOrderly trace → IsSettled trace server → IsSettled trace (delivered server pick)
unfolding delivered
delivered_settled trace server pick orderly settled = arrives trace server pick (slice_get server.waiting pick) orderly refl settled

-- late deliveries keep it
pub after_settled : (trace : List Send) (server : Server) (picks : List ℕ) → IsOrderly trace → IsSettled trace server → IsSettled trace (after_picks server picks)
unfolding after_picks
after_settled trace server [] orderly settled = settled
after_settled trace server (pick ∷ picks) orderly settled =
    after_settled trace (delivered server pick) picks orderly (delivered_settled trace server pick orderly settled)

-- a trace that is longer
module _ (trace : List Send) (send : Send) (orderly : IsOrderly (trace ++ send ∷ [])) where
  longer_session : (log : List Entry) (id : List ℕ) (known : KnownSession) → IsSettledSession trace log id known → IsSettledSession (trace ++ send ∷ []) log id known
  longer_session log id known session = record {
    newest = session.newest;
    sent = has_left trace (send ∷ []) session.newest session.sent;
    under = session.under;
    none = session.none;
    kept = session.kept;
  }

  longer_free : (entry : Entry) → HasFreeOrigin trace entry → HasFreeOrigin (trace ++ send ∷ []) entry
  longer_free entry origin = record {
    send = origin.send;
    at = origin.at;
    write = origin.write;
    result = origin.result;
    sent = has_left trace (send ∷ []) origin.send origin.sent;
    none = origin.none;
    stands = origin.stands;
    is = origin.is;
  }

  -- the send joins the trace
  pub longer : (server : Server) → IsSettled trace server → IsSettled (trace ++ send ∷ []) (traced server send)
  longer server settled = record {
    waiting = λ at other is. has_left trace (send ∷ []) other (settled.waiting at other is);
    sessions = λ id known is. longer_session server.log id known (settled.sessions id known is);
    origin = λ entry has. elim (settled.origin entry has) [
      | inl origin ↦
          inl (origin_moves trace (trace ++ send ∷ []) server (traced server send) entry (λ one sent. has_left trace (send ∷ []) one sent) refl origin)
      | inr free ↦ inr (longer_free entry free)
    ];
    once = settled.once;
    unserved = settled.unserved;
    alone = settled.alone;
  }

  -- what a send that joins the trace finds: without a number its writes are not in the log, and it shares no
  -- place with a waiting send where one of the two has no number
  record IsNew (server : Server) : Type 0 where
    unserved : IsUnnumbered send → IsUnserved send server.log
    apart : (at : ℕ) (other : Send) → slice_get server.waiting at ≡ Some (Some other) → IsUnnumbered other ⊎ IsUnnumbered send → SharePlace other send → ⊥

  is_new : (server : Server) → IsSettled trace server → IsNew (traced server send)
  is_new server settled = record {
    unserved = λ free entry at write has stands same.
        let from = entry_is_from trace server settled entry has in
        new_apart trace send from.send orderly from.sent (inr free)
        (record { first = from.at; second = at; one = from.write; other = write; stands = from.stands; also = stands; same = sym (ap (λ e. e.place) from.is) ∙ same });
    apart = λ at other is free share. new_apart trace send other orderly (settled.waiting at other is) free share;
  }

  module _ (server : Server) (new : IsNew server) (settled : IsSettled (trace ++ send ∷ []) server) where
    abbrev sent : Has (trace ++ send ∷ []) send
    sent = has_last trace send

    abbrev late : Server
    late = record server { waiting = server.waiting ++ Some send ∷ [] }

    alone_late : (at k : ℕ) (a b : Send) → slice_get late.waiting at ≡ Some (Some a) → slice_get late.waiting k ≡ Some (Some b) → IsUnnumbered a → SharePlace a b → at ≡ k
    alone_late at k a b is_a is_b free share = elim (earlier_or_last server.waiting (Some send) at (Some a) is_a) [
      | inl earlier ↦ elim (earlier_or_last server.waiting (Some send) k (Some b) is_b) [
        | inl before ↦ settled.alone at k a b earlier before free share
        | inr last ↦ absurd (new.apart at a earlier (inl free) (subst (SharePlace a) (sym (one_of last.1)) share))
      ]
      | inr is_last ↦ elim (earlier_or_last server.waiting (Some send) k (Some b) is_b) [
        | inl before ↦
            absurd (new.apart k b before (inr (subst IsUnnumbered (sym (one_of is_last.1)) free)) (share_back send b (subst (λ s. SharePlace s b) (sym (one_of is_last.1)) share)))
        | inr last ↦ is_last.0 ∙ sym last.0
      ]
    ]
      where
        one_of : {other : Send} → ◌≡◌ {A = Option Send} (Some send) (Some other) → send ≡ other
        one_of is = cc

    -- it waits
    waits : IsSettled (trace ++ send ∷ []) late
    waits = record {
      waiting = λ at other is. elim (earlier_or_last server.waiting (Some send) at (Some other) is) [
        | inl earlier ↦ settled.waiting at other earlier
        | inr last ↦ let same : send ≡ other = cc last.1 in subst (Has (trace ++ send ∷ [])) same sent
      ];
      sessions = settled.sessions;
      origin = λ entry has. elim (settled.origin entry has) [
        | inl origin ↦ inl (origin_moves (trace ++ send ∷ []) (trace ++ send ∷ []) server late entry (λ one has. has) refl origin)
        | inr free ↦ inr free
      ];
      once = settled.once;
      unserved = λ at other is. elim (earlier_or_last server.waiting (Some send) at (Some other) is) [
        | inl earlier ↦ settled.unserved at other earlier
        | inr last ↦ let same : send ≡ other = cc last.1 in subst (λ s. IsUnnumbered s → IsUnserved s server.log) same new.unserved
      ];
      alone = alone_late;
    }

    apart_here : IsUnnumbered send → (at : ℕ) (other : Send) → slice_get server.waiting at ≡ Some (Some other) → SharePlace send other → ⊥
    apart_here free at other is share = new.apart at other is (inr free) (share_back send other share)

    -- it is served, interrupted or refused
    serves : (plan : Plan) → IsSettled (trace ++ send ∷ []) (served plan server send)
    serves plan = elim (orderly.either send sent) [
      | inl plain ↦ served_settled send plain server (trace ++ send ∷ []) orderly sent settled plan
      | inr other ↦ elim other [
        | inl free ↦ served_free_settled send free server (trace ++ send ∷ []) orderly sent (new.unserved free) (apart_here free) settled plan
        | inr aside ↦ cursors_settled (trace ++ send ∷ []) server (served plan server send) (served_aside send aside server plan) settled
      ]
    ]

    interrupts : (most : ℕ) (labels : List (List ℕ)) → IsSettled (trace ++ send ∷ []) (interrupted most labels server send)
    interrupts most labels = elim (orderly.either send sent) [
      | inl plain ↦ interrupted_settled send plain server (trace ++ send ∷ []) orderly sent settled most labels
      | inr other ↦ elim other [
        | inl free ↦ interrupted_free_settled send free server (trace ++ send ∷ []) orderly sent (new.unserved free) (apart_here free) settled most labels
        | inr aside ↦
            cursors_settled (trace ++ send ∷ []) server (interrupted most labels server send) (interrupted_aside send aside server most labels) settled
      ]
    ]

    refuses : (labels : List (List ℕ)) → IsSettled (trace ++ send ∷ []) (told_of_error labels server send)
    refuses labels = elim (orderly.either send sent) [
      | inl plain ↦ refused_settled send plain server (trace ++ send ∷ []) orderly sent settled labels
      | inr other ↦ elim other [
        | inl free ↦ refused_free_settled send free server (trace ++ send ∷ []) settled labels
        | inr aside ↦ cursors_settled (trace ++ send ∷ []) server (told_of_error labels server send) (refused_aside send aside server labels) settled
      ]
    ]

    met_settled : (item : Item) → IsSettled (trace ++ send ∷ []) (met server send item)
    unfolding met
    met_settled (Serve results fail concern page) = serves (plan_of results fail concern page)
    met_settled Lost = settled
    met_settled Late = waits
    met_settled ReplyLost = serves usual
    met_settled (Interrupted most code labels) = interrupts most labels
    met_settled (Refused code labels) = refuses (refused_labels labels server send)
    met_settled Reauthenticate = settled

-- one exchange
pub exchanged_settled : (trace : List Send) (server : Server) (send : Send) (step : Scheduled) → IsOrderly (trace ++ send ∷ []) → IsSettled trace server
    → IsSettled (trace ++ send ∷ []) (exchanged server send step)
unfolding exchanged
exchanged_settled trace server send step orderly settled =
    let came = after_settled trace server step.deliver (orderly_front trace send orderly) settled in
    let new = is_new trace send orderly (after_picks server step.deliver) came in
    met_settled trace send orderly (traced (after_picks server step.deliver) send) new (longer trace send orderly (after_picks server step.deliver) came) step.item

-- nothing was sent, and the server has seen nothing
pub empty_orderly : IsOrderly []
empty_orderly = record {
  either = λ send has. absurd has;
  one_list = λ a b plain left right session number. absurd left;
  one_place = λ p q a b i j v w at_p at_q at_i at_j same. absurd (none_is_some a at_p);
}

pub empty_settled : IsSettled [] empty_server
empty_settled = record {
  waiting = λ at send is. absurd (none_is_some (Some send) is);
  sessions = λ id known is. absurd (none_is_some known (sym (finite.get-empty (slice_cmp nat_cmp) id) ∙ is));
  origin = λ entry has. absurd has;
  once = tt;
  unserved = λ at send is free. absurd (none_is_some (Some send) is);
  alone = λ at other a b is_a is_b free share. absurd (none_is_some (Some a) is_a);
}
