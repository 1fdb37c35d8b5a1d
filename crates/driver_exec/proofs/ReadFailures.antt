-- Failures that only a reply spells: an error of another cause is none.
use Rattle.std.proofs.Common.{◌≡◌, ℕ, List, refl, subst, ◌∙◌, inl, inr}
use Rattle.std.specs.Prelude.{ℤ, Option, None, Some, Err}
use Rattle.driver_error.specs.declared.error.Error.{Error}
use Rattle.driver_error.specs.declared.kind.ErrorKind.TheVariants as kind
use Rattle.driver_error.specs.Error.{ErrorKind, kind_of}
use Rattle.driver_options.specs.declared.concerns.WriteConcern.{WriteConcern}
use Rattle.link_faults.specs.declared.fault.LinkFault.{LinkFault}
use Rattle.link_faults.specs.declared.fault.LinkFault.TheVariants as fault
use Rattle.link_faults.specs.Failures.{fault_kind}
use Rattle.driver_session.specs.declared.retryability.Retryability.{Retryability}
use Rattle.driver_session.specs.Session.{Session}
use Rattle.driver_ops.specs.Operations.{MayRefuse, OperationSpec, Page, ReadsPages, ReadsPagesError}
use Rattle.driver_ops.specs.Responses.{Said, SpellsError, TellsResponse, breaks, done, fails, said}
use Rattle.driver_attempt.specs.Attempting.{AttemptState, AttemptedOperation, EndsAtOnce, EndsRefused, on_connection}
use Rattle.driver_attempt.specs.Concerns.{IsConcernError}
use Rattle.driver_attempt.specs.Failures.{IsFaultOf}
use Rattle.driver_attempt.specs.Holding.{DrawsNumber, ExecutionSession}
use Rattle.retry_rules.specs.OldDeployment.{reworded, reworded_kind}
use Rattle.retry_rules.specs.Retry.{RetryState}
use Rattle.driver_exec.specs.Resending.{IsReadFailure}
use Rattle.driver_exec.proofs.HeldSessions.{IsFirst, unnumbered_at_end}
use Rattle.driver_exec.proofs.OperationCauses.{fault_error, reworded_is}

-- a fault of the link
unread_fault : (found : LinkFault) → IsReadFailure (fault_kind found) → ⊥
unread_fault (fault.Io io) read = read
unread_fault (fault.PoolCleared message) read = read
unread_fault (fault.Selection message) read = read
unread_fault (fault.Authentication message) read = read

-- its error
pub fault_unread : (found : LinkFault) (labels : List (List ℕ)) (retryability : Retryability) (error : Error) → IsFaultOf found labels retryability error → IsReadFailure (kind_of error) → ⊥
fault_unread found labels retryability error is read = unread_fault found (subst IsReadFailure (fault_error found labels retryability error is).0 read)

-- a concern that is refused
pub concern_unread : (concern : Option WriteConcern) (error : Error) → IsConcernError concern error → IsReadFailure (kind_of error) → ⊥
concern_unread concern error is read = elim is.is [
  | inl alone ↦ subst IsReadFailure alone.kind_is read
  | inr memory ↦ subst IsReadFailure memory.kind_is read
]

-- a build that is refused
refused_unread : (why : ErrorKind) → MayRefuse why → IsReadFailure why → ⊥
refused_unread (kind.InsertMany failures) may read = may
refused_unread (kind.Write failure) may read = may
refused_unread (kind.BulkWrite failures) may read = may
refused_unread _ may read = read

-- the number of a session that a store which tells none lends may be any
pub any_first : (session : Option Session) (sent : Option (Option ℤ)) → IsFirst session sent None
any_first (Some session) None = tt
any_first (Some session) (Some before) = tt
any_first None None = tt
any_first None (Some before) = tt

-- a number that is not there
number_unread : (connection_retryability : Retryability) (held numbered : ExecutionSession) (error : Error) → DrawsNumber held.sent connection_retryability held numbered (Err error)
    → IsReadFailure (kind_of error) → ⊥
number_unread connection_retryability held numbered error draws read = elim (unnumbered_at_end None connection_retryability held numbered error (any_first held.session held.sent) draws) [
  | inl memory ↦ subst IsReadFailure memory.kind_is read
  | inr ends ↦ subst IsReadFailure ends.is.kind_is read
]

module _ {A : Type 0} (op : AttemptedOperation A) (past : Option RetryState) (mid now : AttemptState) (error : Error) (read : IsReadFailure (kind_of error)) where
  -- a command that is refused before it goes out
  refusal_unread : EndsRefused op past mid now error → ⊥
  refusal_unread ends = elim ends.refused [
    | inl none ↦ subst IsReadFailure none.is.kind_is read
    | inr other ↦ elim other [
      | inl unnumbered ↦ number_unread (on_connection op.retryability ends.conn.description) ends.ready.held now.held error unnumbered.draws read
      | inr unframed ↦ elim unframed.why [
        | inl early ↦ refused_unread (kind_of error) early.1.may read
        | inr why ↦ elim why [
          | inl none ↦ subst IsReadFailure none.unframed.is.kind_is read
          | inr memory ↦ subst IsReadFailure memory.0.kind_is read
        ]
      ]
    ]
  ]

  -- what ends an operation at once
  pub ended_unread : EndsAtOnce op past mid now error → ⊥
  ended_unread ends = elim ends [
    | inl unready ↦ subst IsReadFailure unready.why.kind_is read
    | inr other ↦ elim other [
      | inl refused ↦ refusal_unread refused
      | inr sent ↦ subst IsReadFailure sent.why.kind_is read
    ]
  ]

-- a kind that only a reply spells stays as it is in words for the caller
same_words : (why : ErrorKind) → IsReadFailure (reworded_kind why) → reworded_kind why ≡ why
unfolding reworded_kind
same_words (kind.InsertMany failures) read = refl
same_words (kind.Write failure) read = refl
same_words (kind.BulkWrite failures) read = refl
same_words _ read = absurd read

-- so does that of its error
pub reworded_read : (error : Error) → IsReadFailure (kind_of (reworded error)) → kind_of (reworded error) ≡ kind_of error
reworded_read error read =
    let same = (reworded_is error).0 in
    same ∙ same_words (kind_of error) (subst IsReadFailure same read)

-- what a reply says of a command that was not done
said_unread : (bytes : List ℕ) (says : Said) (error : Error) → SpellsError bytes says error → IsReadFailure (kind_of error) → ⊥
said_unread bytes done error spells read = spells
said_unread bytes (fails body) error spells read = subst IsReadFailure spells.kind_is read
said_unread bytes (breaks message) error spells read = subst IsReadFailure spells.kind_is read

-- the error of a reply
response_unread : (bytes : List ℕ) (error : Error) → TellsResponse bytes error → IsReadFailure (kind_of error) → ⊥
response_unread bytes error tells read = elim tells [
  | inl memory ↦ subst IsReadFailure memory read
  | inr other ↦ elim other [
    | inl none ↦ subst IsReadFailure none.is.kind_is read
    | inr says ↦ said_unread bytes (said says.reply) error says.is read
  ]
]

-- so an operation reads such an error in a reply which says that its command was done
pub read_when_done : {A : Type 0} (spec : OperationSpec A) (statements : ℕ) (bytes : List ℕ) (pages : List Page) (error : Error) → ReadsPages spec statements bytes pages (Err error) → IsReadFailure (kind_of error)
    → ReadsPagesError spec statements bytes pages error
read_when_done spec statements bytes pages error reads read = elim reads [
  | inl response ↦ absurd (response_unread bytes error response read)
  | inr other ↦ elim other [
    | inl found ↦ found
    | inr memory ↦ absurd (subst IsReadFailure memory read)
  ]
]
