-- The command of an attempt, from its build, its frame and its exchange.
use Rattle.std.proofs.Common.{◌≡◌, ℕ, suc, ◌+◌, ◌≤◌, List, refl, sym, ap, subst, ◌∙◌, inl, inr, arith}
use Rattle.std.specs.Prelude.{ℤ, Bool, true, false, length, take, Option, None, Some, IfSome, IsSome, ◌⊎◌, Ok, Err}
use Rattle.driver_error.specs.declared.error.Error.{Error}
use Rattle.driver_error.specs.declared.kind.ErrorKind.TheVariants as kind
use Rattle.driver_error.specs.Error.{IsAlone, kind_of}
use Rattle.driver_error.specs.LabelTexts.{no_labels}
use Rattle.driver_options.specs.declared.concerns.WriteConcern.{WriteConcern}
use Rattle.driver_options.specs.declared.options.Address.{Address}
use Rattle.driver_options.specs.declared.options.ClientOptions.{ClientOptions}
use Rattle.driver_options.specs.declared.options.Conn.{Conn}
use Rattle.driver_options.specs.declared.options.Description.{Description}
use Rattle.driver_link.specs.declared.machine.Place.{Place}
use Rattle.driver_link.specs.declared.machine.Send.{Send}
use Rattle.driver_link.specs.Framed.{Framed}
use Rattle.driver_link.specs.LinkCalls.{ExchangesFrame}
use Rattle.driver_link.specs.LinkState.{LinkState}
use Rattle.driver_link.specs.Reads.{Reads}
use Rattle.driver_session.specs.declared.retryability.Retryability.{Retryability}
use Rattle.driver_ops.specs.declared.command.Command.{Command}
use Rattle.driver_ops.specs.Fields.{FramesUnder, IsSixteen, SendContext, in_context, with_fields}
use Rattle.driver_ops.specs.Encoding.{IsUnspelled}
use Rattle.driver_ops.specs.Operations.{BuildsCommand, HasBodies, IsBuilt, IsFixed, OperationSpec, Refuses, SameSpec, StaysFixed, batch_of, send_of}
use Rattle.driver_ops.specs.SendKinds.{SendKind}
use Rattle.driver_ops.proofs.Frames.{reads_as_asked}
use Rattle.driver_attempt.specs.declared.attempt_end.AttemptEnd.{AttemptEnd}
use Rattle.driver_attempt.specs.declared.attempt_end.AttemptEnd.TheVariants.{Ended, Unfit}
use Rattle.driver_attempt.specs.Attempting.{LacksFrame, MayFix, builds_again}
use Rattle.driver_attempt.specs.Concerns.{concern_of, effective_concern}
use Rattle.driver_attempt.specs.Failures.{is_memory}
use Rattle.driver_attempt.specs.Holding.{DrawsNumber, ExecutionSession, held_id}
use Rattle.driver_attempt.specs.inside.Attempting.{EndsUnbuilt, ExchangesOnce, Sending}
use Rattle.driver_attempt.proofs.OneAttempt.{comes_same}

-- once a build was Ok, the number that it fixed stays, also where it was fixed before
pub build_fixes : {A : Type 0} {spec : OperationSpec A} {which : SendKind} {description : Description} {before now : Option ℕ} {command : Command} → BuildsCommand spec which description before now command → StaysFixed before now
build_fixes {before = before} built = λ statements fixed.
    let same : built.statements ≡ statements = subst (λ n. IsFixed n statements) built.now_is fixed in
    subst (IsFixed before) same built.fixed

-- an operation that tells the same goes out with the same concern
pub concern_same : {A : Type 0} (old now : OperationSpec A) → SameSpec old now → (which now_which : SendKind) (options : ClientOptions) → now_which ≡ which
    → concern_of now now_which options ≡ concern_of old which options
concern_same old now same which now_which options is =
    ap (λ kind_now. concern_of now kind_now options) is
    ∙ ap (λ own. effective_concern own now.target options.write_concern) (same.write_concern which)
    ∙ ap (λ goal. effective_concern (old.write_concern which) goal options.write_concern) same.target

-- a number that was not fixed anew stays
pub same_fixes : {before now : Option ℕ} → now ≡ before → StaysFixed before now
same_fixes is = λ statements fixed. subst (λ n. IsFixed n statements) is fixed

-- some number may be in a command: the one that is fixed, if one is
pub fixed_some : (built : Option ℕ) → (statements : ℕ) × IsFixed built statements
fixed_some None = (0, tt)
fixed_some (Some fixed) = (fixed, refl)

-- what stays fixed twice
pub fixes_twice : (a b c : Option ℕ) → StaysFixed a b → StaysFixed b c → StaysFixed a c
fixes_twice a b c first second = λ statements fixed. first statements (second statements fixed)

true_not_false : true ≡ false → ⊥
true_not_false same = cc

-- a build that was Ok fixes a number
pub build_some : {A : Type 0} {spec : OperationSpec A} {which : SendKind} {description : Description} {before now : Option ℕ} {command : Command} → BuildsCommand spec which description before now command → IsSome now
build_some built = subst (λ o. IsSome o) (sym built.now_is) refl

-- a number that is fixed stays so
pub stays_some : (before now : Option ℕ) → StaysFixed before now → IsSome before → IsSome now
stays_some before (Some fixed) stays some = refl
stays_some (Some fixed) None stays some = absurd (none_follows fixed (stays (suc fixed) tt))
  where
    none_follows : (n : ℕ) → n ≡ suc n → ⊥
    none_follows n is = omega arith
stays_some None None stays some = some

-- once a send was counted the number is fixed, also after further sends
pub counted_twice : (first mid last : ℕ) (before now : Option ℕ) → ((mid ≡ first) ⊎ IsSome before) → ((last ≡ mid) ⊎ IsSome now) → StaysFixed before now → (last ≡ first) ⊎ IsSome now
counted_twice first mid last before now counted more stays = elim more [
  | inl same ↦ elim counted [ inl was ↦ inl (same ∙ was) | inr some ↦ inr (stays_some before now stays some) ]
  | inr some ↦ inr some
]

-- an operation that tells the same has bodies where it had them
pub bodies_same : {A : Type 0} {old now : OperationSpec A} (places : List Place) → SameSpec old now → HasBodies old places → HasBodies now places
bodies_same places same bodies = λ which statements command is.
    let body = bodies which statements command ((same.commands which statements command).1 is) in
    (body.0, (same.bodies statements places body.0).0 body.1)

-- where a number may be in a command that was built, it is the one that is fixed
pub built_so_many : {A : Type 0} {spec : OperationSpec A} {which : SendKind} {description : Description} {before now : Option ℕ} {command : Command} (statements : ℕ) → (built : BuildsCommand spec which description before now command)
    → IsFixed now statements → now ≡ Some statements
built_so_many statements built fixed = built.now_is ∙ ap (λ n. Some n) (subst (λ n. IsFixed n statements) built.now_is fixed)

-- the operation tells how many statements were built
pub so_many : {A : Type 0} {spec : OperationSpec A} {which : SendKind} {description : Description} {before now : Option ℕ} {command : Command} (built : BuildsCommand spec which description before now command) (told : ℕ)
    → IfSome now (λ statements. told ≡ statements) → told ≡ built.statements
so_many built told is = subst (λ o. IfSome o (λ statements. told ≡ statements)) built.now_is is

-- there are as many places as statements
pub within_places : {A : Type 0} {spec : OperationSpec A} {which : SendKind} {description : Description} {before now : Option ℕ} {command : Command} (places : List Place) → HasBodies spec places
    → (built : BuildsCommand spec which description before now command) → built.statements ≤ length places
within_places {which = which} {command = command} places bodies built =
    let body = bodies which built.statements command built.built.is in
    built.built.within places body.0 body.1

-- what was built has no frame, where it has no spelling with the executor's fields
lacks_frame : {A : Type 0} {spec : OperationSpec A} {which : SendKind} {description : Description} {before now after : Option ℕ} {command : Command} {error : Error} (context : SendContext)
    → IsSixteen context.session → BuildsCommand spec which description before now command → after ≡ now → IsUnspelled (with_fields context command).body error → LacksFrame spec context description before after error
lacks_frame {which = which} {command = command} context sixteen built stays none = record {
  statements = built.statements;
  takes = built.takes;
  by = built.fixed;
  fixes = stays ∙ built.now_is;
  unframed = record {
    fault = none.fault;
    none = record { which = which; statements = built.statements; command = command; is = built.built.is; sixteen = sixteen; refused = none.refused };
    is = none.is;
  };
  same = refl;
}

-- a frame of the built command reads as a send, with the front of the places
pub reads_some : {A : Type 0} {spec : OperationSpec A} {which : SendKind} {description : Description} {before now : Option ℕ} {command : Command} {frame : Framed} (places found : List Place) (context : SendContext)
    → HasBodies spec places → (built : BuildsCommand spec which description before now command) → FramesUnder context command (Ok frame) → (told : ℕ) → IfSome now (λ statements. told ≡ statements)
    → found ≡ take told places → (sent : Send) × Reads frame found sent
reads_some {spec = spec} {which = which} {command = command} {frame = frame} places found context bodies built framed told tells is =
    let body = bodies which built.statements command built.built.is in (
      send_of context body.0,
      subst (λ p. Reads frame p (send_of context body.0)) (sym (is ∙ ap (λ n. take n places) (so_many built told tells)))
          (reads_as_asked spec which (batch_of places built.statements) context command frame framed.0 built.built framed.1 body.0 body.1),
    )

module _ {A : Type 0} (spec : OperationSpec A) (which : SendKind) (concern : Option WriteConcern) (places : List Place) (statements : ℕ) (again : Bool) (link link_now : LinkState) (connection_retryability : Retryability) (conn : Conn) (address : Address)
    (held numbered : ExecutionSession) (number : Option ℤ) (draws : DrawsNumber held.sent connection_retryability held numbered (Ok number)) (count count_now : ℕ) (before after : Option ℕ) where
  abbrev Sends : ExecutionSession → AttemptEnd A → Type 0
  Sends held_now attempt = Sending spec which concern (batch_of places statements) again link link_now connection_retryability conn address held held_now count count_now before after attempt

  -- why there is no frame
  abbrev Why : Error → Type 0
  Why error = ((builds_again again held ≡ false) × Refuses spec before conn.description error × (after ≡ before)) ⊎ (LacksFrame spec (in_context (held_id numbered) number concern) conn.description before after error ⊎ (IsAlone kind.Memory no_labels error × MayFix spec conn.description before after))

  -- the build was refused, or there was no memory for it
  pub ends_unbuilt : (error : Error) (found : Bool) (attempt : AttemptEnd A) → found ≡ builds_again again held → (Refuses spec before conn.description error ⊎ (kind_of error ≡ kind.Memory))
      → EndsUnbuilt found error attempt → link_now ≡ link → count_now ≡ count → after ≡ before → Sends numbered attempt
  ends_unbuilt error found (Ended now) is refused ends same uncounted unfixed =
      inr (inl (record {
        error = now;
        number = number;
        draws = draws;
        why = why;
        link_is = same;
        uncounted = uncounted;
        ends = refl;
      }))
    where
      why : Why now
      why = elim ends [
        | inl first ↦ elim refused [
          | inl is_refused ↦ inl (sym is ∙ first.1, subst (Refuses spec before conn.description) (sym first.0) is_refused, unfixed)
          | inr memory ↦ absurd (true_not_false (ap is_memory (sym memory) ∙ first.2))
        ]
        | inr memory ↦ inr (inr (memory.0, inl unfixed))
      ]
  ends_unbuilt error found Unfit is refused ends same uncounted unfixed = elim refused [
    | inl is_refused ↦ inr (inr (inl (record {
      error = error;
      number = number;
      draws = draws;
      again_is = sym is ∙ ends.0;
      refused = is_refused;
      link_is = same;
      uncounted = uncounted;
      unfixed = unfixed;
      ends = refl;
    })))
    | inr memory ↦ absurd (true_not_false (ap is_memory (sym memory) ∙ ends.1))
  ]
  ends_unbuilt error found _ is refused ends same uncounted unfixed = absurd ends

  module _ (now : Option ℕ) (command : Command) (built : BuildsCommand spec which conn.description before now command) where
    -- the built command has no spelling, or there was no memory
    pub ends_unframed : (error : Error) (attempt : AttemptEnd A) → FramesUnder (in_context (held_id numbered) number concern) command (Err error)
        → attempt ≡ Ended error → link_now ≡ link → count_now ≡ count → after ≡ now → Sends numbered attempt
    ends_unframed error attempt framed ends same uncounted stays = inr (inl (record {
      error = error;
      number = number;
      draws = draws;
      why = inr (elim framed.1 [
        | inl memory ↦ inr (memory, inr (built.statements, built.takes, built.fixed, stays ∙ built.now_is))
        | inr none ↦ inl (lacks_frame (in_context (held_id numbered) number concern) framed.0 built stays none)
      ]);
      link_is = same;
      uncounted = uncounted;
      ends = ends;
    }))

    -- it went out with the front of the places
    pub sends_out : (fixed : IsFixed now statements) (mid : OperationSpec A) (same : SameSpec spec mid) (frame : Framed) (found : List Place) (held_now : ExecutionSession) (attempt : AttemptEnd A)
        → FramesUnder (in_context (held_id numbered) number concern) command (Ok frame) → (told : ℕ) → IfSome now (λ n. told ≡ n) → found ≡ take told places
        → ExchangesOnce mid statements link link_now connection_retryability conn address frame found (record numbered { sent = Some number }) held_now attempt → count_now ≡ count + 1 → after ≡ now
        → Sends held_now attempt
    sends_out fixed mid same frame found held_now attempt framed told tells front_is once counted stays =
        let same_number : built.statements ≡ statements = subst (λ n. IsFixed n statements) built.now_is fixed in
        let here = subst (λ n. IsBuilt spec which n command) same_number built.built in
        inr (inr (inr (record {
          numbered = numbered;
          number = number;
          draws = draws;
          takes = subst (λ n. spec.takes before conn.description n) same_number built.takes;
          exchanging = record {
            result = once.result;
            behind = once.behind;
            exchanges = record {
              frame = frame;
              framed = record { command = command; built = here; is = framed.1 };
              reads = reads_as_asked spec which (batch_of places statements) (in_context (held_id numbered) number concern) command frame framed.0 here framed.1;
              exchanges = subst (λ p. ExchangesFrame link once.behind conn frame p once.result) (front_is ∙ ap (λ n. take n places) (so_many built told tells ∙ same_number)) once.exchanges;
            };
            comes = comes_same spec mid same statements once.behind link_now connection_retryability conn address (record numbered { sent = Some number }) held_now once.result attempt once.comes;
          };
          counted = counted;
          fixed_is = stays ∙ built.now_is ∙ ap (λ n. Some n) same_number;
        })))
