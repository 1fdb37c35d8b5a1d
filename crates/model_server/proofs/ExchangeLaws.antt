-- A step of the model server is one exchange of the machine.
use Rattle.std.proofs.Common.{◌≡◌, ℕ, List, [], Option, None, Some, Err, Ok, inl, refl, sym, ap, subst, ◌∙◌}
use Rattle.std.specs.Prelude.{Result}
use Rattle.driver_error.specs.declared.kind.IoKind.TheVariants.{ConnectionReset}
use Rattle.link_faults.specs.declared.fault.LinkError.{LinkError}
use Rattle.link_faults.specs.declared.fault.LinkError.TheVariants.{Fault, Memory}
use Rattle.link_faults.specs.declared.fault.LinkFault.TheVariants.{Io}
use Rattle.driver_link.specs.declared.machine.Send.{Send}
use Rattle.driver_link.specs.Cursors.{Reply}
use Rattle.driver_link.specs.Exchange.{answered, next_step}
use Rattle.driver_link.specs.Framed.{Framed}
use Rattle.driver_link.specs.LinkState.{TellsFrame}
use Rattle.driver_link.specs.ServerRun.{IsReply, TakesStep}
use Rattle.model_server.specs.Meets.{IsSpelled}
use Rattle.model_server.specs.ModelState.{ModelState, Stepped, model_tells, server_run_of}

is_reply : (found : Option Reply) (bytes : List ℕ) → IsSpelled found (Some bytes) → IsReply found bytes
is_reply None bytes spelled = spelled
is_reply (Some document) bytes spelled = spelled

is_none : (found : Option Reply) → IsSpelled found None → found ≡ None
is_none None spelled = refl
is_none (Some document) spelled = absurd spelled

-- an exchange that was answered
pub replied : (old now : ModelState) (send other : Send) (bytes : Option (List ℕ)) (reply : List ℕ)
    → send ≡ other → bytes ≡ Some reply → Stepped old now send bytes → TakesStep (Some (server_run_of old)) (Some (server_run_of now)) other (Ok reply)
replied old now send other bytes reply same some stepped =
    subst (λ s. TakesStep (Some (server_run_of old)) (Some (server_run_of now)) s (Ok reply)) same (
      ap (λ model. Some (server_run_of model)) stepped.is,
      is_reply (answered old.server send (next_step old.schedule old.server)) reply
          (subst (IsSpelled (answered old.server send (next_step old.schedule old.server))) some stepped.reply),
    )

-- an exchange whose connection was reset
pub was_reset : (old middle now : ModelState) (send other : Send) (bytes : Option (List ℕ)) (failure : LinkError)
    → send ≡ other → bytes ≡ None → Stepped old middle send bytes → server_run_of now ≡ server_run_of middle → failure ≡ Fault (Io ConnectionReset) []
    → TakesStep (Some (server_run_of old)) (Some (server_run_of now)) other (Err failure)
was_reset old middle now send other bytes failure same none stepped counted is =
    let P : LinkError → Type 0 = λ why. TakesStep (Some (server_run_of old)) (Some (server_run_of now)) other (Err why) in
    let Q : Send → Type 0 = λ s. TakesStep (Some (server_run_of old)) (Some (server_run_of now)) s (Err (Fault (Io ConnectionReset) [])) in
    subst P (sym is)
    (subst Q same (
      ap (λ told. Some told) counted ∙ ap (λ model. Some (server_run_of model)) stepped.is,
      is_none (answered old.server send (next_step old.schedule old.server))
          (subst (IsSpelled (answered old.server send (next_step old.schedule old.server))) none stepped.reply),
      (refl, refl),
    ))

-- the model server tells no frames, before an exchange and after it
pub tells_no_frame : (old now : ModelState) (frame : Framed) (number : ℕ) (result : Result (List ℕ) LinkError) → TellsFrame (model_tells old) (model_tells now) frame number result
tells_no_frame old now frame number (Ok reply) = (refl, refl)
tells_no_frame old now frame number (Err (Fault fault labels)) = (refl, refl)
tells_no_frame old now frame number (Err Memory) = inl (refl, refl)
