-- What was made over a server is the machine's serving, whatever trace the server has by then.
use Rattle.std.proofs.Common.{◌≡◌, ℕ, List, Option, refl, sym, ap, ◌∙◌}
use Rattle.driver_link.proofs.TakenNumbers.{case_traced, known_traced}
use Rattle.driver_link.specs.Cases.{Case, case_of, known_of, results_of, too_old, outside, gathers, commits, aborts, of_cursor, nothing, denied, writes_of}
use Rattle.driver_link.specs.Cursors.{Reply}
use Rattle.driver_link.specs.Gathered.{gathered_by}
use Rattle.driver_link.specs.Replies.{denied_reply, reply_in, served_reply, transaction_of}
use Rattle.driver_link.specs.Serving.{Plan, cursors_after, done_in, served, served_in, session_after}
use Rattle.driver_link.specs.Statements.{entries_of}
use Rattle.driver_link.specs.declared.machine.Send.{Send}
use Rattle.driver_link.specs.declared.machine.Server.{Server}
use Rattle.driver_link.specs.declared.machine.Statement.{Statement}
use Rattle.model_effects.specs.Changes.{changed, cursors_put, effect_in}
use Rattle.model_effects.specs.Parts.{parts_as}
use Rattle.model_effects.specs.Seen.{seen}
use Rattle.model_effects.specs.declared.cases.Case.{Case as Met}
use Rattle.model_effects.specs.declared.change.CursorChange.{CursorChange}
use Rattle.model_effects.specs.declared.change.Effect.{Effect}

-- the reply does not depend on the trace
reply_traced : (case : Case) (plan : Plan) (done : List Statement) (server : Server) (trace : List Send) (send : Send)
    → reply_in case plan done (record server { trace = trace }) send ≡ reply_in case plan done server send
unfolding reply_in
reply_traced too_old plan done server trace send = refl
reply_traced denied plan done server trace send = ap (λ known. denied_reply (transaction_of known)) (known_traced send.session send.number server trace send)
reply_traced of_cursor plan done server trace send = refl
reply_traced outside plan done server trace send = refl
reply_traced (gathers entries) plan done server trace send = refl
reply_traced (commits entries) plan done server trace send = refl
reply_traced aborts plan done server trace send = refl
reply_traced nothing plan done server trace send = refl

-- an effect and a change of cursors are serving in the case
in_case : (server : Server) (send : Send) (case : Met) (done : List Statement) (page : Option ℕ) (effect : Effect) (change : CursorChange)
    → effect_in effect server ≡ parts_as session_after send.session send.number case done (entries_of send.session send.number (writes_of send) done) server send
    → cursors_put change server.cursors ≡ cursors_after (seen case (gathered_by (known_of server send))) page done send server
    → changed effect change server ≡ served_in (seen case (gathered_by (known_of server send))) done page server send
unfolding changed parts_as served_in
in_case server send case done page effect change effect_is cursors_are =
    λ i. record (effect_is i) { cursors = cursors_are i }

-- serving by a plan
pub serve_law : (server : Server) (trace : List Send) (send : Send) (case : Met) (plan : Plan) (done : List Statement) (effect : Effect) (change : CursorChange)
    → seen case (gathered_by (known_of server send)) ≡ case_of server send
    → done ≡ done_in (seen case (gathered_by (known_of server send))) plan (results_of (known_of server send)) send.body
    → ((state : Server) → effect_in effect state ≡ parts_as session_after send.session send.number case done (entries_of send.session send.number (writes_of send) done) state send)
    → ((state : Server) → cursors_put change state.cursors ≡ cursors_after (seen case (gathered_by (known_of state send))) plan.page done send state)
    → changed effect change (record server { trace = trace }) ≡ served plan (record server { trace = trace }) send
unfolding served
serve_law server trace send case plan done effect change case_is done_is effect_is cursors_are =
    let now : Server = record server { trace = trace } in
    let known : known_of now send ≡ known_of server send = known_traced send.session send.number server trace send in
    let whole : seen case (gathered_by (known_of now send)) ≡ case_of now send
    = ap (λ k. seen case (gathered_by k)) known ∙ case_is ∙ sym (case_traced send.session send.number server trace send) in
    let all : done ≡ done_in (case_of now send) plan (results_of (known_of now send)) send.body
    = done_is ∙ λ i. done_in ((case_is ∙ sym (case_traced send.session send.number server trace send)) i) plan (results_of (sym known i)) send.body in
    in_case now send case done plan.page effect change (effect_is now) (cursors_are now)
    ∙ λ i. served_in (whole i) (all i) plan.page now send

-- and its reply
pub served_reply_law : (server : Server) (trace : List Send) (send : Send) (case : Met) (plan : Plan) (done : List Statement) (reply : Reply)
    → seen case (gathered_by (known_of server send)) ≡ case_of server send
    → done ≡ done_in (seen case (gathered_by (known_of server send))) plan (results_of (known_of server send)) send.body
    → reply ≡ reply_in (seen case (gathered_by (known_of server send))) plan done server send
    → reply ≡ served_reply plan (record server { trace = trace }) send
unfolding served_reply
served_reply_law server trace send case plan done reply case_is done_is reply_is =
    let now : Server = record server { trace = trace } in
    let known : known_of now send ≡ known_of server send = known_traced send.session send.number server trace send in
    let whole : seen case (gathered_by (known_of server send)) ≡ case_of now send
    = case_is ∙ sym (case_traced send.session send.number server trace send) in
    let all : done ≡ done_in (case_of now send) plan (results_of (known_of now send)) send.body
    = done_is ∙ λ i. done_in (whole i) plan (results_of (sym known i)) send.body in
    reply_is ∙ sym (reply_traced (seen case (gathered_by (known_of server send))) plan done server trace send)
    ∙ λ i. reply_in (whole i) plan (all i) now send
