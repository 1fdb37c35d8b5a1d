-- The run of a script.
use Rattle.std.proofs.Common.{refl, ap, ◌∙◌}
use Rattle.memory_links.specs.MemClock.{clock_tells}
use Rattle.driver_session.specs.Pool.{empty_pool}
use Rattle.model_server.specs.ModelState.{model_tells}
use Rattle.script_run.specs.Ended.{new_model, store_tells}
use Rattle.script_run.proofs.Made.{run_made}
use Rattle.script_run.proofs.program.run_of.Goals as goal

pub returns : goal.returns
returns c =
    let made = c.in_ok-outcomes.ensures in
    run_made c.args.asked _ c.in_ok-outcomes.outcomes c.run_calls.new.client c.run_calls.new.outside.link _ _
    (record {
      store = ap store_tells (c.new-client.ensures.store ∙ c.new-2.ensures ∙ ap (λ ids. record { ids = ids; pool = empty_pool }) c.new.ensures);
      link = ap model_tells (c.make_room.ensures ∙ c.fresh_server-server.ensures ∙ ap (λ s. record (new_model c.args.asked) { schedule = s }) c.in_ok-schedule.ensures.same);
      clock = ap clock_tells c.new-3.ensures;
      client = ap (λ options. record { options = options }) (c.new-client.ensures.options ∙ c.in_ok-options.ensures.same);
    })
    (record { store = refl; link = refl; options = refl }) c.requires c.deliver_each.new.server _
    made.drawn made.main made.complete made.replayed made.making
    c.as_slice.ensures (ap (λ client. client.options) made.client ∙ c.new-client.ensures.options ∙ c.in_ok-options.ensures.same) c.bound_drawn.ensures
    c.in_ok-deliver_each.ensures c.as_slice-2.ensures
