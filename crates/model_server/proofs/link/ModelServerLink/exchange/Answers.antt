-- The send that was read is the one that the frame reads as.
use Rattle.std.proofs.Common.{refl, rules, sym, ap, ◌∙◌}
use Rattle.std.specs.Prelude.{Err}
use Rattle.frame_reading.proofs.ReadLaws.{some_same}
use Rattle.model_server.proofs.ExchangeLaws.{replied, tells_no_frame, was_reset}
use Rattle.model_server.specs.ModelState.{server_run_of}
use Rattle.model_server.proofs.link.ModelServerLink.exchange.Goals as goal

pub unreachable-requires : goal.unreachable-requires
unreachable-requires c = let none = sym c.in_default.is ∙ c.in_ok-send.ensures c.requires.0 c.requires.1 in cc

pub returns-in-Some-2-clause-told : goal.returns-in-Some-2-clause-told
returns-in-Some-2-clause-told c = record {
  steps = λ send reads.
      replied _ _ c.in-Some.send send c.in_ok-reply.field-0 c.in-Some-2.reply
      (some_same (sym c.in-Some.is ∙ c.in_ok-send.ensures send reads)) c.in-Some-2.is c.in_ok-reply.ensures.ok;
  setup = search rules;
  answers = search rules;
  given = (refl, refl);
  rest = record { asked = refl; addresses = refl; connections = refl; out = refl };
  cause = search rules;
}

pub returns-in-None-clause-told : goal.returns-in-None-clause-told
returns-in-None-clause-told c = record {
  steps = λ send reads.
      was_reset c.args.self.now c.step.new.self c.count_fault.new.self c.in-Some.send send c.in_ok-reply.field-0 c.reset.result
      (some_same (sym c.in-Some.is ∙ c.in_ok-send.ensures send reads)) c.in-None.is c.in_ok-reply.ensures.ok
      (ap server_run_of c.count_fault.ensures.counted) c.reset.ensures;
  setup = search rules;
  answers = search rules;
  given = tells_no_frame c.args.self.now c.count_fault.new.self c.args.frame.now c.args._conn.now.number (Err c.reset.result);
  rest = record { asked = refl; addresses = refl; connections = refl; out = refl };
  cause = search rules;
}
