-- What an answer is judged by, as the machine's definitions have it.
use Rattle.driver_link.specs.Honesty.{Facts}
use Rattle.model_server.specs.declared.honesty.Judgement.{Judgement}

-- the facts of a judgement
abbrev pub judged : Judgement → Facts
judged facts = record { ran_now = facts.ran_now; ran_before = facts.ran_before; can_be_transient = facts.can_be_transient }
