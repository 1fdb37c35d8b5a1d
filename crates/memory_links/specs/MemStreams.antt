-- Input and output in memory, which fail at calls that are listed.
use Rattle.std.specs.Prelude.{ℕ, Bool, ◌==◌, ◌||◌, List, length}
use Rattle.driver_link.specs.Counting.{is_listed}

-- the bytes that are left, the numbers of the calls that fail, and how many calls and faults there were
pub record SourceState : Type 0 where
  pub left : List ℕ
  pub fails : List ℕ
  pub calls : ℕ
  pub faults : ℕ

-- the same of a sink: the bytes that were written, in a room of so many
pub record SinkState : Type 0 where
  pub contents : List ℕ
  pub room : ℕ
  pub fails : List ℕ
  pub calls : ℕ
  pub faults : ℕ

-- the next write of a sink fails: it is listed, or the sink is full
abbrev pub write_fails : SinkState → Bool
write_fails sink = is_listed sink.fails sink.calls || (length sink.contents == sink.room)
