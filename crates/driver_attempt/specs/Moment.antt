-- Client and outside at one moment, as contracts see them.
use Rattle.std.specs.Prelude.{◌≡◌}
use Rattle.driver_options.specs.declared.options.ClientOptions.{ClientOptions}
use Rattle.driver_link.specs.Clock.{ClockTells}
use Rattle.driver_link.specs.LinkState.{LinkState, server_run}
use Rattle.driver_link.specs.ServerRun.{IsFresh}
use Rattle.driver_session.specs.StoreTells.{DrawnApart, Draws, LendsAsBefore, StoreTells}
use Rattle.driver_attempt.specs.declared.client.Client.{Client}
use Rattle.driver_attempt.specs.declared.outside.Outside.{Outside}
use Rattle.rand_core.specs.Stream.{Stream}

-- what a client is besides its store: the options of its making
pub record ClientState : Type 0 where
  pub options : ClientOptions

-- what store, link and clock tell, the client, and the random words to come
pub record Moment : Type 0 where
  pub store : StoreTells
  pub link : LinkState
  pub clock : ClockTells
  pub client : ClientState
  pub words : Stream

-- the moment of a client and the outside, by what store, link, clock and words tell
abbrev pub moment_of : {S L K R : Type 0} → (S → StoreTells) → (L → LinkState) → (K → ClockTells) → (R → Stream) → Client S → Outside L K R → Moment
moment_of store_tells link_tells clock_tells stream client outside = record {
  store = store_tells client.store;
  link = link_tells outside.link;
  clock = clock_tells outside.clock;
  client = record { options = client.options };
  words = stream outside.words;
}

-- the client is as before, but for its store
abbrev pub KeepsClient : Moment → Moment → Type 0
KeepsClient before now = now.client ≡ before.client

-- each session id is lent as often as before
abbrev pub KeepsLent : Moment → Moment → Type 0
KeepsLent before now = LendsAsBefore before.store now.store

-- the ids that were drawn are the next of those that were to come, in order
abbrev pub DrawsInOrder : Moment → Moment → Type 0
DrawsInOrder before now = Draws before.store now.store

-- the session ids that were drawn are distinct
abbrev pub HasDrawnApart : Moment → Type 0
HasDrawnApart now = DrawnApart now.store

-- the link tells a server that has seen nothing, with a schedule that a model server takes
abbrev pub HasFreshServer : Moment → Type 0
HasFreshServer before = IsFresh (server_run before.link)
