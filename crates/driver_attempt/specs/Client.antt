-- What a client holds.
use Rattle.driver_options.specs.declared.options.ClientOptions.{ClientOptions}
use Rattle.driver_attempt.specs.declared.client.Client.{Client}

-- the options of its making
abbrev pub options_of : {S : Type 0} → Client S → ClientOptions
options_of client = client.options

-- its store of sessions
abbrev pub store_of : {S : Type 0} → Client S → S
store_of client = client.store
