-- What a call that sends messages one by one leaves.
use Rattle.std.specs.Prelude.{◌≡◌, ◌<◌, ℕ, List, fold, length, take}
use Rattle.pcep_messages.specs.declared.message.Message.{Message}
use Rattle.engine_core.specs.Engine.{sending_one}
use Rattle.engine_core.specs.declared.client.Client.{Client}

-- memory ran out before all were sent
pub record SomeSent (messages : List Message) (c after : Client) : Type 0 where
  pub count : ℕ
  pub few : count < length messages
  pub sent : after ≡ fold sending_one c (take count messages)
