use Rattle.std.proofs.Common.{◌≡◌, fold, take}
use Rattle.engine_core.specs.Engine.{sending_one}
use Rattle.engine_core.proofs.client.send_each.Given as goal

-- the messages before this one were sent
abbrev pub invariant-loop-message : goal.invariant-loop-message
invariant-loop-message l = record {
  sent : l.client ≡ fold sending_one l.fn.client (take l.message-index l.messages);
  joined : l.client.joined ≡ l.fn.client.joined;
}
