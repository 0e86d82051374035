use Rattle.std.proofs.Common.{◌≡◌, ◌++◌, drop}
use Rattle.json.specs.Tree.{members_tokens}
use Rattle.json.specs.Json.{Members}
use Rattle.pce_view.specs.Fields.{members_then}
use Rattle.pce_view.proofs.fields.put_members.Given as goal

-- the tokens so far and those of the members that are left, and of others, make the whole
abbrev pub invariant-loop-member : goal.invariant-loop-member
invariant-loop-member l =
    (l.writer.before ≡ l.fn.writer.before)
    × ((others : Members) → l.writer.tokens ++ members_tokens (members_then (drop l.member-index l.members) others) ≡ l.fn.writer.tokens ++ members_tokens (members_then l.members others))
