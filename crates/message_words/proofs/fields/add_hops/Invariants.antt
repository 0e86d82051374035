use Rattle.std.proofs.Common.{◌≡◌, ◌++◌, string_bytes, drop}
use Rattle.message_words.specs.Fields.{hops_words}
use Rattle.message_words.proofs.fields.add_hops.Given as goal

-- the text so far and that of the hops that are left make the whole
abbrev pub invariant-loop-hop : goal.invariant-loop-hop
invariant-loop-hop l =
    string_bytes l.text ++ hops_words (drop l.hop-index l.hops) ≡ string_bytes l.fn.text ++ hops_words l.fn.hops
