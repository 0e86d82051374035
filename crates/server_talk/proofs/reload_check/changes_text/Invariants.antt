use Rattle.std.proofs.Common.{◌≡◌, ◌++◌, string_bytes, drop}
use Rattle.server_talk.specs.ReloadChecks.{changes_text}
use Rattle.server_talk.proofs.reload_check.changes_text.Given as goal

-- the text so far and that of the remaining entries make the whole
abbrev pub invariant-loop-entry : goal.invariant-loop-entry
invariant-loop-entry l =
    string_bytes l.text ++ changes_text l.values (drop l.entry-index l.entries) ≡ changes_text l.values l.entries
