use Rattle.std.proofs.Common.{ℕ, List, ◌++◌, codes, string_bytes, ap, ◌∙◌}
use Rattle.script_lines.specs.Takes.{taken_text}
use Rattle.script_lines.proofs.Taking.{taken}
use Rattle.script_lines.proofs.takes.take_line.Goals as goal

pub returns : goal.returns
returns c =
    let found = c.in_ok-add_taken.ensures.0 in
    let reply = c.in_ok-reply.reply in
    let text = c.in_ok-add_taken.ensures.2 ∙ ap (λ (front : List ℕ). front ++ taken_text found reply) c.new-text.ensures.bytes in
    taken c.args.database.now c.submit.new.database reply found (string_bytes c.push_str.new.self)
    c.in_ok-reply.ensures c.in_ok-add_taken.ensures.1 (c.in_ok-push_str.ensures.bytes ∙ ap (λ (front : List ℕ). front ++ codes "\n") text)
