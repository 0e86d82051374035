use Rattle.std.proofs.Common.{◌≡◌, ℕ, ◌+◌, ◌/◌, ◌%◌, [], ◌∷◌, ◌++◌, length, slice_index_or, rules, sym, ap, ◌∙◌, arith, length-append}
use Rattle.std.proofs.Math.ListN.{set}
use Rattle.pcep_messages.proofs.Mended.{mended}
use Rattle.item_messages.proofs.framing.end_message.Goals as goal

pub returns-clause-ended : goal.returns-clause-ended
returns-clause-ended c = λ front body kind start whole.
    let mid = c.args.out.now.items in
    let high = slice_index_or c.to_be_bytes.result 0 0 in
    let low = slice_index_or c.to_be_bytes.result 1 0 in
    let n = length body + 4 in
    let first : length (front ++ 0x20 ∷ kind ∷ 0 ∷ 0 ∷ []) ≡ length front + 4 = length-append front (0x20 ∷ kind ∷ 0 ∷ 0 ∷ []) in
    let long : length mid ≡ c.args.start + n = ap length whole ∙ length-append (front ++ 0x20 ∷ kind ∷ 0 ∷ 0 ∷ []) body ∙ omega (arith, first, start) in
    let h : high ≡ n / 256 % 256 = search rules in
    let l : low ≡ n % 256 = search rules in
    ap (λ (k : ℕ). set (set mid (k + 2) high) (k + 3) low) (sym start)
    ∙ mended front body mid kind high low 0 0 whole
    ∙ ap (λ (x : ℕ). front ++ 0x20 ∷ kind ∷ x ∷ low ∷ body) h
    ∙ ap (λ (x : ℕ). front ++ 0x20 ∷ kind ∷ n / 256 % 256 ∷ x ∷ body) l
