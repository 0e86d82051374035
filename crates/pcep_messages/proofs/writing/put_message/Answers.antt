use Rattle.std.proofs.Common.{◌≡◌, ℕ, ◌+◌, ◌/◌, ◌%◌, List, [], ◌∷◌, ◌++◌, length, slice_index_or, rules, ap, ◌∙◌, arith, length-append}
use Rattle.pcep_messages.specs.Spelling.{kind_number, objects_written, objects_spelled}
use Rattle.pcep_messages.proofs.Mended.{mended}
use Rattle.pcep_messages.proofs.writing.put_message.Goals as goal

pub returns-clause-written : goal.returns-clause-written
returns-clause-written c =
    let old = c.args.out.now.items in
    let kind = kind_number c.args.message.now in
    let body = objects_spelled (objects_written c.args.message.now) in
    let mid = c.put_body.new.out.items in
    let high = slice_index_or c.to_be_bytes.result 0 0 in
    let low = slice_index_or c.to_be_bytes.result 1 0 in
    let n = length body + 4 in
    let start : c.len-start.result ≡ length old = search rules in
    let header : c.extend_from_slice.new.self.items ≡ old ++ 0x20 ∷ kind ∷ 0 ∷ 0 ∷ [] = search rules in
    let whole : mid ≡ (old ++ 0x20 ∷ kind ∷ 0 ∷ 0 ∷ []) ++ body = c.in_ok-put_body.ensures.written ∙ ap (λ (xs : List ℕ). xs ++ body) header in
    let first : length (old ++ 0x20 ∷ kind ∷ 0 ∷ 0 ∷ []) ≡ length old + 4 = length-append old (0x20 ∷ kind ∷ 0 ∷ 0 ∷ []) in
    let long : length mid ≡ length old + n = ap length whole ∙ length-append (old ++ 0x20 ∷ kind ∷ 0 ∷ 0 ∷ []) body ∙ omega (arith, first) in
    let h : high ≡ n / 256 % 256 = search rules in
    let l : low ≡ n % 256 = search rules in
    rw start (mended old body mid kind high low 0 0 whole
    ∙ ap (λ (x : ℕ). old ++ 0x20 ∷ kind ∷ x ∷ low ∷ body) h
    ∙ ap (λ (x : ℕ). old ++ 0x20 ∷ kind ∷ n / 256 % 256 ∷ x ∷ body) l)
