-- What stands before the appended bytes.
use Rattle.std.proofs.Common.{◌≡◌, ℕ, ◌+◌, false, List, [], ◌∷◌, ◌++◌, length, take, drop, Result, Ok, Err, OnOk, refl, sym, ap, ◌∙◌, append_assoc}
use Rattle.std.proofs.lemmas.List.{take_at, take-append-drop}
use Rattle.byteorder.specs.Endian.{big_bytes}
use Rattle.pcep_objects.specs.Spelling.{spelled}

pub front : (old more new : List ℕ) → new ≡ old ++ more → take (length old) new ≡ old
front old more new e = ap (take (length old)) e ∙ take_at old more (length old) refl

pub front_two : (old one two new : List ℕ) → new ≡ (old ++ one) ++ two → take (length old) new ≡ old
front_two old one two new e = front old (one ++ two) new (e ∙ append_assoc old one two)

pub front_again : (old more mid new : List ℕ) → mid ≡ old ++ more → take (length mid) new ≡ mid → take (length old) new ≡ old
front_again old more mid new e kept =
    let rest = drop (length mid) new in
    let whole : new ≡ mid ++ rest = sym (take-append-drop (length mid) new) ∙ ap (λ (xs : List ℕ). xs ++ rest) kept in
    front_two old more rest new (whole ∙ ap (λ (xs : List ℕ). xs ++ rest) e)

pub on_ok : {A E : Type 0} (r : Result A E) (P Q : Type 0) → (P → Q) → OnOk r P → OnOk r Q
on_ok (Ok x) P Q f p = f p
on_ok (Err e) P Q f p = p

-- an LSP part by part
pub lsp_parts : (old one two new : List ℕ) (size word : ℕ) (tlv ids : List ℕ) → size ≡ length (big_bytes 4 word ++ tlv ++ ids) + 4
    → one ≡ old ++ ((32 ∷ 16 ∷ []) ++ big_bytes 2 size ++ big_bytes 4 word) → two ≡ one ++ tlv → new ≡ two ++ ids → new ≡ old ++ spelled 32 1 false (big_bytes 4 word ++ tlv ++ ids)
lsp_parts old one two new size word tlv ids s e f g =
    let n = length (big_bytes 4 word ++ tlv ++ ids) + 4 in
    let h : one ≡ old ++ ((32 ∷ 16 ∷ []) ++ big_bytes 2 n ++ big_bytes 4 word) = rw (← s) e in
    g ∙ ap (λ (xs : List ℕ). xs ++ ids) (f ∙ ap (λ (xs : List ℕ). xs ++ tlv) h) ∙ simp append_assoc
