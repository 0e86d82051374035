use Rattle.std.proofs.Common.{◌≡◌, ◌∙◌, ◌++◌, ℕ, Result, Ok, Err, is_ok, OnOk, if◌then◌else◌, List, [], ◌∷◌, get_or, ap, append_assoc, refl}
use Rattle.std.specs.Fmt.{decimal}
use Rattle.std.specs.Int.{bytes_high_first}
use Rattle.pcep_word.specs.Address.{dotted, text_of}
use Rattle.metrics_text.proofs.format.put_address.Goals as goal

-- a number was added
added : (old new text shown : List ℕ) (n : ℕ) → new ≡ old ++ text → text ≡ shown → shown ≡ decimal n → new ≡ old ++ decimal n
added old new text shown n e same is = e ∙ ap (λ (x : List ℕ). old ++ x) (same ∙ is)

-- four numbers were added, and a point after each but the last
four_added : (old t1 t2 t3 t4 t5 t6 t7 : List ℕ) (a b c d : ℕ) → t1 ≡ old ++ decimal a → t2 ≡ t1 ++ (46 ∷ []) → t3 ≡ t2 ++ decimal b → t4 ≡ t3 ++ (46 ∷ [])
    → t5 ≡ t4 ++ decimal c → t6 ≡ t5 ++ (46 ∷ []) → t7 ≡ t6 ++ decimal d → t7 ≡ old ++ dotted (a ∷ b ∷ c ∷ d ∷ [])
four_added old t1 t2 t3 t4 t5 t6 t7 a b c d e1 e2 e3 e4 e5 e6 e7 = rw (e7, e6, e5, e4, e3, e2, e1) (simp append_assoc)

-- an address is written by its four bytes
four_of : (at : ℕ) (bytes : List ℕ) → bytes ≡ bytes_high_first 4 at → dotted (get_or bytes 0 0 ∷ get_or bytes 1 0 ∷ get_or bytes 2 0 ∷ get_or bytes 3 0 ∷ []) ≡ text_of at
unfolding text_of
four_of at bytes e = rw e refl

-- what the last call added, if it did
if_added : {T E : Type 0} (r : Result T E) (new more same all : List ℕ) → new ≡ (if is_ok r then more else same) → more ≡ all → OnOk r (new ≡ all)
if_added (Ok x) new more same all e is = e ∙ is
if_added (Err d) new more same all e is = tt

pub returns : goal.returns
returns c =
    let old = c.args.text.now.items in
    let bytes = c.bytes.result in
    if_added c.extend_from_slice-4.result c.extend_from_slice-4.new.self.items (c.push-3.new.self.items ++ c.as_bytes-4.result.now) c.push-3.new.self.items _ c.extend_from_slice-4.ensures.items
    (four_added old c.extend_from_slice.new.self.items c.push.new.self.items c.extend_from_slice-2.new.self.items c.push-2.new.self.items c.extend_from_slice-3.new.self.items c.push-3.new.self.items (c.push-3.new.self.items ++ c.as_bytes-4.result.now)
    (get_or bytes 0 0) (get_or bytes 1 0) (get_or bytes 2 0) (get_or bytes 3 0)
    (added old _ _ _ _ c.in_ok-extend_from_slice.ensures.items c.as_bytes.ensures.value c.format.ensures.text)
    c.in_ok-push.ensures.items
    (added c.push.new.self.items _ _ _ _ c.in_ok-extend_from_slice-2.ensures.items c.as_bytes-2.ensures.value c.format-2.ensures.text)
    c.in_ok-push-2.ensures.items
    (added c.push-2.new.self.items _ _ _ _ c.in_ok-extend_from_slice-3.ensures.items c.as_bytes-3.ensures.value c.format-3.ensures.text)
    c.in_ok-push-3.ensures.items
    (added c.push-3.new.self.items _ _ _ _ refl c.as_bytes-4.ensures.value c.format-4.ensures.text)
    ∙ ap (λ (x : List ℕ). old ++ x) (four_of c.args.at bytes c.bytes.ensures))
