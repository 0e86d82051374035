-- What several calls add to a text, one after the other.
use Rattle.std.proofs.Common.{◌≡◌, ◌∙◌, ℕ, is_ok, if◌then◌else◌, string_bytes, Result, Ok, Err, OnOk, List, ◌++◌, String, ap, append_assoc}
use Rattle.std.specs.declared.alloc.Global.{Global}

-- a piece, and what comes after it
pub and_then : (old mid : String Global) (new a b : List ℕ) → string_bytes mid ≡ string_bytes old ++ a → new ≡ string_bytes mid ++ b → new ≡ string_bytes old ++ (a ++ b)
and_then old mid new a b first second = second ∙ ap (λ (t : List ℕ). t ++ b) first ∙ append_assoc (string_bytes old) a b

-- the same piece in other words
pub said : (old : String Global) (new a b : List ℕ) → a ≡ b → new ≡ string_bytes old ++ a → new ≡ string_bytes old ++ b
said old new a b same added = added ∙ ap (λ (t : List ℕ). string_bytes old ++ t) same

-- the last piece, and all that it ends
pub added_last : {T E : Type 0} (r : Result T E) (old : String Global) (new a : List ℕ) (P : Type 0) → OnOk r (new ≡ string_bytes old ++ a) → (new ≡ string_bytes old ++ a → P) → OnOk r P
added_last (Ok x) old new a P added on = on added
added_last (Err e) old new a P added on = tt

-- the same of one that `push_str` adds
pub pushed_last : {T E : Type 0} (r : Result T E) (old : String Global) (new a : List ℕ) (P : Type 0) → new ≡ (if is_ok r then string_bytes old ++ a else string_bytes old) → (new ≡ string_bytes old ++ a → P) → OnOk r P
pushed_last (Ok x) old new a P added on = on added
pushed_last (Err e) old new a P added on = tt
