-- Bytes that are written one after the other.
use Rattle.std.proofs.Common.{◌≡◌, ◌<◌, ℕ, ◌+◌, ◌-◌, Bool, true, false, List, [], ◌++◌, length, take, drop, Option, Some, None, sym, ◌∙◌, ap, subst, append_assoc, length-append, arith}
use Rattle.std.specs.Prelude.{◌==◌}
use Rattle.std.proofs.lemmas.Bool.Decides.{nat_tests}
use Rattle.std.proofs.lemmas.List.{append-nil, drop-drop, length-drop, take-append-le}
use Rattle.std.proofs.Math.Seq.{take-add, take-append-add, take-length}
use Rattle.std.specs.Io.KnownBytes.{Appends, Keeps}
use Rattle.history_core.specs.declared.fault.Fault.{Fault}
use Rattle.server_talk.specs.declared.talk.Ended.{Ended}
use Rattle.server_talk.specs.declared.talk.Ended.TheVariants.{PeerClosed, SessionEnded, ReadFault, WriteFault, StoreFault}
use Rattle.server_talk.specs.Connections.{TakesSome, TakesAll, TakesPart, GoesOut}

pub appends_none : (a : Option (List ℕ)) → Appends a a []
appends_none None = tt
appends_none (Some xs) = sym (append-nil xs)

pub appends_on : (a b c : Option (List ℕ)) (x y : List ℕ) → Appends a b x → Appends b c y → Appends a c (x ++ y)
appends_on None b c x y h k = tt
appends_on (Some xs) None c x y h k = absurd h
appends_on (Some xs) (Some ys) None x y h k = absurd k
appends_on (Some xs) (Some ys) (Some zs) x y h k = k ∙ ap (λ (front : List ℕ). front ++ y) h ∙ append_assoc xs x y

pub appends_kept : (a b c : Option (List ℕ)) (x : List ℕ) → Appends a b x → Keeps b c → Appends a c x
appends_kept None b c x h k = tt
appends_kept (Some xs) None c x h k = absurd h
appends_kept (Some xs) (Some ys) None x h k = absurd k
appends_kept (Some xs) (Some ys) (Some zs) x h k = k ∙ h

-- some of the bytes after others
pub some_behind : (a b c : Option (List ℕ)) (x y : List ℕ) → Appends a b x → TakesSome b c y → TakesSome a c (x ++ y)
some_behind a b c x y h k =
    (length x + k.0, subst (λ (bytes : List ℕ). Appends a c bytes) (sym (take-append-add x y k.0)) (appends_on a b c x (take k.0 y) h k.1))

-- a part of the bytes after others
pub part_behind : (a b c : Option (List ℕ)) (x y : List ℕ) → Appends a b x → TakesPart b c y → TakesPart a c (x ++ y)
part_behind a b c x y h k =
    let few : k.0 < length y = k.1 in (
      length x + k.0,
      omega (arith, length-append x y, few),
      subst (λ (bytes : List ℕ). Appends a c bytes) (sym (take-append-add x y k.0)) (appends_on a b c x (take k.0 y) h k.2),
    )

pub goes_out_behind : (end : Option Ended) (a b c : Option (List ℕ)) (x y : List ℕ) → Appends a b x → GoesOut end b c y → GoesOut end a c (x ++ y)
goes_out_behind None a b c x y h k = appends_on a b c x y h k
goes_out_behind (Some PeerClosed) a b c x y h k = appends_on a b c x y h k
goes_out_behind (Some SessionEnded) a b c x y h k = appends_on a b c x y h k
goes_out_behind (Some ReadFault) a b c x y h k = appends_on a b c x y h k
goes_out_behind (Some WriteFault) a b c x y h k = part_behind a b c x y h k
goes_out_behind (Some (StoreFault fault)) a b c x y h k = some_behind a b c x y h k

-- all of the bytes are some of them
pub all_are_some : (a b : Option (List ℕ)) (x : List ℕ) → Appends a b x → TakesSome a b x
all_are_some a b x h = (length x, subst (λ (bytes : List ℕ). Appends a b bytes) (sym (take-length x)) h)

-- whatever the end is, a fault of the store may be given instead
pub out_at_fault : (end : Option Ended) (a b : Option (List ℕ)) (x : List ℕ) (fault : Fault) → GoesOut end a b x → GoesOut (Some (StoreFault fault)) a b x
out_at_fault None a b x fault h = all_are_some a b x h
out_at_fault (Some PeerClosed) a b x fault h = all_are_some a b x h
out_at_fault (Some SessionEnded) a b x fault h = all_are_some a b x h
out_at_fault (Some ReadFault) a b x fault h = all_are_some a b x h
out_at_fault (Some WriteFault) a b x fault h = (h.0, h.2)
out_at_fault (Some (StoreFault other)) a b x fault h = h

-- some more of the bytes
pub some_more : (a b c : Option (List ℕ)) (bytes rest : List ℕ) (n k : ℕ) → rest ≡ drop n bytes → Appends a b (take n bytes) → Appends b c (take k rest) → Appends a c (take (n + k) bytes)
some_more a b c bytes rest n k is h e =
    subst (λ (x : List ℕ). Appends a c x) (sym (take-add n k bytes)) (appends_on a b c (take n bytes) (take k (drop n bytes)) h (subst (λ (l : List ℕ). Appends b c (take k l)) is e))

pub not_none : (n : ℕ) → false ≡ (n == 0) → 0 < n
not_none n h = grind (arith, nat_tests)

-- a rest that isn't empty begins before the end
pub few_so_far : (bytes rest : List ℕ) (n : ℕ) → rest ≡ drop n bytes → 0 < length rest → n < length bytes
few_so_far bytes rest n is some =
    let left : length rest ≡ length bytes - n = ap length is ∙ length-drop n bytes in
    omega (arith, left, some)

-- if a write failed, what was taken before stays, and isn't all
pub kept_part : (a b c : Option (List ℕ)) (bytes rest : List ℕ) (n : ℕ) → rest ≡ drop n bytes → Appends a b (take n bytes) → 0 < length rest → Keeps b c → TakesPart a c bytes
kept_part a b c bytes rest n is h some kept = (n, few_so_far bytes rest n is some, appends_kept a b c (take n bytes) h kept)

-- the rest of the bytes, after these
pub rest_on : (bytes rest : List ℕ) (n k : ℕ) → rest ≡ drop n bytes → take (length rest - k) (drop k rest) ≡ drop (n + k) bytes
rest_on bytes rest n k h =
    ap (λ (m : ℕ). take m (drop k rest)) (sym (length-drop k rest)) ∙ take-length (drop k rest) ∙ ap (λ (l : List ℕ). drop k l) h ∙ drop-drop k n bytes

-- ---- bytes that are written part by part

-- a part after one that was taken completely
pub takes_behind : (r : Bool) (a b c : Option (List ℕ)) (x y : List ℕ) → Appends a b x → TakesAll r b c y → TakesAll r a c (x ++ y)
takes_behind true a b c x y h k = appends_on a b c x y h k
takes_behind false a b c x y h k = part_behind a b c x y h k

-- if only a part of the first was taken, only a part of both was
pub part_of_both : (a b : Option (List ℕ)) (x y : List ℕ) → TakesPart a b x → TakesPart a b (x ++ y)
part_of_both a b x y h =
    let few : h.0 < length x = h.1 in
    let front : take h.0 (x ++ y) ≡ take h.0 x = take-append-le h.0 x y (omega (arith, few)) in (
      h.0,
      omega (arith, length-append x y, few),
      subst (λ (bytes : List ℕ). Appends a b bytes) (sym front) h.2,
    )

-- the first of two parts was taken completely, or it wasn't
pub first_fails : (r : Bool) (a b : Option (List ℕ)) (x y : List ℕ) → r ≡ false → TakesAll r a b x → TakesPart a b (x ++ y)
first_fails false a b x y is h = part_of_both a b x y h
first_fails true a b x y is h = cc

pub first_goes_out : (r second : Bool) (a b c : Option (List ℕ)) (x y : List ℕ) → r ≡ true → TakesAll r a b x → TakesAll second b c y → TakesAll second a c (x ++ y)
first_goes_out true second a b c x y is h k = takes_behind second a b c x y h k
first_goes_out false second a b c x y is h k = cc
