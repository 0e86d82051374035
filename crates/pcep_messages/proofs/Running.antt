-- Objects that are taken in one after the other, as a loop does. `after` says what one object makes of a state,
-- `finished` what the end of the objects does, or an object that has a fault of its own.
use Rattle.std.proofs.Common.{◌≡◌, ℕ, Bool, List, [], ◌∷◌, ◌++◌, Option, Some, None, Result, Ok, Err, refl, sym, ap, subst, ◌∙◌, append_assoc}
use Rattle.pcep_objects.specs.Steps.{◌>>=◌}
use Rattle.pcep_objects.specs.declared.fault.BodyFault.{BodyFault}
use Rattle.pcep_objects.specs.declared.fault.ObjectFault.{ObjectFault}
use Rattle.pcep_objects.specs.declared.object.Object.{Object}
use Rattle.pcep_messages.specs.declared.fault.MessageFault.{MessageFault}
use Rattle.pcep_messages.specs.declared.fault.MessageFault.TheVariants.{BadHeader, BadObject, Missing, MissingIdentifiers, BadP, Refused, OutOfMemory}
use Rattle.pcep_messages.specs.Faults.{Fails, Gives}
use Rattle.pcep_messages.specs.Objects.{Found, stopped_by, found_by}
use Rattle.pcep_messages.specs.ObjectSteps.{begun_by, nothing_found, taken_by}

-- ---- lists that are read element by element

abbrev pub with_front : {A E : Type 0} → List A → Result (List A) E → Result (List A) E
with_front front read = read >>= λ xs. Ok (front ++ xs)

pub regroup : {A E : Type 0} (front : List A) (x : A) (read : Result (List A) E) → with_front front (read >>= λ xs. Ok (x ∷ xs)) ≡ with_front (front ++ x ∷ []) read
regroup front x (Ok xs) = ap (λ ys. Ok ys) (simp append_assoc)
regroup front x (Err f) = refl

pub no_front : {A E : Type 0} (read : Result (List A) E) → with_front [] read ≡ read
no_front (Ok xs) = refl
no_front (Err e) = refl

pub fails_from : {A B : Type 0} (e : MessageFault) (r : Result A MessageFault) (f : A → Result B MessageFault) (total : Result B MessageFault) → Fails e r → (r >>= f) ≡ total → Fails e total
fails_from BadHeader r f total h so_far = sym so_far ∙ rw h refl
fails_from (BadObject g a) r f total h so_far = sym so_far ∙ rw h refl
fails_from (Missing k a) r f total h so_far = sym so_far ∙ rw h refl
fails_from (MissingIdentifiers a) r f total h so_far = sym so_far ∙ rw h refl
fails_from (BadP a) r f total h so_far = sym so_far ∙ rw h refl
fails_from (Refused k v a) r f total h so_far = sym so_far ∙ rw h refl
fails_from OutOfMemory r f total h so_far = tt

-- what gives one reading gives an equal one
pub gives_after : {X Y : Type 0} (view : X → Y) (answer : Result X MessageFault) (one other : Result Y MessageFault) → one ≡ other → Gives view answer one → Gives view answer other
gives_after view answer one other e given = subst (λ (r : _). Gives view answer r) e given

-- ---- objects that are taken in

abbrev pub run : {S : Type 0} → (Object → S → Result S MessageFault) → S → List Object → Result S MessageFault
run after s [] = Ok s
run after s (object ∷ objects) = after object s >>= λ t. run after t objects

abbrev pub run_to_end : {S Y : Type 0} → (Object → S → Result S MessageFault) → (S → Option ObjectFault → Result Y MessageFault) → S → List Object → Option ObjectFault → Result Y MessageFault
run_to_end after finished s objects own = run after s objects >>= λ t. finished t own

-- what the rest of the bytes gives, starting from a state
abbrev pub rest_gives : {S Y : Type 0} → (Object → S → Result S MessageFault) → (S → Option ObjectFault → Result Y MessageFault) → Bool → S → List ℕ → Result Y MessageFault
rest_gives after finished checks_p s rest = run_to_end after finished s (found_by checks_p rest).objects (found_by checks_p rest).fault

pub goes_on : {S Y : Type 0} (after : Object → S → Result S MessageFault) (finished : S → Option ObjectFault → Result Y MessageFault) (s t : S) (found rest : Found) (read : Result Object BodyFault) (total : Result Y MessageFault)
    → found ≡ begun_by read rest → taken_by after read s ≡ Ok t
    → run_to_end after finished s found.objects found.fault ≡ total → run_to_end after finished t rest.objects rest.fault ≡ total
goes_on after finished s t found rest (Ok object) total one took so_far =
    ap (λ (r : _). (r >>= λ u. run after u rest.objects) >>= λ u. finished u rest.fault) (sym took)
    ∙ ap (λ (g : Found). run_to_end after finished s g.objects g.fault) (sym one) ∙ so_far
goes_on after finished s t found rest (Err fault) total one took so_far = cc

only_memory : {S Y : Type 0} (e : MessageFault) (none : Result S MessageFault) (total : Result Y MessageFault) → none ≡ Err OutOfMemory → Fails e none → Fails e total
only_memory BadHeader none total is failed = cc
only_memory (BadObject f a) none total is failed = cc
only_memory (Missing k a) none total is failed = cc
only_memory (MissingIdentifiers a) none total is failed = cc
only_memory (BadP a) none total is failed = cc
only_memory (Refused k v a) none total is failed = cc
only_memory OutOfMemory none total is failed = tt

pub takes_none : {S Y : Type 0} (after : Object → S → Result S MessageFault) (finished : S → Option ObjectFault → Result Y MessageFault) (s : S) (found rest : Found) (read : Result Object BodyFault) (e : MessageFault) (total : Result Y MessageFault)
    → found ≡ begun_by read rest → Fails e (taken_by after read s)
    → run_to_end after finished s found.objects found.fault ≡ total → Fails e total
takes_none after finished s found rest (Ok object) e total one failed so_far =
    fails_from e (run after s (object ∷ rest.objects)) (λ u. finished u rest.fault) total
    (fails_from e (after object s) (λ u. run after u rest.objects) (run after s (object ∷ rest.objects)) failed refl)
    (ap (λ (g : Found). run_to_end after finished s g.objects g.fault) (sym one) ∙ so_far)
takes_none after finished s found rest (Err fault) e total one failed so_far = only_memory e (taken_by after (Err fault) s) total refl failed

pub stops : {S Y : Type 0} (after : Object → S → Result S MessageFault) (finished : S → Option ObjectFault → Result Y MessageFault) (s : S) (found : Found) (fault : ObjectFault) (total : Result Y MessageFault)
    → found ≡ stopped_by fault → run_to_end after finished s found.objects found.fault ≡ total → finished s (Some fault) ≡ total
stops after finished s found fault total one so_far = ap (λ (g : Found). run_to_end after finished s g.objects g.fault) (sym one) ∙ so_far

pub ends : {S Y : Type 0} (after : Object → S → Result S MessageFault) (finished : S → Option ObjectFault → Result Y MessageFault) (s : S) (found : Found) (total : Result Y MessageFault)
    → found ≡ nothing_found → run_to_end after finished s found.objects found.fault ≡ total → finished s None ≡ total
ends after finished s found total one so_far = ap (λ (g : Found). run_to_end after finished s g.objects g.fault) (sym one) ∙ so_far

pub is_fault : {Y : Type 0} (e : MessageFault) (total : Result Y MessageFault) → total ≡ Err e → Fails e total
is_fault BadHeader total is = is
is_fault (BadObject f a) total is = is
is_fault (Missing k a) total is = is
is_fault (MissingIdentifiers a) total is = is
is_fault (BadP a) total is = is
is_fault (Refused k v a) total is = is
is_fault OutOfMemory total is = tt
