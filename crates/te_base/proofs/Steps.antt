-- Steps that may fail: what holds of what they give.
use Rattle.std.proofs.Common.{◌≡◌, Bool, true, false, Option, Some, None, Result, Ok, Err, IfOk, refl, if◌then◌else◌}
use Rattle.te_base.specs.Faults.{◌>>=◌, some_or}

pub anything : {A E : Type 0} (r : Result A E) → IfOk r (λ _. Unit {0})
anything (Ok x) = tt
anything (Err e) = tt

-- What a step gives has Q, where its first part has P and what follows makes Q of P.
pub bind : {A B E : Type 0} (r : Result A E) (f : A → Result B E) (P : A → Type 0) (Q : B → Type 0) → IfOk r P → ((x : A) → P x → IfOk (f x) Q) → IfOk (r >>= f) Q
bind (Ok x) f P Q p q = q x p
bind (Err e) f P Q p q = tt

pub after : {A B E : Type 0} (r : Result A E) (f : A → Result B E) (Q : B → Type 0) → ((x : A) → IfOk (f x) Q) → IfOk (r >>= f) Q
after r f Q q = bind r f (λ _. Unit {0}) Q (anything r) (λ x _. q x)

-- a value behind a test
pub when : {A E : Type 0} (b : Bool) (x : A) (e : E) (P : A → Type 0) → (b ≡ true → P x) → IfOk (if b then Ok x else Err e) P
when true x e P p = p refl
when false x e P p = tt

pub unless : {A E : Type 0} (b : Bool) (x : A) (e : E) (P : A → Type 0) → (b ≡ false → P x) → IfOk (if b then Err e else Ok x) P
unless true x e P p = tt
unless false x e P p = p refl

-- a value that is there
pub some_or_is : {A E : Type 0} (e : E) (o : Option A) (P : A → Type 0) → ((x : A) → o ≡ Some x → P x) → IfOk (some_or e o) P
some_or_is e None P p = tt
some_or_is e (Some x) P p = p x refl
