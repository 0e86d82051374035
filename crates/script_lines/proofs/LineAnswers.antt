-- What lines print, one after the other.
use Rattle.std.proofs.Common.{◌≡◌, ℕ, List, [], ◌∷◌, ◌++◌, Result, Ok, Err, refl, sym, ap, ◌∙◌, append_assoc}
use Rattle.std.proofs.lemmas.List.{append-nil}
use Rattle.history_core.specs.declared.fault.Fault.TheVariants.{OutOfMemory, HistoryFull}
use Rattle.script_lines.specs.LineAnswer.{LineAnswer, line_answer, ◌>>=◌, behind, each, Fails}
use Rattle.script_lines.specs.declared.fault.CommandFault.{CommandFault}
use Rattle.script_lines.specs.declared.fault.CommandFault.TheVariants.{BadLine, Store}

pub behind_nothing : {S : Type 0} (r : Result (LineAnswer S) CommandFault) → behind [] r ≡ r
behind_nothing (Ok t) = refl
behind_nothing (Err fault) = refl

behind_both : {S : Type 0} (a b : List ℕ) (r : Result (LineAnswer S) CommandFault) → behind a (behind b r) ≡ behind (a ++ b) r
behind_both a b (Ok t) = ap (λ (text : List ℕ). Ok (line_answer text t.after)) (sym (append_assoc a b t.text))
behind_both a b (Err fault) = refl

more : {S : Type 0} (text : List ℕ) (r : Result (LineAnswer S) CommandFault) (go_on : S → Result (LineAnswer S) CommandFault)
    → behind text (r >>= λ first. behind first.text (go_on first.after)) ≡ (behind text r >>= λ first. behind first.text (go_on first.after))
more text (Ok t) go_on = behind_both text t.text (go_on t.after)
more text (Err fault) go_on = refl

-- the first line has its answer, and the others go on after it
pub each_goes_on : {X S : Type 0} (line : X → S → Result (LineAnswer S) CommandFault) (x : X) (xs : List X) (s after : S) (text new : List ℕ)
    → behind text (line x s) ≡ Ok (line_answer new after) → behind text (each line (x ∷ xs) s) ≡ behind new (each line xs after)
each_goes_on line x xs s after text new e = more text (line x s) (each line xs) ∙ ap (λ r. r >>= λ first. behind first.text (each line xs first.after)) e

pub fails_more : {S T : Type 0} (fault : CommandFault) (r : Result (LineAnswer S) CommandFault) (go_on : LineAnswer S → Result T CommandFault) → Fails fault r → Fails fault (r >>= go_on)
fails_more BadLine r go_on h = ap (λ r. r >>= go_on) h
fails_more (Store OutOfMemory) r go_on h = tt
fails_more (Store HistoryFull) r go_on h = ap (λ r. r >>= go_on) h

pub fails_as : {T : Type 0} (fault : CommandFault) (a b : Result T CommandFault) → a ≡ b → Fails fault a → Fails fault b
fails_as BadLine a b e h = sym e ∙ h
fails_as (Store OutOfMemory) a b e h = tt
fails_as (Store HistoryFull) a b e h = sym e ∙ h

-- if the first line has a fault, so have all of them
pub each_fails : {X S : Type 0} (line : X → S → Result (LineAnswer S) CommandFault) (x : X) (xs : List X) (s : S) (text : List ℕ) (whole : Result (LineAnswer S) CommandFault) (fault : CommandFault)
    → behind text (each line (x ∷ xs) s) ≡ whole → Fails fault (behind text (line x s)) → Fails fault whole
each_fails line x xs s text whole fault e h =
    fails_as fault (behind text (line x s) >>= λ first. behind first.text (each line xs first.after)) whole (sym (more text (line x s) (each line xs)) ∙ e)
    (fails_more fault (behind text (line x s)) (λ first. behind first.text (each line xs first.after)) h)

-- no lines are left
pub each_ends : {X S : Type 0} (line : X → S → Result (LineAnswer S) CommandFault) (xs : List X) (s : S) (text : List ℕ) → xs ≡ [] → behind text (each line xs s) ≡ Ok (line_answer text s)
each_ends line [] s text e = ap (λ (all : List ℕ). Ok (line_answer all s)) (append-nil text)
each_ends line (x ∷ xs) s text e = absurd (cc)
