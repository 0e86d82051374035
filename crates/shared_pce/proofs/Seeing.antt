-- A seat that has seen more, and what that means for its next step.
use Rattle.std.proofs.Common.{◌≡◌, ◌++◌, ℕ, Bool, true, false, List, [], ◌∷◌, Option, None, Some, Result, Ok, Err, refl, sym, subst, ◌∙◌, ap, append_assoc}
use Rattle.std.proofs.lemmas.List.{append-nil}
use Rattle.std.specs.Prelude.{IfOk, OnErr, if◌then◌else◌}
use mathlib.Core.List.{IsPrefix}
use Rattle.te_base.specs.Ted.{Ted}
use Rattle.step_core.specs.declared.event.Event.{Event}
use Rattle.step_core.specs.declared.event.Reply.{Reply}
use Rattle.history_core.specs.Histories.{Content, steps_of}
use Rattle.history_tokens.specs.declared.rule.Happening.{Happening}
use Rattle.history_tokens.specs.declared.rule.Happening.TheVariants.{Took, Rolled}
use Rattle.history_seats.specs.Past.{database_at, with_seen, stepped_at}
use Rattle.history_seats.specs.Receipts.{SeatContent, received, folded, after_fold, are_past}
use Rattle.shared_pce.specs.Turns.{Received, RollsIf, SeesMore}

prefix_trans : (a b c : List (Happening Event)) → IsPrefix a b → IsPrefix b c → IsPrefix a c
prefix_trans a b c h k = (h.0 ++ k.0, sym (append_assoc a h.0 k.0) ∙ ap (λ (xs : List (Happening Event)). xs ++ k.0) h.1 ∙ k.1)

pub sees_on : (a b c : SeatContent) → SeesMore a b → SeesMore b c → SeesMore a c
sees_on a b c h k = record {
  begins = prefix_trans a.seen b.seen c.seen h.begins k.begins;
  same = k.same ∙ ap (λ (s : SeatContent). with_seen c.seen s) h.same;
}

-- the seat was shown all that had happened
pub shown_seen : (past : List (Happening Event)) (old new : SeatContent) → IsPrefix old.seen past → new ≡ with_seen past old → SeesMore old new
shown_seen past old new begins is = record {
  begins = subst (λ (h : List (Happening Event)). IsPrefix old.seen h) (sym (ap (λ (s : SeatContent). s.seen) is)) begins;
  same = is ∙ ap (λ (h : List (Happening Event)). with_seen h old) (sym (ap (λ (s : SeatContent). s.seen) is));
}

-- what a seat had seen before doesn't matter for the receipt
stepped_by : (seen past : List (Happening Event)) (s : SeatContent) (place : ℕ) (event : Event) (reply : Reply) (b : Bool)
    → with_seen past (received (if b then folded (with_seen seen s) else with_seen seen s) place event reply) ≡ with_seen past (received (if b then folded s else s) place event reply)
stepped_by seen past s place event reply true = refl
stepped_by seen past s place event reply false = refl

stepped_seen : (text : Ted) (past : List (Happening Event)) (event : Event) (reply : Reply) (seen : List (Happening Event)) (s : SeatContent) → stepped_at text past event reply (with_seen seen s) ≡ stepped_at text past event reply s
stepped_seen text past event reply seen s =
    let d = database_at text past in
    stepped_by seen (past ++ Took event ∷ []) s (steps_of d) event reply (are_past s.floor d.rolled s.receipts)

pub received_on : (text : Ted) (a b c : SeatContent) (event : Event) (reply : Reply) → SeesMore a b → Received text b event c reply → Received text a event c reply
received_on text a b c event reply h k =
    (k.0, prefix_trans a.seen b.seen k.0 h.begins k.1, k.2, k.3 ∙ ap (λ (s : SeatContent). stepped_at text k.0 event reply s) h.same ∙ stepped_seen text k.0 event reply b.seen a)

-- the seat sees a roll, and is otherwise unchanged
pub rolls_seen : (due : Content → Bool) (text : Ted) (old new : SeatContent) (r : Option ℕ) → RollsIf due text old new r → SeesMore old new
rolls_seen due text old new None h = h.0
rolls_seen due text old new (Some steps) h = record {
  begins = prefix_trans old.seen h.0 new.seen h.1 (Rolled ∷ [], sym (ap (λ (s : SeatContent). s.seen) h.4));
  same = h.4 ∙ ap (λ (seen : List (Happening Event)). with_seen seen old) (sym (ap (λ (s : SeatContent). s.seen) h.4));
}

-- the same if memory ran out
pub rolled_seen : {E : Type 0} (due : Content → Bool) (text : Ted) (old new : SeatContent) (r : Result (Option ℕ) E) → IfOk r (RollsIf due text old new) → OnErr r (SeesMore old new) → SeesMore old new
rolled_seen due text old new (Ok o) h k = rolls_seen due text old new o h
rolled_seen due text old new (Err e) h k = k

-- what a seat had seen before doesn't matter for what it folds
tidied_by : (seen after : List (Happening Event)) (s : SeatContent) (b : Bool) → with_seen after (if b then folded (with_seen seen s) else with_seen seen s) ≡ with_seen after (if b then folded s else s)
tidied_by seen after s true = refl
tidied_by seen after s false = refl

pub tidied_on : (rolled : ℕ) (a b c : SeatContent) → SeesMore a b → c ≡ with_seen c.seen (after_fold rolled b) → c ≡ with_seen c.seen (after_fold rolled a)
tidied_on rolled a b c h is =
    is ∙ ap (λ (s : SeatContent). with_seen c.seen (after_fold rolled s)) h.same ∙ tidied_by b.seen c.seen a (are_past a.floor rolled a.receipts)
