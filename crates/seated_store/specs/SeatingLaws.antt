-- The moves of a seat follow one another.
use Rattle.std.proofs.Common.{◌≡◌, ◌++◌, ℕ, Bool, true, false, List, [], ◌∷◌, refl, sym, ◌∙◌, ap, append_assoc}
use Rattle.std.specs.Prelude.{if◌then◌else◌}
use Rattle.std.specs.Borrow.{MutBor}
use Rattle.std.proofs.lemmas.List.{append-nil}
use mathlib.Core.List.{IsPrefix}
use Rattle.te_base.specs.Ted.{Ted}
use Rattle.step_core.specs.declared.event.Event.{Event}
use Rattle.step_core.specs.declared.event.Reply.{Reply}
use Rattle.history_core.specs.Histories.{steps_of}
use Rattle.history_tokens.specs.declared.rule.Happening.{Happening}
use Rattle.history_tokens.specs.declared.rule.Happening.TheVariants.{Took}
use Rattle.history_seats.specs.Past.{database_at, with_seen, stepped_at}
use Rattle.history_seats.specs.Receipts.{SeatContent, received, folded, are_past}
use Rattle.shared_pce.specs.Turns.{Received, SeesMore}
use Rattle.engine_core.specs.DeedLaws.{added_on}
use Rattle.engine_core.specs.Deeds.{Deed, Sight, Called, Shown}
use Rattle.engine_core.specs.declared.store.Call.{Call}
use Rattle.seated_store.specs.Seating.{Receives, SeatedMoves}

prefix_trans : (a b c : List (Happening Event)) → IsPrefix a b → IsPrefix b c → IsPrefix a c
prefix_trans a b c h k = (h.0 ++ k.0, sym (append_assoc a h.0 k.0) ∙ ap (λ (xs : List (Happening Event)). xs ++ k.0) h.1 ∙ k.1)

pub sees_same : (s : SeatContent) → SeesMore s s
sees_same s = record { begins = ([], append-nil s.seen); same = refl }

sees_on : (a b c : SeatContent) → SeesMore a b → SeesMore b c → SeesMore a c
sees_on a b c h k = record {
  begins = prefix_trans a.seen b.seen c.seen h.begins k.begins;
  same = k.same ∙ ap (λ (s : SeatContent). with_seen c.seen s) h.same;
}

-- what a seat had seen before doesn't matter for the receipt
stepped_by : (seen past : List (Happening Event)) (s : SeatContent) (place : ℕ) (event : Event) (reply : Reply) (b : Bool)
    → with_seen past (received (if b then folded (with_seen seen s) else with_seen seen s) place event reply) ≡ with_seen past (received (if b then folded s else s) place event reply)
stepped_by seen past s place event reply true = refl
stepped_by seen past s place event reply false = refl

stepped_seen : (text : Ted) (past : List (Happening Event)) (event : Event) (reply : Reply) (seen : List (Happening Event)) (s : SeatContent) → stepped_at text past event reply (with_seen seen s) ≡ stepped_at text past event reply s
stepped_seen text past event reply seen s =
    let d = database_at text past in
    stepped_by seen (past ++ Took event ∷ []) s (steps_of d) event reply (are_past s.floor d.rolled s.receipts)

received_on : (text : Ted) (a b c : SeatContent) (event : Event) (reply : Reply) → SeesMore a b → Received text b event c reply → Received text a event c reply
received_on text a b c event reply h k =
    (k.0, prefix_trans a.seen b.seen k.0 h.begins k.1, k.2, k.3 ∙ ap (λ (s : SeatContent). stepped_at text k.0 event reply s) h.same ∙ stepped_seen text k.0 event reply b.seen a)

sees_receives : (text : Ted) (a b c : SeatContent) (deeds : List Deed) → SeesMore a b → Receives text b deeds c → Receives text a deeds c
sees_receives text a b c [] h k = sees_on a b c h k
sees_receives text a b c (Shown sight ∷ deeds) h k = sees_receives text a b c deeds h k
sees_receives text a b c (Called call ∷ deeds) h k = (k.0, received_on text a b k.0 call.event call.reply h k.1, k.2)

receives_on : (text : Ted) (a b c : SeatContent) (first second : List Deed) → Receives text a first b → Receives text b second c → Receives text a (first ++ second) c
receives_on text a b c [] second h k = sees_receives text a b c second h k
receives_on text a b c (Shown sight ∷ first) second h k = receives_on text a b c first second h k
receives_on text a b c (Called call ∷ first) second h k = (h.0, h.1, receives_on text h.0 b c first second h.2 k)

pub moves_nowhere : (text : Ted) (s : MutBor SeatContent) (calls : List Call) → SeatedMoves text s calls [] s calls
moves_nowhere text s calls = record { same_loan = refl; received = sees_same s.now; added = sym (append-nil calls) }

-- showing something leaves the seat as it is
pub moves_shown : (text : Ted) (s : MutBor SeatContent) (calls : List Call) (sight : Sight) → SeatedMoves text s calls (Shown sight ∷ []) s calls
moves_shown text s calls sight = record { same_loan = refl; received = sees_same s.now; added = sym (append-nil calls) }

pub moves_on : (text : Ted) (a b c : MutBor SeatContent) (x y z : List Call) (first second : List Deed) → SeatedMoves text a x first b y → SeatedMoves text b y second c z → SeatedMoves text a x (first ++ second) c z
moves_on text a b c x y z first second h k = record {
  same_loan = k.same_loan ∙ h.same_loan;
  received = receives_on text a.now b.now c.now first second h.received k.received;
  added = added_on x y z first second h.added k.added;
}
