-- What is read about each link before and after a step was left of it then.
use Rattle.std.proofs.Common.{◌≡◌, ◌∙◌, ℕ, Bool, true, false, List, length, map, drop, ap, sym, refl, subst}
use Rattle.std.specs.Prelude.{All, Contains, nat_lt, Result, Ok, Err, OnOk, OnErr, if◌then◌else◌}
use Rattle.std.specs.declared.alloc.AllocError.{AllocError}
use Rattle.std.proofs.lemmas.List.Elements.{All-append, All-contains_itself, All-drop, All-map, All-same, All-weaker}
use Rattle.server_counts.specs.declared.residuals.ResidualRow.{ResidualRow}
use Rattle.step_core.specs.declared.event.Event.{Event}
use Rattle.step_core.specs.declared.event.Reply.{Reply}
use Rattle.step_core.specs.States.{State}
use Rattle.step_core.specs.Steps.{step}
use Rattle.history_core.specs.Histories.{Content, Replays}
use Rattle.shared_pce.specs.Residuals.{adds_path, left_at, links_in, row_after, row_before, with_rows, IsBefore, IsLookedAt, WasLeft}

-- each row belongs to one of the event's links
pub all_before : (d : Content) (e : Event) (priority : ℕ) (rows : List ResidualRow) → rows ≡ map (row_before d priority) (links_in d.state.te e) → All (IsBefore d e priority) rows
all_before d e priority rows is =
    let links : List ℕ = links_in d.state.te e in
    All-same (IsBefore d e priority) rows (map (row_before d priority) links) is
    (All-map (IsBefore d e priority) (row_before d priority) links
    (All-weaker (Contains links) (λ (l : ℕ). IsBefore d e priority (row_before d priority l)) (λ l h. (refl, h)) links (All-contains_itself links)))

module _ (d : Content) (e : Event) (priority : ℕ) (reply : Reply) (now : State) where
  row_was_left : Replays d → IsLookedAt e priority → reply ≡ (step d.state e).reply → now ≡ (step d.state e).state → adds_path reply ≡ true → (r : ResidualRow) → IsBefore d e priority r → WasLeft (row_after now r)
  row_was_left replays at reply_is now_is brought r h =
      let same : r.priority ≡ priority = ap (λ (x : ResidualRow). x.priority) h.0 in
      record {
        d = d;
        e = e;
        replays = replays;
        place = ap (λ (x : ResidualRow). x.step) h.0;
        brought = ap adds_path (sym reply_is) ∙ brought;
        link = h.1;
        priority = subst (IsLookedAt e) (sym same) at;
        before = ap (λ (x : ResidualRow). x.before) h.0 ∙ ap (left_at d.state r.link) (sym same);
        after = ap (λ (s : State). left_at s r.link r.priority) now_is;
      }

  -- each of them was left before and after the step
  pub all_left : (before rows : List ResidualRow) → Replays d → IsLookedAt e priority → All (IsBefore d e priority) before → reply ≡ (step d.state e).reply → now ≡ (step d.state e).state → adds_path reply ≡ true → rows ≡ map (row_after now) before → All WasLeft rows
  all_left before rows replays at all reply_is now_is brought is =
      All-same WasLeft rows (map (row_after now) before) is
      (All-map WasLeft (row_after now) before
      (All-weaker (IsBefore d e priority) (λ (r : ResidualRow). WasLeft (row_after now r)) (row_was_left replays at reply_is now_is brought) before all))

-- ---- the table

kept_by : (b : Bool) (old : List ResidualRow) → All WasLeft old → All WasLeft (if b then old else drop 32768 old)
kept_by true old h = h
kept_by false old h = All-drop WasLeft 32768 old h

-- all kept rows say what was left
pub all_kept : (rows old : List ResidualRow) → All WasLeft rows → All WasLeft old → All WasLeft (with_rows rows old)
all_kept rows old h k = All-append WasLeft (if nat_lt (length old) 65536 then old else drop 32768 old) rows (kept_by (nat_lt (length old) 65536) old k) h

-- so do they if nothing was added
pub all_noted : (r : Result (Unit {0}) AllocError) (rows old new : List ResidualRow) → OnOk r (new ≡ with_rows rows old) → OnErr r (new ≡ old) → All WasLeft rows → All WasLeft old → All WasLeft new
all_noted (Ok u) rows old new added same h k = All-same WasLeft new (with_rows rows old) added (all_kept rows old h k)
all_noted (Err e) rows old new added same h k = All-same WasLeft new old same k
