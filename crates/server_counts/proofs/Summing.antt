-- The counts of steps add up to the number of steps.
use Rattle.std.proofs.Common.{◌≡◌, ◌<◌, ◌≤◌, ◌+◌, ◌-◌, ◌*◌, ◌^◌, ℕ, true, false, List, [], ◌∷◌, length, take, set, get_or, replicate, min, cond, refl, ap, sym, ◌∙◌, arith}
use Rattle.std.specs.List.{sum, sum_by, count_by}
use Rattle.std.proofs.Math.Seq.{take-set-lt}
use Rattle.std.proofs.lemmas.List.{get_or-take, length-replicate, length-set, length-take-le, take-replicate, take-set-le}
use Rattle.std.proofs.lemmas.List.Folds.{sum_by-replicate}
use Rattle.std.proofs.lemmas.List.Sums.{count_by-le-length, get_or-le-sum_by, sum_by-cons, sum_by-set}
use Rattle.pce_seen.specs.declared.steps.EventKind.{EventKind}
use Rattle.pce_seen.specs.declared.steps.EventKind.TheVariants as event
use Rattle.history_core.specs.declared.step.Brief.{Brief}
use Rattle.history_core.specs.declared.step.Brief.TheVariants as brief
use Rattle.server_counts.specs.declared.kinds.Counted.{Counted}
use Rattle.server_counts.specs.declared.kinds.Counted.TheVariants as of
use Rattle.server_counts.specs.Counts.{all_added, is_step, steps_of}
use Rattle.server_counts.specs.Places.{event_number, place, reply_number}

event_low : (e : EventKind) → event_number e < 13
event_low event.Up = omega arith
event_low event.Report = omega arith
event_low event.Marker = omega arith
event_low event.Down = omega arith
event_low event.Expire = omega arith
event_low event.Ask = omega arith
event_low event.Take = omega arith
event_low event.Commit = omega arith
event_low event.Drain = omega arith
event_low event.Refused = omega arith
event_low event.Return = omega arith
event_low event.Delete = omega arith
event_low event.Reload = omega arith

reply_low : (r : Brief) → reply_number r < 15
reply_low brief.Done = omega arith
reply_low (brief.Booked false) = omega arith
reply_low (brief.Booked true) = omega arith
reply_low (brief.Asked ticket) = omega arith
reply_low (brief.Job ticket) = omega arith
reply_low brief.Idle = omega arith
reply_low (brief.Granted srp) = omega arith
reply_low brief.Answered = omega arith
reply_low brief.Again = omega arith
reply_low brief.NoPath = omega arith
reply_low brief.GivenUp = omega arith
reply_low brief.Gone = omega arith
reply_low (brief.Removing srp) = omega arith
reply_low (brief.Out messages) = omega arith
reply_low (brief.Refused why) = omega arith

step_low : (e : EventKind) (r : Brief) → place (of.Step e r) < 195
step_low e r = omega (arith, event_low e, reply_low r)

-- one of the first numbers is replaced
replaced : (few i y : ℕ) (xs : List ℕ) → i < few → few ≤ length xs → sum (take few (set xs i y)) + get_or xs i 0 ≡ sum (take few xs) + y
replaced few i y xs low long =
    let front : length (take few xs) ≡ few = length-take-le few xs long in
    let same : get_or (take few xs) i 0 ≡ get_or xs i 0 = get_or-take few xs i 0 low in
    ap (λ n. sum (take few (set xs i y)) + n) (sym same)
    ∙ ap (λ ys. sum ys + get_or (take few xs) i 0) (take-set-lt few xs i y low)
    ∙ sum_by-set (λ x. x) (take few xs) i y 0 (omega (arith, front, low))

-- one of the first numbers is at most their sum
within : (few i : ℕ) (xs : List ℕ) → i < few → few ≤ length xs → get_or xs i 0 ≤ sum (take few xs)
within few i xs low long =
    let front : length (take few xs) ≡ few = length-take-le few xs long in
    omega (arith, get_or-le-sum_by (λ x. x) (take few xs) i 0 (omega (arith, front, low)), get_or-take few xs i 0 low)

-- a number below the bound rises by one
rises : (few i bound : ℕ) (xs : List ℕ) → i < few → few ≤ length xs → sum (take few xs) < bound → sum (take few (set xs i (min (get_or xs i 0 + 1) bound))) ≡ sum (take few xs) + 1
rises few i bound xs low long less =
    omega (arith, replaced few i (min (get_or xs i 0 + 1) bound) xs low long, within few i xs low long, less)

pub record Counts (happened : List Counted) : Type 0 where
  pub long : length ((all_added happened).numbers) ≡ 2306
  pub same : steps_of (all_added happened) ≡ count_by is_step happened

numbered : (what : Counted) (before : List Counted) → length ((all_added before).numbers) ≡ 2306 → length ((all_added (what ∷ before)).numbers) ≡ 2306
numbered what before long = length-set ((all_added before).numbers) (place what) _ ∙ long

-- counting something that is no step changes none of the first numbers
passed : (what : Counted) (before : List Counted) → 195 ≤ place what → steps_of (all_added (what ∷ before)) ≡ steps_of (all_added before)
passed what before high = ap sum (take-set-le 195 ((all_added before).numbers) (place what) _ high)

other : (what : Counted) (before : List Counted) → Counts before → 195 ≤ place what → count_by is_step (what ∷ before) ≡ count_by is_step before → Counts (what ∷ before)
other what before c high none = record { long = numbered what before c.long; same = passed what before high ∙ c.same ∙ sym none }

counted_more : (e : EventKind) (r : Brief) (before : List Counted) → count_by is_step before + 1 ≡ count_by is_step (of.Step e r ∷ before)
counted_more e r before =
    let cons : count_by is_step (of.Step e r ∷ before) ≡ 1 + count_by is_step before = sum_by-cons (λ (x : Counted). cond (is_step x) 1 0) (of.Step e r) before in omega (arith, cons)

step : (e : EventKind) (r : Brief) (before : List Counted) → Counts before → length before + 1 < 2 ^ 64 → Counts (of.Step e r ∷ before)
step e r before c few =
    let numbers = (all_added before).numbers in
    let less : sum (take 195 numbers) < 2 ^ 64 - 1 = omega (arith, c.same, count_by-le-length is_step before, few) in
    let more : sum (take 195 (set numbers (place (of.Step e r)) (min (get_or numbers (place (of.Step e r)) 0 + 1) (2 ^ 64 - 1)))) ≡ sum (take 195 numbers) + 1 = rises 195 (place (of.Step e r)) (2 ^ 64 - 1) numbers (step_low e r) (omega (arith, c.long)) less in
    record { long = numbered (of.Step e r) before c.long; same = more ∙ ap (λ (n : ℕ). n + 1) c.same ∙ counted_more e r before }

pub counts : (happened : List Counted) → length happened < 2 ^ 64 → Counts happened
counts [] few = record { long = length-replicate {A = ℕ} 2306 0; same = ap sum (take-replicate 195 2306 0 (omega arith)) ∙ sum_by-replicate (λ x. x) 195 0 }
counts (of.Step e r ∷ before) few = step e r before (counts before (omega (arith, few))) (omega (arith, few))
counts ((of.Refusal number) ∷ before) few = other (of.Refusal number) before (counts before (omega (arith, few))) (omega arith) refl
counts (of.Accepted ∷ before) few = other of.Accepted before (counts before (omega (arith, few))) (omega arith) refl
counts (of.Stranger ∷ before) few = other of.Stranger before (counts before (omega (arith, few))) (omega arith) refl
counts ((of.Ended reason) ∷ before) few = other (of.Ended reason) before (counts before (omega (arith, few))) (omega arith) refl
counts ((of.Received message) ∷ before) few = other (of.Received message) before (counts before (omega (arith, few))) (omega arith) refl
counts ((of.Sent message) ∷ before) few = other (of.Sent message) before (counts before (omega (arith, few))) (omega arith) refl
counts ((of.ErrorSent kind value) ∷ before) few = other (of.ErrorSent kind value) before (counts before (omega (arith, few))) (omega arith) refl
counts ((of.ErrorReceived kind value) ∷ before) few = other (of.ErrorReceived kind value) before (counts before (omega (arith, few))) (omega arith) refl
counts (of.NoAnswer ∷ before) few = other of.NoAnswer before (counts before (omega (arith, few))) (omega arith) refl

pub counted : (happened : List Counted) → length happened < 2 ^ 64 → (length ((all_added happened).numbers) ≡ 2306) × (steps_of (all_added happened) ≡ count_by is_step happened)
counted happened few = ((counts happened few).long, (counts happened few).same)
