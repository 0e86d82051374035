-- `history N`: the last steps of the kept history.
use Rattle.std.specs.Prelude.{ℕ, ◌+◌, ◌-◌, ◌^◌, min, List, [], ◌∷◌, codes, Option, Some, None, ◌≡◌, length, map, drop}
use Rattle.json.specs.Json.{Json, string, array, object, Items, no_items, item, no_members, member, document}
use Rattle.pce_view.specs.declared.history.KnownStep.{KnownStep}
use Rattle.pce_view.specs.Fields.{address_or_null, whole_or_null}
use Rattle.pce_view.specs.Json.{whole}
use Rattle.pce_view.specs.Words.{event_word}
use Rattle.step_core.specs.declared.event.Event.{Event}
use Rattle.step_core.specs.declared.event.Event.TheVariants as event
use Rattle.history_core.specs.Briefs.{brief_number, brief_word}
use Rattle.history_core.specs.declared.step.Step.{Step}
use Rattle.database_looks.specs.Steps.{kind_of}
use Rattle.history_core.specs.Histories.{Content}
use Rattle.pce_view.specs.declared.history.LastSteps.{LastSteps}

-- a kept step by its place among all steps
unfoldable pub step_json : ℕ → KnownStep → Json
step_json place x = object
    (member (codes "step") (whole place)
    (member (codes "event") (string (event_word x.event))
    (member (codes "peer") (address_or_null x.peer)
    (member (codes "outcome") (string (brief_word x.reply))
    (member (codes "number") (whole_or_null (brief_number x.reply))
    no_members)))))

-- each step, counted from the number of the first plus this number
abbrev pub step_items : ℕ → ℕ → List KnownStep → Items
step_items first number [] = no_items
step_items first number (x ∷ xs) = item (step_json (min (first + number) (2 ^ 64 - 1)) x) (step_items first (number + 1) xs)

abbrev pub steps_json : ℕ → List KnownStep → Json
steps_json first xs = object (member (codes "steps") (array (step_items first 0 xs)) no_members)

-- the peer that the event itself names: a ticket is taken and committed by its number
abbrev pub peer_of_event : Event → Option ℕ
peer_of_event (event.Up peer capabilities) = Some peer
peer_of_event (event.Report peer report) = Some peer
peer_of_event (event.Marker peer) = Some peer
peer_of_event (event.Down peer) = Some peer
peer_of_event (event.Expire peer) = Some peer
peer_of_event (event.Ask peer purpose) = Some peer
peer_of_event event.Take = None
peer_of_event (event.Commit ticket offer) = None
peer_of_event (event.Drain peer) = Some peer
peer_of_event (event.Refused peer srp) = Some peer
peer_of_event (event.Return peer plsp) = Some peer
peer_of_event (event.Delete peer plsp) = Some peer
peer_of_event (event.Reload links) = None

abbrev pub known_step : Step → KnownStep
known_step x = record { event = kind_of x.event; peer = peer_of_event x.event; reply = x.brief }

-- the last of the kept steps, `last` at most
pub record SeesSteps (last : ℕ) (d : Content) (seen : LastSteps) : Type 0 where
  pub first : seen.first ≡ d.rolled + (length d.history - last)
  pub steps : seen.steps.items ≡ map known_step (drop (length d.history - last) d.history)

-- a reader of JSON reads the text as what was seen
abbrev pub ReadsHistory : LastSteps → List ℕ → Type 0
ReadsHistory steps text = document text ≡ Some (steps_json steps.first steps.steps.items)
