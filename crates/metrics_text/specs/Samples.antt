-- The samples of metrics.
use Rattle.std.specs.Prelude.{ℕ, ◌+◌, ◌-◌, ◌^◌, ◌==◌, ◌&&◌, min, ℤ, nat_eq, Bool, true, false, List, [], ◌∷◌, ◌++◌, cond, filter, fold, length, map, slice_get, Option, Some, None}
use Rattle.std.specs.Fmt.{decimal}
use Rattle.std.specs.List.{flat_map}
use Rattle.pcep_word.specs.Address.{text_of}
use Rattle.te_base.specs.declared.network.Node.{Node}
use Rattle.te_base.specs.declared.network.Link.{Link}
use Rattle.server_counts.specs.Counts.{count_of}
use Rattle.server_counts.specs.declared.counters.Counters.{Counters}
use Rattle.server_counts.specs.declared.histogram.Histogram.{Histogram}
use Rattle.server_counts.specs.declared.kinds.Counted.{Counted}
use Rattle.server_counts.specs.declared.kinds.Counted.TheVariants as counted
use Rattle.history_core.specs.Briefs.{brief_word}
use Rattle.history_core.specs.declared.step.Brief.{Brief}
use Rattle.server_counts.specs.declared.stream.Way.{Way}
use Rattle.server_counts.specs.declared.stream.Way.TheVariants.{In, Out}
use Rattle.pce_seen.specs.declared.peers.PeerSession.{PeerSession}
use Rattle.pce_seen.specs.declared.steps.EventKind.{EventKind}
use Rattle.pce_view.specs.Fields.{name_at}
use Rattle.pce_view.specs.Words.{event_word}
use Rattle.pce_view.specs.declared.question.ServerInfo.{ServerInfo}
use Rattle.pce_view.specs.declared.shown_states.ShownState.{ShownState}
use Rattle.pce_view.specs.declared.states.LspState.{LspState}
use Rattle.pce_view.specs.declared.states.LspState.TheVariants as state
use Rattle.metrics_text.specs.Exposition.{Sample, bound_text, sample}
use Rattle.metrics_text.specs.Words.{state_label, word_of}
use Rattle.metrics_text.specs.declared.format.Series.TheVariants.{Own, Bucket, Sum, Count}
use Rattle.metrics_text.specs.declared.format.Value.TheVariants.{Whole, Signed, Seconds}

-- a number with these labels
abbrev pub number : List (List ℕ) → ℕ → Sample
number labels n = sample Own labels (Whole n)

abbrev pub one : ℕ → List Sample
one n = number [] n ∷ []

abbrev pub known : Option ℕ → List Sample
known None = []
known (Some n) = one n

-- a number with these labels, if it isn't 0
abbrev pub if_any : List (List ℕ) → ℕ → List Sample
if_any labels n = cond (nat_eq n 0) [] (number labels n ∷ [])

-- which program it is
abbrev pub build : ServerInfo → List Sample
build info = number (info.version.now ∷ info.logic.now ∷ info.commit.now ∷ []) 1 ∷ []

-- ---- what was counted

abbrev pub count : Counters → Counted → Sample
count c what = number (word_of what ∷ []) (count_of c what)

-- how often each of these happened
unfoldable pub counts : Counters → List Counted → List Sample
counts c whats = map (count c) whats

-- the steps of an event, by these replies
abbrev pub step : Counters → EventKind → Brief → List Sample
step c e r = if_any (event_word e ∷ brief_word r ∷ []) (count_of c (counted.Step e r))

unfoldable pub event_steps : Counters → List Brief → EventKind → List Sample
event_steps c rs e = flat_map (step c e) rs

unfoldable pub steps : Counters → List EventKind → List Brief → List Sample
steps c es rs = flat_map (event_steps c rs) es

-- a PCErr that came or was sent
abbrev pub error_of : Way → ℕ → ℕ → Counted
error_of In kind value = counted.ErrorReceived kind value
error_of Out kind value = counted.ErrorSent kind value

abbrev pub error : Counters → Way → ℕ → ℕ → List Sample
error c way kind value = if_any (decimal kind ∷ decimal value ∷ []) (count_of c (error_of way kind value))

unfoldable pub type_errors : Counters → Way → List ℕ → ℕ → List Sample
type_errors c way values kind = flat_map (error c way kind) values

-- the PCErr of these types and values
unfoldable pub errors : Counters → Way → List ℕ → List ℕ → List Sample
errors c way kinds values = flat_map (type_errors c way values) kinds

-- ---- times

abbrev pub more : ℕ → ℕ → ℕ
more total n = min (total + n) (2 ^ 64 - 1)

-- how many times were up to a bound
abbrev pub bucket : Option ℕ → ℕ → Sample
bucket bound_us n = sample Bucket (bound_text bound_us ∷ []) (Whole n)

-- each bucket from this one on, with those of all before
abbrev pub buckets : List ℕ → ℕ → List ℕ → ℕ → List Sample
buckets limits at [] total = []
buckets limits at (n ∷ ns) total = bucket (slice_get limits at) (more total n) ∷ buckets limits (at + 1) ns (more total n)

abbrev pub total_of : List ℕ → ℕ → ℕ
total_of [] total = total
total_of (n ∷ ns) total = total_of ns (more total n)

-- how long all times were together, and how many there were
abbrev pub sums : ℕ → ℕ → List Sample
sums sum_us n = sample Sum [] (Seconds sum_us) ∷ sample Count [] (Whole n) ∷ []

-- the last bucket has no bound, and as many times as there were
unfoldable pub times : List ℕ → Histogram → List Sample
times limits h = buckets limits 0 h.buckets 0 ++ sums h.sum_us (total_of h.buckets 0)

-- ---- the database

abbrev pub state_number : LspState → ℕ
state_number state.Active = 0
state_number state.Up = 1
state_number state.GoingUp = 2
state_number state.GoingDown = 3
state_number state.Down = 4
state_number state.Unplaced = 5
state_number state.Unknown = 6

abbrev pub is_in : LspState → ShownState → Bool
is_in s x = state_number x.state == state_number s

-- how many LSPs are in a state
abbrev pub number_in : LspState → List ShownState → ℕ
number_in s states = length (filter (is_in s) states)

abbrev pub state_count : List ShownState → LspState → Sample
state_count states s = number (state_label s ∷ []) (number_in s states)

unfoldable pub state_counts : List ShownState → List LspState → List Sample
state_counts states each = map (state_count states) each

-- how many paths have a gap
abbrev pub with_broken : ℕ → ShownState → ℕ
with_broken n x = min (n + x.broken_paths) (2 ^ 64 - 1)

unfoldable pub broken_in : List ShownState → ℕ
broken_in states = fold with_broken 0 states

-- ---- each router

abbrev pub flag : Bool → ℕ
flag true = 1
flag false = 0

-- 1 if its session is up
abbrev pub peer_up : PeerSession → Sample
peer_up p = number (text_of p.peer ∷ []) (flag p.is_up)

unfoldable pub peers_up : List PeerSession → List Sample
peers_up ps = map peer_up ps

-- how many of its LSPs are in a state
abbrev pub is_of_peer : ℕ → LspState → ShownState → Bool
is_of_peer peer s x = x.peer == peer && is_in s x

abbrev pub number_of : ℕ → LspState → List ShownState → ℕ
number_of peer s states = length (filter (is_of_peer peer s) states)

abbrev pub lsps_in : List ShownState → ℕ → LspState → Sample
lsps_in states peer s = number (text_of peer ∷ state_label s ∷ []) (number_of peer s states)

unfoldable pub lsps_of : List ShownState → List LspState → PeerSession → List Sample
lsps_of states each p = map (lsps_in states p.peer) each

unfoldable pub lsps_of_each : List ShownState → List LspState → List PeerSession → List Sample
lsps_of_each states each ps = flat_map (lsps_of states each) ps

-- how many of its grants no report has settled
abbrev pub is_owner : ℕ → ℕ → Bool
is_owner peer owner = owner == peer

abbrev pub grants_of : List ℕ → PeerSession → Sample
grants_of owners p = number (text_of p.peer ∷ []) (length (filter (is_owner p.peer) owners))

unfoldable pub grants_of_each : List ℕ → List PeerSession → List Sample
grants_of_each owners ps = map (grants_of owners) ps

-- ---- each link

-- the names of its ends, and its address at the first
abbrev pub link_labels : List Node → Link → List (List ℕ)
link_labels nodes link = name_at nodes link.from ∷ name_at nodes link.to ∷ text_of link.local ∷ []

-- the number of each link, from this one on
abbrev pub numbered : List Node → ℕ → List Link → List Sample
numbered nodes n [] = []
numbered nodes n (link ∷ links) = number (decimal n ∷ link_labels nodes link) 1 ∷ numbered nodes (n + 1) links

unfoldable pub link_info : List Node → List Link → List Sample
link_info nodes links = numbered nodes 0 links

-- what may be reserved of it
abbrev pub link_reservable : List Node → Link → Sample
link_reservable nodes link = number (link_labels nodes link) link.reservable

unfoldable pub reservable : List Node → List Link → List Sample
reservable nodes links = map (link_reservable nodes) links

-- what is left of a link at each priority, from this one on
abbrev pub priorities : List (List ℕ) → ℕ → List ℤ → List Sample
priorities labels priority [] = []
priorities labels priority (left ∷ lefts) = sample Own (labels ++ decimal priority ∷ []) (Signed left) ∷ priorities labels (priority + 1) lefts

-- of a link that is there
unfoldable pub link_unreserved : List Node → Option Link → List ℤ → List Sample
link_unreserved nodes None left = []
link_unreserved nodes (Some link) left = priorities (link_labels nodes link) 0 left

abbrev pub unreserved_from : List Node → List Link → ℕ → List (List ℤ) → List Sample
unreserved_from nodes links n [] = []
unreserved_from nodes links n (left ∷ lefts) = link_unreserved nodes (slice_get links n) left ++ unreserved_from nodes links (n + 1) lefts

unfoldable pub unreserved : List Node → List Link → List (List ℤ) → List Sample
unreserved nodes links lefts = unreserved_from nodes links 0 lefts
