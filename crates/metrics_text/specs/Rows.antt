-- What rows of the source's table say.
use Rattle.std.specs.Prelude.{ℕ, Bool, false, List, [], ◌∷◌, cond, map, is_none}
use Rattle.std.specs.Borrow.{Bor}
use Rattle.std.specs.Fmt.{decimal}
use Rattle.std.specs.List.{flat_map}
use Rattle.pcep_word.specs.Address.{text_of}
use Rattle.server_counts.specs.Counts.{count_of, times_of}
use Rattle.server_counts.specs.Times.{bounds}
use Rattle.metrics_text.specs.declared.format.LabelText.{LabelText}
use Rattle.metrics_text.specs.declared.format.LabelText.TheVariants.{Text, Whole, Address, Bound}
use Rattle.metrics_text.specs.declared.format.Metric.{Metric}
use Rattle.metrics_text.specs.declared.table.Family.{Family as Row}
use Rattle.metrics_text.specs.declared.table.Sources.{Sources}
use Rattle.metrics_text.specs.declared.table.Samples.{Samples}
use Rattle.metrics_text.specs.declared.table.Samples.TheVariants.{One, Known, Count, Build, Counts, Steps, Errors, Times, States, Broken, PeersUp, PeerLsps, PeerGrants, LinkInfo, Reservable, Unreserved}
use Rattle.metrics_text.specs.Exposition.{Family, Sample, bound_text, samples_text}
use Rattle.metrics_text.specs.Samples.{broken_in, build, counts, errors, grants_of_each, known, link_info, lsps_of_each, one, peers_up, reservable, state_counts, steps, times, unreserved}
use Rattle.metrics_text.specs.Table.{every_event, every_number, every_reply, every_state, family, peers_in}

-- the text of a label, before it is escaped
abbrev pub label_of : LabelText → List ℕ
label_of (Text s) = s.now
label_of (Whole n) = decimal n
label_of (Address a) = text_of a
label_of (Bound us) = bound_text us

abbrev pub labels_of : List LabelText → List (List ℕ)
labels_of labels = map label_of labels

abbrev pub names_of : List (Bor (List ℕ)) → List (List ℕ)
names_of names = map (λ (name : Bor (List ℕ)). name.now) names

-- the lines of a metric's samples
abbrev pub lines_of : Metric → List Sample → List ℕ
lines_of m ss = samples_text m.name.now (names_of m.labels.now) ss

abbrev pub samples_of : Sources → Samples → List Sample
samples_of of (One n) = one n
samples_of of (Known n) = known n
samples_of of (Count what) = one (count_of (of.counters).now what)
samples_of of Build = build (of.info).now
samples_of of (Counts whats) = counts (of.counters).now whats.now
samples_of of Steps = steps (of.counters).now every_event every_reply
samples_of of (Errors way) = errors (of.counters).now way every_number every_number
samples_of of (Times what) = times bounds (times_of what (of.counters).now)
samples_of of States = state_counts (of.states).now every_state
samples_of of Broken = one (broken_in (of.states).now)
samples_of of PeersUp = peers_up (peers_in (of.numbers).now)
samples_of of PeerLsps = lsps_of_each (of.states).now every_state (peers_in (of.numbers).now)
samples_of of PeerGrants = grants_of_each (((of.numbers).now).peers).grants.items (peers_in (of.numbers).now)
samples_of of LinkInfo = link_info (((of.numbers).now).book).nodes.items (((of.numbers).now).book).links.items
samples_of of Reservable = reservable (((of.numbers).now).book).nodes.items (((of.numbers).now).book).links.items
samples_of of Unreserved = unreserved (((of.numbers).now).book).nodes.items (((of.numbers).now).book).links.items (((of.numbers).now).book).left.items

abbrev pub is_left_out : Samples → Bool
is_left_out (Known n) = is_none n
is_left_out s = false

abbrev pub row_family : Sources → Row → Family
row_family of row = family (row.metric).kind (row.metric).name.now (row.metric).help.now (names_of (row.metric).labels.now) (samples_of of row.samples)

abbrev pub row_families : Sources → Row → List Family
row_families of row = cond (is_left_out row.samples) [] (row_family of row ∷ [])

abbrev pub rows_families : Sources → List Row → List Family
rows_families of rows = flat_map (row_families of) rows
