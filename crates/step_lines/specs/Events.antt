-- The words of an event. Each ends in a space; numbers are decimal, addresses dotted, names and messages hexadecimal, and
-- `-` stands for what is missing.
use Rattle.std.specs.Prelude.{ℕ, List, [], ◌∷◌, codes, Option, Some, None, if◌then◌else◌}
use Rattle.std.specs.Fmt.{decimal}
use Rattle.asks.specs.declared.ask.PathLimits.{PathLimits}
use Rattle.asks.specs.declared.ask.PathWanted.{PathWanted}
use Rattle.lsp_words.specs.declared.object.Capabilities.{Capabilities}
use Rattle.lsp_words.specs.declared.object.Colours.{Colours}
use Rattle.lsp_words.specs.declared.object.MetricType.{MetricType}
use Rattle.lsp_words.specs.declared.object.MetricType.TheVariants.{Igp, Te, Hops}
use Rattle.link_reload.specs.declared.entry.LinkReload.{LinkReload}
use Rattle.commit_core.specs.declared.ticket.Purpose.{Purpose}
use Rattle.commit_core.specs.declared.ticket.Purpose.TheVariants as purpose
use Rattle.step_core.specs.declared.event.Event.{Event}
use Rattle.step_core.specs.declared.event.Event.TheVariants as event
use Rattle.item_messages.specs.Reports.{report_written}
use Rattle.item_messages.specs.Requests.{request_written}
use Rattle.step_lines.specs.Requests.{request_for}
use Rattle.step_lines.specs.Wanted.{wanted_of}
use Rattle.line_words.specs.Joined.{◌+>◌}
use Rattle.line_words.specs.Written.{number_word, address_word, hex_word, or_dash}

-- ---- what is asked of a path

abbrev pub metric_word : MetricType → List ℕ
metric_word Te = codes "te "
metric_word Igp = codes "igp "
metric_word Hops = codes "hops "

abbrev pub bound_word : Option ℕ → List ℕ
bound_word bound = or_dash number_word bound

-- those that no link of the path has, of which each link has one, and all of which each link has
abbrev pub colour_words : Colours → List ℕ
colour_words c = number_word c.exclude_any +> number_word c.include_any +> number_word c.include_all

-- the metric that is to be least, the most of it, the most hops, and colours
abbrev pub limit_words : PathLimits → List ℕ
limit_words l = metric_word l.minimise +> bound_word l.max_cost +> bound_word l.max_hops +> colour_words l.colours

-- both ends, bandwidth, setup and holding priority, and limits
abbrev pub wanted_words : PathWanted → List ℕ
wanted_words w =
    address_word w.from +> address_word w.to +> number_word w.bandwidth +> number_word (w.priorities).setup +> number_word (w.priorities).hold +> limit_words w.limits

unfoldable pub purpose_words : Purpose → List ℕ
purpose_words (purpose.Update plsp) = codes "update " +> number_word plsp
purpose_words (purpose.Initiate name c) = codes "initiate " +> hex_word name +> wanted_words (wanted_of c)
purpose_words (purpose.Answer request plsp c) = codes "answer " +> hex_word (request_written (request_for request plsp c))

-- ---- links

-- link numbers, each after a comma
abbrev pub more_links : List ℕ → List ℕ
more_links [] = []
more_links (link ∷ links) = codes "," +> decimal link +> more_links links

-- link numbers joined by commas
abbrev pub path_text : List ℕ → List ℕ
path_text [] = []
path_text (link ∷ links) = decimal link +> more_links links

-- what a search answered: `none`, or the links of a path
abbrev pub offer_text : Option (List ℕ) → List ℕ
offer_text None = codes "none"
offer_text (Some links) = path_text links

-- a link, its metrics, its colours and what may be reserved
abbrev pub entry_words : LinkReload → List ℕ
entry_words entry =
    let values = entry.values in
    number_word entry.link +> number_word values.igp +> number_word values.te +> number_word values.colour +> number_word values.reservable

-- links and their values, each after `;`
abbrev pub more_entries : List LinkReload → List ℕ
more_entries [] = []
more_entries (entry ∷ entries) = codes "; " +> entry_words entry +> more_entries entries

-- links and their values, joined by `;`
abbrev pub entries_words : List LinkReload → List ℕ
entries_words [] = []
entries_words (entry ∷ entries) = entry_words entry +> more_entries entries

-- ---- events

-- what a peer's STATEFUL-PCE-CAPABILITY lets the PCE do; `-` if it sent none
abbrev pub capability_words : Option Capabilities → List ℕ
capability_words None = codes "- "
capability_words (Some c) = (if c.update then codes "update " else []) +> (if c.create then codes "initiate " else [])

unfoldable pub event_words : Event → List ℕ
event_words (event.Up peer sent) = codes "up " +> address_word peer +> capability_words sent
event_words (event.Report peer report) = codes "report " +> address_word peer +> hex_word (report_written report)
event_words (event.Marker peer) = codes "marker " +> address_word peer
event_words (event.Down peer) = codes "down " +> address_word peer
event_words (event.Expire peer) = codes "expire " +> address_word peer
event_words (event.Ask peer purpose) = codes "ask " +> address_word peer +> purpose_words purpose
event_words event.Take = codes "take "
event_words (event.Commit ticket offer) = codes "commit " +> number_word ticket +> offer_text offer +> codes " "
event_words (event.Drain peer) = codes "drain " +> address_word peer
event_words (event.Refused peer srp) = codes "refused " +> address_word peer +> number_word srp
event_words (event.Return peer plsp) = codes "return " +> address_word peer +> number_word plsp
event_words (event.Delete peer plsp) = codes "delete " +> address_word peer +> number_word plsp
event_words (event.Reload entries) = codes "reload " +> entries_words entries
