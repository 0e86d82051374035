-- The words of an event have no `=` in them.
use Rattle.std.proofs.Common.{ℕ, ◌^◌, ◌<◌, not, Bool, true, false, List, [], ◌∷◌, codes, Option, Some, None, refl, ◌∙◌, arith}
use Rattle.std.specs.Fmt.{decimal}
use Rattle.std.specs.List.{AllByRecursion}
use Rattle.std.proofs.lemmas.List.Folds.{list_all-append}
use Rattle.hex.specs.Hex.{encode_lower}
use Rattle.asks.specs.declared.ask.PathLimits.{PathLimits}
use Rattle.asks.specs.declared.ask.PathWanted.{PathWanted}
use Rattle.pcep_word.specs.Address.{text_of}
use Rattle.lsp_words.specs.declared.object.Capabilities.{Capabilities}
use Rattle.lsp_words.specs.declared.object.MetricType.{MetricType}
use Rattle.lsp_words.specs.declared.object.MetricType.TheVariants.{Igp, Te, Hops}
use Rattle.link_reload.specs.declared.entry.LinkReload.{LinkReload}
use Rattle.commit_core.specs.declared.ticket.Purpose.{Purpose}
use Rattle.commit_core.specs.declared.ticket.Purpose.TheVariants as purpose
use Rattle.step_core.specs.declared.event.Event.{Event}
use Rattle.step_core.specs.declared.event.Event.TheVariants as event
use Rattle.item_messages.specs.Reports.{report_written}
use Rattle.item_messages.specs.Requests.{request_written}
use Rattle.line_words.specs.Words.{is_equals}
use Rattle.line_words.proofs.Again.{HasNone, no_equals, number_word as number_is_word, address_word as address_is_word, bytes_word}
use Rattle.step_lines.specs.Requests.{request_for}
use Rattle.step_lines.specs.Wanted.{wanted_of}
use Rattle.step_lines.specs.Events.{metric_word, bound_word, colour_words, limit_words, wanted_words, purpose_words, offer_text, entry_words, more_entries, entries_words, capability_words, event_words}
use Rattle.line_words.specs.Written.{number_word, address_word, hex_word}
use Rattle.step_lines.specs.Normal.{MayBeLong, AreLimits, IsWanted, IsPurpose, IsEntry, MayBeLinks, IsEvent}
use Rattle.step_lines.proofs.LinksAgain.{offer_word}
use Rattle.line_words.specs.Joined.{◌+>◌}

abbrev pub Plain : List ℕ → Type 0
Plain text = HasNone is_equals text

pub both : (a b : List ℕ) → Plain a → Plain b → Plain (a +> b)
both a b first second = list_all-append (λ x. not (is_equals x)) a b ∙ rw (first, second) refl

pub number : (n : ℕ) → n < 2 ^ 64 → Plain (number_word n)
number n small = both (decimal n) (codes " ") (no_equals (decimal n) (number_is_word n small)) refl

address : (a : ℕ) → Plain (address_word a)
address a = both (text_of a) (codes " ") (no_equals (text_of a) (address_is_word a)) refl

bytes : (bs : List ℕ) → Plain (hex_word bs)
bytes bs = both (encode_lower bs) (codes " ") (no_equals (encode_lower bs) (bytes_word bs)) refl

metric : (m : MetricType) → Plain (metric_word m)
metric Te = refl
metric Igp = refl
metric Hops = refl

bound : (b : Option ℕ) → MayBeLong b → Plain (bound_word b)
bound None is = refl
bound (Some n) is = number n is

limits : (l : PathLimits) → AreLimits l → Plain (limit_words l)
limits l are =
    let c = l.colours in
    both (metric_word l.minimise) _ (metric l.minimise)
    (both (bound_word l.max_cost) _ (bound l.max_cost are.max_cost)
    (both (bound_word l.max_hops) (colour_words c) (bound l.max_hops are.max_hops)
    (both (number_word c.exclude_any) _ (number c.exclude_any (omega (arith, are.exclude_any)))
    (both (number_word c.include_any) (number_word c.include_all) (number c.include_any (omega (arith, are.include_any))) (number c.include_all (omega (arith, are.include_all)))))))

wanted : (w : PathWanted) → IsWanted w → Plain (wanted_words w)
wanted w is =
    both (address_word w.from) _ (address w.from)
    (both (address_word w.to) _ (address w.to)
    (both (number_word w.bandwidth) _ (number w.bandwidth (omega (arith, is.bandwidth.reads.small)))
    (both (number_word (w.priorities).setup) _ (number (w.priorities).setup (omega (arith, is.priorities.setup)))
    (both (number_word (w.priorities).hold) (limit_words w.limits) (number (w.priorities).hold (omega (arith, is.priorities.setup, is.priorities.hold))) (limits w.limits is.limits)))))

purposes : (p : Purpose) → IsPurpose p → Plain (purpose_words p)
unfolding purpose_words
purposes (purpose.Update plsp) is = number plsp (omega (arith, is))
purposes (purpose.Initiate name c) is = both (hex_word name) (wanted_words (wanted_of c)) (bytes name) (wanted (wanted_of c) is.2)
purposes (purpose.Answer request plsp c) is = bytes (request_written (request_for request plsp c))

entry : (e : LinkReload) → IsEntry e → Plain (entry_words e)
entry e is =
    let v = e.values in
    both (number_word e.link) _ (number e.link is.link)
    (both (number_word v.igp) _ (number v.igp (omega (arith, is.ranges.igp_small)))
    (both (number_word v.te) _ (number v.te (omega (arith, is.ranges.te_small)))
    (both (number_word v.colour) (number_word v.reservable) (number v.colour (omega (arith, is.colour))) (number v.reservable (omega (arith, is.ranges.reservable_small))))))

more : (es : List LinkReload) → AllByRecursion IsEntry es → Plain (more_entries es)
more [] are = refl
more (e ∷ es) are = both (entry_words e) (more_entries es) (entry e are.0) (more es are.1)

entries : (es : List LinkReload) → AllByRecursion IsEntry es → Plain (entries_words es)
entries [] are = refl
entries (e ∷ es) are = both (entry_words e) (more_entries es) (entry e are.0) (more es are.1)

capabilities_by : (update create : Bool) → Plain (capability_words (Some (record { update = update; create = create })))
capabilities_by false false = refl
capabilities_by false true = refl
capabilities_by true false = refl
capabilities_by true true = refl

capabilities : (sent : Option Capabilities) → Plain (capability_words sent)
capabilities None = refl
capabilities (Some c) = capabilities_by c.update c.create

offer : (o : Option (List ℕ)) → MayBeLinks o → Plain (offer_text o +> codes " ")
offer o are = both (offer_text o) (codes " ") (no_equals (offer_text o) (offer_word o are)) refl

pub events : (e : Event) → IsEvent e → Plain (event_words e)
unfolding event_words
events (event.Up peer sent) is = both (address_word peer) (capability_words sent) (address peer) (capabilities sent)
events (event.Report peer report) is = both (address_word peer) (hex_word (report_written report)) (address peer) (bytes (report_written report))
events (event.Marker peer) is = address peer
events (event.Down peer) is = address peer
events (event.Expire peer) is = address peer
events (event.Ask peer p) is = both (address_word peer) (purpose_words p) (address peer) (purposes p is.1)
events event.Take is = refl
events (event.Commit ticket o) is = both (number_word ticket) (offer_text o +> codes " ") (number ticket is.0) (offer o is.1)
events (event.Drain peer) is = address peer
events (event.Refused peer srp) is = both (address_word peer) (number_word srp) (address peer) (number srp (omega (arith, is.1)))
events (event.Return peer plsp) is = both (address_word peer) (number_word plsp) (address peer) (number plsp (omega (arith, is.1)))
events (event.Delete peer plsp) is = both (address_word peer) (number_word plsp) (address peer) (number plsp (omega (arith, is.1)))
events (event.Reload es) is = entries es is
