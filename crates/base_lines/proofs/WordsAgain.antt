-- Words of a base are read again.
use Rattle.std.proofs.Common.{◌≡◌, ℕ, ◌^◌, ◌<◌, Bool, true, false, List, [], ◌∷◌, codes, Option, Some, None, refl, ap, ◌∙◌, append_assoc, arith}
use Rattle.std.specs.Fmt.{decimal}
use Rattle.std.specs.List.{AllByRecursion}
use Rattle.hex.specs.Hex.{encode_lower, IsBytes}
use Rattle.lsp_words.specs.declared.object.Capabilities.{Capabilities}
use Rattle.lsp_base.specs.declared.lsp.Constraints.{Constraints}
use Rattle.lsp_base.specs.declared.tunnel.Part.{Part}
use Rattle.lsp_base.specs.declared.tunnel.Part.TheVariants as part
use Rattle.lsp_base.specs.declared.tunnel.Tunnel.{Tunnel}
use Rattle.lsp_base.specs.declared.tunnel.Tunnel.TheVariants as tunnel
use Rattle.commit_core.specs.declared.ticket.Purpose.{Purpose}
use Rattle.commit_core.specs.declared.ticket.Purpose.TheVariants as purpose
use Rattle.asks.specs.Words.{number_of_bits}
use Rattle.line_words.specs.Joined.{◌+>◌}
use Rattle.line_words.specs.Words.{IsWord as IsWholeWord, bytes_in}
use Rattle.line_words.specs.Written.{number_word, address_word, hex_word, or_dash}
use Rattle.line_words.proofs.Again.{ends, number_word as number_is_word, number_again, bytes_word, bytes_again}
use Rattle.line_words.proofs.FirstWords.{first_again, not_dash, number_first, plsp_first, address_first, bytes_first, long_or_missing, plsp_or_missing, address_or_missing}
use Rattle.step_lines.specs.Events.{metric_word, colour_words, path_text}
use Rattle.step_lines.specs.EventReading.{links_in}
use Rattle.step_lines.specs.Normal.{IsLong}
use Rattle.step_lines.proofs.LimitsAgain.{colours_again, metric_again}
use Rattle.step_lines.proofs.LinksAgain.{links_again, offer_word}
use Rattle.step_lines.proofs.WantedAgain.{bandwidth_first, priorities_first}
use Rattle.base_lines.specs.Normal.{IsPart, IsTunnel, AreConstraints, IsPurpose}
use Rattle.base_lines.specs.Words.{flag_word, name_word, links_word, part_words, tunnel_words, constraint_words, capability_words, purpose_words}
use Rattle.base_lines.specs.WordsIn.{flag_in, first_flag, first_short_number, or_empty, first_name, first_links, part_with, first_part, signalled_in, unsignalled_in, asked_in, tunnel_with, first_tunnel, first_constraints, first_capabilities, update_in, initiate_in, answer_in, purpose_with, first_purpose}

-- ---- one word

pub flag : (on off : List ℕ) (f : Bool) (rest : List ℕ) → IsWholeWord on → IsWholeWord off → flag_in on off on ≡ Some true → flag_in on off off ≡ Some false → first_flag on off (flag_word on off f +> rest) ≡ Some (f, rest)
unfolding first_flag
flag on off true rest first second found other = first_again (flag_in on off) on rest true first found
flag on off false rest first second found other = first_again (flag_in on off) off rest false second other

short_first : (n : ℕ) (rest : List ℕ) → n < 2 ^ 16 → first_short_number (number_word n +> rest) ≡ Some (n, rest)
unfolding first_short_number
short_first n rest small =
    first_again (number_of_bits 16) (decimal n) rest n (number_is_word n (omega (arith, small))) (number_again 16 n (omega (arith, small)) small)

no_bytes : bytes_in (codes "-") ≡ None
unfolding bytes_in
no_bytes = refl

pub name_first : (bytes rest : List ℕ) → IsBytes bytes → first_name (name_word bytes +> rest) ≡ Some (bytes, rest)
unfolding first_name
name_first [] rest are = rw (ends (codes "-") rest refl) refl
name_first (b ∷ bytes) rest are =
    let again : bytes_in (encode_lower (b ∷ bytes)) ≡ Some (b ∷ bytes) = bytes_again (b ∷ bytes) are in
    first_again (or_empty bytes_in) (encode_lower (b ∷ bytes)) rest (b ∷ bytes) (bytes_word (b ∷ bytes)) (rw (not_dash bytes_in (encode_lower (b ∷ bytes)) (b ∷ bytes) again no_bytes) again)

no_links : links_in (codes "-") ≡ None
unfolding links_in
no_links = refl

pub links_first : (links rest : List ℕ) → AllByRecursion IsLong links → first_links (links_word links +> rest) ≡ Some (links, rest)
unfolding first_links
links_first [] rest are = rw (ends (codes "-") rest refl) refl
links_first (link ∷ links) rest are =
    let again : links_in (path_text (link ∷ links)) ≡ Some (link ∷ links) = links_again (link ∷ links) are in
    first_again (or_empty links_in) (path_text (link ∷ links)) rest (link ∷ links) (offer_word (Some (link ∷ links)) are) (rw (not_dash links_in (path_text (link ∷ links)) (link ∷ links) again no_links) again)

-- ---- parts and tunnels

pub part_first : (p : Part) (rest : List ℕ) → IsPart p → first_part (part_words p +> rest) ≡ Some (p, rest)
unfolding first_part part_with
part_first (part.Reported lsp) rest is = rw (ends (codes "lsp") (number_word lsp +> rest) refl, short_first lsp rest is) refl
part_first (part.Granted srp) rest is = rw (ends (codes "srp") (number_word srp +> rest) refl, number_first srp rest is) refl

signalled_first : (peer endpoint number extended : ℕ) (rest : List ℕ) → IsTunnel (tunnel.Signalled peer endpoint number extended)
    → signalled_in (address_word peer +> address_word endpoint +> number_word number +> number_word extended +> rest) ≡ Some (tunnel.Signalled peer endpoint number extended, rest)
unfolding signalled_in
signalled_first peer endpoint number extended rest is =
    rw (
      address_first peer (address_word endpoint +> number_word number +> number_word extended +> rest) is.0,
      address_first endpoint (number_word number +> number_word extended +> rest) is.1,
      short_first number (number_word extended +> rest) is.2,
      number_first extended rest is.3,
    )
    refl

unsignalled_first : (peer plsp : ℕ) (rest : List ℕ) → IsTunnel (tunnel.Unsignalled peer plsp) → unsignalled_in (address_word peer +> number_word plsp +> rest) ≡ Some (tunnel.Unsignalled peer plsp, rest)
unfolding unsignalled_in
unsignalled_first peer plsp rest is = rw (address_first peer (number_word plsp +> rest) is.0, plsp_first plsp rest is.1) refl

asked_first : (peer srp : ℕ) (rest : List ℕ) → IsTunnel (tunnel.Asked peer srp) → asked_in (address_word peer +> number_word srp +> rest) ≡ Some (tunnel.Asked peer srp, rest)
unfolding asked_in
asked_first peer srp rest is = rw (address_first peer (number_word srp +> rest) is.0, number_first srp rest is.1) refl

pub tunnel_first : (t : Tunnel) (rest : List ℕ) → IsTunnel t → first_tunnel (tunnel_words t +> rest) ≡ Some (t, rest)
unfolding first_tunnel tunnel_with
tunnel_first (tunnel.Signalled peer endpoint number extended) rest is =
    let behind = address_word peer +> address_word endpoint +> number_word number +> number_word extended +> rest in
    let spread : (address_word peer +> address_word endpoint +> number_word number +> number_word extended) +> rest ≡ behind = simp append_assoc in
    ap (λ (text : List ℕ). first_tunnel (codes "signalled " +> text)) spread ∙ rw (ends (codes "signalled") behind refl) (signalled_first peer endpoint number extended rest is)
tunnel_first (tunnel.Unsignalled peer plsp) rest is =
    let behind = address_word peer +> number_word plsp +> rest in
    ap (λ (text : List ℕ). first_tunnel (codes "unsignalled " +> text)) (append_assoc (address_word peer) (number_word plsp) rest) ∙ rw (ends (codes "unsignalled") behind refl) (unsignalled_first peer plsp rest is)
tunnel_first (tunnel.Asked peer srp) rest is =
    let behind = address_word peer +> number_word srp +> rest in
    ap (λ (text : List ℕ). first_tunnel (codes "asked " +> text)) (append_assoc (address_word peer) (number_word srp) rest) ∙ rw (ends (codes "asked") behind refl) (asked_first peer srp rest is)

-- ---- what is asked of a path

pub constraints_first : (c : Constraints) (rest : List ℕ) → AreConstraints c → first_constraints (constraint_words c +> rest) ≡ Some (c, rest)
unfolding first_constraints constraint_words
constraints_first c rest are =
    let protection = flag_word (codes "protect") (codes "-") c.local_protection +> rest in
    let te = or_dash number_word (c.other_bounds).te +> protection in
    let igp = or_dash number_word (c.other_bounds).igp +> te in
    let hops = or_dash number_word c.hop_bound +> igp in
    let bound = or_dash number_word c.bound +> hops in
    let metric = metric_word c.minimise +> bound in
    let colours = colour_words c.colours +> metric in
    let priorities = number_word (c.priorities).setup +> number_word (c.priorities).hold +> colours in
    let bandwidth = number_word c.bandwidth +> priorities in
    let destination = or_dash address_word c.destination +> bandwidth in
    let source = or_dash address_word c.source +> destination in
    let spread : constraint_words c +> rest ≡ source = simp append_assoc in
    ap first_constraints spread
    ∙ rw (
      address_or_missing c.source destination are.source,
      address_or_missing c.destination bandwidth are.destination,
      bandwidth_first c.bandwidth priorities are.bandwidth,
      priorities_first c.priorities colours are.priorities,
      colours_again c.colours metric are.colours.exclude_any are.colours.include_any are.colours.include_all,
      metric_again c.minimise bound,
      long_or_missing c.bound hops are.bound,
      long_or_missing c.hop_bound igp are.hop_bound,
      long_or_missing (c.other_bounds).igp te are.igp,
      long_or_missing (c.other_bounds).te protection are.te,
      flag (codes "protect") (codes "-") c.local_protection rest refl refl refl refl,
    )
    refl

pub capabilities_first : (c : Capabilities) (rest : List ℕ) → first_capabilities (capability_words c +> rest) ≡ Some (c, rest)
unfolding first_capabilities
capabilities_first c rest =
    let create = flag_word (codes "initiate") (codes "-") c.create +> rest in
    ap first_capabilities (append_assoc (flag_word (codes "update") (codes "-") c.update) (flag_word (codes "initiate") (codes "-") c.create) rest)
    ∙ rw (flag (codes "update") (codes "-") c.update create refl refl refl refl, flag (codes "initiate") (codes "-") c.create rest refl refl refl refl) refl

-- ---- purposes

update_first : (plsp : ℕ) (rest : List ℕ) → IsPurpose (purpose.Update plsp) → update_in (number_word plsp +> rest) ≡ Some (purpose.Update plsp, rest)
unfolding update_in
update_first plsp rest is = rw (plsp_first plsp rest is) refl

initiate_first : (name : List ℕ) (c : Constraints) (rest : List ℕ) → IsPurpose (purpose.Initiate name c) → initiate_in (hex_word name +> constraint_words c +> rest) ≡ Some (purpose.Initiate name c, rest)
unfolding initiate_in
initiate_first name c rest is = rw (bytes_first name (constraint_words c +> rest) is.0.1, constraints_first c rest is.1, is.0.0) refl

answer_first : (request : ℕ) (plsp : Option ℕ) (c : Constraints) (rest : List ℕ) → IsPurpose (purpose.Answer request plsp c)
    → answer_in (number_word request +> or_dash number_word plsp +> constraint_words c +> rest) ≡ Some (purpose.Answer request plsp c, rest)
unfolding answer_in
answer_first request plsp c rest is =
    rw (number_first request (or_dash number_word plsp +> constraint_words c +> rest) is.0, plsp_or_missing plsp (constraint_words c +> rest) is.1, constraints_first c rest is.2) refl

pub purpose_first : (p : Purpose) (rest : List ℕ) → IsPurpose p → first_purpose (purpose_words p +> rest) ≡ Some (p, rest)
unfolding first_purpose purpose_with
purpose_first (purpose.Update plsp) rest is = rw (ends (codes "update") (number_word plsp +> rest) refl) (update_first plsp rest is)
purpose_first (purpose.Initiate name c) rest is =
    let behind = hex_word name +> constraint_words c +> rest in
    ap (λ (text : List ℕ). first_purpose (codes "initiate " +> text)) (append_assoc (hex_word name) (constraint_words c) rest) ∙ rw (ends (codes "initiate") behind refl) (initiate_first name c rest is)
purpose_first (purpose.Answer request plsp c) rest is =
    let behind = number_word request +> or_dash number_word plsp +> constraint_words c +> rest in
    let spread : (number_word request +> or_dash number_word plsp +> constraint_words c) +> rest ≡ behind = simp append_assoc in
    ap (λ (text : List ℕ). first_purpose (codes "answer " +> text)) spread ∙ rw (ends (codes "answer") behind refl) (answer_first request plsp c rest is)
