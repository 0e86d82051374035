-- The peer that has been down longest, among a table's entries up to a place.
use Rattle.std.proofs.Common.{◌≡◌, ℕ, ◌<◌, ◌≤◌, List, length, nat_eq, true≢false, refl, sym, ap, ◌∙◌, arith}
use Rattle.std.specs.Prelude.{Option, Some, None, slice_get, unwrap_or, Bool, true, false, is_some, if◌then◌else◌}
use Rattle.std.specs.Map.{lookup}
use Rattle.std.proofs.lemmas.Map.Entries.{place_from_lookup}
use Rattle.std.proofs.lemmas.Option.{slice_get_within}
use Rattle.std.proofs.lemmas.Bool.Decides.{nat_tests}
use Rattle.server_rules.specs.declared.known.Known.{Known}
use Rattle.server_rules.specs.declared.expiry.Expiry.{Expiry}
use Rattle.server_rules.specs.declared.expiry.Spare.{Spare}
use Rattle.server_rules.specs.Peers.{spare_since, known_in, nothing, is_among, IsFirstDown}

abbrev pub IsFirstOf : Expiry → List ℕ → ℕ → Option Spare → Type 0
IsFirstOf expiry holders n (Some first) =
    (spare_since holders first.peer (known_in expiry first.peer) ≡ Some first.since_ms)
    × ((k : ℕ) (e : ℕ × Known) (ms : ℕ) → k < n → slice_get expiry.peers.entries k ≡ Some e → spare_since holders e.0 e.1 ≡ Some ms → first.since_ms ≤ ms)
IsFirstOf expiry holders n None = (k : ℕ) (e : ℕ × Known) → k < n → slice_get expiry.peers.entries k ≡ Some e → spare_since holders e.0 e.1 ≡ None

same_peer : (peer key : ℕ) → nat_eq peer key ≡ true → peer ≡ key
same_peer peer key is = grind (arith, nat_tests)

-- if P holds of an unknown peer and of each entry, it holds of each peer
of_each_peer : (P : ℕ → Known → Type 0) → ((peer : ℕ) → P peer nothing) → (es : List (ℕ × Known)) → ((k : ℕ) (e : ℕ × Known) → slice_get es k ≡ Some e → P e.0 e.1)
    → (peer : ℕ) (found : Option Known) → lookup (nat_eq peer) es ≡ found → P peer (unwrap_or found nothing)
of_each_peer P blank es each peer None is = blank peer
of_each_peer P blank es each peer (Some known) is =
    let place = place_from_lookup (nat_eq peer) es known is in
    rw (same_peer peer place.1 place.3) (each place.0 (place.1, known) place.2)

abbrev the_none : Option ℕ
the_none = None

no_matter : (among : Bool) → (if among then None else None) ≡ the_none
no_matter true = refl
no_matter false = refl

-- a peer that never came isn't down
never_down : (holders : List ℕ) (peer : ℕ) → spare_since holders peer nothing ≡ None
never_down holders peer = no_matter (is_among holders peer)

abbrev IsNoSooner : List ℕ → ℕ → ℕ → Known → Type 0
IsNoSooner holders since_ms peer known = (ms : ℕ) → spare_since holders peer known ≡ Some ms → since_ms ≤ ms

pub first_of_all : (expiry : Expiry) (holders : List ℕ) (n : ℕ) (first : Option Spare) → length expiry.peers.entries ≤ n → IsFirstOf expiry holders n first → IsFirstDown expiry holders first
first_of_all expiry holders n None all none = λ peer.
    of_each_peer (λ other known. spare_since holders other known ≡ None) (never_down holders) expiry.peers.entries
    (λ k e is. let within : k < length expiry.peers.entries = slice_get_within expiry.peers.entries k e is in none k e (omega arith) is)
    peer (lookup (nat_eq peer) expiry.peers.entries) refl
first_of_all expiry holders n (Some first) all is = (
  is.0,
  λ peer.
      of_each_peer (IsNoSooner holders first.since_ms) (λ other ms since. absurd (true≢false (ap is_some (sym since ∙ never_down holders other)))) expiry.peers.entries
      (λ k e there ms. let within : k < length expiry.peers.entries = slice_get_within expiry.peers.entries k e there in is.1 k e ms (omega arith) there)
      peer (lookup (nat_eq peer) expiry.peers.entries) refl,
)
