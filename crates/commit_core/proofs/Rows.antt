-- Verdicts on a network of four nodes, computed by the definitions: 10.0.0.1 to 10.0.0.4, joined by way of
-- the second (links 0 and 1) and of the third (links 2 and 3), 1,000,000 bytes per second each.
use Rattle.std.proofs.Common.{◌≡◌, ℕ, List, [], ◌∷◌, refl, true, false}
use Rattle.std.specs.Prelude.{Some, None, replicate}
use Rattle.te_base.specs.Ted.{Ted}
use Rattle.te_base.specs.declared.network.Link.{Link}
use Rattle.te_base.specs.declared.network.Owner.{Owner}
use Rattle.lsp_base.specs.Lsps.{Lsps}
use Rattle.lsp_base.specs.Shares.{fits, share, reserved, unreserved}
use Rattle.lsp_base.specs.declared.lsp.Constraints.{Constraints}
use Rattle.lsp_base.specs.declared.lsp.Lsp.{Lsp}
use Rattle.lsp_base.specs.declared.path.Path.{Path}
use Rattle.lsp_base.specs.declared.tunnel.Part.TheVariants.{Reported, Granted}
use Rattle.lsp_base.specs.declared.tunnel.Tunnel.{Tunnel}
use Rattle.lsp_base.specs.declared.tunnel.Tunnel.TheVariants.{Signalled, Asked}
use Rattle.lsp_words.specs.declared.object.MetricType.TheVariants.{Te}
use Rattle.commit_core.specs.Offers.{offered_path}
use Rattle.commit_core.specs.Routes.{is_route}
use Rattle.commit_core.specs.Verdicts.{verdict}
use Rattle.commit_core.specs.declared.ticket.Purpose.{Purpose}
use Rattle.commit_core.specs.declared.ticket.Purpose.TheVariants as purposes
use Rattle.commit_core.specs.declared.ticket.Ticket.{Ticket}
use Rattle.commit_core.specs.declared.verdict.PeerView.{PeerView}
use Rattle.commit_core.specs.declared.verdict.Verdict.{Verdict}
use Rattle.commit_core.specs.declared.verdict.Verdict.TheVariants.{Grant, Answer, Again, NoPath, GivenUp, Gone}

abbrev link : ℕ → ℕ → ℕ → ℕ → ℕ → Link
link from to local remote metric = record { from = from; to = to; local = local; remote = remote; igp = metric; te = metric; colour = 0; reservable = 1000000 }

abbrev owned : ℕ → ℕ → Owner
owned address node = record { address = address; node = node }

abbrev diamond : Ted
diamond = record {
  nodes = [];
  links = link 0 1 0x0a010001 0x0a010002 10 ∷ link 1 3 0x0a020001 0x0a020002 10 ∷ link 0 2 0x0a030001 0x0a030002 20 ∷ link 2 3 0x0a040001 0x0a040002 20 ∷ [];
  owners = owned 0x0a000001 0 ∷ owned 0x0a000002 1 ∷ owned 0x0a000003 2 ∷ owned 0x0a000004 3 ∷ [];
}

abbrev wanted : ℕ → ℕ → ℕ → Constraints
wanted bandwidth setup hold = record {
  source = Some 0x0a000001;
  destination = Some 0x0a000004;
  bandwidth = bandwidth;
  priorities = record { setup = setup; hold = hold };
  colours = record { exclude_any = 0; include_any = 0; include_all = 0 };
  minimise = Te;
  bound = None;
  hop_bound = None;
  other_bounds = record { igp = None; te = None };
  local_protection = false;
}

abbrev ticket : Purpose → Constraints → Ticket
ticket purpose c = record { id = 1; peer = 1; session = 3; purpose = purpose; constraints = c; tries = 1; seen = 9; taken = true }

abbrev view : PeerView
view = record { session = 3; up = true; syncing = false; changes = 9; srp_in_use = false }

-- an offer of these links, with SRP-ID 1
abbrev offered : Lsps → Ticket → List ℕ → PeerView → Verdict
offered lsps t links v = verdict t (Some (offered_path lsps.records 1 t links)) lsps diamond v

-- ---- an update: on link 0 the tunnel holds 500,000 at priority 5 already, another 1,000,000 at 0

abbrev tunnel : Tunnel
tunnel = Signalled 1 0x0a000004 1 0x0a000001

abbrev path : ℕ → Tunnel → ℕ → ℕ → List ℕ → Path
path plsp t hold bandwidth links = record { peer = 1; plsp = plsp; part = Reported 1; tunnel = t; hold = hold; bandwidth = bandwidth; links = links; fresh = true }

abbrev lsp : Lsp
lsp = record { name = []; delegated = true; created = false; constraints = wanted 500000 5 2; tunnel = tunnel; removing = None }

abbrev standing : Lsp → List Path → Lsps
standing l more = record {
  paths = path 1 tunnel 5 500000 (0 ∷ 1 ∷ []) ∷ path 2 (Signalled 1 0x0a000002 2 0x0a000001) 0 1000000 (0 ∷ []) ∷ more;
  records = record { peer = 1; plsp = 1; lsp = l } ∷ [];
}

abbrev update : Ticket
update = ticket (purposes.Update 1) (wanted 500000 5 2)

-- a path that fits only at the setup priority isn't granted
fits_at_setup_alone : offered (standing lsp []) update (0 ∷ 1 ∷ []) view ≡ Again
unfolding verdict offered_path is_route fits share reserved unreserved
fits_at_setup_alone = refl

other_way : offered (standing lsp []) update (2 ∷ 3 ∷ []) view ≡ Grant
unfolding verdict offered_path is_route fits share reserved unreserved
other_way = refl

-- if the other path is absent, its own tunnel's share counts
shared : offered (record (standing lsp []) { paths = path 1 tunnel 2 800000 (0 ∷ 1 ∷ []) ∷ [] }) update (0 ∷ 1 ∷ []) view ≡ Grant
unfolding verdict offered_path is_route fits share reserved unreserved
shared = refl

taken_back : offered (standing (record lsp { delegated = false }) []) update (2 ∷ 3 ∷ []) view ≡ Gone
unfolding verdict offered_path
taken_back = refl

removal_awaited : offered (standing (record lsp { removing = Some 4 }) []) update (2 ∷ 3 ∷ []) view ≡ Gone
unfolding verdict offered_path
removal_awaited = refl

grant_awaited : offered (standing lsp (record (path 1 tunnel 5 500000 (0 ∷ [])) { part = Granted 4 } ∷ [])) update (2 ∷ 3 ∷ []) view ≡ Gone
unfolding verdict offered_path
grant_awaited = refl

-- ---- two initiations of 600,000 meet on links 0 and 1

abbrev initiation : Ticket
initiation = ticket (purposes.Initiate (0x74 ∷ 0x32 ∷ []) (wanted 600000 7 0)) (wanted 600000 7 0)

abbrev met : Lsps
met = record { paths = record (path 0 (Asked 1 9) 0 600000 (0 ∷ 1 ∷ [])) { part = Granted 9 } ∷ []; records = [] }

second : offered met initiation (0 ∷ 1 ∷ []) view ≡ Again
unfolding verdict offered_path is_route fits share reserved unreserved
second = refl

second_by_c : offered met initiation (2 ∷ 3 ∷ []) view ≡ Grant
unfolding verdict offered_path is_route fits share reserved unreserved
second_by_c = refl

fourth_try : offered met (record initiation { tries = 4 }) (0 ∷ 1 ∷ []) view ≡ GivenUp
unfolding verdict offered_path is_route fits share reserved unreserved
fourth_try = refl

number_in_use : offered met initiation (2 ∷ 3 ∷ []) (record view { srp_in_use = true }) ≡ GivenUp
unfolding verdict offered_path is_route fits share reserved unreserved
number_in_use = refl

wrong_way_round : offered met initiation (3 ∷ 2 ∷ []) view ≡ Again
unfolding verdict offered_path is_route fits
wrong_way_round = refl

no_such_link : offered met initiation (2 ∷ 9 ∷ []) view ≡ Again
unfolding verdict offered_path is_route fits
no_such_link = refl

no_link : offered met initiation [] view ≡ Again
unfolding verdict offered_path is_route fits
no_link = refl

too_many_links : offered met initiation (replicate 65 2) view ≡ Again
unfolding verdict offered_path is_route fits
too_many_links = refl

another_session : offered met initiation (2 ∷ 3 ∷ []) (record view { session = 4 }) ≡ Gone
unfolding verdict offered_path
another_session = refl

synchronizing : offered met initiation (2 ∷ 3 ∷ []) (record view { syncing = true }) ≡ Gone
unfolding verdict offered_path
synchronizing = refl

nothing_found : verdict initiation None met diamond view ≡ NoPath
unfolding verdict
nothing_found = refl

nothing_found_before : verdict initiation None met diamond (record view { changes = 10 }) ≡ Again
unfolding verdict
nothing_found_before = refl

nothing_found_at_last : verdict (record initiation { tries = 4 }) None met diamond (record view { changes = 10 }) ≡ NoPath
unfolding verdict
nothing_found_at_last = refl

-- ---- a request takes no number, and may be asked while the peer synchronizes

abbrev request : Ticket
request = ticket (purposes.Answer 8 None (wanted 600000 7 7)) (wanted 600000 7 7)

answered : offered met request (2 ∷ 3 ∷ []) (record view { srp_in_use = true; syncing = true }) ≡ Answer
unfolding verdict offered_path is_route fits share reserved unreserved
answered = refl

request_of_too_much : offered met request (0 ∷ 1 ∷ []) view ≡ Again
unfolding verdict offered_path is_route fits share reserved unreserved
request_of_too_much = refl
