-- Requests on a network of four nodes, computed by the definitions: 10.0.0.1 to 10.0.0.4, joined by way of
-- the second (links 0 and 1) and of the third (links 2 and 3).
use Rattle.std.proofs.Common.{◌≡◌, ℕ, List, [], ◌∷◌, refl, true, false}
use Rattle.std.specs.Prelude.{Some, None}
use Rattle.te_base.specs.declared.network.Link.{Link}
use Rattle.lsp_base.specs.Lsps.{Lsps}
use Rattle.lsp_base.specs.declared.lsp.Constraints.{Constraints}
use Rattle.lsp_base.specs.declared.lsp.Lsp.{Lsp}
use Rattle.lsp_base.specs.declared.path.Path.{Path}
use Rattle.lsp_base.specs.declared.tunnel.Part.TheVariants.{Granted}
use Rattle.lsp_base.specs.declared.tunnel.Tunnel.TheVariants.{Asked, Unsignalled}
use Rattle.lsp_base.specs.declared.why.Why.TheVariants.{UnknownLsp, NotCreatedHere, NotDelegated, Pending, NameInUse}
use Rattle.lsp_words.specs.declared.object.Hop.TheVariants.{Host}
use Rattle.lsp_words.specs.declared.object.MetricType.TheVariants.{Te}
use Rattle.pcep_messages.specs.declared.message.Initiate.TheVariants as initiates
use Rattle.pcep_messages.specs.declared.message.Message.TheVariants as messages
use Rattle.initiate_rules.specs.Numbers.{next_srp, is_srp_used}
use Rattle.initiate_rules.specs.Checks.{must_be_new, may_be_deleted}
use Rattle.initiate_rules.specs.Messages.{hops_over, update_message, initiate_message}

-- ---- numbers

first_number : next_srp 0 ≡ 1
first_number = refl

last_number : next_srp 0xFFFFFFFD ≡ 0xFFFFFFFE
last_number = refl

first_again : next_srp 0xFFFFFFFE ≡ 1
first_again = refl

-- ---- messages

abbrev link : ℕ → ℕ → ℕ → ℕ → ℕ → Link
link from to local remote metric = record { from = from; to = to; local = local; remote = remote; igp = metric; te = metric; colour = 0; reservable = 1000000 }

abbrev links : List Link
links = link 0 1 0x0a010001 0x0a010002 10 ∷ link 1 3 0x0a020001 0x0a020002 10 ∷ link 0 2 0x0a030001 0x0a030002 20 ∷ link 2 3 0x0a040001 0x0a040002 20 ∷ []

abbrev asked : Constraints
asked = record {
  source = Some 0x0a000001;
  destination = Some 0x0a000004;
  bandwidth = 500000;
  priorities = record { setup = 5; hold = 2 };
  colours = record { exclude_any = 0; include_any = 0; include_all = 0 };
  minimise = Te;
  bound = None;
  hop_bound = None;
  other_bounds = record { igp = None; te = None };
  local_protection = true;
}

-- a route is given by the links' remote addresses
route : hops_over links (2 ∷ 3 ∷ []) ≡ Host 0x0a030002 false ∷ Host 0x0a040002 false ∷ []
route = refl

updated : update_message links 1 1 asked (2 ∷ 3 ∷ []) ≡ messages.Update (record {
  srp = 1;
  plsp = 1;
  delegate = true;
  admin = true;
  ero = Host 0x0a030002 false ∷ Host 0x0a040002 false ∷ [];
  attributes = Some (record { colours = record { exclude_any = 0; include_any = 0; include_all = 0 }; priorities = record { setup = 5; hold = 2 }; local_protection = true });
  bandwidth = Some 500000;
})
unfolding update_message
updated = refl

initiated : initiate_message links 1 (0x74 ∷ 0x31 ∷ []) asked (0 ∷ 1 ∷ []) ≡ messages.Initiate (initiates.Create (record {
  srp = 1;
  name = 0x74 ∷ 0x31 ∷ [];
  source = 0x0a000001;
  destination = 0x0a000004;
  ero = Host 0x0a010002 false ∷ Host 0x0a020002 false ∷ [];
  attributes = Some (record { colours = record { exclude_any = 0; include_any = 0; include_all = 0 }; priorities = record { setup = 5; hold = 2 }; local_protection = false });
  bandwidth = Some 500000;
}))
unfolding initiate_message
initiated = refl

-- ---- refusals, on LSP 5 of peer 1 with the name t1

abbrev known : Lsp → List Path → Lsps
known lsp paths = record { paths = paths; records = record { peer = 1; plsp = 5; lsp = lsp } ∷ [] }

abbrev held : Lsp
held = record { name = 0x74 ∷ 0x31 ∷ []; delegated = true; created = true; constraints = asked; tunnel = Unsignalled 1 5; removing = None }

abbrev grant : ℕ → Path
grant plsp = record { peer = 1; plsp = plsp; part = Granted 7; tunnel = Asked 1 7; hold = 0; bandwidth = 500000; links = 0 ∷ 1 ∷ []; fresh = true }

deleted : may_be_deleted (known held []) 1 5 ≡ None
deleted = refl

deletion_of_another : may_be_deleted (known held []) 2 5 ≡ Some UnknownLsp
deletion_of_another = refl

made_elsewhere : may_be_deleted (known (record held { created = false; delegated = false }) []) 1 5 ≡ Some NotCreatedHere
made_elsewhere = refl

taken_back : may_be_deleted (known (record held { delegated = false; removing = Some 3 }) []) 1 5 ≡ Some NotDelegated
taken_back = refl

removal_awaited : may_be_deleted (known (record held { removing = Some 3 }) []) 1 5 ≡ Some Pending
removal_awaited = refl

grant_awaited : may_be_deleted (known held (grant 5 ∷ [])) 1 5 ≡ Some Pending
grant_awaited = refl

-- a grant that isn't bound belongs to no LSP yet
unbound_beside : may_be_deleted (known held (grant 0 ∷ [])) 1 5 ≡ None
unbound_beside = refl

name_in_use : must_be_new (known held []) 1 (0x74 ∷ 0x31 ∷ []) false ≡ Some NameInUse
name_in_use = refl

name_of_another_peer : must_be_new (known held []) 2 (0x74 ∷ 0x31 ∷ []) false ≡ None
name_of_another_peer = refl

name_held : must_be_new (known held []) 1 (0x74 ∷ 0x32 ∷ []) true ≡ Some NameInUse
name_held = refl

number_of_grant : is_srp_used (known held (grant 0 ∷ [])) 1 7 ≡ true
number_of_grant = refl

number_of_removal : is_srp_used (known (record held { removing = Some 3 }) []) 1 3 ≡ true
number_of_removal = refl

number_free : is_srp_used (known (record held { removing = Some 3 }) (grant 5 ∷ [])) 1 4 ≡ false
number_free = refl
