-- LSPs that are given back, and requests that are refused, computed by the definitions.
use Rattle.std.proofs.Common.{◌≡◌, ℕ, List, [], ◌∷◌, refl, true, false}
use Rattle.std.specs.Prelude.{Some, None, Ok, Err, option_map}
use Rattle.lsp_base.specs.Lsps.{Lsps, no_effect, changed, lsp_at}
use Rattle.lsp_base.specs.declared.lsp.Lsp.{Lsp}
use Rattle.lsp_base.specs.declared.path.Path.{Path}
use Rattle.lsp_base.specs.declared.tunnel.Part.{Part}
use Rattle.lsp_base.specs.declared.tunnel.Part.TheVariants.{Reported, Granted}
use Rattle.lsp_base.specs.declared.tunnel.Tunnel.TheVariants.{Unsignalled}
use Rattle.lsp_base.specs.declared.why.Why.TheVariants.{UnknownLsp, NotDelegated, Pending}
use Rattle.lsp_words.specs.declared.object.MetricType.TheVariants.{Te}
use Rattle.delegate_rules.specs.Returns.{given_back, return_result}
use Rattle.delegate_rules.specs.Refusals.{refused_effect}

-- LSP 5 of peer 1
abbrev held : Lsp
held = record {
  name = [];
  delegated = true;
  created = true;
  constraints = record {
    source = None;
    destination = None;
    bandwidth = 500000;
    priorities = record { setup = 7; hold = 0 };
    colours = record { exclude_any = 0; include_any = 0; include_all = 0 };
    minimise = Te;
    bound = None;
    hop_bound = None;
    other_bounds = record { igp = None; te = None };
    local_protection = false;
  };
  tunnel = Unsignalled 1 5;
  removing = None;
}

abbrev path : ℕ → Part → Path
path plsp part = record { peer = 1; plsp = plsp; part = part; tunnel = Unsignalled 1 5; hold = 0; bandwidth = 500000; links = 0 ∷ 1 ∷ []; fresh = true }

abbrev known : Lsp → List Path → Lsps
known lsp paths = record { paths = paths; records = record { peer = 1; plsp = 5; lsp = lsp } ∷ [] }

abbrev standing : Lsps
standing = known held (path 5 (Reported 1) ∷ [])

-- ---- an LSP is given back

back : return_result standing 1 5 ≡ Ok (given_back 5 (Some held))
unfolding return_result
back = refl

back_is_not_delegated : option_map (λ lsp. lsp.delegated) (lsp_at (changed standing 1 (given_back 5 (Some held))).records 1 5) ≡ Some false
unfolding changed
back_is_not_delegated = refl

unknown : return_result standing 2 5 ≡ Err UnknownLsp
unfolding return_result
unknown = refl

taken_back : return_result (known (record held { delegated = false; removing = Some 3 }) []) 1 5 ≡ Err NotDelegated
unfolding return_result
taken_back = refl

removal_awaited : return_result (known (record held { removing = Some 3 }) []) 1 5 ≡ Err Pending
unfolding return_result
removal_awaited = refl

grant_awaited : return_result (known held (path 5 (Granted 7) ∷ [])) 1 5 ≡ Err Pending
unfolding return_result
grant_awaited = refl

-- ---- a request is refused

abbrev after : Lsps → ℕ → ℕ → Lsps
after lsps peer srp = changed lsps peer (refused_effect lsps peer srp)

-- a grant that isn't bound goes, and nothing else
unbound : after (known held (path 5 (Reported 1) ∷ path 0 (Granted 7) ∷ [])) 1 7 ≡ standing
unfolding changed refused_effect
unbound = refl

-- one that is bound goes too, and the LSP's reported path stays
bound : after (known held (path 5 (Reported 1) ∷ path 5 (Granted 7) ∷ [])) 1 7 ≡ standing
unfolding changed refused_effect
bound = refl

-- the record goes with the last path
last : after (known held (path 5 (Granted 7) ∷ [])) 1 7 ≡ record { paths = []; records = [] }
unfolding changed refused_effect
last = refl

-- a removal isn't awaited any more
removal : after (known (record held { removing = Some 3 }) (path 5 (Reported 1) ∷ [])) 1 3 ≡ standing
unfolding changed refused_effect
removal = refl

another_peer : refused_effect (known (record held { removing = Some 3 }) (path 5 (Granted 7) ∷ [])) 2 7 ≡ no_effect
unfolding refused_effect
another_peer = refl

unknown_number : refused_effect (known (record held { removing = Some 3 }) (path 5 (Granted 7) ∷ [])) 1 4 ≡ no_effect
unfolding refused_effect
unknown_number = refl
