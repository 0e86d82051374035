-- The messages by which the PCE updates, returns, initiates and deletes an LSP (RFC 8231 section 6.2,
-- RFC 8281 sections 5.3 and 5.4), and the replies to path requests (RFC 5440 section 6.5).
use Rattle.std.specs.Prelude.{ℕ, Bool, true, false, List, [], ◌∷◌, Option, Some, None, unwrap_or, slice_get}
use Rattle.std.specs.List.{flat_map}
use Rattle.lsp_words.specs.declared.object.Hop.{Hop}
use Rattle.lsp_words.specs.declared.object.Hop.TheVariants.{Host}
use Rattle.lsp_words.specs.declared.object.MetricType.{MetricType}
use Rattle.pcep_messages.specs.Constraints.{metric_number}
use Rattle.pcep_messages.specs.declared.message.Answer.TheVariants as answers
use Rattle.pcep_messages.specs.declared.message.Attributes.{Attributes}
use Rattle.pcep_messages.specs.declared.message.Initiate.TheVariants as initiates
use Rattle.pcep_messages.specs.declared.message.Message.{Message}
use Rattle.pcep_messages.specs.declared.message.Message.TheVariants as messages
use Rattle.te_base.specs.declared.network.Link.{Link}
use Rattle.lsp_base.specs.declared.lsp.Constraints.{Constraints}

-- the far end of a link, strict; nothing for a link that doesn't exist
abbrev pub hop_over : Option Link → List Hop
hop_over None = []
hop_over (Some link) = Host link.remote false ∷ []

-- the route over the links of these numbers
abbrev pub hops_over : List Link → List ℕ → List Hop
hops_over links numbers = flat_map (λ n. hop_over (slice_get links n)) numbers

-- the attributes, with or without local protection (flag L of LSPA)
abbrev pub attributes_of : Constraints → Bool → Attributes
attributes_of c protected = record { colours = c.colours; priorities = c.priorities; local_protection = protected }

-- an update that carries out a grant keeps the delegation and local protection, and makes the LSP active
unfoldable pub update_message : List Link → ℕ → ℕ → Constraints → List ℕ → Message
update_message links srp plsp c numbers = messages.Update (record {
  srp = srp;
  plsp = plsp;
  delegate = true;
  admin = true;
  ero = hops_over links numbers;
  attributes = Some (attributes_of c c.local_protection);
  bandwidth = Some c.bandwidth;
})

-- an LSP that is given back keeps its route and stays active
unfoldable pub return_message : ℕ → ℕ → Message
return_message srp plsp = messages.Update (record {
  srp = srp;
  plsp = plsp;
  delegate = false;
  admin = true;
  ero = [];
  attributes = None;
  bandwidth = None;
})

-- an initiation has both ends and no local protection; a missing end would be written as 0.0.0.0
unfoldable pub initiate_message : List Link → ℕ → List ℕ → Constraints → List ℕ → Message
initiate_message links srp name c numbers = messages.Initiate (initiates.Create (record {
  srp = srp;
  name = name;
  source = unwrap_or c.source 0;
  destination = unwrap_or c.destination 0;
  ero = hops_over links numbers;
  attributes = Some (attributes_of c false);
  bandwidth = Some c.bandwidth;
}))

unfoldable pub delete_message : ℕ → ℕ → Message
delete_message srp plsp = messages.Initiate (initiates.Remove srp plsp)

-- ---- what a path request is answered

-- a path, and its cost by the metric that was to be minimised
unfoldable pub answer_message : List Link → ℕ → MetricType → ℕ → List ℕ → Message
answer_message links request minimise cost numbers = messages.Reply (record {
  request = request;
  answer = answers.Found (hops_over links numbers) (Some (record { metric_type = metric_number minimise; value = cost }));
})

-- there is no path, and the PCE doesn't say why
unfoldable pub no_path_message : ℕ → Message
no_path_message request = messages.Reply (record { request = request; answer = answers.NoPath None })
