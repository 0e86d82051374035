-- What several turns do together.
use Rattle.std.specs.Prelude.{ℕ, List}
use Rattle.http.specs.declared.request.Request.{Request}
use Rattle.http_server.specs.declared.response.Response.{Response}
use Rattle.http_server.specs.Exchange.{Call, Chain}

-- some calls lead from one state of the service to another, each from the state that the one before left
abbrev pub Leads : {S : Type 0} → (S → Request (List ℕ) → Response → S → Type 0) → S → S → Type 0
Leads answers old new = (calls : List Call) × Chain answers old calls new
