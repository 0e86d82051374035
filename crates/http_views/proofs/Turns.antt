-- Calls that follow calls.
use Rattle.std.proofs.Common.{ℕ, List, [], ◌++◌, refl}
use Rattle.http.specs.declared.request.Request.{Request}
use Rattle.http_server.specs.declared.response.Response.{Response}
use Rattle.http_server.specs.Exchange.{Call, Calls}
use Rattle.http_server.proofs.StreamLemmas.{Chain-append}
use Rattle.http_views.specs.Turns.{Leads}

module _ {S : Type 0} (answers : S → Request (List ℕ) → Response → S → Type 0) where
  pub leads_nowhere : (s : S) → Leads answers s s
  leads_nowhere s = ([], refl)

  pub leads_on : (a b c : S) → Leads answers a b → Leads answers b c → Leads answers a c
  leads_on a b c x y = (x.0 ++ y.0, Chain-append answers x.0 y.0 a b c x.1 y.1)

  pub leads_by : (a b : S) (before after : List Call) → Calls answers a b before after → Leads answers a b
  leads_by a b before after h = (h.0, h.2)
