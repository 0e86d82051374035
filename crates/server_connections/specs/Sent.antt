-- The requests that were sent to a router and that it hasn't answered.
use Rattle.std.specs.Prelude.{ℕ, ◌==◌, nat_le, List, length, drop, find, Option, option_map, if◌then◌else◌}
use Rattle.server_connections.specs.declared.sent.SentRequest.{SentRequest}

abbrev pub request : ℕ → ℕ → SentRequest
request srp sent_ms = record { srp = srp; sent_ms = sent_ms }

-- without the oldest if there are 1,024, so that there is room for one
abbrev pub recent : List SentRequest → List SentRequest
recent requests = if nat_le 1024 (length requests) then drop 1 requests else requests

-- when the request with this SRP-ID was sent
abbrev pub sent_at : ℕ → List SentRequest → Option ℕ
sent_at srp requests = option_map (λ r. r.sent_ms) (find (λ r. r.srp == srp) requests)
