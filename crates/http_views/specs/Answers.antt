-- How a request is answered.
use Rattle.std.specs.Prelude.{◌≡◌, ℕ, List, [], ◌∷◌, ◌++◌, codes}
use Rattle.http1.specs.Fields.{Header}
use Rattle.http_server.specs.declared.response.Response.{Response}
use Rattle.http_server.specs.Response.{IsResponse}
use Rattle.asks.specs.declared.ask.Ask.{Ask}
use Rattle.http_views.specs.declared.asked.Asked.{Asked}
use Rattle.http_views.specs.declared.asked.Asked.TheVariants.{Page, Metrics, Places, Document, NotFound, NotAllowed}
use Rattle.http_views.specs.declared.asked.Asked.TheVariants as asked
use Rattle.http_views.specs.Asked.{wrong_text}

-- the kinds of texts
abbrev pub json_kind : List ℕ
json_kind = codes "application/json"

abbrev pub metrics_kind : List ℕ
metrics_kind = codes "text/plain; version=0.0.4; charset=utf-8"

abbrev pub plain_kind : List ℕ
plain_kind = codes "text/plain"

-- the fields of a text of this kind, which no cache keeps and no browser takes for another kind
abbrev pub text_fields : List ℕ → List Header
text_fields kind =
    (codes "content-type", kind) ∷ (codes "cache-control", codes "no-store") ∷ (codes "x-content-type-options", codes "nosniff") ∷ []

-- the fields of a page, which loads nothing from elsewhere
abbrev pub html_fields : List Header
html_fields =
    text_fields (codes "text/html; charset=utf-8")
    ++ (codes "content-security-policy", codes "default-src 'none'; script-src 'unsafe-inline'; style-src 'unsafe-inline'; connect-src 'self'; base-uri 'none'; form-action 'none'; frame-ancestors 'none'") ∷ []

abbrev pub method_fields : List Header
method_fields = text_fields plain_kind ++ (codes "allow", codes "GET, HEAD") ∷ []

-- What was asked is answered by the page, by the places, or by what the source gives for it. The source was in the
-- first state and is left in the second; if it gave nothing, it is left as it was.
abbrev pub Answers : {S : Type 0} → (S → Ask → List ℕ → S → Type 0) → (S → List ℕ → S → Type 0) → List ℕ → List ℕ → S → Asked → Response → S → Type 0
Answers is_document is_metrics page places old Page r new = (new ≡ old) × IsResponse 200 html_fields page r
Answers is_document is_metrics page places old Places r new = (new ≡ old) × IsResponse 200 (text_fields json_kind) places r
Answers is_document is_metrics page places old Metrics r new = (text : List ℕ) × is_metrics old text new × IsResponse 200 (text_fields metrics_kind) text r
Answers is_document is_metrics page places old (Document ask) r new = (text : List ℕ) × is_document old ask text new × IsResponse 200 (text_fields json_kind) text r
Answers is_document is_metrics page places old (asked.Wrong wrong) r new = (new ≡ old) × IsResponse 400 (text_fields plain_kind) (wrong_text wrong) r
Answers is_document is_metrics page places old NotFound r new = (new ≡ old) × IsResponse 404 (text_fields plain_kind) (codes "not found\n") r
Answers is_document is_metrics page places old NotAllowed r new = (new ≡ old) × IsResponse 405 method_fields (codes "method not allowed\n") r
