-- `why PEER PLSP`: by which kept steps the paths of an LSP came, and what those steps left of links.
use Rattle.std.specs.Prelude.{ℕ, ◌-◌, List, [], ◌∷◌, codes, Option, Some, None, ◌≡◌}
use Rattle.json.specs.Json.{Json, null, array, object, Items, no_items, item, no_members, member, document}
use Rattle.pce_seen.specs.declared.origins.LspOrigins.{LspOrigins}
use Rattle.pce_seen.specs.declared.origins.TracedPath.{TracedPath}
use Rattle.server_counts.specs.Residuals.{rows_of}
use Rattle.server_counts.specs.Marks.{before, behind}
use Rattle.server_counts.specs.declared.residuals.ResidualRow.{ResidualRow}
use Rattle.server_counts.specs.declared.marks.Mark.{Mark}
use Rattle.pce_view.specs.declared.age.Age.{Age}
use Rattle.pce_view.specs.Fields.{address, lsp_id, srp_id, whole_or_null, wholes, word_or_null}
use Rattle.pce_view.specs.Json.{whole, signed}
use Rattle.pce_view.specs.Words.{origin_step, origin_ticket, origin_word}
use Rattle.pce_view.specs.declared.question.ServerInfo.{ServerInfo}

-- A step was taken by the first moment of the first mark that counts it. One that none counts may have been taken just now.
abbrev pub least_ms : ℕ → Option Mark → ℕ
least_ms now_ms None = 0
least_ms now_ms (Some m) = now_ms - m.from_ms

-- it was taken after the last moment of the last mark that doesn't count it
abbrev pub most_ms : ℕ → Option Mark → Option ℕ
most_ms now_ms None = None
most_ms now_ms (Some m) = Some (now_ms - m.to_ms)

-- how long ago a step was taken: at least and at most
abbrev pub age_of : ℕ → List Mark → Option ℕ → Age
age_of now_ms marks None = record { least_ms = None; most_ms = None }
age_of now_ms marks (Some step) = record { least_ms = Some (least_ms now_ms (behind step marks)); most_ms = most_ms now_ms (before step marks) }

-- what a step left of a link
unfoldable pub left_row_json : ResidualRow → Json
left_row_json r = object
    (member (codes "link") (whole r.link)
    (member (codes "priority") (whole r.priority)
    (member (codes "before_bytes_per_second") (signed r.before)
    (member (codes "after_bytes_per_second") (signed r.after)
    no_members))))

abbrev pub left_row_items : List ResidualRow → Items
left_row_items [] = no_items
left_row_items (r ∷ rs) = item (left_row_json r) (left_row_items rs)

-- what a step left of each link, or nothing where no row is of it
abbrev pub left_rows_or_null : List ResidualRow → Json
left_rows_or_null [] = null
left_rows_or_null (r ∷ rs) = array (left_row_items (r ∷ rs))

-- the rows of the step by which a path came
abbrev pub left_by : Option ℕ → List ResidualRow → List ResidualRow
left_by None rows = []
left_by (Some step) rows = rows_of step rows

-- a path of an LSP, by which kept step it came, how long ago, and what that step left of its links
unfoldable pub traced_json : TracedPath → Age → List ResidualRow → Json
traced_json x age left = object
    (member (codes "lsp_id") (whole_or_null (lsp_id (x.path).part))
    (member (codes "srp_id") (whole_or_null (srp_id (x.path).part))
    (member (codes "links") (array (wholes (x.path).links))
    (member (codes "by") (word_or_null (origin_word x.origin))
    (member (codes "step") (whole_or_null (origin_step x.origin))
    (member (codes "ticket") (whole_or_null (origin_ticket x.origin))
    (member (codes "least_ms_ago") (whole_or_null age.least_ms)
    (member (codes "most_ms_ago") (whole_or_null age.most_ms)
    (member (codes "left") (left_rows_or_null left)
    no_members)))))))))

abbrev pub traced_items : ℕ → List Mark → List ResidualRow → List TracedPath → Items
traced_items now_ms marks residuals [] = no_items
traced_items now_ms marks residuals (x ∷ xs) = let step = origin_step x.origin in item (traced_json x (age_of now_ms marks step) (left_by step residuals)) (traced_items now_ms marks residuals xs)

-- the paths of an LSP, from which step on they were looked for, and which step is the first that is kept
abbrev pub origins_json : ℕ → List Mark → List ResidualRow → LspOrigins → Json
origins_json now_ms marks residuals o = object
    (member (codes "peer") (address o.peer)
    (member (codes "plsp_id") (whole o.plsp)
    (member (codes "rolled_steps") (whole o.rolled)
    (member (codes "first_step") (whole o.first)
    (member (codes "paths") (array (traced_items now_ms marks residuals o.paths.items))
    no_members)))))

abbrev pub origins_or_null : ℕ → List Mark → List ResidualRow → Option LspOrigins → Json
origins_or_null now_ms marks residuals None = null
origins_or_null now_ms marks residuals (Some o) = origins_json now_ms marks residuals o

-- a reader of JSON reads the text as what was seen
abbrev pub ReadsWhy : ServerInfo → Option LspOrigins → List ℕ → Type 0
ReadsWhy info origins text = document text ≡ Some (origins_or_null info.uptime_ms info.marks.now info.residuals.now origins)
