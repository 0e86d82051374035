-- Which steps are decisions.
use Rattle.std.specs.Prelude.{ℕ, Bool, ◌||◌, List, codes}
use Rattle.std.specs.Str.{bytes_eq}
use Rattle.serde_json.specs.Data.{Data}
use Rattle.watch_board.specs.Members.{text_in}

-- what was asked of the server, what it decided, and what a router refused
abbrev pub is_decision : List ℕ → Bool
is_decision event =
    bytes_eq event (codes "ask") || (bytes_eq event (codes "commit") || (bytes_eq event (codes "refused")
    || (bytes_eq event (codes "return") || (bytes_eq event (codes "delete") || bytes_eq event (codes "reload")))))

abbrev pub is_decided : Data → Bool
is_decided step = is_decision (text_in (codes "event") step)
