-- What an operator's line has to have, and what is wrong in a link text.
use Rattle.std.specs.Prelude.{ℕ, ◌==◌, Bool, List, [], ◌∷◌, codes, Option, Some, None, if◌then◌else◌}
use Rattle.std.specs.List.{list_any}
use Rattle.std.specs.Str.{bytes_eq}

abbrev pub is_one_of : List (List ℕ) → List ℕ → Bool
is_one_of words word = list_any (bytes_eq word) words

-- what has to follow a line's first word
unfoldable pub wanted : List ℕ → Option (List ℕ)
wanted word =
    if bytes_eq word (codes "initiate") then Some (codes "PEER NAME FROM TO BW SETUP HOLD")
    else if bytes_eq word (codes "place") then Some (codes "PEER NAME FROM TO BW SETUP HOLD [KEY=VALUE ..]")
    else if bytes_eq word (codes "path") then Some (codes "FROM TO BW SETUP HOLD [KEY=VALUE ..]")
    else if is_one_of (codes "update" ∷ codes "return" ∷ codes "delete" ∷ codes "lsp" ∷ codes "why" ∷ []) word then Some (codes "PEER PLSP")
    else if bytes_eq word (codes "drop") then Some (codes "PEER SRP")
    else if is_one_of (codes "lsps" ∷ codes "better" ∷ codes "grants" ∷ codes "tunnels" ∷ []) word then Some (codes "PEER, or nothing")
    else if bytes_eq word (codes "links") then Some (codes "the number of a link, or nothing")
    else if is_one_of (codes "link" ∷ codes "without" ∷ []) word then Some (codes "the number of a link")
    else if bytes_eq word (codes "history") then Some (codes "a number of steps")
    else if bytes_eq word (codes "reload") then Some (codes "check, or nothing")
    else if is_one_of (codes "status" ∷ codes "peers" ∷ codes "tickets" ∷ codes "book" ∷ codes "end" ∷ []) word then Some (codes "nothing")
    else None

-- the first fault of a link text, by its number
unfoldable pub te_words : ℕ → List ℕ
te_words number =
    if number == 1 then codes "the link text is not UTF-8, or not TOML"
    else (if number == 2 then codes "a key of a node or a link is missing, or its value is of another kind"
    else (if number == 3 then codes "a value is out of its range"
    else (if number == 4 then codes "no node has the name at an end of a link"
    else (if number == 5 then codes "two nodes own one address"
    else (if number == 6 then codes "two nodes have one name"
    else (if number == 7 then codes "a link leads from a node to itself"
    else (if number == 8 then codes "there are more than 1,024 nodes or 4,096 links"
    else (if number == 10 then codes "the text has other nodes, or other ends or addresses of links"
    else codes "the link text has a fault"))))))))
