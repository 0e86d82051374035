-- How much of a link is reserved.
use Rattle.std.specs.Prelude.{ℕ, ◌+◌, ◌-◌, ◌*◌, ◌/◌, ◌^◌, max, List, [], ◌∷◌, codes}
use Rattle.serde_json.specs.Data.{Data}
use Rattle.table_text.specs.Amounts.{reserved}
use Rattle.watch_board.specs.Members.{amount_in, whole_in}
use Rattle.watch_board.specs.declared.shares.LinkShare.{LinkShare}

-- what is left at the worst priority is what all paths leave
abbrev pub share_of : ℕ → Data → LinkShare
share_of place link = record {
  place = place;
  reservable = whole_in (codes "reservable_bytes_per_second") link;
  left = amount_in (codes "unreserved_bytes_per_second") 7 link;
}

-- each link from this place on
abbrev pub shares_from : ℕ → List Data → List LinkShare
shares_from place [] = []
shares_from place (link ∷ links) = share_of place link ∷ shares_from (place + 1) links

-- what is reserved, in billionths of what may be; a link that may carry nothing counts as one of a byte per second
abbrev pub fullness : LinkShare → ℕ
fullness s = reserved s.reservable s.left * 1_000_000_000 / max s.reservable 1

-- the less, the fuller
abbrev pub room : LinkShare → ℕ
room s = 2 ^ 96 - fullness s
