use Rattle.std.proofs.Common.{◌+◌, List, ℕ, subst, sym}
use Rattle.path_finder.specs.Walks.{IsFront}
use Rattle.path_finder.proofs.Rows.{front_taken}
use Rattle.path_finder.proofs.rounds.step_back.Goals as goal

pub returns : goal.returns
returns c =
    let s = c.in-Some.ensures.some in
    let a = c.args in
    let t = c.in-Some.taken in
    let front = front_taken a.query.now a.links.now a.ends.source a.ends.destination a.ends.limit a.count.used a.count.left a.row.now a.next.now a.path.now.items a.front.at a.front.paid t.number s.0 t.price t.to s.4 s.1 s.2 s.3 s.5 s.7 s.6 c.requires.front in
    let P : List ℕ → Type 0 = λ p. IsFront a.query.now a.links.now a.ends.source a.ends.destination a.ends.limit a.row.now a.count.used (a.count.left + 1) p t.to (a.front.paid + t.price) in
    subst P (sym c.in_ok-push-in-Some.ensures.items) front
