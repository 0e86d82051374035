use Rattle.std.proofs.Common.{rules, ◌≡◌, List, length, ℕ, arith, subst, sym, ◌∙◌}
use Rattle.path_finder.specs.Walks.{IsNext}
use Rattle.path_finder.proofs.Rows.{front_at_rest, below_next, in_range_of}
use Rattle.path_finder.proofs.rounds.«+extend».Goals as goal

pub returns-then-is_same : goal.returns-then-is_same
returns-then-is_same t c =
    let a = c.args in
    let next = c.in_ok-next.next.items in
    let here : c.deref.result.now ≡ a.row.now = search rules in
    let same : next ≡ a.row.now = sym c.deref.ensures.value ∙ here in
    let step : IsNext a.query.now a.links.now a.row.now next a.ends.limit = search rules in
    front_at_rest a.query.now a.links.now a.ends.source a.ends.destination a.ends.limit a.count.used a.count.left a.row.now next a.path.now.items c.requires.source same c.requires.path step c.requires.row

pub extend-requires : goal.extend-requires
extend-requires t c =
    let a = c.args in
    let next = c.in_ok-next.next.items in
    let there = c.deref-2.result.now in
    let step0 : IsNext a.query.now a.links.now a.row.now next a.ends.limit = search rules in
    let step : IsNext a.query.now a.links.now a.row.now there a.ends.limit = subst (λ (r : List ℕ). IsNext a.query.now a.links.now a.row.now r a.ends.limit) (sym c.deref-2.ensures.value) step0 in
    let size : length there ≡ length a.row.now = step.size in
    (omega arith, (c.requires.metrics, (in_range_of a.links.now a.row.now there size c.requires.links, (omega arith, (omega arith, (omega arith, (c.requires.path, below_next a.query.now a.links.now a.ends.destination a.ends.limit a.count.used a.row.now there step c.requires.row)))))))
