use Rattle.std.proofs.Common.{rules, ◌≡◌, ◌++◌, ◌∷◌, [], ◌+◌, List, length, map, ap, ◌∙◌}
use Rattle.std.proofs.lemmas.List.{map-append}
use Rattle.te_snapshot.specs.declared.spans.Span.{Span}
use Rattle.te_snapshot.specs.declared.outgoing.Outgoing.{Outgoing}
use Rattle.te_snapshot.specs.Spans.{cut}
use Rattle.te_snapshot.proofs.Cuts.{cuts-append, cut-last}
use Rattle.te_snapshot.proofs.spans.add.Goals as goal

pub returns : goal.returns
returns c =
    let arcs : List Outgoing = c.arcs.inside.arcs.items in
    let spans : List Span = c.arcs.inside.spans.items in
    let more : List Outgoing = c.args.list.now in
    let longer : c.extend_from_slice.new.self.items ≡ arcs ++ more = search (rules, c.in_ok-extend_from_slice.ensures.items) in
    let last : Span = record { start = length arcs; end = c.len-end.result } in
    let spanned : c.push.new.self.items ≡ spans ++ record { start = c.len-start.result; end = c.len-end.result } ∷ [] = search (rules, c.in_ok-push.ensures.items) in
    let start : c.len-start.result ≡ length arcs = search rules in
    let end : c.len-end.result ≡ length arcs + length more = search rules in
    rw (longer, spanned, start, ← c.arcs.view_is)
    (map-append (cut (arcs ++ more)) spans (last ∷ [])
    ∙ ap (λ cs. cs ++ cut (arcs ++ more) last ∷ []) (cuts-append spans arcs more c.arcs.invariant)
    ∙ ap (λ l. map (cut arcs) spans ++ l ∷ []) (cut-last arcs more c.len-end.result end))
