use Rattle.std.proofs.Common.{◌≡◌, ◌∙◌, ◌+◌, ◌-◌, ◌++◌, ◌∷◌, drop, take, length, rules, sym, None, Some}
use Rattle.std.proofs.lemmas.Bool.Decides.{Decides-eqb}
use Rattle.std.proofs.lemmas.Slice.Eq.{strip_prefix_is}
use Rattle.journal_replay.proofs.Expecting.{no_prefix, prefix, one_byte, behind, rest_of}
use Rattle.journal_replay.proofs.expected.ExpectedBase.take.Goals as goal

pub returns-in_default-clause-other : goal.returns-in_default-clause-other
returns-in_default-clause-other c = λ _ left e.
    let at = c.self.inside.taken in
    let all = c.deref.result.now in
    let text = take (length all - at) (drop at all) in
    let line = c.as_bytes.result.now in
    let found = strip_prefix_is Decides-eqb text line c.strip_prefix.result c.strip_prefix.ensures.cases in
    let none : c.strip_prefix.result ≡ None = search rules in
    let whole = rest_of all at in
    no_prefix c.strip_prefix.result text line found none (10 ∷ left) (let same : text ≡ line ++ 10 ∷ left = cc in same)

pub returns-clause-next : goal.returns-clause-next
returns-clause-next c = λ _.
    let at = c.self.inside.taken in
    let all = c.deref.result.now in
    let text = take (length all - at) (drop at all) in
    let line = c.as_bytes.result.now in
    let rest = c.in-Some.rest in
    let found = strip_prefix_is Decides-eqb text line c.strip_prefix.result c.strip_prefix.ensures.cases in
    let some : c.strip_prefix.result ≡ Some rest = search rules in
    let front : text ≡ line ++ rest.now = prefix c.strip_prefix.result rest text line found some in
    let breaks : rest.now ≡ 10 ∷ drop 1 rest.now = one_byte c.first.result rest.now _ c.ne.result c.first.ensures.value c.ne.ensures c.if-ne.false in
    let whole = rest_of all at in
    let next : drop at all ≡ line ++ 10 ∷ drop 1 rest.now = cc in
    let left = behind all line (drop 1 rest.now) at next in
    let same_line : line ≡ c.args.line.now = search rules in
    let same_text : all ≡ c.self.inside.text.items = search rules in
    let taken : drop at c.self.inside.text.items ≡ c.args.line.now ++ 10 ∷ drop (at + (length c.args.line.now + 1)) c.self.inside.text.items = cc in
    sym c.self.view_is ∙ taken
