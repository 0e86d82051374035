-- Limits of a path are read again from their words.
use Rattle.std.proofs.Common.{◌≡◌, ℕ, List, [], ◌++◌, append_assoc, codes, Option, Some, None, refl, sym, ap, ◌∙◌}
use Rattle.asks.specs.declared.ask.PathLimits.{PathLimits}
use Rattle.lsp_words.specs.declared.object.MetricType.{MetricType}
use Rattle.lsp_words.specs.declared.object.MetricType.TheVariants.{Igp, Te, Hops}
use Rattle.line_words.proofs.Again.{ends}
use Rattle.step_lines.specs.Events.{metric_word, bound_word, colour_words, limit_words}
use Rattle.line_words.specs.Written.{number_word}
use Rattle.line_words.specs.First.{first_long_or_missing}
use Rattle.step_lines.specs.EventReading.{first_metric, first_colours, limits_in}
use Rattle.step_lines.specs.Normal.{MayBeLong, AreLimits}
use Rattle.pcep_messages.specs.Normal.{IsWord}
use Rattle.lsp_words.specs.declared.object.Colours.{Colours}
use Rattle.std.proofs.lemmas.List.{append-nil}
use Rattle.line_words.proofs.FirstWords.{number_first, long_or_missing}
use Rattle.line_words.specs.Joined.{◌+>◌}

bound_first : (bound : Option ℕ) (rest : List ℕ) → MayBeLong bound → first_long_or_missing (bound_word bound ++ rest) ≡ Some (bound, rest)
bound_first None rest is = long_or_missing None rest tt
bound_first (Some n) rest is = long_or_missing (Some n) rest is

pub colours_again : (c : Colours) (rest : List ℕ) → IsWord c.exclude_any → IsWord c.include_any → IsWord c.include_all → first_colours (colour_words c +> rest) ≡ Some (c, rest)
unfolding first_colours
colours_again c rest exclude any all =
    let behind = number_word c.exclude_any +> number_word c.include_any +> number_word c.include_all +> rest in
    let spread : colour_words c +> rest ≡ behind = simp append_assoc in
    ap first_colours spread
    ∙ rw (number_first c.exclude_any (number_word c.include_any +> number_word c.include_all +> rest) exclude, number_first c.include_any (number_word c.include_all +> rest) any, number_first c.include_all rest all) refl

colours_last : (l : PathLimits) → AreLimits l → first_colours (colour_words l.colours) ≡ Some (l.colours, [])
colours_last l are =
    ap first_colours (sym (append-nil (colour_words l.colours))) ∙ colours_again l.colours [] are.exclude_any are.include_any are.include_all

pub metric_again : (m : MetricType) (rest : List ℕ) → first_metric (metric_word m +> rest) ≡ Some (m, rest)
unfolding first_metric
metric_again Te rest = rw (ends (codes "te") rest refl) refl
metric_again Igp rest = rw (ends (codes "igp") rest refl) refl
metric_again Hops rest = rw (ends (codes "hops") rest refl) refl

pub limits_again : (l : PathLimits) → AreLimits l → limits_in (limit_words l) ≡ Some l
unfolding limits_in
limits_again l are =
    rw (
      metric_again l.minimise (bound_word l.max_cost +> bound_word l.max_hops +> colour_words l.colours),
      bound_first l.max_cost (bound_word l.max_hops +> colour_words l.colours) are.max_cost,
      bound_first l.max_hops (colour_words l.colours) are.max_hops,
      colours_last l are,
    )
    refl
