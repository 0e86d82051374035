use Rattle.std.proofs.Common.{◌∙◌}
use Rattle.lsp_base.specs.Same.{same_path}
use Rattle.lsp_base.proofs.Keys.{same_path-bucket}
use Rattle.lsp_base.proofs.Swapped.{place_within, stays_without, swapped_at}
use Rattle.lsp_base.proofs.path_list.drop_first.Goals as goal

pub position-requires : goal.position-requires
position-requires c = same_path-bucket c.args.path.now c.bucket.result c.bucket.ensures

pub swap_remove-dropped-requires : goal.swap_remove-dropped-requires
swap_remove-dropped-requires c = place_within (λ x. same_path x c.args.path.now) c.args.paths.now.items c.in-Some.place c.in-Some.ensures

pub returns-in-Some-clause-paths : goal.returns-in-Some-clause-paths
returns-in-Some-clause-paths c = c.swap_remove-dropped.ensures.items ∙ swapped_at (λ x. same_path x c.args.path.now) c.args.paths.now.items c.in-Some.place _ c.in-Some.ensures

pub returns-in_default-clause-paths : goal.returns-in_default-clause-paths
returns-in_default-clause-paths c = stays_without (λ x. same_path x c.args.path.now) c.args.paths.now.items c.in_default.ensures
