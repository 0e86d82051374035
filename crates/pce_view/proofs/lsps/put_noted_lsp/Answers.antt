use Rattle.json.specs.Json.{array}
use Rattle.pce_view.specs.Lsps.{noted_lsp_json, path_items}
use Rattle.pce_view.proofs.Objects.{ends_object}
use Rattle.pce_view.proofs.lsps.put_noted_lsp.Goals as goal

pub returns-clause-written : goal.returns-clause-written
unfolding noted_lsp_json
returns-clause-written c =
    let last = array (path_items c.args.words.now c.args.gaps.now 0 c.args.seen.now.paths) in
    ends_object _ _ _ _ last (c.in_ok-begin_with.ensures.written last) (rw c.as_slice.ensures at c.in_ok-put_paths.ensures.written) c.in_ok-end_object.ensures.ok
