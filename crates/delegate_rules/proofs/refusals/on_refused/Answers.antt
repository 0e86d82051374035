use Rattle.std.proofs.Common.{subst, sym, ap, ◌≤◌, ◌+◌, length, arith, false}
use Rattle.lsp_base.specs.Rooms.{IsWithinLimit}
use Rattle.lsp_base.specs.Pending.{is_grant_as}
use Rattle.lsp_base.proofs.Removal.{IsWithinLimit-effect}
use Rattle.delegate_rules.proofs.refusals.on_refused.Goals as goal

pub returns-clause-few : goal.returns-clause-few
returns-clause-few c =
    let lsps = c.args.base.now.content in
    let test = is_grant_as c.args.peer c.args.srp in
    let dropped = c.in_ok-grants.ensures in
    let standing = ap length c.paths-few.ensures.paths in
    let most = c.paths-few.ensures.few in
    let none = ap length c.new-2.ensures.items in
    let few : length lsps.paths + length c.new-2.result.items ≤ 16384 + length c.in_ok-grants.grants.items = omega arith in
    subst (λ e. IsWithinLimit lsps e) (sym c.new-3.ensures) (IsWithinLimit-effect lsps test _ _ c.in_ok-records-2.records.items false dropped few)
