use Rattle.std.proofs.Common.{rules, ◌≡◌, true}
use Rattle.shared_pce.specs.Residuals.{adds_path}
use Rattle.shared_pce.proofs.Residuals.{all_left}
use Rattle.shared_pce.proofs.left.see_after.Goals as goal

pub returns-in-Some : goal.returns-in-Some
returns-in-Some c = λ d e priority replays at all reply_is now_is.
    let brought : adds_path c.args.reply.now ≡ true = search rules in
    all_left d e priority c.args.reply.now c.args.database.now.state c.args.before.now c.in-Some.rows.items replays at all reply_is now_is brought c.in-Some.ensures
