-- If no bytes wait, none are kept.
use Rattle.std.proofs.Common.{◌≡◌, ℕ, ◌≤◌, ◌-◌, List, [], length, drop, ap, arith, length-drop}

pub none_kept : (start : ℕ) (items : List ℕ) → start ≤ length items - start → drop start items ≡ [] → length items ≡ 0
none_kept start items few none =
    let left : length (drop start items) ≡ 0 = ap length none in
    omega (arith, length-drop start items)
