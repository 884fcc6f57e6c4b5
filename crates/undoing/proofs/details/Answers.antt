-- `undoing::details` meets its contract. Assumes nothing.
use Rattle.std.proofs.Common.{◌≡◌, ◌+◌, ◌-◌, ◌*◌, List, ℕ, ℤ, length, arith, ap, ◌∙◌}
use Rattle.lists.specs.Lists.{part, tab}
use Rattle.lists.proofs.Tab.{part-back, length_part, length-tab}
use Rattle.lists.proofs.Laid.{laid-start, laid-step}
use Rattle.format.specs.Recovery.{d_of, read_plane}
use Rattle.undoing.specs.Undo.{details_row}
use Rattle.undoing.specs.Down.{detail_at}
use Rattle.undoing.proofs.GreenLaws.{details-are}
use Rattle.undoing.proofs.details.Goals as goal

pub loop-y-init : goal.loop-y-init
loop-y-init c = let s = c.args in laid-start (λ y. s.at + detail_at s.e s.gap y * s.c) _ s.work.now

pub loop-y-preserved : goal.loop-y-preserved
loop-y-preserved c =
    let s = c.args in
    let y = c.loop-y.y in
    let p = s.plane.now in
    let m = c.loop-y.work in
    let w = 2 * s.c in
    let to = s.at + c.detail_at.result * s.c in
    let row = y * w in
    let next = c.min.result * w in
    let n : to + s.c - to ≡ s.c = omega arith in
    let r : row + w - row ≡ w = omega arith in
    let k : next + w - next ≡ w = omega arith in
    let place : to ≡ s.at + detail_at s.e s.gap y * s.c = ap (λ (k : ℕ). s.at + k * s.c) c.detail_at.ensures in
    let room = c.requires.2 y (omega arith) in
    let t : length (part m to s.c) ≡ s.c = length_part m to s.c (omega (arith, room, place)) in
    let f : ℕ → List ℤ = λ y. tab s.c (d_of s.count (read_plane w p) y) in
    part-back m _ (details_row s.c (part p row w) (part p next w)) to (to + s.c - to) (rw (n, r, k, t) at c.details_row.ensures) (rw length-tab n)
    ∙ laid-step (λ y. s.at + detail_at s.e s.gap y * s.c) f s.work.now m _ y _ c.loop-y.invariant place (details-are s.count s.c p y c.min.result c.min.ensures)
