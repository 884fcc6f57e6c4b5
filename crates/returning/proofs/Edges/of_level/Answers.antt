-- `returning::Edges::of_level` meets its contract. Assumes nothing.
use Rattle.std.proofs.Common.{refl, sym, ◌∙◌}
use Rattle.format.specs.Sizes.{l1}
use Rattle.format.specs.Table.{height, hh}
use Rattle.format.proofs.TableLaws.{straight-1}
use Rattle.levels.proofs.Heights.{highs-2, highs-3}
use Rattle.returning.proofs.EdgeLaws.{none-edge, edge-2, edge-3}
use Rattle.returning.proofs.Edges.of_level.Goals as goal

pub returns-in-First : goal.returns-in-First
returns-in-First c =
    let z = c.args.b.z in
    rw c.in-First.is (λ y b. none-edge c.args.m y _ b (straight-1 z.guarded (height z.guarded z.n l1) hh y), refl)

pub returns-in-Second : goal.returns-in-Second
returns-in-Second c =
    let z = c.args.b.z in
    let q = rw c.in-Second.is at c.requires in
    let m = q ∙ sym (highs-2 z.guarded z.n) in
    rw (c.in-Second.is, m) (λ y b. edge-2 _ y b z.guarded _ c.from-plain.ensures, refl)

pub returns-in-Third : goal.returns-in-Third
returns-in-Third c =
    let z = c.args.b.z in
    let q = rw c.in-Third.is at c.requires in
    let m = q ∙ sym (highs-3 z.guarded z.n) in
    rw (c.in-Third.is, m) (λ y b. edge-3 _ y b z.guarded _ c.from-plain.ensures, refl)
