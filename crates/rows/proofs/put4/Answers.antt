-- `put4` meets its contract. Assumes nothing.
use Rattle.std.proofs.Common.{rules, w32, SFits}
use mir.ValLaws.{to_z-of_z}
use Rattle.rows.proofs.put4.Goals.{After-put-2, After-put-3}
use Rattle.rows.proofs.put4.Goals as goal

pub returns : goal.returns
returns c =
    let p3 = (goal.at.returns c).After-put-3 in
    let p2 = (goal.at.After-put-3 p3).After-put-2 in
    let q = p2.args.q in
    let a : SFits w32 q.a = search rules in
    let b : SFits w32 q.b = search rules in
    let c' : SFits w32 q.c = search rules in
    let d : SFits w32 q.d = search rules in
    simp (
      c.put-4.ensures,
      p3.put-3.ensures,
      p2.put-2.ensures,
      p2.put.ensures,
      to_z-of_z w32 q.a a,
      to_z-of_z w32 q.b b,
      to_z-of_z w32 q.c c',
      to_z-of_z w32 q.d d,
    )
