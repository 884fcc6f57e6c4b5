-- `put_front` meets its contract. Assumes nothing.
use Rattle.std.proofs.Common.{ℕ, length, ap, rules, arith}
use Rattle.std.proofs.Math.ListN.{length-replicate}
use Rattle.codes.proofs.Laws.{appends-both}
use Rattle.codes.proofs.Finished.{fresh-room}
use Rattle.assembly.proofs.Fronts.{length-named, length-sizes, front-packed}
use Rattle.assembly.proofs.front.Sizes.put_front.Goals as goal

pub put_named-requires : goal.put_named-requires
put_named-requires c = (c.requires.0, c.requires.1, fresh-room _ _ 128 c.new-b.ensures.fresh (omega arith))

pub put_sizes-requires : goal.put_sizes-requires
put_sizes-requires c =
    let f = c.new-b.ensures.fresh in
    let p = c.put_named.ensures in
    record { few = p.few; small = p.small; room = omega (arith, f.none_out, f.none_held, ap length f.slice, length-named c.args.w c.args.h) }

pub put_zeros-requires : goal.put_zeros-requires
put_zeros-requires c =
    let f = c.new-b.ensures.fresh in
    let p = c.put_sizes.ensures in
    record { few = p.few; small = p.small; room = omega (arith, f.none_out, f.none_held, ap length f.slice, length-named c.args.w c.args.h, length-sizes c.args.self.now.units.each 5) }

pub put_blocks-requires : goal.put_blocks-requires
put_blocks-requires c =
    let f = c.new-b.ensures.fresh in
    let p = c.put_zeros.ensures in
    record { few = p.few; small = p.small; room = omega (arith, f.none_out, f.none_held, ap length f.slice, length-named c.args.w c.args.h, length-sizes c.args.self.now.units.each 5, length-replicate {A = ℕ} 136 0) }

pub returns : goal.returns
returns c =
    let a = appends-both _ _ _ _ _ c.put_named.ensures (appends-both _ _ _ _ _ c.put_sizes.ensures (appends-both _ _ _ _ _ c.put_zeros.ensures c.put_blocks.ensures)) in
    front-packed c.args.w c.args.h c.args.self.now.units.each c.args.out.now _ _ _ c.requires.2 c.new-b.ensures.fresh a (search rules) (λ i. omega (arith, c.type_inv.out i))
