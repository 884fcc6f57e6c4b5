-- `put_zeros` meets its contract. Assumes nothing.
use Rattle.std.proofs.Common.{◌≡◌, ◌++◌, ap, ◌∙◌, ℕ, ◌+◌, ◌*◌, ◌%◌, arith}
use Rattle.std.proofs.Math.ListN.{length-replicate, replicate-append-replicate}
use Rattle.format.specs.Writing.{zero_bits}
use Rattle.codes.specs.Wrote.{Appends}
use Rattle.codes.proofs.Laws.{appends-none, appends-both, room_after}
use Rattle.codes.proofs.BitWriter.put_zeros.Goals as goal

-- zeros behind zeros
zeros-both : (n m k : ℕ) → n + m ≡ k → zero_bits n ++ zero_bits m ≡ zero_bits k
zeros-both n m k p = replicate-append-replicate n m 0 ∙ ap zero_bits p

pub loop-init : goal.loop-init
loop-init c = appends-none _ _ c.requires

pub put-requires : goal.put-requires
put-requires c = room_after _ _ _ _ _ c.requires c.loop.invariant (omega (arith, c.zeros.ensures.0, length-replicate {A = ℕ} (56 * c.loop.counter) 0))

pub loop-preserved : goal.loop-preserved
loop-preserved c =
    let t : Appends c.loop.self c.put.new.self (zero_bits 56) = rw c.zeros.ensures.1 at c.put.ensures in
    rw (← zeros-both (56 * c.loop.counter) 56 (56 * (c.loop.counter + 1)) (omega arith)) (appends-both _ _ _ _ _ c.loop.invariant t)

pub put-requires-2 : goal.put-requires-2
put-requires-2 c = room_after _ _ _ _ _ c.requires c.loop.invariant (omega (arith, c.zeros-2.ensures.0, length-replicate {A = ℕ} (56 * c.loop.counter) 0))

pub returns : goal.returns
returns c =
    let t : Appends c.loop.self c.put-2.new.self (zero_bits (8 * (c.args.k % 7))) = rw c.zeros-2.ensures.1 at c.put-2.ensures in
    rw (← zeros-both (56 * c.loop.counter) (8 * (c.args.k % 7)) (8 * c.args.k) (omega arith)) (appends-both _ _ _ _ _ c.loop.invariant t)
