-- `put_block` meets its contract. Assumes nothing.
use Rattle.std.proofs.Common.{◌≡◌, ◌++◌, List, ℕ, arith}
use Rattle.lists.specs.Lists.{rows}
use Rattle.format.specs.Writing.{number_bits}
use Rattle.codes.specs.Wrote.{Appends}
use Rattle.codes.specs.declared.BitWriter.{BitWriter}
use Rattle.codes.proofs.Laws.{appends-none, appends-both, room_after}
use Rattle.codes.proofs.Pushed.{length-number}
use Rattle.encoding.proofs.Records.{rows_none, rows_next}
use Rattle.assembly.specs.Front.{entry_of}
use Rattle.assembly.proofs.Fronts.{length-entries, block-bits}
use Rattle.assembly.proofs.front.Sizes.put_block.Goals as goal

-- after five turns
all-five : (w r : BitWriter) (x : List ℕ) (f : ℕ → List ℕ) (n : ℕ) → n ≡ 5 → Appends w r (x ++ rows n f) → Appends w r (x ++ rows 5 f)
all-five w r x f n e h = rw e at h

pub loop-k-init : goal.loop-k-init
loop-k-init c =
    let r = room_after _ _ _ 128 0 c.requires.1 c.put.ensures (omega (arith, length-number)) in
    rw (rows_none (λ k. number_bits 24 (entry_of c.args.self.now.units.each c.args.group k))) (appends-none _ _ r)

pub put-requires-in-loop-k : goal.put-requires-in-loop-k
put-requires-in-loop-k c =
    let i = c.loop-k.invariant in
    record { few = i.few; small = i.small; room = omega (arith, length-number, length-entries c.args.self.now.units.each c.args.group c.loop-k.k) }

pub loop-k-preserved : goal.loop-k-preserved
loop-k-preserved c =
    let e = c.new-in-loop-k.ensures in
    let t = rw (e.0, e.1, c.entry.ensures.0) at (appends-both _ _ _ _ _ c.loop-k.invariant c.put-in-loop-k.ensures) in
    rw (← rows_next (λ k. number_bits 24 (entry_of c.args.self.now.units.each c.args.group k)) c.loop-k.k) t

pub returns : goal.returns
returns c =
    let e = c.new.ensures in
    let t = rw (e.0, e.1) at (appends-both _ _ _ _ _ c.put.ensures c.loop-k.invariant) in
    let n = c.entries.ensures in
    rw (← block-bits c.args.self.now.units.each c.args.group _ n.0 n.2) (all-five _ _ _ _ _ (omega arith) t)
