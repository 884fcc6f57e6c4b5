-- `measure` meets its contract. Assumes nothing.
use Rattle.std.proofs.Common.{◌≡◌, ℕ, ltb, sym, ap, ◌∙◌, arith}
use Rattle.format.specs.Packets.{sum}
use Rattle.format.specs.Refusals.{◌▷◌, on, each}
use Rattle.format.specs.Writing.{units}
use Rattle.format.proofs.TurnLaws.{sum-none, sum-on, each_none}
use Rattle.refusals.specs.Number.{code_of}
use Rattle.refusals.proofs.Laws.{code_of-and}
use Rattle.assembly.specs.Packet.{bytes_of, payload_of, long_refusal}
use Rattle.assembly.proofs.Shapes.{each_next}
use Rattle.assembly.proofs.packet.Packet.measure.Goals as goal

pub loop-k-init : goal.loop-k-init
loop-k-init c =
    let s = c.args.self in
    (sym (sum-none (bytes_of s.shape s.numbers.now)), omega arith, sym (each_none (λ k. on (ltb 65535 (bytes_of s.shape s.numbers.now k)) 26)))

pub loop-k-preserved : goal.loop-k-preserved
loop-k-preserved c =
    let s = c.args.self in
    let k = c.loop-k.k in
    let i = c.loop-k.invariant in
    let n : c.bytes-n.result ≡ bytes_of s.shape s.numbers.now k = c.bytes-n.ensures.0 ∙ ap (units 8) c.record.ensures in (
      omega (arith, i.0, n, sum-on (bytes_of s.shape s.numbers.now) k),
      omega (arith, i.1, c.bytes-n.ensures.1),
      ap code_of c.and-passes.ensures ∙ code_of-and _ _ ∙ (λ j. i.2 j ▷ (c.within.ensures ∙ ap (λ (m : ℕ). on (ltb 65535 m) 26) n) j)
          ∙ sym (each_next (λ k. on (ltb 65535 (bytes_of s.shape s.numbers.now k)) 26) k),
    )

pub returns-clause-units : goal.returns-clause-units
unfolding payload_of
returns-clause-units c =
    let s = c.args.self in
    let e : c.loop-k.k ≡ s.shape.records = omega arith in
    let i = c.loop-k.invariant in
    let b = i.0 ∙ ap (sum (bytes_of s.shape s.numbers.now)) e in
    (omega (arith, c.head_bytes.ensures.0, b), omega (arith, c.head_bytes.ensures.1, i.1, e, s.sound.few))

pub returns-clause-refusal : goal.returns-clause-refusal
unfolding long_refusal
returns-clause-refusal c =
    let s = c.args.self in
    let e : c.loop-k.k ≡ s.shape.records = omega arith in
    c.loop-k.invariant.2 ∙ ap (each (λ k. on (ltb 65535 (bytes_of s.shape s.numbers.now k)) 26)) e
