-- `zeros_ahead` meets its contract. The loop's invariant: every bit that was passed is 0, and the word holds the bits after them. Assumes nothing.
use Rattle.std.proofs.Common.{◌≡◌, refl, sym, ap, ◌∙◌, List, ⊎_elim, ℕ, ◌+◌, ◌≤◌, ◌<◌, ◌*◌, min, arith, add-zero, add_assoc}
use lib.Count.{count_leading_zeros}
use Rattle.format.specs.Bits.{bits_at, bit_at, zeros_at}
use Rattle.format.proofs.BitLaws.{bits_none, le-or-lt, zero-prefix, zeros-all, zeros-found, zeros-join, lead-zeros, lead-none}
use Rattle.bits.proofs.zeros_ahead.Goals.{Else-z-lt57}
use Rattle.bits.proofs.zeros_ahead.Goals as goal

-- z zeros and a one, in so many bits
met : (s : List ℕ) (place z limit : ℕ) → bits_at s place z ≡ 0 → bit_at s (place + z) ≡ 1 → zeros_at s place limit ≡ min limit z
met s place z limit none one = ⊎_elim
    (λ (h : limit ≤ z). zeros-all s place limit (zero-prefix s place limit z none h) ∙ omega (arith, h))
    (λ (h : z < limit). zeros-found s place z limit none one h ∙ omega (arith, h))
    (le-or-lt limit z)

pub loop-k-init : goal.loop-k-init
loop-k-init c =
    let a = c.args in
    (bits_none a.packet.now a.place, c.requires.loaded ∙ ap (λ (p : ℕ). bits_at a.packet.now p 57) (sym (add-zero a.place)), omega arith)

pub returns-then-z-lt57 : goal.returns-then-z-lt57
returns-then-z-lt57 c =
    let a = c.args in
    let s = a.packet.now in
    let l = c.loop-k in
    let passed = 57 * l.k in
    let z = count_leading_zeros 64 l.word in
    let found = lead-zeros s (a.place + passed) l.word z l.invariant.2 l.invariant.1 refl c.if-z-lt57.true in
    let one : bit_at s (a.place + (passed + z)) ≡ 1 = rw (← add_assoc a.place passed z) found.1 in
    (c.min.ensures ∙ sym (met s a.place (passed + z) a.limit (zeros-join s a.place passed z l.invariant.0 found.0) one), omega (arith, c.min.ensures))

-- no one in the next word
none : (c : Else-z-lt57) → bits_at c.args.packet.now c.args.place (57 * c.loop-k.k + 57) ≡ 0
none c =
    let a = c.args in
    let l = c.loop-k in
    zeros-join a.packet.now a.place (57 * l.k) 57 l.invariant.0 (lead-none a.packet.now (a.place + 57 * l.k) l.word l.invariant.2 l.invariant.1 c.if-z-lt57.false)

pub loop-k-preserved : goal.loop-k-preserved
loop-k-preserved c =
    let a = c.args in
    let e = c.window-word.ensures in
    let next : 57 * c.loop-k.k + 57 ≡ 57 * (c.loop-k.k + 1) = omega arith in
    (rw (← next) (none (goal.at.loop-k-preserved c).Else-z-lt57), rw (← next) (rw add_assoc at e), omega arith)

pub returns : goal.returns
returns c =
    let a = c.args in
    (sym (zeros-all a.packet.now a.place a.limit (zero-prefix a.packet.now a.place a.limit (57 * c.loop-k.k) c.loop-k.invariant.0 (omega arith))), omega arith)
