-- `put_packets` meets its contract. Assumes nothing.
use Rattle.std.proofs.Common.{◌≡◌, refl, sym, ap, ◌∙◌, List, ◌++◌, ℕ, ◌+◌, ◌-◌, ◌*◌, ◌^◌, ◌≤◌, ◌<◌, length, get_or, take, drop, take_all, arith}
use Rattle.lists.specs.Lists.{rows}
use Rattle.lists.proofs.Tab.{get_or-tab, length_part}
use Rattle.format.specs.Packets.{sum}
use Rattle.format.specs.Writing.{packed}
use Rattle.format.proofs.TurnLaws.{sum-none, sum-on}
use Rattle.encoding.proofs.Records.{rows_none, rows_next, sum-add}
use Rattle.assembly.specs.Packet.{units_of, long_refusal, bits_in}
use Rattle.assembly.specs.Tile.{units_in, refusal_in, packet_bits_in}
use Rattle.assembly.proofs.Parts.{put_on, put-long}
use Rattle.assembly.proofs.Work.put_packets.Goals.{In-loop-p}
use Rattle.assembly.proofs.Work.put_packets.Goals as goal

pub loop-p-init : goal.loop-p-init
loop-p-init c =
    let s = c.args.self in
    (refl, omega (arith, sum-none (units_in s.w s.h s.numbers.now)), sym (rows_none (λ p. packed (packet_bits_in s.w s.h s.numbers.now p))))

-- its units, which are left
found : (c : In-loop-p) → get_or c.args.units.now.each c.loop-p.p 0 ≡ units_in c.args.self.w c.args.self.h c.args.self.numbers.now c.loop-p.p
found c =
    let s = c.args.self in
    let p = c.loop-p.p in
    (λ i. get_or (c.requires.0 i) p 0) ∙ get_or-tab 13 (units_in s.w s.h s.numbers.now) p 0 c.loop-p-test.true

sum-within : (f : ℕ → ℕ) (p n : ℕ) → p < n → sum f p + f p ≤ sum f n
sum-within f p n h = let e : p + 1 + (n - (p + 1)) ≡ n = omega arith in omega (arith, sum-on f p, sum-add f (p + 1) (n - (p + 1)), ap (sum f) e)

within : (c : In-loop-p) → c.loop-p.at + 16 * get_or c.args.units.now.each c.loop-p.p 0 ≤ length c.loop-p.out
within c =
    let s = c.args.self in
    let i = c.loop-p.invariant in
    omega (arith, found c, i.0, i.1, c.requires.2, sum-within (units_in s.w s.h s.numbers.now) c.loop-p.p 13 c.loop-p-test.true)

pub overflow_add-end : goal.overflow_add-end
overflow_add-end c = omega (arith, within (goal.at.overflow_add-end c).In-loop-p)

pub slice_bounds-put-end : goal.slice_bounds-put-end
slice_bounds-put-end c = within (goal.at.slice_bounds-put-end c).In-loop-p

less : (a b n : ℕ) → a + b < n → b < n
less a b n h = omega arith

pub put-requires : goal.put-requires
unfolding refusal_in units_in
put-requires c =
    let t = (goal.at.put-requires c).In-loop-p in
    let l = c.loop-p in
    let e = c.packet.ensures in
    let u = get_or c.args.units.now.each l.p 0 in
    let n : l.at + 16 * u - l.at ≡ 16 * u = omega arith in
    let short = c.requires.1 in (
      (λ i. long_refusal (e.0 i) (e.1 i)) ∙ short.records l.p c.loop-p-test.true,
      ap (λ (k : ℕ). length (take k (drop l.at l.out))) n ∙ length_part l.out l.at (16 * u) (within t) ∙ ap (λ (k : ℕ). 16 * k) (found t)
          ∙ sym (λ i. 16 * units_of (e.0 i) (e.1 i)),
      rw (e.0, e.1) (less _ _ (2 ^ 24) (short.units l.p c.loop-p-test.true)),
    )

pub loop-p-preserved : goal.loop-p-preserved
unfolding packet_bits_in
loop-p-preserved c =
    let t = (goal.at.loop-p-preserved c).In-loop-p in
    let s = c.args.self in
    let l = c.loop-p in
    let i = l.invariant in
    let e = c.packet.ensures in
    let a = l.at in
    let u = get_or c.args.units.now.each l.p 0 in
    let up : a ≤ a + 16 * u = omega arith in
    let g = c.put.auto.out in
    let ys = c.put.new.out in
    let run = put_on l.out ys _ a (a + 16 * u) up (within t) g i.2 in (
      put-long l.out ys a (a + 16 * u) up (within t) g ∙ i.0,
      omega (arith, i.1, found t, sum-on (units_in s.w s.h s.numbers.now) l.p),
      run ∙ ap (λ (ys : List ℕ). rows l.p (λ p. packed (packet_bits_in s.w s.h s.numbers.now p)) ++ ys) (c.put.ensures ∙ (λ j. packed (bits_in (e.0 j) (e.1 j))))
          ∙ rows_next (λ p. packed (packet_bits_in s.w s.h s.numbers.now p)) l.p,
    )

pub returns : goal.returns
returns c =
    let s = c.args.self in
    let l = c.loop-p in
    let e : l.p ≡ 13 = omega arith in
    let n : length l.out ≤ l.at = omega (arith, l.invariant.0, l.invariant.1, c.requires.2, ap (sum (units_in s.w s.h s.numbers.now)) e) in
    sym (take_all l.at l.out n) ∙ l.invariant.2 ∙ ap (λ (n : ℕ). rows n (λ p. packed (packet_bits_in s.w s.h s.numbers.now p))) e
