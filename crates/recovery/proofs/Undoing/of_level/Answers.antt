-- `recovery::Undoing::of_level` meets its contract. Assumes nothing.
use Rattle.std.proofs.Common.{arith, ap, ◌≡◌, ℕ, ◌+◌, ◌*◌, ◌/◌, false}
use Rattle.format.specs.Sizes.{l1, l2, l3, detail}
use Rattle.passes.specs.Plan.{unit_of}
use Rattle.returning.specs.Return.{packet_size}
use Rattle.recovery.proofs.IndexLaws.{packet-takes}
use Rattle.recovery.proofs.Undoing.of_level.Goals.{in-First, in-Second, in-Third}
use Rattle.recovery.proofs.Undoing.of_level.Goals as goal

pub returns : goal.returns
returns c =
    let k = c.args.b in
    let z = k.z in
    let at = k.at in
    let from = c.args.from in
    let whole = k.fits.0.whole in
    let all = c.requires.0 in
    let u = c.unit-u.ensures in
    elim c.match-s.branch [
      | in-First w ↦
          let h = rw w.in-First.is at c.level-g.ensures.rows in
          let n = rw w.in-First.is at c.level-g.ensures.cols in
          let m = rw w.in-First.is at c.steps.ensures in
          let a = ap (λ (x : ℕ). at + x) u in
          let b : at + 4 * c.unit-u.result ≡ at + unit_of z + packet_size z (detail l1) = omega (arith, u, packet-takes z (detail l1) whole all) in
          rw (w.leads-is, w.in-First.is) (λ i. record { c = n i; h = h i; m = m i; leads = z.guarded; t = 2 * z.w; to = from + 2 * n i; a = a i; b = b i })
      | in-Second w ↦
          let h = rw w.in-Second.is at c.level-g.ensures.rows in
          let n = rw w.in-Second.is at c.level-g.ensures.cols in
          let m = rw w.in-Second.is at c.steps.ensures in
          let a = ap (λ (x : ℕ). at + 4 * x) u in
          let b : at + 16 * c.unit-u.result ≡ at + 4 * unit_of z + packet_size z (detail l2) = omega (arith, u, packet-takes z (detail l2) whole all) in
          rw (w.leads-is, w.in-Second.is) (λ i. record { c = n i; h = h i; m = m i; leads = z.guarded; t = z.w; to = from + 2 * n i; a = a i; b = b i })
      | in-Third w ↦
          let h = rw w.in-Third.is at c.level-g.ensures.rows in
          let n = rw w.in-Third.is at c.level-g.ensures.cols in
          let m = rw w.in-Third.is at c.steps.ensures in
          let a = ap (λ (x : ℕ). at + 16 * x) u in
          let b : at + 64 * c.unit-u.result ≡ at + 16 * unit_of z + packet_size z (detail l3) = omega (arith, u, packet-takes z (detail l3) whole all) in
          rw (w.leads-is, w.in-Third.is) (λ i. record { c = n i; h = h i; m = m i; leads = false; t = z.w / 2; to = 192 * u i; a = a i; b = b i })
    ]
