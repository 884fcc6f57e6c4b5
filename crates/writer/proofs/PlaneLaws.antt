-- From planes to coefficients that may be written, and what refuses the planes. Assumes nothing.
use Rattle.std.proofs.Common.{◌≡◌, refl, sym, ap, ◌∙◌, true, List, ℕ, ◌+◌, ◌*◌, ◌/◌, ◌≤◌, mul-le-mul_right, mul-le-mul_left, arith, ℤ, length}
use Rattle.std.proofs.lemmas.Bool.{false≢true}
use Rattle.lists.specs.Lists.{part}
use Rattle.format.specs.Sizes.{Colour, green, red, blue, index, l1, l2, l3, Group, base, detail, final, present, columns, stripes, guarded, work_length}
use Rattle.format.specs.Recovery.{recover}
use Rattle.format.specs.Numbers.{packet_rows, packet_numbers}
use Rattle.format.specs.Writing.{records, numbers_refusal, planes_refusal}
use Rattle.format.proofs.TurnLaws.{stops}
use Rattle.format.proofs.Exact.{tall-of}
use Rattle.recovery.specs.Recovered.{Room, Recovered}
use Rattle.assembly.specs.Tile.{Holds, packet_in}
use Rattle.assembly.proofs.Mild.{small-coefs}
use Rattle.assembly.proofs.Places.{work-units}
use Rattle.writing.proofs.Checked.{small}
use Rattle.writer.specs.Write.{plan_of, Fit, Filled, coefs_refusal}

module _ (w H green_n red_n blue_n : ℕ) (f : Fit w H green_n red_n blue_n) where
  -- the units are few
  units : (stripes H + 1) * (w / 16) ≤ 2049 * 4096
  units =
      let a : stripes H + 1 ≤ 2049 = omega (arith, f.low) in
      let b : w / 16 ≤ 4096 = omega (arith, f.narrow) in
      let c = mul-le-mul_right (w / 16) a in
      let d = mul-le-mul_left 2049 b in
      omega (arith, c, d)

  pub plan-room : (n : ℕ) → n ≡ work_length w H → Room (plan_of w H) n green_n red_n blue_n
  plan-room n e =
      record {
        fits = (record { whole = f.whole; wide = f.wide; tall = tall-of H f.tall; few = omega (arith, f.low) }, record { some = omega arith; few = omega (arith, f.low); small = omega (arith, units) });
        all = refl;
        room = sym (e ∙ work-units w H f.whole ∙ omega arith);
        greens = f.greens;
        reds = f.reds;
        blues = f.blues;
      }

  module _ (p : Colour → List ℤ) (work : List ℤ) (e : length work ≡ work_length w H) (is : Recovered (plan_of w H) p work) where
    stand : (g : Group) (i : Colour) → present g i ≡ true → packet_in w H g i work ≡ packet_numbers w g (records H) (recover w H p g i)
    unfolding recover
    stand base i h =
        let e : index i * (64 * (records H * (w / 16))) + 0 ≡ index i * (64 * (records H * (w / 16))) = omega arith in
        ap (λ (a : ℕ). part work a (packet_rows base (records H) * columns w base)) (sym e) ∙ is.steps i
    stand (detail l1) i h = is.details i l1
    stand (detail l2) i h = is.details i l2
    stand (detail l3) i h = is.details i l3
    stand final green h =
        let e : 192 * (records H * (w / 16)) + 0 ≡ 192 * (records H * (w / 16)) = omega arith in
        ap (λ (a : ℕ). part work a (packet_rows final (records H) * columns w final)) (sym e) ∙ is.finals
    stand final red h = absurd (false≢true h)
    stand final blue h = absurd (false≢true h)

    pub holds : Holds w H (recover w H p) work
    holds = record { stand = stand }

    pub filled : numbers_refusal (guarded H) (stripes H) w p ≡ 0 → Filled w H work
    filled none =
        record {
          tile = record { wide = f.wide; narrow = f.narrow; even = f.whole; tall = f.low; long = omega (arith, e, work-units w H f.whole); small = small-coefs w H (recover w H p) work holds (small w H p none) };
          v = recover w H p;
          holds = holds;
        }

-- ---- what refuses the planes
module _ (w H n : ℕ) (p : Colour → List ℤ) where
  pub numbers-refused : (k : ℕ) → k ≡ numbers_refusal (guarded H) (stripes H) w p → (k ≡ 0 → ⊥) → k ≡ planes_refusal w H p n
  unfolding planes_refusal
  numbers-refused k e some = e ∙ sym (stops (numbers_refusal (guarded H) (stripes H) w p) _ (λ z. some (e ∙ z)))

  pub numbers-fine : numbers_refusal (guarded H) (stripes H) w p ≡ 0 → coefs_refusal w H (recover w H p) n ≡ planes_refusal w H p n
  unfolding planes_refusal
  numbers-fine e = rw e refl
