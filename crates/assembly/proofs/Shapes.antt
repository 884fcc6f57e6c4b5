-- Laws of a packet's shape: the numbers of its headers are small. Assumes nothing.
use Rattle.std.proofs.Common.{◌≡◌, refl, ap, ◌∙◌, List, ◌++◌, append_assoc, ℕ, ◌+◌, ◌-◌, ◌*◌, ◌^◌, ◌≤◌, ◌<◌, mul-le-mul_right, arith, ℤ, length, length-append, ltb, pow_pos, ltb-false}
use Rattle.std.proofs.Math.ListN.{length-replicate}
use Rattle.format.specs.Refusals.{◌▷◌, on, each}
use Rattle.format.specs.Writing.{number_bits, zero_bits}
use Rattle.format.proofs.TurnLaws.{one, not_on, each-zero}
use Rattle.encoding.specs.Record.{record_in}
use Rattle.codes.proofs.Pushed.{length-number, number-join, number-zeros}
use Rattle.encoding.specs.Numbers.{Small, line}
use Rattle.encoding.proofs.Records.{row_fits, part_small}
use Rattle.lists.proofs.Tab.{length_part}
use Rattle.assembly.specs.Packet.{Sound, head_units_of, open_bits, head_of, numbers_at, bits_of, bytes_of, long_refusal}
use Rattle.assembly.specs.declared.packet.Shape.{Shape}

module _ (z : Shape) (h : Sound z) where
  -- 28 bits for each record at most
  pub heads-most : (16 + 4 * z.components) * z.records ≤ 28 * 2049
  heads-most =
      let a : (16 + 4 * z.components) * z.records ≤ 28 * z.records = mul-le-mul_right z.records (omega (arith, h.kind)) in
      omega (arith, h.few)

  pub head_few : head_units_of z < 2 ^ 12
  unfolding head_units_of
  head_few = omega (arith, heads-most)

  pub head-some : 1 ≤ head_units_of z
  unfolding head_units_of
  head-some = omega arith

-- the packet header field by field, as it is written
pub open-bits : (z : Shape) (n : ℕ) → number_bits 16 (head_units_of z - 1) ++ (number_bits 24 n ++ (number_bits 8 64 ++ (number_bits 8 (z.components * 64) ++ (number_bits 16 z.records ++ number_bits 56 (16 * 2 ^ 48))))) ≡ open_bits z n
unfolding open_bits
open-bits z n =
    let tag : number_bits 8 (4 * 2 ^ 4 + 0) ≡ number_bits 4 4 ++ zero_bits 4 = number-join 4 4 4 0 (pow_pos 4) ∙ ap (λ (x : List ℕ). number_bits 4 4 ++ x) (number-zeros 4) in
    let six : z.components * 64 ≡ z.components * 2 ^ 6 + 0 = omega arith in
    let kind : number_bits 8 (z.components * 64) ≡ number_bits 2 z.components ++ zero_bits 6 =
    ap (number_bits 8) six ∙ number-join 2 z.components 6 0 (pow_pos 6) ∙ ap (λ (x : List ℕ). number_bits 2 z.components ++ x) (number-zeros 6) in
    let last : number_bits 56 (16 * 2 ^ 48 + 0) ≡ number_bits 8 16 ++ (zero_bits 8 ++ zero_bits 40) =
    number-join 8 16 48 0 (pow_pos 48) ∙ ap (λ (x : List ℕ). number_bits 8 16 ++ x) (number-zeros 48) in
    (λ i. number_bits 16 (head_units_of z - 1) ++ (number_bits 24 n ++ (tag i ++ (kind i ++ (number_bits 16 z.records ++ last i)))))
    ∙ simp append_assoc

pub length-head : (z : Shape) (n : ℕ) → length (head_of z n) ≡ 16 + 4 * z.components
length-head z n =
    length-append (number_bits 16 n) (zero_bits (4 * z.components)) ∙ omega (arith, length-number 16 n, length-replicate {A = ℕ} (4 * z.components) 0)

-- ---- record k
pub few_bytes : (z : Shape) (l : List ℤ) (k : ℕ) → long_refusal z l ≡ 0 → k < z.records → bytes_of z l k < 2 ^ 16
unfolding long_refusal
few_bytes z l k h less =
    omega (arith, ltb-false 65535 (bytes_of z l k) (not_on _ 25 (each-zero (λ k. on (ltb 65535 (bytes_of z l k)) 26) k z.records h less)))

module _ (z : Shape) (l : List ℤ) (k : ℕ) (long : length l ≡ z.records * (z.rows * z.cols)) (less : k < z.records) where
  pub record-length : length (numbers_at z l k) ≡ z.rows * z.cols
  record-length = length_part l (k * (z.rows * z.cols)) (z.rows * z.cols) (row_fits l (z.rows * z.cols) z.records k (k * (z.rows * z.cols)) long less refl)

pub record-small : (z : Shape) (l : List ℤ) (k : ℕ) → Small (line l) → Small (line (numbers_at z l k))
record-small z l k h = part_small l (k * (z.rows * z.cols)) (z.rows * z.cols) h

pub record-bits : (z : Shape) (l : List ℤ) (k : ℕ) → record_in z.cols z.rows (numbers_at z l k) ≡ bits_of z l k
unfolding bits_of
record-bits z l k = refl

-- ---- one check more
pub each_next : (f : ℕ → ℕ) (n : ℕ) → each f (n + 1) ≡ (each f n ▷ f n)
unfolding each
each_next f n = rw (one n) refl
