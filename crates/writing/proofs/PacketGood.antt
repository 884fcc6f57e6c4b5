-- A written packet is refused by no check. Assumes nothing.
use Rattle.std.proofs.Common.{◌≡◌, refl, List, true, ◌||◌, ⊎_elim, ℕ, zero, suc, ◌+◌, ◌*◌, ◌≤◌, ◌<◌, mul-le-mul_right, arith, length, eqb, le-ltb, eq-eqb, ne_eqb}
use Rattle.format.specs.Sizes.{Colour, Group, base, detail, final, components}
use Rattle.format.specs.Packets.{sum, size_of, record_bit, record_length, payload_at}
use Rattle.format.specs.Refusals.{each, record_refusal, packet_refusal}
use Rattle.format.specs.Coefficients.{Coefs}
use Rattle.format.specs.Writing.{records, record_bytes, head_units, payload_units, packet_bits, packet_units}
use Rattle.format.proofs.BitLaws.{le-or-lt}
use Rattle.format.proofs.RecordLaws.{record-good}
use Rattle.writing.proofs.Standing.{Stand}
use Rattle.writing.proofs.PacketBack.{Fields, read, head-some, length-read, lengths_read}

pub each-good : (f : ℕ → ℕ) (n : ℕ) → ((k : ℕ) → k < n → f k ≡ 0) → each f n ≡ 0
unfolding each
each-good f zero h = refl
each-good f (suc n) h = rw (each-good f n (λ k l. h k (omega arith)), h n (omega arith))

pub sum_mono : (f : ℕ → ℕ) (k n : ℕ) → k ≤ n → sum f k ≤ sum f n
unfolding sum
sum_mono f k zero h = let e : k ≡ 0 = omega arith in rw e (omega arith)
sum_mono f k (suc n) h =
    ⊎_elim (λ (l : k ≤ n). omega (arith, sum_mono f k n l)) (λ (l : n < k). let e : k ≡ suc n = omega arith in rw e (omega arith)) (le-or-lt k n)

one-or-three : (g : Group) → (eqb (components g) 1 || eqb (components g) 3) ≡ true
one-or-three base = refl
one-or-three (detail l) = refl
one-or-three final = refl

module _ (w H : ℕ) (v : Coefs) (g : Group) (i : Colour) (f : Fields w H v g i) (p : List ℕ) (stand : Stand p 0 (packet_bits w H v g i)) (long : length p ≡ 16 * packet_units w H v g i) where
  -- each record's header and bytes lie in the packet
  headers-in : (k : ℕ) → k < records H → record_bit p (k + 1) ≤ length p * 8
  unfolding record_bit packet_units head_units
  headers-in k l =
      let m = mul-le-mul_right (16 + 4 * components g) l in
      rw (read w H v g i f p stand).kind (omega (arith, m, long))

  bytes-in : (k : ℕ) → k < records H → payload_at p k + record_length p k ≤ length p
  unfolding payload_at packet_units payload_units sum
  bytes-in k l =
      let s = sum_mono (record_bytes w H v g i) (suc k) (records H) l in
      omega (arith, s, long, (read w H v g i f p stand).control, lengths_read w H v g i f p stand k (omega arith), length-read w H v g i f p stand k l)

  size-good : size_of p ≡ length p
  unfolding size_of packet_units
  size-good = omega (arith, (read w H v g i f p stand).control, (read w H v g i f p stand).extra, long)

  pub packet-good : packet_refusal p ≡ 0
  unfolding packet_refusal packet_units
  packet-good =
      let r = read w H v g i f p stand in
      let most : records H ≤ 30000 = f.few in
      let rest : each (record_refusal p) (records H) ≡ 0 = each-good (record_refusal p) (records H) (λ k l. record-good p k (headers-in k l) (bytes-in k l)) in
      rw
      (le-ltb (length p) 16 (omega (arith, long, head-some w H v g i)), r.padding, r.tag, r.zero4, r.zero6, r.kind, one-or-three g, r.blocks, ne_eqb (records H) 0 (λ z. omega arith), le-ltb 30000 (records H) most, r.marker, r.zero8, eq-eqb (size_of p) (length p) size-good, rest)
