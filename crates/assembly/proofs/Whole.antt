-- A packet filled up to whole units. Assumes nothing.
use Rattle.std.proofs.Common.{◌≡◌, refl, sym, ap, ◌∙◌, List, [], ◌++◌, ℕ, zero, suc, ◌+◌, ◌-◌, ◌*◌, ◌%◌, ◌≤◌, arith, ℤ, length, length-append}
use Rattle.std.proofs.Math.ListN.{length-replicate}
use Rattle.lists.specs.Lists.{rows}
use Rattle.lists.proofs.Rows.{length-rows}
use Rattle.format.specs.Packets.{sum}
use Rattle.format.specs.Writing.{zero_bits, units, filled, packed}
use Rattle.codes.specs.Wrote.{Wrote, Fresh, Room, Appends}
use Rattle.codes.proofs.Pushed.{length-number}
use Rattle.codes.proofs.Laws.{room_after}
use Rattle.codes.specs.declared.BitWriter.{BitWriter}
use Rattle.encoding.proofs.Records.{length-filled}
use Rattle.codes.proofs.Finished.{packed-append, fresh-wrote, fresh-room}
use Rattle.assembly.specs.Packet.{head_units_of, open_bits, head_of, bits_of, bytes_of, payload_of, heads_of, records_of, bits_in}
use Rattle.assembly.specs.declared.packet.Shape.{Shape}
use Rattle.assembly.proofs.Shapes.{open-bits, length-head}

-- zeros up to n units
pub filled-to : (b : List ℕ) (n : ℕ) → n ≡ units 128 b → b ++ zero_bits (8 * (16 * n) - length b) ≡ filled 128 b
unfolding filled
filled-to b n e = let m : 8 * (16 * n) - length b ≡ units 128 b * 128 - length b = omega arith in ap (λ (k : ℕ). b ++ zero_bits k) m

pub length-units : (b : List ℕ) → length (filled 128 b) ≡ 128 * units 128 b
unfolding filled
length-units b = length-append b (zero_bits (units 128 b * 128 - length b)) ∙ omega (arith, length-replicate {A = ℕ} (units 128 b * 128 - length b) 0)

pub length-open : (z : Shape) (n : ℕ) → length (open_bits z n) ≡ 128
length-open z n = ap length (sym (open-bits z n)) ∙ simp (length-append, length-number)

module _ (z : Shape) (l : List ℤ) where
  pub length-heads : (n : ℕ) → length (heads_of z l n) ≡ n * (16 + 4 * z.components)
  length-heads n = length-rows (16 + 4 * z.components) (λ k. head_of z (bytes_of z l k)) (λ k. length-head z (bytes_of z l k)) n

  pub length-records : (n : ℕ) → length (records_of z l n) ≡ 8 * sum (bytes_of z l) n
  unfolding rows sum
  length-records zero = refl
  length-records (suc n) = length-append (records_of z l n) (filled 8 (bits_of z l n)) ∙ omega (arith, length-records n, length-filled (bits_of z l n))

  pub head-units : head_units_of z ≡ units 128 (open_bits z (payload_of z l) ++ heads_of z l z.records)
  unfolding head_units_of
  head-units =
      let e : length (open_bits z (payload_of z l) ++ heads_of z l z.records) ≡ 128 + z.records * (16 + 4 * z.components) =
      length-append (open_bits z (payload_of z l)) (heads_of z l z.records) ∙ omega (arith, length-open z (payload_of z l), length-heads z.records) in
      omega (arith, e)

  pub payload-units : payload_of z l ≡ units 128 (records_of z l z.records)
  unfolding payload_of
  payload-units = omega (arith, length-records z.records)

  -- both, packed
  pub packet-packed : packed (filled 128 (open_bits z (payload_of z l) ++ heads_of z l z.records)) ++ packed (filled 128 (records_of z l z.records)) ≡ packed (bits_in z l)
  unfolding bits_in
  packet-packed = let a = open_bits z (payload_of z l) ++ heads_of z l z.records in sym (packed-append (filled 128 a) _ (omega (arith, length-units a)))

  -- whole bytes
  pub whole-bits : length (bits_in z l) % 8 ≡ 0
  unfolding bits_in
  whole-bits =
      let a = open_bits z (payload_of z l) ++ heads_of z l z.records in
      let b = records_of z l z.records in
      omega (arith, length-append (filled 128 a) (filled 128 b), length-units a, length-units b)

-- ---- a writer over a slice of its own: the room that is left, and the bits filled up to its end
pub room-whole : (s : List ℕ) (w r : BitWriter) (x : List ℕ) (k : ℕ) → Fresh w s → Appends w r x → length x + k ≤ 8 * length s → Room r k
room-whole s w r x k f a h = room_after w r x (length x + k) k (fresh-room w s (length x + k) f h) a (omega arith)

pub filled-whole : (s t : List ℕ) (w r : BitWriter) (x : List ℕ) (n : ℕ) → Fresh w s → Appends w r x → length s ≡ 16 * n → n ≡ units 128 x
    → ((old y : List ℕ) → Wrote old r.out.now r.place r.cache r.held y → t ≡ packed (y ++ zero_bits (8 * length r.out.now - length y))) → t ≡ packed (filled 128 x)
filled-whole s t w r x n f a long e h =
    let m : length r.out.now ≡ 16 * n = a.long ∙ ap length f.slice ∙ long in
    h s x (a.wrote s [] (fresh-wrote w s f)) ∙ ap (λ (k : ℕ). packed (x ++ zero_bits (8 * k - length x))) m ∙ ap packed (filled-to x n e)
