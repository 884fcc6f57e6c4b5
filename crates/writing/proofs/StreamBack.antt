-- A written stream is read back: its header, its directory and its packets. The list s may go on past the stream. Assumes nothing.
use Rattle.std.proofs.Common.{◌≡◌, refl, ◌∙◌, List, ◌++◌, ℕ, zero, suc, ◌+◌, ◌*◌, ◌/◌, ◌%◌, ◌^◌, ◌≤◌, ◌<◌, arith, length, get_or, length-append, lt-ltb}
use Rattle.std.proofs.lemmas.Bool.{lt-leb}
use Rattle.lists.specs.Lists.{rows, part}
use Rattle.lists.proofs.Rows.{length-rows}
use Rattle.lists.proofs.Tab.{get_d_part, length_part}
use Rattle.format.specs.Bits.{bit_at, bits_at}
use Rattle.format.specs.Sizes.{Group, base, detail, final, numbered, indexed}
use Rattle.format.specs.Strip.{width, coded_height, group_size}
use Rattle.format.specs.Packets.{sum, entry_count, block_size, length_place, entry_length, block_at, group_start, packet_start, packet_length, packet_of}
use Rattle.format.specs.Coefficients.{Coefs}
use Rattle.format.specs.Writing.{number_bits, zero_bits, entries, records, record_bytes, head_units, packet_bits, packet_units, group_bits, group_units, entry_units, block_bits, header_bits, stream_bits, stream_length}
use Rattle.format.proofs.BitLaws.{bits-add}
use Rattle.codes.proofs.Pushed.{length-number}
use Rattle.writing.proofs.Standing.{Stand, stand-left, stand-right, stand-rows, next-number, next-zeros, number-stands}
use Rattle.writing.proofs.PacketBack.{Fields, length-packet, length-of-rows}
use Rattle.writing.proofs.PacketGood.{sum_mono}

-- ---- bits that stand in a part of a list
pub stand-part : (s : List ℕ) (a n : ℕ) (b : List ℕ) → Stand s (8 * a) b → length b ≤ 8 * n → Stand (part s a n) 0 b
unfolding bit_at
stand-part s a n b h l k j =
    let q : (8 * a + k) / 8 ≡ a + (0 + k) / 8 = omega arith in
    let r : (8 * a + k) % 8 ≡ (0 + k) % 8 = omega arith in
    let e : get_or (part s a n) ((0 + k) / 8) 0 ≡ get_or s (a + (0 + k) / 8) 0 = get_d_part s a n ((0 + k) / 8) 0 (omega arith) in
    rw e (rw (q, r) at (h k j))

pub sixteen : (f g : ℕ → ℕ) (n : ℕ) → ((k : ℕ) → k < n → f k ≡ 16 * g k) → sum f n ≡ 16 * sum g n
unfolding sum
sixteen f g zero e = refl
sixteen f g (suc n) e = omega (arith, sixteen f g n (λ k l. e k (omega arith)), e n (omega arith))

-- ---- what a stream must have for its fields to hold its numbers
pub few-entries : (g : ℕ) → (0 < entries (numbered g)) × (entries (numbered g) ≤ 3)
few-entries zero = omega arith
few-entries (suc zero) = omega arith
few-entries (suc (suc zero)) = omega arith
few-entries (suc (suc (suc zero))) = omega arith
few-entries (suc (suc (suc (suc g)))) = omega arith

module _ (w H : ℕ) (v : Coefs) where
  pub record Fits : Type 0 where
    pub narrow : w < 2 ^ 16
    pub whole : w % 16 ≡ 0
    pub wide : 0 < w
    pub even : H % 2 ≡ 0
    pub tall : 16 ≤ H
    pub low : H ≤ 32767
    pub short : (g k r : ℕ) → g < 5 → k < entries (numbered g) → r < records H → record_bytes w H v (numbered g) (indexed k) r < 2 ^ 16
    pub groups : (g : ℕ) → g < 5 → group_units w H v g < 2 ^ 24

  few-heads : (g : Group) → H ≤ 32767 → head_units H g ≤ 2 ^ 16
  unfolding head_units
  few-heads base l = omega arith
  few-heads (detail k) l = omega arith
  few-heads final l = omega arith

  pub packet-in : (g k : ℕ) → k < entries (numbered g) → sum (λ j. packet_units w H v (numbered g) (indexed j)) k + packet_units w H v (numbered g) (indexed k) ≤ group_units w H v g
  unfolding group_units sum
  packet-in g k l = sum_mono (λ j. packet_units w H v (numbered g) (indexed j)) (suc k) (entries (numbered g)) l

  module _ (f : Fits) where
    pub fields : (g k : ℕ) → g < 5 → k < entries (numbered g) → Fields w H v (numbered g) (indexed k)
    unfolding packet_units
    fields g k a b =
        record { few = omega (arith, f.low); heads = few-heads (numbered g) f.low; payload = omega (arith, packet-in g k b, f.groups g a); short = λ r l. f.short g k r a b l }

    -- ---- lengths
    length-sizes : (g : ℕ) → length (rows g (λ j. number_bits 24 (group_units w H v j))) ≡ g * 24
    length-sizes g = length-rows 24 (λ j. number_bits 24 (group_units w H v j)) (λ j. length-number 24 (group_units w H v j)) g

    length-header : length (header_bits w H v) ≡ 384
    unfolding header_bits
    length-header =
        simp (length-append, length-number, length-sizes)

    length-lengths : (g k : ℕ) → length (rows k (λ j. number_bits 24 (entry_units w H v g j))) ≡ k * 24
    length-lengths g k = length-rows 24 (λ j. number_bits 24 (entry_units w H v g j)) (λ j. length-number 24 (entry_units w H v g j)) k

    length-block : (g : ℕ) → length (block_bits w H v g) ≡ 128
    unfolding block_bits
    length-block g = simp (length-append, length-number, length-lengths)

    length-blocks : (g : ℕ) → length (rows g (block_bits w H v)) ≡ g * 128
    length-blocks g = length-rows 128 (block_bits w H v) length-block g

    length-packets : (g k : ℕ) → length (rows k (λ j. packet_bits w H v (numbered g) (indexed j))) ≡ 128 * sum (λ j. packet_units w H v (numbered g) (indexed j)) k
    length-packets g k =
        length-of-rows (λ j. packet_bits w H v (numbered g) (indexed j)) (λ j. packet_units w H v (numbered g) (indexed j)) 128 k (λ j. length-packet w H v (numbered g) (indexed j))

    length-group : (g : ℕ) → length (group_bits w H v g) ≡ 128 * group_units w H v g
    unfolding group_bits group_units
    length-group g = length-packets g (entries (numbered g))

    length-groups : (g : ℕ) → length (rows g (group_bits w H v)) ≡ 128 * sum (group_units w H v) g
    length-groups g = length-of-rows (group_bits w H v) (group_units w H v) 128 g length-group

    pub length-stream : length (stream_bits w H v) ≡ 8 * stream_length w H v
    unfolding stream_bits stream_length
    length-stream =
        length-append (header_bits w H v) (rows 5 (block_bits w H v) ++ rows 5 (group_bits w H v))
        ∙ omega (arith, length-header, length-append (rows 5 (block_bits w H v)) (rows 5 (group_bits w H v)), length-blocks 5, length-groups 5)

    -- ---- a list s that begins with the stream
    module _ (s : List ℕ) (stand : Stand s 0 (stream_bits w H v)) (long : stream_length w H v ≤ length s) where
      tail : List ℕ
      tail = rows 5 (block_bits w H v) ++ rows 5 (group_bits w H v)

      stand-header : Stand s 0 (header_bits w H v)
      unfolding stream_bits tail
      stand-header = stand-left s 0 (header_bits w H v) tail stand

      stand-tail : Stand s 384 (rows 5 (block_bits w H v) ++ rows 5 (group_bits w H v))
      unfolding stream_bits tail
      stand-tail = let e : 0 + length (header_bits w H v) ≡ 384 = omega (arith, length-header) in rw e at (stand-right s 0 (header_bits w H v) tail stand)

      stand-groups : Stand s 1024 (rows 5 (group_bits w H v))
      stand-groups =
          let e : 384 + length (rows 5 (block_bits w H v)) ≡ 1024 = omega (arith, length-blocks 5) in
          rw e at (stand-right s 384 (rows 5 (block_bits w H v)) (rows 5 (group_bits w H v)) stand-tail)

      -- the header's numbers
      pub record Header : Type 0 where
        pub magic : bits_at s 0 32 ≡ 0x41303030
        pub width : bits_at s 64 16 ≡ w
        pub half : bits_at s 80 16 ≡ H / 2
        pub twelve : bits_at s 96 16 ≡ 0x0100
        pub fourteen : bits_at s 112 16 ≡ 0x6C00
        pub sizes : Stand s 128 (rows 5 (λ g. number_bits 24 (group_units w H v g)))

      pub header : Header
      unfolding header_bits
      header =
          let r7 = rows 5 (λ g. number_bits 24 (group_units w H v g)) in
          let r6 = r7 ++ zero_bits 136 in
          let r5 = number_bits 16 0x6C00 ++ r6 in
          let r4 = number_bits 16 0x0100 ++ r5 in
          let r3 = number_bits 16 (H / 2) ++ r4 in
          let r2 = number_bits 16 w ++ r3 in
          let r1 = zero_bits 32 ++ r2 in
          let a = next-number s 0 32 0x41303030 r1 (omega arith) stand-header in
          let b = next-zeros s 32 32 r2 a.1 in
          let c = next-number s 64 16 w r3 f.narrow b.1 in
          let d = next-number s 80 16 (H / 2) r4 (omega (arith, f.low)) c.1 in
          let e = next-number s 96 16 0x0100 r5 (omega arith) d.1 in
          let g = next-number s 112 16 0x6C00 r6 (omega arith) e.1 in
          record { magic = a.0; width = c.0; half = d.0; twelve = e.0; fourteen = g.0; sizes = stand-left s 128 r7 (zero_bits 136) g.1 }

      pub size-read : (g : ℕ) → g < 5 → group_size s g ≡ 16 * group_units w H v g
      unfolding group_size
      size-read g l =
          let e : 128 + length (rows g (λ j. number_bits 24 (group_units w H v j))) ≡ 8 * (16 + 3 * g) = omega (arith, length-sizes g) in
          let n = number-stands s (8 * (16 + 3 * g)) 24 (group_units w H v g) (f.groups g l) (rw e at (stand-rows s 128 5 (λ j. number_bits 24 (group_units w H v j)) g l header.sizes)) in
          omega (arith, n)

      -- ---- the directory: the block of group g
      stand-block : (g : ℕ) → g < 5 → Stand s (8 * (48 + 16 * g)) (block_bits w H v g)
      stand-block g l =
          let e : 384 + length (rows g (block_bits w H v)) ≡ 8 * (48 + 16 * g) = omega (arith, length-blocks g) in
          rw e at (stand-rows s 384 5 (block_bits w H v) g l (stand-left s 384 (rows 5 (block_bits w H v)) (rows 5 (group_bits w H v)) stand-tail))

      module _ (g : ℕ) (l : g < 5) where
        block-parts : (entry_count s (48 + 16 * g) ≡ entries (numbered g)) × Stand s (8 * (48 + 16 * g) + 4 + 4) (rows 5 (λ k. number_bits 24 (entry_units w H v g k)))
        unfolding block_bits entry_count
        block-parts =
            let p = 8 * (48 + 16 * g) in
            let r2 = rows 5 (λ k. number_bits 24 (entry_units w H v g k)) in
            let r1 = number_bits 4 (entries (numbered g)) ++ r2 in
            let a = next-zeros s p 4 r1 (stand-block g l) in
            let b = next-number s (p + 4) 4 (entries (numbered g)) r2 (omega (arith, (few-entries g).1)) a.1 in
            (omega (arith, bits-add s p 4 4, a.0, b.0, (few-entries g).1), b.1)

        pub count-read : entry_count s (48 + 16 * g) ≡ entries (numbered g)
        count-read = block-parts.0

        pub block-16 : block_size s (48 + 16 * g) ≡ 16
        unfolding block_size
        block-16 = rw (count-read, lt-leb 5 (entries (numbered g)) (omega (arith, (few-entries g).1)))

        pub length-read : (k : ℕ) → k < entries (numbered g) → entry_length s (48 + 16 * g) k ≡ 16 * packet_units w H v (numbered g) (indexed k)
        unfolding entry_length length_place entry_units
        length-read k b =
            let five : k < 5 = omega (arith, (few-entries g).1) in
            let e : 8 * (48 + 16 * g) + 4 + 4 + length (rows k (λ j. number_bits 24 (entry_units w H v g j))) ≡ 8 * (48 + 16 * g + (1 + 3 * k)) = omega (arith, length-lengths g k) in
            let u : entry_units w H v g k ≡ packet_units w H v (numbered g) (indexed k) = rw (lt-ltb k (entries (numbered g)) b) in
            let n = number-stands s (8 * (48 + 16 * g + (1 + 3 * k))) 24 (entry_units w H v g k) (omega (arith, packet-in g k b, f.groups g l, u)) (rw e at (stand-rows s _ 5 (λ j. number_bits 24 (entry_units w H v g j)) k five block-parts.1)) in
            rw (lt-ltb k 5 five) (omega (arith, n, u))

      pub block-at : (g : ℕ) → g ≤ 5 → block_at s g ≡ 48 + 16 * g
      unfolding block_at
      block-at zero l = refl
      block-at (suc g) l = rw (block-at g (omega arith), block-16 g l) (omega arith)

      -- ---- the packets
      module _ (g k : ℕ) (l : g < 5) (b : k < entries (numbered g)) where
        pub packet-length : packet_length s g k ≡ 16 * packet_units w H v (numbered g) (indexed k)
        unfolding packet_length
        packet-length = rw (block-at g (omega arith)) (length-read g l k b)

      pub start-read : (g k : ℕ) → g < 5 → k ≤ entries (numbered g) → packet_start s g k ≡ 128 + 16 * sum (group_units w H v) g + 16 * sum (λ j. packet_units w H v (numbered g) (indexed j)) k
      unfolding packet_start group_start
      start-read g k l b =
          let a = sixteen (group_size s) (group_units w H v) g (λ j c. size-read j (omega arith)) in
          let c = sixteen (entry_length s (48 + 16 * g)) (λ j. packet_units w H v (numbered g) (indexed j)) k (λ j d. length-read g l j (omega arith)) in
          rw (block-at g (omega arith)) (omega (arith, a, c))

      module _ (g k : ℕ) (l : g < 5) (b : k < entries (numbered g)) where
        stand-packet : Stand s (8 * packet_start s g k) (packet_bits w H v (numbered g) (indexed k))
        unfolding group_bits
        stand-packet =
            let e : 1024 + length (rows g (group_bits w H v)) + length (rows k (λ j. packet_bits w H v (numbered g) (indexed j))) ≡ 8 * packet_start s g k =
            omega (arith, length-groups g, length-packets g k, start-read g k l (omega arith)) in
            rw e at (stand-rows s _ (entries (numbered g)) (λ j. packet_bits w H v (numbered g) (indexed j)) k b (stand-rows s 1024 5 (group_bits w H v) g l stand-groups))

        pub packet-ends : packet_start s g k + packet_length s g k ≤ length s
        unfolding stream_length sum
        packet-ends =
            omega (arith, start-read g k l (omega arith), packet-length g k l b, packet-in g k b, sum_mono (group_units w H v) (suc g) 5 l, long)

        pub packet-size : length (packet_of s g k) ≡ 16 * packet_units w H v (numbered g) (indexed k)
        unfolding packet_of
        packet-size = length_part s (packet_start s g k) (packet_length s g k) packet-ends ∙ packet-length g k l b

        pub packet-stands : Stand (packet_of s g k) 0 (packet_bits w H v (numbered g) (indexed k))
        unfolding packet_of
        packet-stands =
            stand-part s (packet_start s g k) (packet_length s g k) (packet_bits w H v (numbered g) (indexed k)) stand-packet
            (omega (arith, length-packet w H v (numbered g) (indexed k), packet-length g k l b))

      pub size-width : width s ≡ w
      size-width = header.width

      pub size-height : coded_height s ≡ H
      size-height = omega (arith, header.half, f.even)
