-- A written packet is read back: its fields, its records' lengths and selectors, and its coefficients. Assumes nothing.
use Rattle.std.proofs.Common.{◌≡◌, refl, ap, ◌∙◌, List, ◌++◌, Bool, true, false, ℕ, zero, suc, ◌+◌, ◌-◌, ◌*◌, ◌/◌, ◌%◌, ◌^◌, ◌≤◌, ◌<◌, arith, nat_abs, length, length-append, eqb, eq-eqb, ne_eqb, eqb-true}
use Rattle.std.proofs.lemmas.List.{length-replicate}
use Rattle.std.proofs.lemmas.Bool.{eqb-false}
use Rattle.lists.specs.Lists.{tab, rows}
use Rattle.lists.proofs.Rows.{length-rows}
use Rattle.format.specs.Sizes.{Colour, l1, l2, l3, Group, base, detail, final, multiplier, components, columns}
use Rattle.format.specs.Packets.{sum, control, extra, tag, zero4, kind, zero6, blocks, marker, zero8, padding, record_bit, record_length, selector, payload_at}
use Rattle.format.specs.Reader.{Reader, start_of}
use Rattle.format.specs.Coefficients.{Coefs, Stretch, Part, rows_of, coded_record, record_of}
use Rattle.format.specs.Writing.{number_bits, zero_bits, row_bits, record_row, magnitudes, record_bits, units, filled, records, whole_record, record_bytes, record_head, head_units, payload_units, packet_head, packet_bits, packet_units}
use Rattle.codes.proofs.Pushed.{length-number}
use Rattle.format.proofs.TurnLaws.{sum_same}
use Rattle.encoding.proofs.Records.{length-filled}
use Rattle.writing.proofs.Standing.{Stand, stand-left, stand-right, stand-rows, next-number, next-zeros, zeros-part, zeros-stand, At, past}
use Rattle.format.specs.Used.{record_used}
use Rattle.format.proofs.UsedLaws.{used-left}
use Rattle.writing.proofs.RecordBack.{all_back, zero-record, rows-some}

-- ---- bits filled up to whole units
pub length-filled128 : (b : List ℕ) → length (filled 128 b) ≡ 128 * units 128 b
unfolding filled
length-filled128 b = length-append b (zero_bits (units 128 b * 128 - length b)) ∙ omega (arith, length-replicate {A = ℕ} (units 128 b * 128 - length b) 0)

pub stand-filled : (s : List ℕ) (p k : ℕ) (b : List ℕ) → Stand s p (filled k b) → Stand s p b
unfolding filled
stand-filled s p k b h = stand-left s p b (zero_bits (units k b * k - length b)) h

-- ---- sums
pub length-of-rows : (g : ℕ → List ℕ) (f : ℕ → ℕ) (c n : ℕ) → ((k : ℕ) → length (g k) ≡ c * f k) → length (rows n g) ≡ c * sum f n
unfolding rows sum
length-of-rows g f c zero e = omega arith
length-of-rows g f c (suc n) e = length-append (rows n g) (g n) ∙ omega (arith, length-of-rows g f c n e, e n)

-- ---- the parts of a packet
pub few-components : (g : Group) → (0 < components g) × (components g < 2 ^ 2)
few-components base = omega arith
few-components (detail l) = omega arith
few-components final = omega arith

pub some-rows : (g : Group) → 0 < components g * multiplier g
some-rows base = omega arith
some-rows (detail l1) = omega arith
some-rows (detail l2) = omega arith
some-rows (detail l3) = omega arith
some-rows final = omega arith

-- row q of a record: its component, and its row in the component
pub component-lt : (g : Group) (q : ℕ) → q < components g * multiplier g → q / multiplier g < components g
component-lt base q h = omega arith
component-lt (detail l1) q h = omega arith
component-lt (detail l2) q h = omega arith
component-lt (detail l3) q h = omega arith
component-lt final q h = omega arith

pub row_lt : (g : Group) (k n q : ℕ) → k < n → k * multiplier g + q % multiplier g < n * multiplier g
row_lt base k n q h = omega arith
row_lt (detail l1) k n q h = omega arith
row_lt (detail l2) k n q h = omega arith
row_lt (detail l3) k n q h = omega arith
row_lt final k n q h = omega arith

module _ (w H : ℕ) (v : Coefs) (g : Group) (i : Colour) where
  pub length-head : length (packet_head w H v g i) ≡ 128
  unfolding packet_head
  length-head =
      simp (length-append, length-number)

  length-record-head : (k : ℕ) → length (record_head w H v g i k) ≡ 16 + 4 * components g
  unfolding record_head
  length-record-head k =
      length-append (number_bits 16 (record_bytes w H v g i k)) (zero_bits (4 * components g))
      ∙ omega (arith, length-number 16 (record_bytes w H v g i k), length-replicate {A = ℕ} (4 * components g) 0)

  abbrev heads : List ℕ
  heads = packet_head w H v g i ++ rows (records H) (record_head w H v g i)

  length-heads : length (filled 128 heads) ≡ 128 * head_units H g
  unfolding head_units
  length-heads =
      let e = length-append (packet_head w H v g i) (rows (records H) (record_head w H v g i)) in
      let l = length-rows (16 + 4 * components g) (record_head w H v g i) length-record-head (records H) in
      let u : length heads ≡ 128 + (16 + 4 * components g) * records H = omega (arith, e, l, length-head) in
      length-filled128 heads ∙ ap (λ (n : ℕ). 128 * ((n + 127) / 128)) u

  length_whole : (k : ℕ) → length (whole_record w H v g i k) ≡ 8 * record_bytes w H v g i k
  unfolding whole_record
  length_whole k = length-filled _

  length-payload : length (filled 128 (rows (records H) (whole_record w H v g i))) ≡ 128 * payload_units w H v g i
  unfolding payload_units
  length-payload =
      let r = rows (records H) (whole_record w H v g i) in
      let e = length-of-rows (whole_record w H v g i) (record_bytes w H v g i) 8 (records H) length_whole in
      length-filled128 r ∙ omega (arith, e)

  pub length-packet : length (packet_bits w H v g i) ≡ 128 * packet_units w H v g i
  unfolding packet_bits packet_units
  length-packet = length-append (filled 128 heads) (filled 128 (rows (records H) (whole_record w H v g i))) ∙ omega (arith, length-heads, length-payload)

  -- what a packet must have for its fields to hold its numbers
  pub record Fields : Type 0 where
    pub few : records H ≤ 30000
    pub heads : head_units H g ≤ 2 ^ 16
    pub payload : payload_units w H v g i < 2 ^ 24
    pub short : (k : ℕ) → k < records H → record_bytes w H v g i k < 2 ^ 16

  pub head-some : 0 < head_units H g
  unfolding head_units
  head-some = omega arith

  -- ---- the fields of a packet p
  module _ (f : Fields) (p : List ℕ) (stand : Stand p 0 (packet_bits w H v g i)) where
    stand-heads : Stand p 0 (packet_head w H v g i ++ rows (records H) (record_head w H v g i))
    unfolding packet_bits
    stand-heads = stand-filled p 0 128 heads (stand-left p 0 (filled 128 heads) (filled 128 (rows (records H) (whole_record w H v g i))) stand)

    stand-payload : Stand p (128 * head_units H g) (rows (records H) (whole_record w H v g i))
    unfolding packet_bits
    stand-payload =
        let r = rows (records H) (whole_record w H v g i) in
        let e : 0 + length (filled 128 heads) ≡ 128 * head_units H g = omega (arith, length-heads) in
        stand-filled p _ 128 r (rw e at (stand-right p 0 (filled 128 heads) (filled 128 r) stand))

    pub record Read : Type 0 where
      pub control : control p + 1 ≡ head_units H g
      pub extra : extra p ≡ payload_units w H v g i
      pub tag : tag p ≡ 4
      pub zero4 : zero4 p ≡ 0
      pub kind : kind p ≡ components g
      pub zero6 : zero6 p ≡ 0
      pub blocks : blocks p ≡ records H
      pub marker : marker p ≡ 16
      pub zero8 : zero8 p ≡ 0
      pub padding : padding p ≡ 0

    pub read : Read
    unfolding packet_head
    read =
        let r9 = zero_bits 8 ++ zero_bits 40 in
        let r8 = number_bits 8 16 ++ r9 in
        let r7 = number_bits 16 (records H) ++ r8 in
        let r6 = zero_bits 6 ++ r7 in
        let r5 = number_bits 2 (components g) ++ r6 in
        let r4 = zero_bits 4 ++ r5 in
        let r3 = number_bits 4 4 ++ r4 in
        let r2 = number_bits 24 (payload_units w H v g i) ++ r3 in
        let a = next-number p 0 16 (head_units H g - 1) r2 (omega (arith, f.heads, head-some)) (stand-left p 0 (packet_head w H v g i) (rows (records H) (record_head w H v g i)) stand-heads) in
        let b = next-number p 16 24 (payload_units w H v g i) r3 f.payload a.1 in
        let c = next-number p 40 4 4 r4 (omega arith) b.1 in
        let d = next-zeros p 44 4 r5 c.1 in
        let e = next-number p 48 2 (components g) r6 (few-components g).1 d.1 in
        let h = next-zeros p 50 6 r7 e.1 in
        let j = next-number p 56 16 (records H) r8 (omega (arith, f.few)) h.1 in
        let k = next-number p 72 8 16 r9 (omega arith) j.1 in
        let l = next-zeros p 80 8 (zero_bits 40) k.1 in
        record { control = omega (arith, a.0, head-some); extra = b.0; tag = c.0; zero4 = d.0; kind = e.0; zero6 = h.0; blocks = j.0; marker = k.0; zero8 = l.0; padding = zeros-stand p 88 40 l.1 }

    -- the header of record k
    stand-head : (k : ℕ) → k < records H → Stand p (record_bit p k) (record_head w H v g i k)
    unfolding record_bit
    stand-head k l =
        let e = length-rows (16 + 4 * components g) (record_head w H v g i) length-record-head k in
        let t : 0 + length (packet_head w H v g i) + length (rows k (record_head w H v g i)) ≡ 128 + (16 + 4 * kind p) * k =
        rw read.kind (omega (arith, e, length-head)) in
        rw t at (stand-rows p _ (records H) (record_head w H v g i) k l (stand-right p 0 (packet_head w H v g i) (rows (records H) (record_head w H v g i)) stand-heads))

    pub length-read : (k : ℕ) → k < records H → record_length p k ≡ record_bytes w H v g i k
    unfolding record_length record_head
    length-read k l = (next-number p (record_bit p k) 16 (record_bytes w H v g i k) (zero_bits (4 * components g)) (f.short k l) (stand-head k l)).0

    pub selector-read : (k c : ℕ) → k < records H → c < components g → selector p k c ≡ 0
    unfolding selector record_head
    selector-read k c l b =
        zeros-part p (record_bit p k + 16) (4 * components g) (4 * c) 4
        (next-number p (record_bit p k) 16 (record_bytes w H v g i k) (zero_bits (4 * components g)) (f.short k l) (stand-head k l)).1 (omega arith)

    -- the payload of record k
    pub lengths_read : (k : ℕ) → k ≤ records H → sum (record_length p) k ≡ sum (record_bytes w H v g i) k
    lengths_read k l = sum_same (record_length p) (record_bytes w H v g i) k (λ j b. length-read j (omega arith))

    pub stand-record : (k : ℕ) → k < records H → Stand p (payload_at p k * 8) (record_bits (v g i) (multiplier g) (columns w g) (components g * multiplier g) k)
    unfolding payload_at whole_record
    stand-record k l =
        let e = length-of-rows (whole_record w H v g i) (record_bytes w H v g i) 8 k length_whole in
        let t : 128 * head_units H g + length (rows k (whole_record w H v g i)) ≡ ((control p + 1) * 16 + sum (record_length p) k) * 8 =
        omega (arith, e, read.control, lengths_read k (omega arith)) in
        stand-filled p _ 8 _ (rw t at (stand-rows p _ (records H) (whole_record w H v g i) k l stand-payload))

    -- ---- the coefficients of record k
    module _ (narrow : w < 2 ^ 16) (small : (c r x : ℕ) → c < components g → r < records H * multiplier g → x < columns w g → nat_abs (v g i c r x) < 2 ^ 19) where
      columns-fit : (g : Group) → columns w g < 2 ^ 64
      columns-fit base = omega arith
      columns-fit (detail l1) = omega arith
      columns-fit (detail l2) = omega arith
      columns-fit (detail l3) = omega arith
      columns-fit final = omega arith

      module _ (k : ℕ) (l : k < records H) where
        abbrev m : ℕ
        m = multiplier g

        abbrev cols : ℕ
        cols = columns w g

        abbrev n : ℕ
        n = components g * multiplier g

        abbrev rows_all : List ℕ
        rows_all = rows n (λ q. row_bits cols (record_row (v g i) m k q))

        abbrev wanted : Stretch
        wanted = record { values = rows n (λ q. tab cols (record_row (v g i) m k q)); stopped = 0 }

        none_written : magnitudes (v g i) m cols n k ≡ 0 → record_of p m cols k ≡ wanted
        unfolding record_of record_bits
        none_written e =
            let z : record_length p k ≡ 0 = length-read k l ∙ rw (eq-eqb (magnitudes (v g i) m cols n k) 0 e) (omega arith) in
            rw (eq-eqb (record_length p k) 0 z, read.kind, zero-record (v g i) m cols n k e)

        module _ (e : magnitudes (v g i) m cols n k ≡ 0 → ⊥) where
          abbrev start : Reader
          start = start_of (payload_at p k) (record_length p k)

          bits_are : record_bits (v g i) m cols n k ≡ rows_all
          unfolding record_bits
          bits_are = rw (ne_eqb (magnitudes (v g i) m cols n k) 0 e)

          bytes : record_length p k ≡ units 8 rows_all
          bytes = length-read k l ∙ ap (units 8) bits_are

          some_bytes : record_length p k ≡ 0 → ⊥
          some_bytes j = omega (arith, bytes, rows-some n cols (record_row (v g i) m k) (some-rows g), j)

          here : At p start rows_all
          here = record { stand = rw bits_are at (stand-record k l); room = omega (arith, bytes); sound = refl }

          back : rows_of p (selector p k) m cols n 0 start ≡ record { values = rows n (λ q. tab cols (record_row (v g i) m k q)); reader = past start rows_all }
          back =
              all_back p (selector p k) m cols (columns-fit g) (record_row (v g i) m k) n start
              (λ q a. selector-read k (q / m) l (component-lt g q a))
              (λ q x a c. small (q / m) (k * m + q % m) x (component-lt g q a) (row_lt g k (records H) q l) c) here

          some_written : record_of p m cols k ≡ wanted
          unfolding record_of coded_record past
          some_written = rw (ne_eqb (record_length p k) 0 some_bytes, read.kind, back)

          some-used : record_used p m cols k ≡ length (record_bits (v g i) m cols n k)
          unfolding record_used past
          some-used =
              let left = used-left p (selector p k) m cols start refl n in
              let end = ap (λ (t : Part). t.reader.remaining) back in
              rw (ne_eqb (record_length p k) 0 some_bytes, read.kind, bits_are) (omega (arith, left, end, here.room))

        none-used : magnitudes (v g i) m cols n k ≡ 0 → record_used p m cols k ≡ length (record_bits (v g i) m cols n k)
        unfolding record_used record_bits
        none-used e =
            let z : record_length p k ≡ 0 = length-read k l ∙ rw (eq-eqb (magnitudes (v g i) m cols n k) 0 e) (omega arith) in
            rw (eq-eqb (record_length p k) 0 z, eq-eqb (magnitudes (v g i) m cols n k) 0 e) refl

        -- the record takes exactly the bits that were written for it
        pub record-used : record_used p m cols k ≡ length (record_bits (v g i) m cols n k)
        record-used =
            by (eqb (magnitudes (v g i) m cols n k) 0) refl
          where
            by : (b : Bool) → eqb (magnitudes (v g i) m cols n k) 0 ≡ b → record_used p m cols k ≡ length (record_bits (v g i) m cols n k)
            by true e = none-used (eqb-true _ 0 e)
            by false e = some-used (eqb-false _ 0 e)

        pub record-back : record_of p m cols k ≡ wanted
        record-back =
            by (eqb (magnitudes (v g i) m cols n k) 0) refl
          where
            by : (b : Bool) → eqb (magnitudes (v g i) m cols n k) 0 ≡ b → record_of p m cols k ≡ wanted
            by true e = none_written (eqb-true _ 0 e)
            by false e = some_written (eqb-false _ 0 e)
