-- A writer that holds no bit: its bytes are the bits, packed. Assumes nothing.
use Rattle.std.proofs.Common.{◌≡◌, refl, sym, ap, ◌∙◌, List, [], ◌++◌, append_assoc, ℕ, zero, suc, ◌+◌, ◌-◌, ◌*◌, ◌/◌, ◌%◌, ◌≤◌, ◌<◌, arith, length, get_or, replicate, take, length-append, take_all, ext_get_or, get_or-take, length-take-le, get_or-append-add, ⊎_elim}
use Rattle.std.proofs.Math.ListN.{get_or-eq_default, get_or-replicate, length-replicate, replicate-append-replicate, get_or-append}
use Rattle.lists.specs.Lists.{tab, rows}
use Rattle.lists.proofs.Tab.{get_or-tab, length-tab, tab-add, tab-same}
use Rattle.format.specs.Bits.{bit_at, bits_at}
use Rattle.format.proofs.BitLaws.{byte-bits, le-or-lt}
use Rattle.format.specs.Writing.{zero_bits, byte_at, packed}
use Rattle.codes.specs.Wrote.{Wrote, Fresh, Room, Appends}
use Rattle.codes.specs.declared.BitWriter.{BitWriter}

-- byte i is made of its eight bits
byte_of : (s b : List ℕ) (i : ℕ) → get_or s i 0 < 256 → ((j : ℕ) → j < 8 → bit_at s (8 * i + j) ≡ get_or b (8 * i + j) 0) → get_or s i 0 ≡ byte_at b i
unfolding bits_at
byte_of s b i small h =
    let z : 8 * i + 0 ≡ 8 * i = omega arith in
    let h0 : bit_at s (8 * i + 0) ≡ get_or b (8 * i) 0 = h 0 (omega arith) ∙ ap (λ (k : ℕ). get_or b k 0) z in
    omega (arith, byte-bits s i small, h0, h 1 (omega arith), h 2 (omega arith), h 3 (omega arith), h 4 (omega arith), h 5 (omega arith), h 6 (omega arith), h 7 (omega arith))

-- a writer that holds no bit: its bytes are the bits, packed
pub front : (old s : List ℕ) (place cache held : ℕ) (b : List ℕ) → ((i : ℕ) → i < place → get_or s i 0 < 256) → Wrote old s place cache held b → held ≡ 0 → place ≤ length s → take place s ≡ packed b
unfolding packed
front old s p cache held b bytes h none within =
    let n : length b / 8 ≡ p = omega (arith, h.held.long) in
    ext_get_or 0 (take p s) (packed b) (length-take-le p s within ∙ sym (length-tab (length b / 8) (byte_at b) ∙ n))
    (λ i l.
    let k : i < p = omega (arith, length-take-le p s within) in
    get_or-take p s i 0 k
    ∙ byte_of s b i (bytes i k) (λ j q. h.out (8 * i + j) (omega arith))
    ∙ sym (get_or-tab (length b / 8) (byte_at b) i 0 (omega arith)))

pub length-packed : (b : List ℕ) → length (packed b) ≡ length b / 8
unfolding packed
length-packed b = length-tab (length b / 8) (byte_at b)

-- up to the end of the slice
pub wrote-all : (old s : List ℕ) (place cache held : ℕ) (b : List ℕ) → ((i : ℕ) → get_or s i 0 < 256) → Wrote old s place cache held b → held ≡ 0 → place ≡ length s → s ≡ packed b
wrote-all old s place cache held b bytes h none all =
    sym (take_all place s (omega arith)) ∙ front old s place cache held b (λ i l. bytes i) h none (omega arith)

-- from the start of a slice
pub wrote_none : (s : List ℕ) → Wrote s s 0 0 0 []
wrote_none s = record { held = record { long = refl; small = omega arith; each = λ j h. absurd (omega arith) }; out = λ k h. absurd (omega arith); kept = refl }

pub fresh-wrote : (w : BitWriter) (s : List ℕ) → Fresh w s → Wrote s w.out.now w.place w.cache w.held []
fresh-wrote w s h = rw (h.slice, h.none_out, h.empty, h.none_held) (wrote_none s)

pub fresh-room : (w : BitWriter) (s : List ℕ) (n : ℕ) → Fresh w s → n ≤ 8 * length s → Room w n
fresh-room w s n h l = record { few = omega (arith, h.none_held); small = rw (h.empty, h.none_held) (omega arith); room = rw h.slice (omega (arith, h.none_out, h.none_held)) }

-- ---- bits behind whole bytes
pub packed-append : (a b : List ℕ) → length a % 8 ≡ 0 → packed (a ++ b) ≡ packed a ++ packed b
unfolding packed
packed-append a b h =
    let n = length a / 8 in
    let m = length b / 8 in
    let e : length (a ++ b) / 8 ≡ n + m = omega (arith, length-append a b) in
    ap (λ (k : ℕ). tab k (byte_at (a ++ b))) e ∙ tab-add n m (byte_at (a ++ b))
    ∙ (λ i. tab-same n (byte_at (a ++ b)) (byte_at a) left i ++ tab-same m (λ k. byte_at (a ++ b) (n + k)) (byte_at b) right i)
  where
    front : (k : ℕ) → k < length a → get_or (a ++ b) k 0 ≡ get_or a k 0
    front k l = get_or-append a b 0 k l

    behind : (k j : ℕ) → j ≡ length a + k → get_or (a ++ b) j 0 ≡ get_or b k 0
    behind k j e = ap (λ (x : ℕ). get_or (a ++ b) x 0) e ∙ get_or-append-add a b k 0

    left : (k : ℕ) → k < length a / 8 → byte_at (a ++ b) k ≡ byte_at a k
    left k l =
        rw (front (8 * k) (omega arith), front (8 * k + 1) (omega arith), front (8 * k + 2) (omega arith), front (8 * k + 3) (omega arith), front (8 * k + 4) (omega arith), front (8 * k + 5) (omega arith), front (8 * k + 6) (omega arith), front (8 * k + 7) (omega arith))

    right : (k : ℕ) → k < length b / 8 → byte_at (a ++ b) (length a / 8 + k) ≡ byte_at b k
    right k l =
        let j = length a / 8 + k in
        rw (behind (8 * k) (8 * j) (omega arith), behind (8 * k + 1) (8 * j + 1) (omega arith), behind (8 * k + 2) (8 * j + 2) (omega arith), behind (8 * k + 3) (8 * j + 3) (omega arith), behind (8 * k + 4) (8 * j + 4) (omega arith), behind (8 * k + 5) (8 * j + 5) (omega arith), behind (8 * k + 6) (8 * j + 6) (omega arith), behind (8 * k + 7) (8 * j + 7) (omega arith))

-- whole bytes, one after the other
none-packed : packed [] ≡ []
unfolding packed tab
none-packed = refl

pub whole-rows : (n : ℕ) (g : ℕ → List ℕ) → ((k : ℕ) → length (g k) % 8 ≡ 0) → length (rows n g) % 8 ≡ 0
unfolding rows
whole-rows zero g h = refl
whole-rows (suc n) g h = omega (arith, length-append (rows n g) (g n), whole-rows n g h, h n)

pub packed-rows : (n : ℕ) (g : ℕ → List ℕ) → ((k : ℕ) → length (g k) % 8 ≡ 0) → packed (rows n g) ≡ rows n (λ k. packed (g k))
unfolding rows
packed-rows zero g h = none-packed
packed-rows (suc n) g h = packed-append (rows n g) (g n) (whole-rows n g h) ∙ ap (λ (x : List ℕ). x ++ packed (g n)) (packed-rows n g h)

-- ---- zeros up to a whole byte, and then bytes of them up to the end
zero-bit : (n i : ℕ) → get_or (zero_bits n) i 0 ≡ 0
zero-bit n i = ⊎_elim (λ (l : n ≤ i). get_or-eq_default (zero_bits n) 0 (omega (arith, length-replicate {A = ℕ} n 0))) (λ (l : i < n). get_or-replicate n i 0 0 l) (le-or-lt n i)

pub packed-zeros : (k : ℕ) → packed (zero_bits (8 * k)) ≡ replicate k 0
unfolding packed
packed-zeros k =
    let n : length (zero_bits (8 * k)) / 8 ≡ k = omega (arith, length-replicate {A = ℕ} (8 * k) 0) in
    ext_get_or 0 (packed (zero_bits (8 * k))) (replicate k 0) (length-packed (zero_bits (8 * k)) ∙ n ∙ sym (length-replicate k 0))
    (λ i l.
    let z = zero-bit (8 * k) in
    let q : i < k = omega (arith, length-packed (zero_bits (8 * k)), n) in
    get_or-tab (length (zero_bits (8 * k)) / 8) (byte_at (zero_bits (8 * k))) i 0 (omega arith)
    ∙ rw (z (8 * i), z (8 * i + 1), z (8 * i + 2), z (8 * i + 3), z (8 * i + 4), z (8 * i + 5), z (8 * i + 6), z (8 * i + 7)) (sym (get_or-replicate k i 0 0 q)))

module _ (w f : BitWriter) (room : Room w 0) (a : Appends w f (zero_bits ((8 - w.held) % 8))) (whole : f.held ≡ 0) where
  bits_left : 8 * w.place + w.held + (8 - w.held) % 8 ≡ 8 * f.place
  bits_left = omega (arith, a.on, length-replicate {A = ℕ} ((8 - w.held) % 8) 0)

  pub place-within : f.place ≤ length f.out.now
  place-within = omega (arith, bits_left, a.long, room.few, room.room)

  pub filled-up : (u : List ℕ) → u ≡ take f.place f.out.now ++ replicate (length f.out.now - f.place) 0 → ((i : ℕ) → get_or u i 0 < 256)
      → (old x : List ℕ) → Wrote old w.out.now w.place w.cache w.held x → u ≡ packed (x ++ zero_bits (8 * length w.out.now - length x))
  filled-up u e bytes old x h =
      let p = f.place in
      let s = f.out.now in
      let m = (8 - w.held) % 8 in
      let k = length s - p in
      let z = a.wrote old x h in
      let n : m + 8 * k ≡ 8 * length w.out.now - length x = omega (arith, h.held.long, bits_left, place-within, a.long) in
      let y : (x ++ zero_bits m) ++ zero_bits (8 * k) ≡ x ++ zero_bits (8 * length w.out.now - length x) =
      append_assoc x (zero_bits m) (zero_bits (8 * k)) ∙ ap (λ (l : List ℕ). x ++ l) (replicate-append-replicate m (8 * k) 0 ∙ ap zero_bits n) in
      let first : (i : ℕ) → i < p → get_or s i 0 < 256 =
      λ i q. rw (← get_or-take p s i 0 q, ← get_or-append (take p s) (replicate k 0) 0 i (omega (arith, length-take-le p s place-within)), ← e) (bytes i) in
      e ∙ rw (front old s p f.cache f.held (x ++ zero_bits m) first z whole place-within, ← packed-zeros k) refl
      ∙ sym (packed-append (x ++ zero_bits m) (zero_bits (8 * k)) (omega (arith, z.held.long, whole))) ∙ ap packed y
