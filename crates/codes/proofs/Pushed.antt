-- Laws of the bits that a word holds: more of them, and the first eight out. Assumes nothing.
use Rattle.std.proofs.Common.{◌≡◌, refl, sym, ap, ◌∙◌, List, [], ◌∷◌, ◌++◌, append-nil, append_assoc, ⊎_elim, ℕ, zero, suc, ◌+◌, ◌-◌, ◌*◌, ◌/◌, ◌%◌, ◌^◌, ◌≤◌, ◌<◌}
use Rattle.std.proofs.Common.{pow-suc, mul-le-mul_right, mod-lt, mod-eq_of_lt, mul_assoc, add-one, arith, length, get_or, set, drop, length-append, get_or-append-add, get_or-set_same, get_or-set_other, drop-set-lt, drop-drop, pow-add, pow_mono, shr-shr, pow_pos, shr_lt}
use Rattle.std.proofs.Math.ListN.{get_or-append, replicate-append-replicate}
use Rattle.std.proofs.Math.Pow.{pow-lt, high, low, field, mod-mod-pow}
use Rattle.format.specs.Bits.{bit_at}
use Rattle.format.proofs.BitLaws.{le-or-lt}
use Rattle.format.specs.Writing.{number_bits, zero_bits, unary_bits}
use Rattle.codes.specs.Wrote.{Held, Wrote}

pub length-number : (n v : ℕ) → length (number_bits n v) ≡ n
unfolding number_bits
length-number zero v = refl
length-number (suc n) v = length-append (number_bits n (v / 2)) (v % 2 ∷ []) ∙ omega (arith, length-number n (v / 2))

-- bit e of a number is that of its low m bits
pub bit-low : (x m e : ℕ) → e < m → x % 2 ^ m / 2 ^ e % 2 ≡ x / 2 ^ e % 2
bit-low x m e h =
    let up : m ≡ (m - suc e) + suc e = omega arith in
    let one : suc e ≡ 1 + e = omega arith in
    let a : (y : ℕ) → y / 2 ^ e % 2 ^ 1 ≡ y % 2 ^ suc e / 2 ^ e = λ y. sym (field y 1 e) ∙ ap (λ (k : ℕ). y % 2 ^ k / 2 ^ e) (sym one) in
    let b : x % 2 ^ m % 2 ^ suc e ≡ x % 2 ^ suc e = ap (λ (k : ℕ). x % 2 ^ k % 2 ^ suc e) up ∙ mod-mod-pow x (m - suc e) (suc e) in
    a (x % 2 ^ m) ∙ ap (λ (y : ℕ). y / 2 ^ e) b ∙ sym (a x)

-- bit i of a number that is written in n bits
pub number_bit : (n v i : ℕ) → i < n → get_or (number_bits n v) i 0 ≡ v / 2 ^ (n - 1 - i) % 2
unfolding number_bits
number_bit zero v i h = absurd (omega arith)
number_bit (suc n) v i h =
    ⊎_elim
    (λ (l : n ≤ i).
    let e : i ≡ length (number_bits n (v / 2)) + 0 = omega (arith, length-number n (v / 2)) in
    let z : suc n - 1 - i ≡ 0 = omega arith in
    ap (λ (k : ℕ). get_or (number_bits n (v / 2) ++ (v % 2 ∷ [])) k 0) e ∙ get_or-append-add (number_bits n (v / 2)) (v % 2 ∷ []) 0 0
    ∙ rw z (omega arith))
    (λ (l : i < n).
    let e : suc n - 1 - i ≡ 1 + (n - 1 - i) = omega arith in
    get_or-append (number_bits n (v / 2)) (v % 2 ∷ []) 0 i (rw (length-number n (v / 2)) l)
    ∙ number_bit n (v / 2) i l ∙ ap (λ (x : ℕ). x % 2) (shr-shr v 1 (n - 1 - i) ∙ ap (λ (k : ℕ). v / 2 ^ k) (sym e)))
    (le-or-lt n i)

pub joined-lt : (c m n v : ℕ) → c < 2 ^ m → v < 2 ^ n → c * 2 ^ n + v < 2 ^ (m + n)
joined-lt c m n v a b = omega (arith, pow-add 2 m n, b, mul-le-mul_right (2 ^ n) a)

-- n bits more
pub held_more : (c m p n v : ℕ) (b : List ℕ) → v < 2 ^ n → Held c m p b → Held (c * 2 ^ n + v) (m + n) p (b ++ number_bits n v)
held_more c m p n v b l h =
    record { long = length-append b (number_bits n v) ∙ omega (arith, h.long, length-number n v); small = joined-lt c m n v h.small l; each = at }
  where
    at : (j : ℕ) → j < m + n → (c * 2 ^ n + v) / 2 ^ (m + n - 1 - j) % 2 ≡ get_or (b ++ number_bits n v) (8 * p + j) 0
    at j k =
        ⊎_elim
        (λ (q : m ≤ j).
        let i = j - m in
        let e : m + n - 1 - j ≡ n - 1 - i = omega arith in
        let s : 8 * p + j ≡ length b + i = omega (arith, h.long) in
        ap (λ (x : ℕ). (c * 2 ^ n + v) / 2 ^ x % 2) e ∙ sym (bit-low (c * 2 ^ n + v) n (n - 1 - i) (omega arith))
        ∙ ap (λ (x : ℕ). x / 2 ^ (n - 1 - i) % 2) (low c n l)
        ∙ sym (ap (λ (x : ℕ). get_or (b ++ number_bits n v) x 0) s ∙ get_or-append-add b (number_bits n v) i 0 ∙ number_bit n v i (omega arith)))
        (λ (q : j < m).
        let e : m + n - 1 - j ≡ n + (m - 1 - j) = omega arith in
        ap (λ (x : ℕ). (c * 2 ^ n + v) / 2 ^ x % 2) e ∙ ap (λ (x : ℕ). x % 2) (sym (shr-shr (c * 2 ^ n + v) n (m - 1 - j)) ∙ ap (λ (x : ℕ). x / 2 ^ (m - 1 - j)) (high c n l))
        ∙ h.each j q ∙ sym (get_or-append b (number_bits n v) 0 (8 * p + j) (omega (arith, h.long))))
        (le-or-lt m j)

-- the first eight out
pub held-less : (c m p : ℕ) (b : List ℕ) → 8 ≤ m → Held c m p b → Held (c % 2 ^ (m - 8)) (m - 8) (p + 1) b
held-less c m p b l h =
    record { long = omega (arith, h.long); small = mod-lt c (pow_pos (m - 8)); each = at }
  where
    at : (j : ℕ) → j < m - 8 → c % 2 ^ (m - 8) / 2 ^ (m - 8 - 1 - j) % 2 ≡ get_or b (8 * (p + 1) + j) 0
    at j k =
        let e : m - 8 - 1 - j ≡ m - 1 - (8 + j) = omega arith in
        let s : 8 * p + (8 + j) ≡ 8 * (p + 1) + j = omega arith in
        bit-low c (m - 8) (m - 8 - 1 - j) (omega arith) ∙ ap (λ (x : ℕ). c / 2 ^ x % 2) e ∙ h.each (8 + j) (omega arith) ∙ ap (λ (x : ℕ). get_or b x 0) s

pub byte-lt : (c m : ℕ) → 8 ≤ m → c < 2 ^ m → c / 2 ^ (m - 8) < 256
byte-lt c m l h = let e : m ≡ 8 + (m - 8) = omega arith in shr_lt 8 (m - 8) (rw e at h)

-- in the slice
module _ (s : List ℕ) (c m p : ℕ) (b : List ℕ) (l : 8 ≤ m) (h : Held c m p b) (room : p < length s) (out : (k : ℕ) → k < 8 * p → bit_at s k ≡ get_or b k 0) where
  pub byte-out : (k : ℕ) → k < 8 * (p + 1) → bit_at (set s p (c / 2 ^ (m - 8))) k ≡ get_or b k 0
  unfolding bit_at
  byte-out k q =
      ⊎_elim
      (λ (a : 8 * p ≤ k).
      let e : k / 8 ≡ p = omega arith in
      let j = k % 8 in
      let x : m - 8 + (7 - j) ≡ m - 1 - j = omega arith in
      let t : 8 * p + j ≡ k = omega arith in
      rw (e, get_or-set_same s p (c / 2 ^ (m - 8)) 0 room)
      (ap (λ (y : ℕ). y % 2) (shr-shr c (m - 8) (7 - j) ∙ ap (λ (y : ℕ). c / 2 ^ y) x) ∙ h.each j (omega arith) ∙ ap (λ (y : ℕ). get_or b y 0) t))
      (λ (a : k < 8 * p).
      let other : k / 8 ≡ p → ⊥ = λ e. omega arith in
      rw (get_or-set_other s p (k / 8) (c / 2 ^ (m - 8)) 0 other) (out k a))
      (le-or-lt (8 * p) k)

pub wrote-out : (old s b : List ℕ) (place cache held byte rest : ℕ) → 8 ≤ held → place < length s → byte ≡ cache / 2 ^ (held - 8) → rest ≡ cache % 2 ^ (held - 8)
    → Wrote old s place cache held b → Wrote old (set s place byte) (place + 1) rest (held - 8) b
wrote-out old s b place cache held byte rest l room e r h =
    record {
      held = rw r (held-less cache held place b l h.held);
      out = rw e (byte-out s cache held place b l h.held room h.out);
      kept = drop-set-lt (place + 1) s place byte (omega arith) ∙ sym (drop-drop 1 place s) ∙ ap (drop 1) h.kept ∙ drop-drop 1 place old;
    }

pub wrote-more : (old s b : List ℕ) (place cache held n v c : ℕ) → v < 2 ^ n → c ≡ cache * 2 ^ n + v → Wrote old s place cache held b
    → Wrote old s place c (held + n) (b ++ number_bits n v)
wrote-more old s b place cache held n v c l e h =
    record {
      held = rw e (held_more cache held place n v b l h.held);
      out = λ k q. h.out k q ∙ sym (get_or-append b (number_bits n v) 0 k (omega (arith, h.held.long)));
      kept = h.kept;
    }

-- a few bits, and n more, are a word
pub few_bits : (x n : ℕ) → x < 128 → n ≤ 56 → x * 2 ^ n + 2 ^ n ≤ 2 ^ 63
few_bits x n a b =
    let p : 2 ^ n ≤ 2 ^ 56 = pow_mono b in
    let q : suc x * 2 ^ n ≤ 128 * 2 ^ n = mul-le-mul_right (2 ^ n) a in
    omega arith

-- v of n bits and w of m bits behind it, in a word
pub record Behind (v n w m : ℕ) : Type 0 where
  pub whole : v * 2 ^ m % 2 ^ 64 ≡ v * 2 ^ m
  pub less : v * 2 ^ m + w < 2 ^ (n + m)
  pub fits : v * 2 ^ m + w < 2 ^ 64

pub behind : (v n w m : ℕ) → v < 2 ^ n → w < 2 ^ m → n + m ≤ 63 → Behind v n w m
behind v n w m a b c =
    let l = joined-lt v n m w a b in
    let p : 2 ^ (n + m) ≤ 2 ^ 63 = pow_mono c in
    record { whole = mod-eq_of_lt (omega arith); less = l; fits = omega arith }

-- ---- zeros and unaries are numbers
pub number-zeros : (n : ℕ) → number_bits n 0 ≡ zero_bits n
unfolding number_bits
number-zeros zero = refl
number-zeros (suc n) = let e : 0 / 2 ≡ 0 = refl in rw (number-zeros n) (replicate-append-replicate n 1 0 ∙ ap zero_bits (add-one n))

pub number-unary : (k : ℕ) → 1 ≤ k → number_bits k 1 ≡ unary_bits k
unfolding number_bits unary_bits
number-unary zero h = absurd (omega arith)
number-unary (suc k) h = let e : suc k - 1 ≡ k = omega arith in rw (e, number-zeros k)

-- a number behind another
pub number-join : (n u m v : ℕ) → v < 2 ^ m → number_bits (n + m) (u * 2 ^ m + v) ≡ number_bits n u ++ number_bits m v
unfolding number_bits
number-join n u zero v l =
    let e : n + 0 ≡ n = omega arith in
    let x : u * 2 ^ 0 + v ≡ u = omega arith in
    rw (e, x) (sym (append-nil (number_bits n u)))
number-join n u (suc m) v l =
    let e : n + suc m ≡ suc (n + m) = omega arith in
    let p : u * 2 ^ suc m ≡ u * 2 ^ m * 2 = ap (λ (k : ℕ). u * k) (pow-suc 2 m) ∙ sym (mul_assoc u (2 ^ m) 2) in
    let q : (u * 2 ^ suc m + v) / 2 ≡ u * 2 ^ m + v / 2 = omega (arith, p) in
    let r : (u * 2 ^ suc m + v) % 2 ≡ v % 2 = omega (arith, p) in
    let k : v / 2 < 2 ^ m = omega (arith, pow-suc 2 m) in
    rw e (rw (q, r, number-join n u m (v / 2) k) (append_assoc (number_bits n u) (number_bits m (v / 2)) (v % 2 ∷ [])))

pub two-more : (n : ℕ) → 0 < n → 1 < 2 ^ n
two-more n h = pow-lt h
