-- Bits that stand in a list of bytes, and a reader that goes past them. Assumes nothing.
use Rattle.std.proofs.Common.{◌≡◌, refl, sym, ap, ◌∙◌, List, [], ◌∷◌, ◌++◌, ℕ, zero, suc, ◌+◌, ◌-◌, ◌/◌, ◌%◌, ◌^◌, ◌≤◌, ◌<◌, ◌⊎◌, inl, inr, add-zero, pow-suc, eq-or-lt_of_le, le_of_suc-le-suc, arith, length, get_or, length-append, get_or-append-add}
use Rattle.std.proofs.lemmas.List.{length-replicate, get_or-replicate}
use Rattle.std.proofs.Math.ListN.{get_or-append}
use Rattle.lists.specs.Lists.{rows}
use Rattle.format.specs.Bits.{bit_at, bits_at}
use Rattle.format.specs.Reader.{Reader, skipped}
use Rattle.format.specs.Writing.{number_bits, zero_bits, unary_bits}
use Rattle.codes.proofs.Pushed.{length-number}

-- the bits b stand in s from place p on
abbrev pub Stand : List ℕ → ℕ → List ℕ → Type 0
Stand s p b = (k : ℕ) → k < length b → bit_at s (p + k) ≡ get_or b k 0

module _ (s : List ℕ) where
  pub stand-left : (p : ℕ) (a b : List ℕ) → Stand s p (a ++ b) → Stand s p a
  stand-left p a b h k l = h k (omega (arith, length-append a b)) ∙ get_or-append a b 0 k l

  pub stand-right : (p : ℕ) (a b : List ℕ) → Stand s p (a ++ b) → Stand s (p + length a) b
  stand-right p a b h k l =
      let e : p + length a + k ≡ p + (length a + k) = omega arith in
      ap (bit_at s) e ∙ h (length a + k) (omega (arith, length-append a b)) ∙ get_or-append-add a b k 0

  pub stand-one : (p b : ℕ) → Stand s p (b ∷ []) → bit_at s p ≡ b
  stand-one p b h = ap (bit_at s) (sym (add-zero p)) ∙ h 0 (omega arith)

  -- ---- what stands is read
  pub number-stands : (p n v : ℕ) → v < 2 ^ n → Stand s p (number_bits n v) → bits_at s p n ≡ v
  unfolding number_bits bits_at
  number-stands p zero v l h = omega arith
  number-stands p (suc n) v l h =
      let front = number-stands p n (v / 2) (omega (arith, pow-suc 2 n)) (stand-left p (number_bits n (v / 2)) (v % 2 ∷ []) h) in
      let place : p + length (number_bits n (v / 2)) ≡ p + n = ap (λ (k : ℕ). p + k) (length-number n (v / 2)) in
      let last : bit_at s (p + n) ≡ v % 2 = ap (bit_at s) (sym place) ∙ stand-one _ (v % 2) (stand-right p (number_bits n (v / 2)) (v % 2 ∷ []) h) in
      omega (arith, front, last)

  pub none-stand : (p n : ℕ) → ((k : ℕ) → k < n → bit_at s (p + k) ≡ 0) → bits_at s p n ≡ 0
  unfolding bits_at
  none-stand p zero h = refl
  none-stand p (suc n) h = omega (arith, none-stand p n (λ k l. h k (omega arith)), h n (omega arith))

  pub zeros-stand : (p n : ℕ) → Stand s p (zero_bits n) → bits_at s p n ≡ 0
  zeros-stand p n h = none-stand p n (λ k l. h k (rw length-replicate l) ∙ get_or-replicate n k 0 0 l)

  -- a part of zeros
  pub zeros-part : (p n a m : ℕ) → Stand s p (zero_bits n) → a + m ≤ n → bits_at s (p + a) m ≡ 0
  zeros-part p n a m h l =
      none-stand (p + a) m (λ k b.
      let e : p + a + k ≡ p + (a + k) = omega arith in
      let c : a + k < n = omega arith in
      ap (bit_at s) e ∙ h (a + k) (rw length-replicate c) ∙ get_or-replicate n (a + k) 0 0 c)

  -- the next of several: a number, zeros
  pub next-number : (p n v : ℕ) (b : List ℕ) → v < 2 ^ n → Stand s p (number_bits n v ++ b) → (bits_at s p n ≡ v) × Stand s (p + n) b
  next-number p n v b l h =
      (number-stands p n v l (stand-left p (number_bits n v) b h), λ k j. rw (← length-number n v) (stand-right p (number_bits n v) b h k j))

  pub next-zeros : (p n : ℕ) (b : List ℕ) → Stand s p (zero_bits n ++ b) → (bits_at s p n ≡ 0) × Stand s (p + n) b
  next-zeros p n b h =
      (zeros-stand p n (stand-left p (zero_bits n) b h), λ k j. rw (← length-replicate {A = ℕ} n 0) (stand-right p (zero_bits n) b h k j))

  -- row y of several
  pub stand-rows : (p h : ℕ) (g : ℕ → List ℕ) (y : ℕ) → y < h → Stand s p (rows h g) → Stand s (p + length (rows y g)) (g y)
  unfolding rows
  stand-rows p zero g y l d = absurd (omega arith)
  stand-rows p (suc h) g y l d =
      by (eq-or-lt_of_le (le_of_suc-le-suc l)) (λ q. stand-rows p h g y q (stand-left p (rows h g) (g h) d))
    where
      by : (y ≡ h) ⊎ (y < h) → (y < h → Stand s (p + length (rows y g)) (g y)) → Stand s (p + length (rows y g)) (g y)
      by (inl q) f = rw q (stand-right p (rows h g) (g h) d)
      by (inr q) f = f q

  pub length-unary : (k : ℕ) → 0 < k → length (unary_bits k) ≡ k
  unfolding unary_bits
  length-unary k h = length-append (zero_bits (k - 1)) (1 ∷ []) ∙ omega (arith, length-replicate {A = ℕ} (k - 1) 0)

  pub unary-zeros : (p k : ℕ) → Stand s p (unary_bits k) → bits_at s p (k - 1) ≡ 0
  unfolding unary_bits
  unary-zeros p k h = zeros-stand p (k - 1) (stand-left p (zero_bits (k - 1)) (1 ∷ []) h)

  pub unary-one : (p k : ℕ) → Stand s p (unary_bits k) → bit_at s (p + (k - 1)) ≡ 1
  unfolding unary_bits
  unary-one p k h =
      ap (λ (j : ℕ). bit_at s (p + j)) (sym (length-replicate {A = ℕ} (k - 1) 0)) ∙ stand-one _ 1 (stand-right p (zero_bits (k - 1)) (1 ∷ []) h)

-- ---- a reader at bits that stand, within its allowance
pub record At (s : List ℕ) (r : Reader) (b : List ℕ) : Type 0 where
  pub stand : Stand s r.place b
  pub room : length b ≤ r.remaining
  pub sound : r.status ≡ 0

-- past them
unfoldable pub past : Reader → List ℕ → Reader
past r b = skipped r (length b)

reader-is : (p p' m m' t : ℕ) → p ≡ p' → m ≡ m' → ◌≡◌ {A = Reader} (record { place = p; remaining = m; status = t }) (record { place = p'; remaining = m'; status = t })
reader-is p p' m m' t a b = cc

pub past-both : (r : Reader) (a b : List ℕ) → past (past r a) b ≡ past r (a ++ b)
unfolding past
past-both r a b =
    reader-is _ _ _ _ r.status (omega (arith, length-append a b)) (omega (arith, length-append a b))

pub past-none : (r : Reader) → past r [] ≡ r
unfolding past
past-none r = reader-is _ _ _ _ r.status (omega arith) (omega arith)

pub at_left : (s : List ℕ) (r : Reader) (a b : List ℕ) → At s r (a ++ b) → At s r a
at_left s r a b h = record { stand = stand-left s r.place a b h.stand; room = omega (arith, h.room, length-append a b); sound = h.sound }

pub at_right : (s : List ℕ) (r : Reader) (a b : List ℕ) → At s r (a ++ b) → At s (past r a) b
unfolding past
at_right s r a b h = record { stand = stand-right s r.place a b h.stand; room = omega (arith, h.room, length-append a b); sound = h.sound }
