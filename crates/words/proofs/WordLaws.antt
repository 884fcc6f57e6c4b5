-- Laws of the word at a byte: it holds the bits from there on. Assumes nothing.
use Rattle.std.proofs.Common.{◌≡◌, sym, ap, ◌∙◌, List, ℕ, ◌+◌, ◌-◌, ◌*◌, ◌/◌, ◌%◌, ◌^◌, ◌≤◌, ◌<◌, add-zero, mul_assoc, mul-add, add_comm, add-mul, arith, length, get_or, shr-shr, shl_lt, pow-add, ⊎_elim}
use Rattle.std.proofs.lemmas.Nat.{shl-shr}
use Rattle.std.proofs.Math.Pow.{low}
use Rattle.format.specs.Bits.{bits_at}
use Rattle.format.proofs.BitLaws.{le-or-lt, bits-add, bits-lt, byte-bits, bits-past, bits-top}
use Rattle.words.specs.Word.{word_at}

module _ (s : List ℕ) where
  -- eight bytes are 64 bits
  pub word-bits : (i : ℕ) → ((k : ℕ) → get_or s k 0 < 256) → word_at s i ≡ bits_at s (8 * i) 64
  word-bits i small =
      let b : (k : ℕ) → bits_at s (8 * i + 8 * k) 8 ≡ get_or s (i + k) 0 = λ k. rw (← (mul-add 8 i k)) (byte-bits s (i + k) (small (i + k))) in
      omega (
        arith,
        byte-bits s i (small i),
        b 1,
        b 2,
        b 3,
        b 4,
        b 5,
        b 6,
        b 7,
        bits-add s (8 * i) 8 8,
        bits-add s (8 * i) 16 8,
        bits-add s (8 * i) 24 8,
        bits-add s (8 * i) 32 8,
        bits-add s (8 * i) 40 8,
        bits-add s (8 * i) 48 8,
        bits-add s (8 * i) 56 8,
      )

  -- a word shifted by k bits keeps those from place 8 i + k on
  shifted-bits : (i k m : ℕ) → ((j : ℕ) → get_or s j 0 < 256) → m + k ≡ 64 → word_at s i * 2 ^ k % 2 ^ 64 ≡ bits_at s (8 * i + k) m * 2 ^ k
  shifted-bits i k m small whole =
      let B = bits_at s (8 * i + k) m in
      let word : word_at s i ≡ bits_at s (8 * i) k * 2 ^ m + B =
      word-bits i small ∙ ap (bits_at s (8 * i)) (sym (add_comm k m ∙ whole)) ∙ bits-add s (8 * i) k m in
      let shifted : word_at s i * 2 ^ k % 2 ^ (m + k) ≡ B * 2 ^ k =
      rw (word, add-mul, mul_assoc, ← (pow-add 2 m k)) (low (bits_at s (8 * i) k) (m + k) (shl_lt m k (bits-lt s (8 * i + k) m))) in
      ap (λ (x : ℕ). word_at s i * 2 ^ k % 2 ^ x) (sym whole) ∙ shifted

  -- the first 57 of the bits from place p, which lies k bits into the word at byte i. Where k passes 7 the word is the packet's last.
  pub window-bits : (i k : ℕ) → ((j : ℕ) → get_or s j 0 < 256) → k < 64 → (7 < k → 8 * length s ≤ 8 * i + 64)
      → word_at s i * 2 ^ k % 2 ^ 64 / 2 ^ 7 ≡ bits_at s (8 * i + k) 57
  window-bits i k small below end =
      let p = 8 * i + k in
      let m = 64 - k in
      let B = bits_at s p m in
      let whole : m + k ≡ 64 = omega arith in
      let within : k ≤ 7 → B * 2 ^ k / 2 ^ 7 ≡ bits_at s p 57 = λ h.
      let seven : 7 ≡ k + (7 - k) = omega arith in
      let longer : m ≡ 57 + (7 - k) = omega arith in
      ap (λ (x : ℕ). B * 2 ^ k / 2 ^ x) seven ∙ sym (shr-shr (B * 2 ^ k) k (7 - k))
      ∙ ap (λ (x : ℕ). x / 2 ^ (7 - k)) (shl-shr B k ∙ ap (bits_at s p) longer) ∙ bits-top s p 57 (7 - k) in
      let past : 7 < k → B * 2 ^ k / 2 ^ 7 ≡ bits_at s p 57 = λ h.
      let none : bits_at s (p + m) k ≡ 0 = bits-past s (p + m) k (omega (arith, end h)) in
      let full : bits_at s p (m + k) ≡ B * 2 ^ k = bits-add s p m k ∙ ap (λ (x : ℕ). B * 2 ^ k + x) none ∙ add-zero (B * 2 ^ k) in
      ap (λ (x : ℕ). x / 2 ^ 7) (sym full ∙ ap (bits_at s p) whole) ∙ bits-top s p 57 7 in
      let kept : B * 2 ^ k / 2 ^ 7 ≡ bits_at s p 57 = ⊎_elim within past (le-or-lt k 7) in
      ap (λ (x : ℕ). x / 2 ^ 7) (shifted-bits i k m small whole) ∙ kept

  -- two words side by side hold the 64 bits from k bits into the first one on
  pub pair-bits : (i k : ℕ) → ((j : ℕ) → get_or s j 0 < 256) → k < 64
      → word_at s i * 2 ^ k % 2 ^ 64 + word_at s (i + 8) / 2 ^ (64 - k) ≡ bits_at s (8 * i + k) 64
  pair-bits i k small below =
      let p = 8 * i + k in
      let m = 64 - k in
      let whole : m + k ≡ 64 = omega arith in
      let place : 8 * (i + 8) ≡ p + m = omega arith in
      let next : word_at s (i + 8) / 2 ^ m ≡ bits_at s (p + m) k =
      ap (λ (x : ℕ). x / 2 ^ m) (word-bits (i + 8) small ∙ ap (bits_at s (8 * (i + 8))) (sym (add_comm k m ∙ whole)))
      ∙ bits-top s (8 * (i + 8)) k m ∙ ap (λ (q : ℕ). bits_at s q k) place in
      (λ i'. shifted-bits i k m small whole i' + next i') ∙ sym (bits-add s p m k) ∙ ap (bits_at s p) whole
