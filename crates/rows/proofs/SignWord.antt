-- Signs from one word of four bits. Assumes nothing.
use Rattle.std.proofs.Common.{le-leb, ◌≡◌, refl, ap, ◌∙◌, Bool, true, false, cond, List, ℕ, ◌+◌, ◌-◌, ◌/◌, ◌%◌, ◌^◌, ◌≤◌, ◌<◌, add-zero, arith, ℤ, pos}
use native.Mathlib.Nat.{sub-zero}
use lib.Pow.{low}
use lib.Signed.{lt_z}
use Rattle.format.specs.Bits.{bits_at}
use Rattle.format.specs.Reader.{Reader, read_of, skipped}
use Rattle.format.proofs.BitLaws.{bits-add, bits-lt, bits-top}
use Rattle.format.specs.Coefficients.{Four, Signed, value_of, sign_of, signs_of}
use Rattle.rows.specs.Word.{sign_bit_of}
use Rattle.bits.specs.declared.Used.{Used}

-- bit u of four
bit-of : (s : List ℕ) (p u : ℕ) → u < 4 → bits_at s p 4 / 2 ^ (3 - u) % 2 ≡ bits_at s (p + u) 1
bit-of s p u h =
    let four : 4 ≡ (u + 1) + (3 - u) = omega arith in
    ap (λ (k : ℕ). bits_at s p k / 2 ^ (3 - u) % 2) four ∙ ap (λ (x : ℕ). x % 2) (bits-top s p (u + 1) (3 - u) ∙ bits-add s p u 1)
    ∙ low (bits_at s p u) 1 (bits-lt s (p + u) 1)

-- what one word's bit and one read have in common
abbrev Same : Reader → Used ℤ → Signed → Type 0
Same r b t = (b.value ≡ t.value) × (skipped r b.used ≡ t.reader)

by_cases : (r : Reader) (b : Bool) (x1 x2 : Used ℤ) (y1 y2 : Signed) → Same r x1 y1 → Same r x2 y2 → Same r (cond b x1 x2) (cond b y1 y2)
by_cases r true x1 x2 y1 y2 p q = p
by_cases r false x1 x2 y1 y2 p q = q

module _ (s : List ℕ) (r : Reader) (word : ℕ) (is : word ≡ bits_at s r.place 4) (enough : 4 ≤ r.remaining) where
  -- one bit
  one-read : (u : ℕ) → u < 4 → read_of s (skipped r u) 1 ≡ record { value = word / 2 ^ (3 - u) % 2; reader = skipped r (u + 1) }
  unfolding read_of
  one-read u h =
      let place : r.place + u + 1 ≡ r.place + (u + 1) = omega arith in
      let remaining : r.remaining - u - 1 ≡ r.remaining - (u + 1) = omega arith in
      simp (le-leb 1 (r.remaining - u) (omega arith), place, remaining, is, bit-of s r.place u h)

  sign-step : (z : ℤ) (u : ℕ) → u < 4 → Same r (sign_bit_of z word u) (sign_of s z (skipped r u))
  unfolding sign_of sign_bit_of
  sign-step z u h = by_cases r (lt_z (pos 0) z) _ _ _ _ (simp (one-read u h), simp (one-read u h)) (refl, refl)

  -- four of them
  module _ (sel : ℕ) (q : Four) (a b c d : Used ℤ) (ua : a.used < 4) (ub : b.used < 4) (uc : c.used < 4)
      (ea : a ≡ sign_bit_of (value_of q.a sel) word 0)
      (eb : b ≡ sign_bit_of (value_of q.b sel) word a.used)
      (ec : c ≡ sign_bit_of (value_of q.c sel) word b.used)
      (ed : d ≡ sign_bit_of (value_of q.d sel) word c.used) where
    rest : skipped r 0 ≡ r
    rest = simp (add-zero, sub-zero)

    -- one step, from the reader that the step before left
    after : (m : ℤ) (u : ℕ) (x : Used ℤ) (t : Reader) → u < 4 → x ≡ sign_bit_of m word u → skipped r u ≡ t → Same r x (sign_of s m t)
    after m u x t h e same = rw e (rw same at (sign-step m u h))

    pub signs-word : record { a = a.value; b = b.value; c = c.value; d = d.value; reader = skipped r d.used } ≡ signs_of s sel q r
    unfolding signs_of
    signs-word =
        let A = after (value_of q.a sel) 0 a r (omega arith) ea rest in
        let B = after (value_of q.b sel) a.used b _ ua eb A.1 in
        let C = after (value_of q.c sel) b.used c _ ub ec B.1 in
        let D = after (value_of q.d sel) c.used d _ uc ed C.1 in
        cc (A.0, B.0, C.0, D.0, D.1)
