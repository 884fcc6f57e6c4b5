-- Coefficients of selector 0 under another selector. Assumes nothing.
use Rattle.std.proofs.Common.{ne_eqb, lt-ltb, le-ltb, ◌≡◌, refl, sym, ap, ◌∙◌, Bool, true, false, cond, ℕ, zero, suc, ◌+◌, ◌-◌, ◌*◌, ◌/◌, ◌%◌, ◌^◌, ◌≤◌, ◌<◌, pow-suc, arith, eqb, pow_pos, pow_mono, ℤ, pos, negsuc, neg_ℤ, nat_abs, ◌+ℤ◌, ◌-ℤ◌, ◌*ℤ◌, w32, SFits, to_z, of_z}
use lib.IntN.{neg_ℤ-+ℤ, +ℤ_assoc, +ℤ_idl}
use lib.Signed.{lt_z}
use mir.ValLaws.{to_z_pos}
use Rattle.wrap32.specs.Cut.{low, cut, wrap}
use Rattle.wrap32.specs.Edge.{sign_of}
use Rattle.wrap32.proofs.Laws.{of-cond, cut-id, cut-add-l, low-neg32, less-some}
use Rattle.bits.specs.declared.Four.{Four}
use Rattle.rows.specs.Word.{scaled_of, signed_of, split_of, quad_of}
use Rattle.rows.specs.Stretch.{stretch_of, stretch_quad}
use Rattle.rows.proofs.WordLaws.{short, front-lt, scaled-zero, scaled-none, scaled-some, signed-none, signed-fits}

stretch-plain : (x : ℤ) → stretch_of 0 x ≡ x
unfolding stretch_of
stretch-plain x = refl

stretch-some : (sel : ℕ) (x : ℤ) → 0 < sel → stretch_of sel x ≡ wrap (x *ℤ pos (2 ^ sel) +ℤ sign_of x *ℤ pos (2 ^ (sel - 1) - nat_abs x % 2))
unfolding stretch_of
stretch-some sel x h = simp (ne_eqb sel 0 (λ z. omega arith))

-- 0 stays
stretch-zero : (sel : ℕ) → stretch_of sel (pos 0) ≡ pos 0
unfolding stretch_of
stretch-zero sel =
    let none : 0 * 2 ^ sel + 0 * (2 ^ (sel - 1) - 0) ≡ 0 = omega arith in
    of-cond (λ (z : ℤ). z ≡ pos 0) (eqb sel 0) _ _ (λ _. refl) (λ _. ap (λ (n : ℕ). wrap (pos n)) none ∙ cut-id w32 (pos 0) (record { sfits = omega arith }))

-- the magnitude under the selector
magnitude : (n sel : ℕ) → 0 < sel → suc n * 2 ^ sel + 1 * (2 ^ (sel - 1) - suc n % 2) ≡ scaled_of (suc n) sel
magnitude n sel h =
    let double : 2 ^ sel ≡ 2 ^ suc (sel - 1) = ap (λ (k : ℕ). 2 ^ k) (omega arith) in
    ap (λ (p : ℕ). suc n * p + 1 * (2 ^ (sel - 1) - suc n % 2)) (double ∙ pow-suc 2 (sel - 1))
    ∙ omega (arith, pow_pos (sel - 1), scaled-some (suc n) sel (omega arith) h)

-- a number other than 0 under its sign
module _ (n sel : ℕ) (h : 0 < sel) where
  stretch-sign : (b : Bool) → stretch_of sel (cond b (pos (suc n)) (negsuc n)) ≡ wrap (cond b (pos (scaled_of (suc n) sel)) (neg_ℤ (pos (scaled_of (suc n) sel))))
  stretch-sign true = stretch-some sel (pos (suc n)) h ∙ ap (λ (m : ℕ). wrap (pos m)) (magnitude n sel h)
  stretch-sign false =
      stretch-some sel (negsuc n) h ∙ ap wrap (sym (neg_ℤ-+ℤ (pos (suc n * 2 ^ sel)) (pos (1 * (2 ^ (sel - 1) - suc n % 2)))))
      ∙ ap (λ (m : ℕ). wrap (neg_ℤ (pos m))) (magnitude n sel h)

  stretch-nonzero : (bit : ℕ) → stretch_of sel (signed_of (suc n) bit) ≡ wrap (signed_of (scaled_of (suc n) sel) bit)
  unfolding signed_of
  stretch-nonzero bit = stretch-sign (eqb bit 0)

-- a short value with its sign
stretch-signed : (u sel bit : ℕ) → u < 2 ^ 12 → sel < 16 → stretch_of sel (signed_of u bit) ≡ signed_of (scaled_of u sel) bit
stretch-signed zero sel bit small h =
    ap (stretch_of sel) (signed-none 0 bit refl) ∙ stretch-zero sel ∙ sym (signed-none 0 bit refl) ∙ ap (λ (m : ℕ). signed_of m bit) (sym (scaled-none 0 sel refl))
stretch-signed (suc n) zero bit small h = stretch-plain (signed_of (suc n) bit) ∙ ap (λ (m : ℕ). signed_of m bit) (sym (scaled-zero (suc n)))
stretch-signed (suc n) (suc k) bit small h =
    let v = scaled_of (suc n) (suc k) in
    stretch-nonzero n (suc k) (omega arith) bit ∙ cut-id w32 (signed_of v bit) (signed-fits v bit (short (suc n) (suc k) small h).bound)

-- selector 0 changes nothing
pub stretch-none : (q : Four ℤ) → q ≡ stretch_quad 0 q
unfolding stretch_of
stretch-none q = refl

-- four of them
pub stretch-quad : (sel word w n : ℕ) → sel < 16 → word < 2 ^ 64 → w ≤ 12
    → (stretch_quad sel (quad_of 0 word w n).value ≡ (quad_of sel word w n).value) × ((quad_of 0 word w n).used ≡ (quad_of sel word w n).used)
unfolding quad_of split_of
stretch-quad sel word w n below fits most =
    let b = word * 2 ^ w % 2 ^ 64 in
    let c = b * 2 ^ w % 2 ^ 64 in
    let d = c * 2 ^ w % 2 ^ 64 in
    let f : (u : ℕ) → u < 2 ^ 12 → (bit : ℕ) → stretch_of sel (signed_of u bit) ≡ signed_of (scaled_of u sel) bit = λ u small bit. stretch-signed u sel bit small below in (
      simp (
        scaled-zero,
        f (word / 2 ^ (64 - w)) (front-lt word w fits most),
        f (b / 2 ^ (64 - w)) (front-lt b w (omega arith) most),
        f (c / 2 ^ (64 - w)) (front-lt c w (omega arith) most),
        f (d / 2 ^ (64 - w)) (front-lt d w (omega arith) most),
      ),
      refl,
    )

-- ---- the same as the code has it
-- a shift left cuts the product
low-scale : (x : ℤ) (k : ℕ) → SFits w32 x → low w32 (x *ℤ pos k) ≡ of_z w32 x * k % 2 ^ 32
low-scale (pos n) k f = refl
low-scale (negsuc n) k f =
    let whole : 2 ^ 32 - suc n + suc n ≡ 2 ^ 32 = omega arith in
    low-neg32 (pos (suc n * k)) ∙ omega (arith, ap (λ (t : ℕ). t * k) whole)

pub shifted-left : (x : ℤ) (k : ℕ) → SFits w32 x → to_z w32 (of_z w32 x * 2 ^ k % 2 ^ 32) ≡ wrap (x *ℤ pos (2 ^ k))
unfolding cut
shifted-left x k f = ap (to_z w32) (sym (low-scale x (2 ^ k) f))

-- half a step, less 1 where the coefficient is odd
pub half-less : (sel o : ℕ) → sel < 16 → o < 2 → (to_z w32 (1 * 2 ^ (sel - 1) % 2 ^ 32) -ℤ pos o ≡ pos (2 ^ (sel - 1) - o)) × SFits w32 (pos (2 ^ (sel - 1) - o))
half-less sel o h k =
    let less : sel - 1 ≤ 15 = omega arith in
    let most = pow_mono {j = 15} less in
    let all : 1 * 2 ^ (sel - 1) % 2 ^ 32 ≡ 2 ^ (sel - 1) = omega arith in (
      ap (λ (n : ℕ). to_z w32 n -ℤ pos o) all ∙ ap (λ (z : ℤ). z -ℤ pos o) (to_z_pos w32 (2 ^ (sel - 1)) (omega arith))
          ∙ less-some (2 ^ (sel - 1)) o (omega (arith, pow_pos (sel - 1))),
      record { sfits = omega arith },
    )

-- a number with the sign of another
sign_part : (x : ℤ) (m : ℕ) → cond (lt_z (pos 0) x) (pos m) (pos 0) -ℤ cond (lt_z x (pos 0)) (pos m) (pos 0) ≡ sign_of x *ℤ pos m
sign_part (pos zero) m = ap pos (omega arith)
sign_part (pos (suc n)) m =
    let same : m + 0 ≡ 1 * m = omega arith in
    simp (lt-ltb 0 (suc n) (omega arith), le-ltb (suc n) 0 (omega arith)) (ap pos same)
sign_part (negsuc n) m =
    let same : m ≡ 1 * m = omega arith in
    +ℤ_idl (neg_ℤ (pos m)) ∙ ap (λ (k : ℕ). neg_ℤ (pos k)) same

pub stretch-sum : (sel : ℕ) (x p q : ℤ) → 0 < sel → p ≡ cond (lt_z (pos 0) x) (pos (2 ^ (sel - 1) - nat_abs x % 2)) (pos 0)
    → q ≡ cond (lt_z x (pos 0)) (pos (2 ^ (sel - 1) - nat_abs x % 2)) (pos 0) → wrap (wrap (x *ℤ pos (2 ^ sel)) +ℤ p -ℤ q) ≡ stretch_of sel x
stretch-sum sel x p q h ep eq =
    let y = x *ℤ pos (2 ^ sel) in
    ap wrap (+ℤ_assoc (wrap y) p (neg_ℤ q)) ∙ cut-add-l y (p -ℤ q) ∙ ap (λ (z : ℤ). wrap (y +ℤ z)) ((λ i. ep i -ℤ eq i) ∙ sign_part x (2 ^ (sel - 1) - nat_abs x % 2))
    ∙ sym (stretch-some sel x h)
