-- A group of four values out of one word. Assumes nothing.
use Rattle.std.proofs.Common.{eq-eqb, ne_eqb, le-leb, lt-ltb, le-ltb, ◌≡◌, refl, sym, ap, ◌∙◌, ⊎_elim, List, [], ◌∷◌, cond, ℕ, ◌+◌, ◌-◌, ◌*◌, ◌/◌, ◌%◌, ◌^◌, ◌≤◌, ◌<◌, zero-add, add-zero, lt_of_lt_of_le, arith, eqb, lit≤, shr_lt, shl_lt, pow_mono, ℤ, pos, neg_ℤ, w32, SFits}
use borrow.Author.Tests.{lt-leb}
use native.Mathlib.Nat.{sub-zero}
use Rattle.wrap32.proofs.Laws.{cut-id, neg-fits}
use Rattle.format.specs.Bits.{bits_at}
use Rattle.format.specs.Reader.{Reader, skipped}
use Rattle.format.proofs.BitLaws.{le-or-lt, bits-lt, bits-low, prefix, middle_of}
use Rattle.format.proofs.FourLaws.{four-within}
use Rattle.format.proofs.WordReads.{read-within}
use Rattle.bits.specs.declared.Used.{Used}
use Rattle.bits.specs.View.{change_of}
use Rattle.bits.proofs.WordUpdate.{change-update}
use Rattle.format.specs.Coefficients.{Four, value_of, sign_of, signs_of, width_next, group_of}
use Rattle.bits.specs.declared.Four as code
use Rattle.rows.specs.Word.{scaled_of, nonzero_of, signed_of, split_of, with_signs, quad_of}
use Rattle.rows.proofs.Numbers.{le-shl, value-plain, value_none, value-some}

-- a value that takes a sign bit
nonzero-none : (u : ℕ) → u ≡ 0 → nonzero_of u ≡ 0
unfolding nonzero_of
nonzero-none u e = simp (eq-eqb _ _ e)

nonzero-some : (u : ℕ) → 0 < u → nonzero_of u ≡ 1
unfolding nonzero_of
nonzero-some u h = simp (ne_eqb u 0 (λ e. omega arith))

nonzero-le : (u : ℕ) → nonzero_of u ≤ 1
nonzero-le u = ⊎_elim (λ (h : u ≤ 0). omega (arith, nonzero-none u (omega arith))) (λ (h : 0 < u). omega (arith, nonzero-some u h)) (le-or-lt u 0)

-- a short value under a selector
pub scaled-zero : (u : ℕ) → scaled_of u 0 ≡ u
unfolding scaled_of
scaled-zero u = refl

pub record Short (u sel : ℕ) : Type 0 where
  pub bound : scaled_of u sel < 2 ^ 31
  pub same : nonzero_of (scaled_of u sel) ≡ nonzero_of u
  pub value : value_of u sel ≡ pos (scaled_of u sel)

pub scaled-none : (u sel : ℕ) → u ≡ 0 → scaled_of u sel ≡ 0
unfolding scaled_of
scaled-none u sel e = ⊎_elim (λ (h : sel ≤ 0). simp (eq-eqb sel 0 (omega arith), e)) (λ (h : 0 < sel). simp (ne_eqb sel 0 (λ z. omega arith), e)) (le-or-lt sel 0)

pub scaled-some : (u sel : ℕ) → 0 < u → 0 < sel → scaled_of u sel ≡ (2 * u + 1) * 2 ^ (sel - 1) - u % 2
unfolding scaled_of
scaled-some u sel h k = simp (ne_eqb sel 0 (λ z. omega arith), ne_eqb u 0 (λ z. omega arith))

shift-lt : (u k : ℕ) → u < 2 ^ 12 → k < 15 → (2 * u + 1) * 2 ^ k < 2 ^ 27
shift-lt u k small h =
    let double : 2 * u + 1 < 2 ^ 13 = omega arith in
    let most : 13 + k ≤ 27 = omega arith in
    lt_of_lt_of_le (shl_lt 13 k double) (pow_mono {j = 27} most)

pub short : (u sel : ℕ) → u < 2 ^ 12 → sel < 16 → Short u sel
short u sel small h =
    ⊎_elim
    (λ (none : u ≤ 0).
    let z : u ≡ 0 = omega arith in
    let e = scaled-none u sel z in
    record { bound = omega arith; same = nonzero-none (scaled_of u sel) e ∙ sym (nonzero-none u z); value = value_none u sel z ∙ ap pos (sym e) })
    (λ (some : 0 < u).
    ⊎_elim
    (λ (none : sel ≤ 0).
    let z : sel ≡ 0 = omega arith in
    rw z (record { bound = rw scaled-zero (omega arith); same = ap nonzero_of (scaled-zero u); value = value-plain u 0 refl ∙ ap pos (sym (scaled-zero u)) }))
    (λ (scale : 0 < sel).
    let e = scaled-some u sel some scale in
    let lt = shift-lt u (sel - 1) small (omega arith) in
    let le = le-shl (2 * u + 1) (sel - 1) in
    let range : SFits w32 (pos ((2 * u + 1) * 2 ^ (sel - 1) - u % 2)) = record { sfits = omega arith } in
    record {
      bound = omega arith;
      same = nonzero-some (scaled_of u sel) (omega arith) ∙ sym (nonzero-some u some);
      value = value-some u sel (λ z. omega arith) (λ z. omega arith) ∙ cut-id w32 (pos ((2 * u + 1) * 2 ^ (sel - 1) - u % 2)) range ∙ ap pos (sym e);
    })
    (le-or-lt sel 0))
    (le-or-lt u 0)

-- the first bits of a word are short
pub front-lt : (x w : ℕ) → x < 2 ^ 64 → w ≤ 12 → x / 2 ^ (64 - w) < 2 ^ 12
front-lt x w fits most =
    let whole : w + (64 - w) ≡ 64 = omega arith in
    let small : x < 2 ^ (w + (64 - w)) = rw whole fits in
    lt_of_lt_of_le (shr_lt w (64 - w) small) (pow_mono {j = 12} most)

-- the four values
module _ (s : List ℕ) (p word w : ℕ) (holds : word / 2 ^ 7 ≡ bits_at s p 57) (most : w ≤ 12) where
  pub values-bits : split_of word w ≡ record { a = bits_at s p w; b = bits_at s (p + w) w; c = bits_at s (p + 2 * w) w; d = bits_at s (p + 3 * w) w }
  unfolding split_of
  values-bits =
      let b = word * 2 ^ w % 2 ^ 64 in
      let c = b * 2 ^ w % 2 ^ 64 in
      let second : p + w + w ≡ p + 2 * w = omega arith in
      let third : p + 2 * w + w ≡ p + 3 * w = omega arith in
      let from-b : b / 2 ^ (64 - (57 - w)) ≡ bits_at s (p + w) (57 - w) = middle_of s p word w (57 - w) 57 holds (omega arith) (lit≤ tt) in
      let from-c : c / 2 ^ (64 - (57 - 2 * w)) ≡ bits_at s (p + 2 * w) (57 - 2 * w) =
      middle_of s (p + w) b w (57 - 2 * w) (57 - w) from-b (omega arith) (omega arith) ∙ ap (λ (q : ℕ). bits_at s q (57 - 2 * w)) second in
      simp (
        prefix s p word w holds (omega arith),
        middle_of s p word w w 57 holds (omega arith) (lit≤ tt),
        middle_of s (p + w) b w w (57 - w) from-b (omega arith) (omega arith) ∙ ap (λ (q : ℕ). bits_at s q w) second,
        middle_of s (p + 2 * w) c w w (57 - 2 * w) from-c (omega arith) (omega arith) ∙ ap (λ (q : ℕ). bits_at s q w) third,
      )

-- 0 has no sign
pub signed-none : (m bit : ℕ) → m ≡ 0 → signed_of m bit ≡ pos m
unfolding signed_of
signed-none m bit e = ⊎_elim (λ (h : bit ≤ 0). simp (eq-eqb bit 0 (omega arith), e)) (λ (h : 0 < bit). simp (ne_eqb bit 0 (λ z. omega arith), e)) (le-or-lt bit 0)

-- one sign
module _ (s : List ℕ) (r : Reader) (m bit : ℕ) (is : bit ≡ bits_at s r.place 1) (room : 1 ≤ r.remaining) where
  stay : r ≡ skipped r 0
  stay = simp (add-zero, sub-zero)

  signed-bit : signed_of m bit ≡ cond (eqb (bits_at s r.place 1) 0) (pos m) (neg_ℤ (pos m))
  unfolding signed_of
  signed-bit = ap (λ (b : ℕ). cond (eqb b 0) (pos m) (neg_ℤ (pos m))) is

  sign_word : sign_of s (pos m) r ≡ record { value = signed_of m bit; reader = skipped r (nonzero_of m) }
  unfolding sign_of
  sign_word =
      ⊎_elim
      (λ (h : m ≤ 0).
      let e : m ≡ 0 = omega arith in
      simp (le-ltb 0 m h, signed-none m bit e, nonzero-none m e) (ap (λ (t : Reader). record { value = pos m; reader = t }) stay))
      (λ (h : 0 < m). simp (lt-ltb 0 m h, read-within s r 1 room, signed-bit, nonzero-some m h))
      (le-or-lt m 0)

-- a bit of a word
bit_at : (s : List ℕ) (p word n k : ℕ) → word / 2 ^ 7 ≡ bits_at s p 57 → n + k + 1 ≤ 57 → word / 2 ^ (63 - n - k) % 2 ≡ bits_at s (p + n + k) 1
bit_at s p word n k holds h =
    let down : 63 - n - k ≡ 64 - (n + k + 1) = omega arith in
    let at : p + (n + k) ≡ p + n + k = omega arith in
    ap (λ (x : ℕ). word / 2 ^ x % 2) down ∙ ap (λ (x : ℕ). x % 2) (prefix s p word (n + k + 1) holds h) ∙ bits-low s p (n + k) 1 ∙ ap (λ (q : ℕ). bits_at s q 1) at

-- four signs out of a word, after n bits of it
module _ (s : List ℕ) (r : Reader) (word sel n : ℕ) (below : sel < 16) (holds : word / 2 ^ 7 ≡ bits_at s r.place 57) (short-word : n + 4 ≤ 57)
    (room : n + 4 ≤ r.remaining) where
  sign_at : (u k : ℕ) → u < 2 ^ 12 → k ≤ 3
      → sign_of s (value_of u sel) (skipped r (n + k)) ≡ record { value = signed_of (scaled_of u sel) (word / 2 ^ (63 - n - k) % 2); reader = skipped r (n + (k + nonzero_of u)) }
  sign_at u k small h =
      let v = short u sel small below in
      let at : r.place + n + k ≡ r.place + (n + k) = omega arith in
      let bit : word / 2 ^ (63 - n - k) % 2 ≡ bits_at s (r.place + (n + k)) 1 = bit_at s r.place word n k holds (omega arith) ∙ ap (λ (q : ℕ). bits_at s q 1) at in
      let e = sign_word s (skipped r (n + k)) (scaled_of u sel) (word / 2 ^ (63 - n - k) % 2) bit (omega arith) in
      let p : r.place + (n + k) + nonzero_of u ≡ r.place + (n + (k + nonzero_of u)) = omega arith in
      let q : r.remaining - (n + k) - nonzero_of u ≡ r.remaining - (n + (k + nonzero_of u)) = omega arith in
      ap (λ (z : ℤ). sign_of s z (skipped r (n + k))) v.value ∙ e ∙ simp (v.same, p, q)

  sign-first : (u : ℕ) → u < 2 ^ 12
      → sign_of s (value_of u sel) (skipped r n) ≡ record { value = signed_of (scaled_of u sel) (word / 2 ^ (63 - n) % 2); reader = skipped r (n + nonzero_of u) }
  sign-first u small = simp (add-zero, sub-zero, zero-add) at (sign_at u 0 small (omega arith))

  module _ (q : Four) (a : q.a < 2 ^ 12) (b : q.b < 2 ^ 12) (c : q.c < 2 ^ 12) (d : q.d < 2 ^ 12) where
    abbrev with-signs : Used (code.Four ℤ)
    with-signs = with_signs sel (record { a = q.a; b = q.b; c = q.c; d = q.d }) word (63 - n)

    signs-quad : signs_of s sel q (skipped r n) ≡ record { a = with-signs.value.a; b = with-signs.value.b; c = with-signs.value.c; d = with-signs.value.d; reader = skipped r (n + with-signs.used) }
    unfolding signs_of
    signs-quad =
        let n1 = nonzero_of q.a in
        let n2 = n1 + nonzero_of q.b in
        let n3 = n2 + nonzero_of q.c in
        let la = nonzero-le q.a in
        let lb = nonzero-le q.b in
        let lc = nonzero-le q.c in
        simp (sign-first q.a a, sign_at q.b n1 b (omega arith), sign_at q.c n2 c (omega arith), sign_at q.d n3 d (omega arith))

-- the width after a group's values, out of a word
module _ (s : List ℕ) (r : Reader) (w word g : ℕ) where
  pub next_last : g ≤ 1 → width_next s g w (skipped r (4 * w)) ≡ record { value = w; reader = skipped r (4 * w) }
  unfolding width_next
  next_last h = simp (le-leb g 1 h)

  abbrev word-change : Used ℕ
  word-change = change_of (word * 2 ^ (4 * w) % 2 ^ 64) w

  pub next_more : r.status ≡ 0 → word / 2 ^ 7 ≡ bits_at s r.place 57 → 1 < g → 4 * w + word-change.used ≤ 57 → 4 * w + word-change.used ≤ r.remaining
      → width_next s g w (skipped r (4 * w)) ≡ record { value = word-change.value; reader = skipped r (4 * w + word-change.used) }
  unfolding width_next
  next_more go holds more short enough =
      let n = 4 * w in
      let k = word-change.used in
      let e = change-update s (skipped r n) w (word * 2 ^ n % 2 ^ 64) k (omega arith) (middle_of s r.place word n k 57 holds short (lit≤ tt)) (omega arith) (omega arith) go (omega arith) in
      let p : r.place + n + k ≡ r.place + (n + k) = omega arith in
      let q : r.remaining - n - k ≡ r.remaining - (n + k) = omega arith in
      simp (lt-leb g 1 more, e, p, q)

-- a group out of a word, by the width after its values
module _ (s : List ℕ) (r : Reader) (sel w word g n w' : ℕ) (fits : word < 2 ^ 64) (holds : word / 2 ^ 7 ≡ bits_at s r.place 57) (most : w ≤ 12) (below : sel < 16)
    (least : 4 * w ≤ n) (short : n + 4 ≤ 57) (enough : n + 4 ≤ r.remaining) (next : width_next s g w (skipped r (4 * w)) ≡ record { value = w'; reader = skipped r n }) where
  bits-short : (p : ℕ) → bits_at s p w < 2 ^ 12
  bits-short p = lt_of_lt_of_le (bits-lt s p w) (pow_mono {j = 12} most)

  pub group-word : group_of s sel g (record { value = w; reader = r })
      ≡ record {
        values = (quad_of sel word w n).value.a ∷ (quad_of sel word w n).value.b ∷ (quad_of sel word w n).value.c ∷ (quad_of sel word w n).value.d ∷ [];
        width = w';
        reader = skipped r (n + (quad_of sel word w n).used);
      }
  unfolding group_of quad_of
  group-word =
      let p = r.place in
      let q : Four = record { a = bits_at s p w; b = bits_at s (p + w) w; c = bits_at s (p + 2 * w) w; d = bits_at s (p + 3 * w) w; reader = skipped r (4 * w) } in
      let sq = signs-quad s r word sel n below holds short enough q (bits-short p) (bits-short (p + w)) (bits-short (p + 2 * w)) (bits-short (p + 3 * w)) in
      simp (four-within s r w (omega arith), next, values-bits s p word w holds most, sq)

pub signed-fits : (m bit : ℕ) → m < 2 ^ 31 → SFits w32 (signed_of m bit)
unfolding signed_of
signed-fits m bit small =
    ⊎_elim (λ (h : bit ≤ 0). simp (eq-eqb bit 0 (omega arith)) (record { sfits = small })) (λ (h : 0 < bit). simp (ne_eqb bit 0 (λ z. omega arith)) (neg-fits m small)) (le-or-lt bit 0)
