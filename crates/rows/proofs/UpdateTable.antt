-- Laws of the width updates that tables give by their first five bits. Assumes nothing.
use Rattle.std.proofs.Common.{eq-eqb, ne_eqb, lt-ltb, le-ltb, le-leb, ◌≡◌, refl, sym, ap, ◌∙◌, Bool, true, false, cond, ⊎_elim, ℕ, zero, suc, ◌+◌, ◌-◌, ◌*◌, ◌/◌, ◌%◌, ◌^◌, ◌<◌, ◌≤◌, min, arith, ltb, eqb, ℤ, pos, neg_ℤ, ◌+ℤ◌, ◌-ℤ◌, pow-add, pow_mono, w8, w64, SFits}
use borrow.Author.Tests.{lt-leb}
use lib.Count.{count_leading_zeros, leading_le, leading_of_zero, leading_top, leading_length, leading_unique}
use lib.Signed.{le_z, mag}
use Rattle.wrap32.proofs.Laws.{of-cond, less-some, less_none, mag-add}
use Rattle.format.proofs.BitLaws.{le-or-lt}
use Rattle.bits.specs.declared.Used.{Used}
use Rattle.bits.specs.View.{change_of}
use Rattle.rows.specs.Word.{level_of, move_of, length_of}

-- a move by no more than four
few : (s t : Bool) (d : ℕ) → d ≤ 4 → mag (cond s (pos 0) (cond t (pos d) (neg_ℤ (pos d)))) ≤ 4
few true t d h = omega arith
few false true d h = h
few false false zero h = h
few false false (suc d) h = omega arith

pub move-fits : (k : ℕ) → SFits w8 (move_of k)
unfolding move_of
move-fits k =
    let l = leading_le 3 (k % 8) in
    record { sfits = omega (arith, few (ltb k 16) (ltb k 24) (count_leading_zeros 3 (k % 8) + 1) (omega arith)) }

-- a width after it
pub level-fits : (w k : ℕ) → w ≤ 12 → SFits w64 (pos w +ℤ move_of k)
level-fits w k h = record { sfits = omega (arith, mag-add (pos w) (move_of k) 13 (2 ^ 7) (omega arith) (move-fits k).sfits) }

-- a width that an update gives
pub change-few : (t w : ℕ) → (change_of t w).value ≤ w + 65
unfolding change_of
change-few t w =
    let z = leading_le 64 (t * 2 ^ 2 % 2 ^ 64) in
    of-cond (λ (c : Used ℕ). c.value ≤ w + 65) (ltb t (2 ^ 63)) _ _ (λ _. omega arith)
    (λ _. of-cond (λ (c : Used ℕ). c.value ≤ w + 65) (ltb t (2 ^ 63 + 2 ^ 62)) _ _ (λ _. omega arith) (λ _. omega arith))

-- a number less one that is no smaller is not above 0
pub less-low : (w d : ℕ) → w ≤ d → le_z (pos w -ℤ pos d) (pos 0) ≡ true
less-low w d h =
    ⊎_elim (λ (le : d ≤ w). simp (less-some w d le) (le-leb (w - d) 0 (omega arith))) (λ (lt : w < d). simp (less_none w d lt)) (le-or-lt d w)

-- a width update out of a word, by the width moved below 0 too
module _ (word w d : ℕ) (fits : word < 2 ^ 64) (one : 1 ≤ w) (count : d ≡ count_leading_zeros 64 (word * 2 ^ 2 % 2 ^ 64) + 1) where
  abbrev z : ℕ
  z = count_leading_zeros 64 (word * 2 ^ 2 % 2 ^ 64)

  abbrev target : ℤ
  target = pos w +ℤ cond (eqb (word / 2 ^ 62 % 2) 0) (pos d) (neg_ℤ (pos d))

  abbrev reckoned : Used ℕ
  reckoned =
      record {
        value = cond (ltb word (2 ^ 63)) w (level_of target);
        used = cond (ltb word (2 ^ 63)) 0 (cond (le_z target (pos 0)) w (d + 1)) + 1;
      }

  pub change-moved : reckoned ≡ change_of word w
  unfolding change_of level_of
  change-moved =
      ⊎_elim
      (λ (high : 2 ^ 63 ≤ word).
      ⊎_elim
      (λ (down : 2 ^ 63 + 2 ^ 62 ≤ word).
      let bit = ne_eqb (word / 2 ^ 62 % 2) 0 (λ e. omega arith) in
      ⊎_elim
      (λ (none : w ≤ d).
      let left : w - (z + 1) ≡ 0 = omega arith in
      let few : min (z + 1) (w - 1) + 2 ≡ w + 1 = omega arith in
      simp (le-ltb word (2 ^ 63) high, le-ltb word (2 ^ 63 + 2 ^ 62) down, bit, less-low w d none, left, few))
      (λ (some : d < w).
      let left : w - (z + 1) ≡ w - d = omega arith in
      let few : min (z + 1) (w - 1) + 2 ≡ d + 1 + 1 = omega arith in
      simp (le-ltb word (2 ^ 63) high, le-ltb word (2 ^ 63 + 2 ^ 62) down, bit, less-some w d (omega arith), lt-leb (w - d) 0 (omega arith), left, few))
      (le-or-lt w d))
      (λ (up : word < 2 ^ 63 + 2 ^ 62).
      let bit = eq-eqb (word / 2 ^ 62 % 2) 0 (omega arith) in
      let more : w + z + 1 ≡ w + d = omega arith in
      let all : z + 3 ≡ d + 1 + 1 = omega arith in
      simp (le-ltb word (2 ^ 63) high, lt-ltb word (2 ^ 63 + 2 ^ 62) up, bit, lt-leb (w + d) 0 (omega arith), more, all))
      (le-or-lt (2 ^ 63 + 2 ^ 62) word))
      (λ (keep : word < 2 ^ 63). simp (lt-ltb word (2 ^ 63) keep))
      (le-or-lt (2 ^ 63) word)

-- the leading zeros of a word are those of its first three bits, where one of them is set
lead-first : (u : ℕ) → 0 < u / 2 ^ 61 → u < 2 ^ 64 → count_leading_zeros 64 u ≡ count_leading_zeros 3 (u / 2 ^ 61)
lead-first u some fits =
    let t = leading_top 3 (u / 2 ^ 61) some (omega arith) in
    let wide = pow-add 2 (suc t.0) 61 in
    sym (leading_unique 64 u (count_leading_zeros 3 (u / 2 ^ 61)) (suc t.0 + 61) (omega (arith, t.1)) (omega (arith, wide, t.3)) (omega (arith, wide, t.2)))

-- else they are more
lead-more : (u : ℕ) → u < 2 ^ 61 → 3 ≤ count_leading_zeros 64 u
lead-more u none =
    let l = leading_length 64 u (omega arith) in
    ⊎_elim (λ (le : l.0 ≤ 61). omega (arith, l.1)) (λ (lt : 61 < l.0). absurd (omega (arith, l.3, pow_mono lt))) (le-or-lt l.0 61)

-- an update's first bit is counted last
one_more : (b : Bool) (x y : ℕ) → cond b (x + 1) (y + 3) ≡ cond b x (y + 1 + 1) + 1
one_more true x y = refl
one_more false x y = omega arith

-- a word t, by whose first five bits the tables move a width w
module _ (t w : ℕ) (fits : t < 2 ^ 64) (one : 1 ≤ w) where
  abbrev first : ℕ
  first = t / 2 ^ 59

  abbrev zeros3 : ℕ
  zeros3 = count_leading_zeros 3 (first % 8)

  abbrev zeros : ℕ
  zeros = count_leading_zeros 64 (t * 2 ^ 2 % 2 ^ 64)

  abbrev by : ℕ → ℤ
  by d = cond (eqb (t / 2 ^ 62 % 2) 0) (pos d) (neg_ℤ (pos d))

  abbrev level : ℤ
  level = pos w +ℤ move_of first

  abbrev bits : ℕ
  bits = cond (le_z level (pos 0)) (w + 1) (length_of first)

  abbrev Same : Type 0
  Same = (level_of level ≡ (change_of t w).value) × (bits ≡ (change_of t w).used)

  -- '0': the width stays
  kept : t < 2 ^ 63 → Same
  unfolding level_of move_of length_of
  kept low =
      rw (← (change-moved t w (zeros + 1) fits one refl))
      (simp (lt-ltb t (2 ^ 63) low, lt-ltb first 16 (omega arith))
      (simp (lt-leb (w + 0) 0 (omega arith)) (omega arith)))

  -- '10' goes up and '11' down
  bit-one : 2 ^ 63 + 2 ^ 62 ≤ t → eqb (t / 2 ^ 62 % 2) 0 ≡ false
  bit-one down = ne_eqb (t / 2 ^ 62 % 2) 0 (λ e. omega arith)

  bit-none : 2 ^ 63 ≤ t → t < 2 ^ 63 + 2 ^ 62 → eqb (t / 2 ^ 62 % 2) 0 ≡ true
  bit-none high up = eq-eqb (t / 2 ^ 62 % 2) 0 (omega arith)

  turns : 2 ^ 63 ≤ t → move_of first ≡ by (zeros3 + 1)
  unfolding move_of
  turns high =
      ⊎_elim
      (λ (down : 2 ^ 63 + 2 ^ 62 ≤ t).
      simp (le-ltb first 16 (omega arith), le-ltb first 24 (omega arith), bit-one down))
      (λ (up : t < 2 ^ 63 + 2 ^ 62).
      simp (le-ltb first 16 (omega arith), lt-ltb first 24 (omega arith), bit-none high up))
      (le-or-lt (2 ^ 63 + 2 ^ 62) t)

  -- an update of no more than five bits
  short : 2 ^ 63 ≤ t → 0 < first % 8 → Same
  unfolding length_of
  short high some =
      let lead : zeros ≡ zeros3 = lead-first (t * 2 ^ 2 % 2 ^ 64) (omega arith) (omega arith) ∙ ap (count_leading_zeros 3) (omega arith) in
      rw (← (change-moved t w (zeros + 1) fits one refl))
      (simp (le-ltb t (2 ^ 63) high, le-ltb first 16 (omega arith), ne_eqb (first % 8) 0 (λ e. omega arith), turns high, lead) (refl, one_more (le_z (pos w +ℤ by (zeros3 + 1)) (pos 0)) w zeros3))

  -- a longer one is short where it ends at 0
  long : 2 ^ 63 ≤ t → first % 8 ≡ 0 → bits ≤ 16 → Same
  unfolding level_of length_of
  long high none h =
      let move : move_of first ≡ by 4 = turns high ∙ ap (λ (n : ℕ). by (n + 1)) (ap (count_leading_zeros 3) none ∙ leading_of_zero 3) in
      let size : length_of first ≡ 64 = simp (le-ltb first 16 (omega arith), eq-eqb (first % 8) 0 none) in
      let most = simp (move, size) at h in
      ⊎_elim
      (λ (down : 2 ^ 63 + 2 ^ 62 ≤ t).
      let bit = bit-one down in
      ⊎_elim
      (λ (low : w ≤ 4).
      let far = less-low w (zeros + 1) (omega (arith, lead-more (t * 2 ^ 2 % 2 ^ 64) (omega arith))) in
      rw (← (change-moved t w (zeros + 1) fits one refl)) (simp (le-ltb t (2 ^ 63) high, move, bit, less-low w 4 low, far) (refl, refl)))
      (λ (above : 4 < w). absurd (omega (arith, simp (bit, less-some w 4 (omega arith), lt-leb (w - 4) 0 (omega arith)) at most)))
      (le-or-lt w 4))
      (λ (up : t < 2 ^ 63 + 2 ^ 62). absurd (omega (arith, simp (bit-none high up, lt-leb (w + 4) 0 (omega arith)) at most)))
      (le-or-lt (2 ^ 63 + 2 ^ 62) t)

  -- a width update by the tables
  pub change-table : bits ≤ 16 → Same
  change-table h =
      ⊎_elim
      (λ (high : 2 ^ 63 ≤ t). ⊎_elim (λ (some : 1 ≤ first % 8). short high some) (λ (none : first % 8 < 1). long high (omega arith) h) (le-or-lt 1 (first % 8)))
      (λ (low : t < 2 ^ 63). kept low)
      (le-or-lt (2 ^ 63) t)
