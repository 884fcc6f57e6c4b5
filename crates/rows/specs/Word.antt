-- A zero run, or a group of four values, out of one word that holds all its bits: what is read from the word.
use Rattle.std.specs.Prelude.{◌≡◌, List, cond, ℕ, ◌+◌, ◌-◌, ◌*◌, ◌/◌, ◌%◌, ◌^◌, ◌≤◌, ◌<◌, ℤ, pos, neg_ℤ, nat_abs, set, ltb, eqb}
use Rattle.std.specs.Int.Signed.{lt_z, le_z}
use Rattle.std.specs.Int.Count.{count_leading_zeros}
use Rattle.format.specs.Bits.{bits_at}
use Rattle.format.specs.Reader.{Reader, skipped}
use Rattle.format.specs.Coefficients.{zeros_of}
use Rattle.bits.specs.declared.Four.{Four}
use Rattle.bits.specs.declared.Used.{Used}
use Rattle.bits.specs.View.{change_of}
use Rattle.lists.specs.Lists.{tab}
use Rattle.rows.specs.declared.Run.{Run}

-- a value with its sign from a word of four sign bits, of which some are used
unfoldable pub sign_bit_of : ℤ → ℕ → ℕ → Used ℤ
sign_bit_of z word used =
    cond (lt_z (pos 0) z) (record { value = cond (eqb (word / 2 ^ (3 - used) % 2) 0) z (neg_ℤ z); used = used + 1 })
    (record { value = z; used = used })

-- the width after a group, and the bits of its values and its update
abbrev pub step_of : ℕ → ℕ → Used ℕ
step_of word w =
    let u = change_of (word * 2 ^ (4 * w) % 2 ^ 64) w in
    record { value = u.value; used = 4 * w + u.used }

-- a width that may be reckoned below 0, where it counts as 0
unfoldable pub level_of : ℤ → ℕ
level_of y = cond (le_z y (pos 0)) 0 (nat_abs y)

-- what an update does to the width, by its first five bits
unfoldable pub move_of : ℕ → ℤ
move_of k =
    let d = pos (count_leading_zeros 3 (k % 8) + 1) in
    cond (ltb k 16) (pos 0) (cond (ltb k 24) d (neg_ℤ d))

-- its bits, where they are no more than five; else 64
unfoldable pub length_of : ℕ → ℕ
length_of k = cond (ltb k 16) 1 (cond (eqb (k % 8) 0) 64 (count_leading_zeros 3 (k % 8) + 3))

-- the table of both
abbrev pub Tables : List (ℤ × ℕ) → Type 0
Tables updates = updates ≡ tab 32 (λ k. (move_of k, length_of k))

-- h is the zero run that the word starts with, wherever the word holds all its bits
pub record Runs (word left : ℕ) (h : Run) : Type 0 where
  pub most : h.groups ≤ left
  pub few : h.used ≤ 128
  pub short : h.width ≤ 65
  pub reads : (s : List ℕ) (r : Reader) → word / 2 ^ 7 ≡ bits_at s r.place 57 → h.used ≤ 57 → h.used ≤ r.remaining → r.status ≡ 0
      → (0 < h.groups) × (zeros_of s left r ≡ record { groups = h.groups; width = h.width; reader = skipped r h.used })

-- a short value under a selector
unfoldable pub scaled_of : ℕ → ℕ → ℕ
scaled_of u sel = cond (eqb sel 0) u (cond (eqb u 0) u ((2 * u + 1) * 2 ^ (sel - 1) - u % 2))

-- 1 for a value that takes a sign bit
unfoldable pub nonzero_of : ℕ → ℕ
nonzero_of u = cond (eqb u 0) 0 1

-- a magnitude under a sign bit
unfoldable pub signed_of : ℕ → ℕ → ℤ
signed_of m bit = cond (eqb bit 0) (pos m) (neg_ℤ (pos m))

-- the four values of a word's first 4 w bits
unfoldable pub split_of : ℕ → ℕ → Four ℕ
split_of word w =
    let b = word * 2 ^ w % 2 ^ 64 in
    let c = b * 2 ^ w % 2 ^ 64 in
    let d = c * 2 ^ w % 2 ^ 64 in
    record { a = word / 2 ^ (64 - w); b = b / 2 ^ (64 - w); c = c / 2 ^ (64 - w); d = d / 2 ^ (64 - w) }

-- under a selector, with their signs from the bits of a word from its bit `left` on, downward
abbrev pub with_signs : ℕ → Four ℕ → ℕ → ℕ → Used (Four ℤ)
with_signs sel v word left =
    let n1 = nonzero_of v.a in
    let n2 = n1 + nonzero_of v.b in
    let n3 = n2 + nonzero_of v.c in
    record {
      value = record {
        a = signed_of (scaled_of v.a sel) (word / 2 ^ left % 2);
        b = signed_of (scaled_of v.b sel) (word / 2 ^ (left - n1) % 2);
        c = signed_of (scaled_of v.c sel) (word / 2 ^ (left - n2) % 2);
        d = signed_of (scaled_of v.d sel) (word / 2 ^ (left - n3) % 2);
      };
      used = n3 + nonzero_of v.d;
    }

-- with the signs after so many bits of the same word
unfoldable pub quad_of : ℕ → ℕ → ℕ → ℕ → Used (Four ℤ)
quad_of sel word w used = with_signs sel (split_of word w) word (63 - used)

-- four values in their places
abbrev pub store_quad : List ℤ → ℕ → Four ℤ → List ℤ
store_quad l i q = set (set (set (set l i q.a) (i + 1) q.b) (i + 2) q.c) (i + 3) q.d

-- what the loops of runs and groups ask of the next one
pub record Near (w out last place end : ℕ) : Type 0 where
  pub short : w ≤ 12
  pub more : out < last
  pub before : place < end

-- what is asked of the last group of a row
pub record Ends (w out n place stop : ℕ) : Type 0 where
  pub some : 1 ≤ w
  pub short : w ≤ 12
  pub last : n ≡ out + 4
  pub enough : place + (4 * w + 4) ≤ stop
