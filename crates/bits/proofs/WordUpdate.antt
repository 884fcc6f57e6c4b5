-- A width update out of one word that holds all its bits. Assumes nothing.
use Rattle.std.proofs.Common.{lt-ltb, le-ltb, ◌≡◌, refl, List, ⊎_elim, ℕ, ◌+◌, ◌-◌, ◌*◌, ◌/◌, ◌%◌, ◌^◌, ◌≤◌, ◌<◌, min, arith}
use lib.Count.{count_leading_zeros}
use Rattle.format.specs.Bits.{bits_at}
use Rattle.format.specs.Reader.{Reader, update_of, skipped}
use Rattle.format.proofs.BitLaws.{le-or-lt}
use Rattle.format.proofs.WordReads.{word_keeps, word_none, word-grows, word-shrinks, word-ends}
use Rattle.bits.specs.View.{change_of}

-- the reader is past its bits, and the width is what it gives
pub change-update : (s : List ℕ) (r : Reader) (w word m : ℕ) → word < 2 ^ 64 → word / 2 ^ (64 - m) ≡ bits_at s r.place m → m ≤ 64 → m ≤ r.remaining → r.status ≡ 0
    → (change_of word w).used ≤ m → update_of s r w ≡ record { value = (change_of word w).value; reader = skipped r (change_of word w).used }
unfolding change_of
change-update s r w word m fits holds most enough go room =
    let z = count_leading_zeros 64 (word * 2 ^ 2 % 2 ^ 64) in
    ⊎_elim
    (λ (high : 2 ^ 63 ≤ word).
    let k = le-ltb word (2 ^ 63) high in
    ⊎_elim
    (λ (up : 2 ^ 63 + 2 ^ 62 ≤ word).
    let u = le-ltb word (2 ^ 63 + 2 ^ 62) up in
    let room' : min (z + 1) (w - 1) + 2 ≤ m = simp (k, u) at room in
    ⊎_elim
    (λ (long : w ≤ z + 1).
    ⊎_elim
    (λ (none : w ≤ 0).
    let e : min (z + 1) (w - 1) + 2 ≡ 2 = omega arith in
    let v : w - (z + 1) ≡ 0 = omega arith in
    simp (k, u, e, v) (word_none s r w word m fits holds most enough go high (omega arith) up (omega arith)))
    (λ (some : 0 < w).
    let e : min (z + 1) (w - 1) + 2 ≡ w + 1 = omega arith in
    simp (k, u, e) (word-ends s r w word m fits holds most enough go high (omega arith) z refl up long some (omega arith)))
    (le-or-lt w 0))
    (λ (before : z + 1 < w).
    let e : min (z + 1) (w - 1) + 2 ≡ z + 3 = omega arith in
    simp (k, u, e) (word-shrinks s r w word m fits holds most enough go high (omega arith) z refl up before (omega arith)))
    (le-or-lt w (z + 1)))
    (λ (up : word < 2 ^ 63 + 2 ^ 62).
    let u = lt-ltb word (2 ^ 63 + 2 ^ 62) up in
    let room' : z + 3 ≤ m = simp (k, u) at room in
    simp (k, u) (word-grows s r w word m fits holds most enough go high (omega arith) z refl up room'))
    (le-or-lt (2 ^ 63 + 2 ^ 62) word))
    (λ (keep : word < 2 ^ 63).
    let k = lt-ltb word (2 ^ 63) keep in
    let room' : 1 ≤ m = simp k at room in
    simp k (word_keeps s r w word m fits holds most enough go keep room'))
    (le-or-lt (2 ^ 63) word)
