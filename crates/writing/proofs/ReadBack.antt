-- The reader takes back what was written: numbers, unaries, width updates and zero runs. Assumes nothing.
use Rattle.std.proofs.Common.{◌≡◌, ap, ◌∙◌, List, [], ◌∷◌, ◌++◌, ⊎_elim, true, ℕ, suc, ◌+◌, ◌-◌, ◌*◌, ◌^◌, ◌≤◌, ◌<◌, min, pow-suc, arith, eqb, ltb, le-leb, lt-ltb, le-ltb, eq-eqb, eqb-true, ltb-true, ltb-false}
use Rattle.std.proofs.lemmas.List.{length-replicate}
use Rattle.std.proofs.lemmas.Bool.{lt-leb, eqb-false}
use Rattle.wrap32.proofs.Laws.{of-cond}
use Rattle.format.specs.Bits.{zeros_at}
use Rattle.format.specs.Reader.{Reader, Taken, read_of, unary_of, find_of, update_of, update_first, update_second, run_of, run_found, bit_length}
use Rattle.format.specs.Writing.{number_bits, zero_bits, unary_bits, update_bits, run_bits}
use Rattle.format.proofs.BitLaws.{le-or-lt, zeros-found, zeros-all}
use Rattle.format.proofs.RunLaws.{exponent_lt}
use Rattle.codes.proofs.Pushed.{length-number}
use Rattle.encoding.proofs.Widths.{under-length, length-under, length_most, length_some}
use Rattle.writing.proofs.Standing.{At, past, past-both, past-none, at_left, at_right, number-stands, zeros-stand, length-unary, unary-zeros, unary-one}

-- a number read, and the reader past its bits
abbrev pub got : ℕ → Reader → List ℕ → Taken
got v r b = record { value = v; reader = past r b }

one_bit : (b : ℕ) → b < 2 → (b ∷ []) ≡ number_bits 1 b
unfolding number_bits
one_bit b l = ap (λ (c : ℕ). c ∷ []) (omega arith)

module _ (s : List ℕ) (r : Reader) where
  pub read_number : (n v : ℕ) → v < 2 ^ n → At s r (number_bits n v) → read_of s r n ≡ got v r (number_bits n v)
  unfolding read_of past
  read_number n v l h =
      let e = length-number n v in
      let room : n ≤ r.remaining = omega (arith, h.room, e) in
      rw (le-leb n r.remaining room, number-stands s r.place n v l h.stand, e)

  pub read-bit : (b : ℕ) → b < 2 → At s r (b ∷ []) → read_of s r 1 ≡ got b r (b ∷ [])
  read-bit b l h = rw (one_bit b l) (read_number 1 b l (rw (one_bit b l) at h))

  pub read-unary : (k : ℕ) → 0 < k → At s r (unary_bits k) → unary_of s r ≡ got k r (unary_bits k)
  unfolding unary_of past
  read-unary k l h =
      let e = length-unary s k l in
      let room : k ≤ r.remaining = omega (arith, h.room, e) in
      let z : zeros_at s r.place r.remaining ≡ k - 1 =
      zeros-found s r.place (k - 1) r.remaining (unary-zeros s r.place k h.stand) (unary-one s r.place k h.stand) (omega arith) in
      let up : k - 1 + 1 ≡ k = omega arith in
      rw (z, lt-ltb (k - 1) r.remaining (omega arith), up, e)

  -- a search among n bits that finds a one
  pub find-unary : (k n : ℕ) → 0 < k → k ≤ n → At s r (unary_bits k) → find_of s r n ≡ got (k - 1) r (unary_bits k)
  unfolding find_of past
  find-unary k n l m h =
      let e = length-unary s k l in
      let room : k ≤ r.remaining = omega (arith, h.room, e) in
      let z : zeros_at s r.place (min n r.remaining) ≡ k - 1 =
      zeros-found s r.place (k - 1) (min n r.remaining) (unary-zeros s r.place k h.stand) (unary-one s r.place k h.stand) (omega arith) in
      let up : k - 1 + 1 ≡ k = omega arith in
      rw (z, lt-ltb (k - 1) (min n r.remaining) (omega arith), up, e)

  -- one that finds none
  pub find-zeros : (n : ℕ) → At s r (zero_bits n) → find_of s r n ≡ got n r (zero_bits n)
  unfolding find_of past
  find-zeros n h =
      let e = length-replicate {A = ℕ} n 0 in
      let room : n ≤ r.remaining = omega (arith, h.room, e) in
      let all : min n r.remaining ≡ n = omega arith in
      let z : zeros_at s r.place n ≡ n = zeros-all s r.place n (zeros-stand s r.place n h.stand) in
      rw (all, z, le-ltb n n (omega arith), le-leb n r.remaining room, e)

  -- ---- a width update
  pub sound-past : (b : List ℕ) → r.status ≡ 0 → eqb (past r b).status 0 ≡ true
  unfolding past
  sound-past b e = eq-eqb r.status 0 e

-- the reader past a, past b
both : (s : List ℕ) (r : Reader) (v : ℕ) (a b : List ℕ) → got v (past r a) b ≡ got v r (a ++ b)
both s r v a b = ap (λ (q : Reader). record { value = v; reader = q }) (past-both r a b)

module _ (s : List ℕ) (r : Reader) (a b : ℕ) where
  kept_back : a ≡ b → At s r (0 ∷ []) → update_of s r a ≡ got b r (0 ∷ [])
  unfolding update_of update_first
  kept_back e h = rw (read-bit s r 0 (omega arith) h, e)

  opened : (c : ℕ) (u : List ℕ) → c < 2 → At s r (1 ∷ c ∷ u) → update_of s r a ≡ update_second s a (got c (past r (1 ∷ [])) (c ∷ []))
  unfolding update_of update_first
  opened c u l h =
      rw (read-bit s r 1 (omega arith) (at_left s r (1 ∷ []) (c ∷ u) h), sound-past s r (1 ∷ []) h.sound)
      (ap (update_second s a) (read-bit s (past r (1 ∷ [])) c l (at_left s (past r (1 ∷ [])) (c ∷ []) u (at_right s r (1 ∷ []) (c ∷ u) h))))

  -- past the two opening bits
  abbrev two : ℕ → Reader
  two c = past (past r (1 ∷ [])) (c ∷ [])

  two_at : (c : ℕ) (u : List ℕ) → At s r (1 ∷ c ∷ u) → At s (two c) u
  two_at c u h = at_right s (past r (1 ∷ [])) (c ∷ []) u (at_right s r (1 ∷ []) (c ∷ u) h)

  two_past : (v c : ℕ) (u : List ℕ) → got v (two c) u ≡ got v r (1 ∷ c ∷ u)
  two_past v c u = both s (past r (1 ∷ [])) v (c ∷ []) u ∙ both s r v (1 ∷ []) (c ∷ u)

  grown-back : a < b → At s r (1 ∷ 0 ∷ unary_bits (b - a)) → update_of s r a ≡ got b r (1 ∷ 0 ∷ unary_bits (b - a))
  unfolding update_second
  grown-back l h =
      let u = two_at 0 (unary_bits (b - a)) h in
      let w : a + (b - a) ≡ b = omega arith in
      opened 0 (unary_bits (b - a)) (omega arith) h
      ∙ rw (eq-eqb (two 0).status 0 u.sound, read-unary s (two 0) (b - a) (omega arith) u, w) (two_past b 0 (unary_bits (b - a)))

  shrunk-back : 0 < b → b < a → At s r (1 ∷ 1 ∷ unary_bits (a - b)) → update_of s r a ≡ got b r (1 ∷ 1 ∷ unary_bits (a - b))
  unfolding update_second
  shrunk-back m l h =
      let u = two_at 1 (unary_bits (a - b)) h in
      let w : a - (a - b - 1 + 1) ≡ b = omega arith in
      opened 1 (unary_bits (a - b)) (omega arith) h
      ∙ rw (eq-eqb (two 1).status 0 u.sound, find-unary s (two 1) (a - b) (a - 1) (omega arith) (omega arith) u, w) (two_past b 1 (unary_bits (a - b)))

  gone-back : b ≡ 0 → b < a → At s r (1 ∷ 1 ∷ zero_bits (a - 1)) → update_of s r a ≡ got b r (1 ∷ 1 ∷ zero_bits (a - 1))
  unfolding update_second
  gone-back m l h =
      let u = two_at 1 (zero_bits (a - 1)) h in
      let w : a - (a - 1 + 1) ≡ b = omega arith in
      opened 1 (zero_bits (a - 1)) (omega arith) h
      ∙ rw (eq-eqb (two 1).status 0 u.sound, find-zeros s (two 1) (a - 1) u, w) (two_past b 1 (zero_bits (a - 1)))

  abbrev Updates : List ℕ → Type 0
  Updates u = At s r u → update_of s r a ≡ got b r u

  -- every update, of any two widths
  pub update-back : At s r (update_bits a b) → update_of s r a ≡ got b r (update_bits a b)
  unfolding update_bits
  update-back =
      of-cond Updates (eqb a b) _ _ (λ t. kept_back (eqb-true a b t)) λ t.
      of-cond Updates (ltb a b) _ _ (λ u. grown-back (ltb-true a b u)) λ u.
      let l : b < a = omega (arith, eqb-false a b t, ltb-false a b u) in
      of-cond (λ (z : List ℕ). Updates (1 ∷ 1 ∷ z)) (eqb b 0) _ _
      (λ v. gone-back (eqb-true b 0 v) l) (λ v. shrunk-back (omega (arith, eqb-false b 0 v)) l)

-- ---- a zero run of k groups, of g
module _ (s : List ℕ) (r : Reader) (g k : ℕ) (some : 0 < k) (most : k ≤ g) (fits : g < 2 ^ 64) where
  whole_back : k ≡ g → At s r (zero_bits (bit_length (g - 1))) → run_of s r g ≡ got k r (zero_bits (bit_length (g - 1)))
  unfolding run_of run_found
  whole_back e h =
      ⊎_elim
      (λ (l : g ≤ 1).
      let none : bit_length (g - 1) ≡ 0 = omega (arith, length_most (g - 1) (omega arith) 0 (omega arith)) in
      rw (le-leb g 1 l, none, past-none r, e))
      (λ (l : 1 < g). rw (lt-leb g 1 l, find-zeros s r (bit_length (g - 1)) h, le-leb (bit_length (g - 1)) (bit_length (g - 1)) (omega arith), e))
      (le-or-lt g 1)

  part-back : k < g → At s r (unary_bits (bit_length k) ++ number_bits (bit_length k - 1) (k - 2 ^ (bit_length k - 1)))
      → run_of s r g ≡ got k r (unary_bits (bit_length k) ++ number_bits (bit_length k - 1) (k - 2 ^ (bit_length k - 1)))
  unfolding run_of run_found
  part-back l h =
      let z = bit_length k - 1 in
      let e = k - 2 ^ z in
      let u = unary_bits (bit_length k) in
      let pos : 0 < bit_length k = length_some k (omega arith) some in
      let up : bit_length k ≡ suc z = omega arith in
      let upper : k < 2 ^ suc z = rw up at (under-length k (omega arith)) in
      let lower : 2 ^ suc z ≤ 2 * k + 1 = rw up at (length-under k (omega arith)) in
      let top : 2 ^ z ≤ k = omega (arith, pow-suc 2 z) in
      let small : e < 2 ^ z = omega (arith, pow-suc 2 z) in
      let fewer : z < bit_length (g - 1) = exponent_lt z (bit_length (g - 1)) (omega (arith, under-length (g - 1) (omega arith))) in
      let sum : min (2 ^ z + e) g ≡ k = omega arith in
      let found = find-unary s r (bit_length k) (bit_length (g - 1)) pos (omega arith) (at_left s r u (number_bits z e) h) in
      let number = read_number s (past r u) z e small (at_right s r u (number_bits z e) h) in
      rw (lt-leb g 1 (omega arith), found, lt-leb (bit_length (g - 1)) z fewer, sound-past s r u h.sound, lt-leb g (2 ^ z) (omega arith), number, sum)
      (both s r k u (number_bits z e))

  pub run-back : At s r (run_bits g k) → run_of s r g ≡ got k r (run_bits g k)
  unfolding run_bits
  run-back =
      of-cond (λ (u : List ℕ). At s r u → run_of s r g ≡ got k r u) (eqb k g) _ _
      (λ t. whole_back (eqb-true k g t)) (λ t. part-back (omega (arith, eqb-false k g t)))
