-- A slice that is filled from the front. Assumes nothing.
use Rattle.std.proofs.Common.{◌≡◌, sym, ap, ◌∙◌, ⊎_elim, List, ◌∷◌, ◌++◌, append_assoc, ℕ, zero, suc, ◌+◌, ◌≤◌, ◌<◌, arith, add-one, add-zero, ℤ, pos, length, set, get_or, replicate, length-set, take_all, take-suc-set, get_or-set_other}
use lib.ListN.{length-replicate, get_or-replicate, get_or-eq_default}
use lib.Seq.{take-length, take-append-le, set_out, set-get_or}
use Rattle.format.proofs.BitLaws.{le-or-lt}
use Rattle.format.specs.Coefficients.{zeros}
use Rattle.rows.specs.Course.{filled, Clean}

-- nothing is left to fill
pub filled-past : (d : List ℤ) (i : ℕ) (l : List ℤ) → length d ≤ i → filled d i l ≡ d
filled-past d i l h = rw (take_all i d h) (take-append-le (length d) d l (omega arith) ∙ take-length d)

-- a store at the place that is filled next
filled-set : (d : List ℤ) (i : ℕ) (v : ℤ) (l : List ℤ) → filled (set d i v) (i + 1) l ≡ filled d i (v ∷ l)
filled-set d i v l =
    ⊎_elim
    (λ (h : length d ≤ i). ap (λ (e : List ℤ). filled e (i + 1) l) (set_out d i v h) ∙ filled-past d (i + 1) l (omega arith) ∙ sym (filled-past d i (v ∷ l) h))
    (λ (h : i < length d). simp (length-set, add-one, take-suc-set d i v h, append_assoc))
    (le-or-lt (length d) i)

-- four stores
pub filled-four : (d : List ℤ) (i : ℕ) (a b c e : ℤ) (l : List ℤ)
    → filled (set (set (set (set d i a) (i + 1) b) (i + 2) c) (i + 3) e) (i + 4) l ≡ filled d i (a ∷ b ∷ c ∷ e ∷ l)
filled-four d i a b c e l =
    let d1 = set d i a in
    let d2 = set d1 (i + 1) b in
    let d3 = set d2 (i + 2) c in
    let two : i + 2 ≡ i + 1 + 1 = omega arith in
    let three : i + 3 ≡ i + 2 + 1 = omega arith in
    let four : i + 4 ≡ i + 3 + 1 = omega arith in
    ap (λ (k : ℕ). filled (set d3 (i + 3) e) k l) four ∙ filled-set d3 (i + 3) e l
    ∙ ap (λ (k : ℕ). filled d3 k (e ∷ l)) three ∙ filled-set d2 (i + 2) c (e ∷ l)
    ∙ ap (λ (k : ℕ). filled d2 k (c ∷ e ∷ l)) two ∙ filled-set d1 (i + 1) b (c ∷ e ∷ l)
    ∙ filled-set d i a (b ∷ c ∷ e ∷ l)

-- one element more
filled_next : (d : List ℤ) (i : ℕ) (l : List ℤ) → filled d (i + 1) l ≡ filled d i (get_or d i (pos 0) ∷ l)
filled_next d i l = ap (λ (e : List ℤ). filled e (i + 1) l) (sym (set-get_or d i (pos 0))) ∙ filled-set d i (get_or d i (pos 0)) l

-- zeros that are there already
pub clean-filled : (d : List ℤ) (i : ℕ) → Clean d i → (k : ℕ) (l : List ℤ) → filled d (i + k) l ≡ filled d i (replicate k (pos 0) ++ l)
clean-filled d i clean zero l = ap (λ (k : ℕ). filled d k l) (add-zero i)
clean-filled d i clean (suc k) l =
    let on : i + suc k ≡ i + 1 + k = omega arith in
    ap (λ (j : ℕ). filled d j l) on ∙ clean-filled d (i + 1) (λ j h. clean j (omega arith)) k l ∙ filled_next d i (replicate k (pos 0) ++ l)
    ∙ ap (λ (x : ℤ). filled d i (x ∷ (replicate k (pos 0) ++ l))) (clean i (omega arith))

-- four stores leave what is beyond them
pub clean-four : (d : List ℤ) (i : ℕ) (a b c e : ℤ) → Clean d i → Clean (set (set (set (set d i a) (i + 1) b) (i + 2) c) (i + 3) e) (i + 4)
clean-four d i a b c e clean j h =
    let d1 = set d i a in
    let d2 = set d1 (i + 1) b in
    let d3 = set d2 (i + 2) c in
    get_or-set_other d3 (i + 3) j e (pos 0) (λ q. omega arith) ∙ get_or-set_other d2 (i + 2) j c (pos 0) (λ q. omega arith)
    ∙ get_or-set_other d1 (i + 1) j b (pos 0) (λ q. omega arith) ∙ get_or-set_other d i j a (pos 0) (λ q. omega arith) ∙ clean j (omega arith)

-- a slice that is cleared whole
pub clean_all : (d : List ℤ) (n : ℕ) → d ≡ zeros n → Clean d 0
clean_all d n e j h =
    let len : length d ≡ n = ap length e ∙ length-replicate n (pos 0) in
    ⊎_elim
    (λ (past : n ≤ j). get_or-eq_default d (pos 0) {n = j} (omega arith))
    (λ (before : j < n). ap (λ (l : List ℤ). get_or l j (pos 0)) e ∙ get_or-replicate n j (pos 0) (pos 0) before)
    (le-or-lt n j)
