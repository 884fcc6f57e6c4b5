-- Laws of the header and the directory: lengths of their parts, and numbers that fit. Assumes nothing.
use Rattle.std.proofs.Common.{◌≡◌, refl, ap, ◌∙◌, List, [], ◌++◌, append_assoc, ℕ, zero, suc, ◌+◌, ◌*◌, ◌^◌, ◌≤◌, ◌<◌, arith, length, length-drop, get_or, get_or-drop, take, drop, sym, length-append, ltb, ltb-true, ltb-false}
use Rattle.std.proofs.Math.ListN.{length-replicate}
use Rattle.std.proofs.lemmas.List.Sums.{sum_by_more}
use Rattle.format.specs.Packets.{sum}
use Rattle.std.specs.List.{sum_by}
use Rattle.wrap32.proofs.Laws.{of-cond}
use Rattle.lists.specs.Lists.{rows}
use Rattle.lists.proofs.Rows.{length-rows}
use Rattle.format.specs.Refusals.{on, each}
use Rattle.format.specs.Sizes.{numbered}
use Rattle.format.specs.Writing.{number_bits, zero_bits, entries, packed}
use Rattle.format.proofs.TurnLaws.{not_on, each-zero}
use Rattle.codes.proofs.Pushed.{length-number, number-join, number-zeros}
use Rattle.codes.specs.Wrote.{Fresh, Appends}
use Rattle.codes.specs.declared.BitWriter.{BitWriter}
use Rattle.codes.proofs.Finished.{wrote-all, fresh-wrote}
use Rattle.encoding.proofs.Records.{sum-some}
use Rattle.assembly.specs.Front.{Narrow, units_at, group_of, entry_of, block_of, sizes_of, blocks_of, named_of, front_of}

-- ---- the packets of a group
pub entries-three : (g : ℕ) → g < 4 → 3 ≡ entries (numbered g)
entries-three zero h = refl
entries-three (suc zero) h = refl
entries-three (suc (suc zero)) h = refl
entries-three (suc (suc (suc zero))) h = refl
entries-three (suc (suc (suc (suc g)))) h = absurd (omega arith)

pub entries-one : (g : ℕ) → 4 ≤ g → 1 ≡ entries (numbered g)
entries-one zero h = absurd (omega arith)
entries-one (suc zero) h = absurd (omega arith)
entries-one (suc (suc zero)) h = absurd (omega arith)
entries-one (suc (suc (suc zero))) h = absurd (omega arith)
entries-one (suc (suc (suc (suc g)))) h = refl

-- ---- sums of units
-- numbers that follow one another in a list
pub sum-part : (u : List ℕ) (a n : ℕ) → a + n ≤ length u → sum_by (λ x. x) (take n (drop a u)) ≡ sum (λ k. get_or u (a + k) 0) n
unfolding sum
sum-part u a zero h = refl
sum-part u a (suc n) h =
    let e : n + 1 ≡ suc n = omega arith in
    ap (λ (k : ℕ). sum_by (λ x. x) (take k (drop a u))) (sym e) ∙ sum_by_more (λ x. x) (drop a u) n 0 (omega (arith, length-drop a u))
    ∙ (λ i. sum-part u a n (omega arith) i + get_or-drop a u n 0 i)

pub sum-most : (f : ℕ → ℕ) (m n : ℕ) → ((k : ℕ) → f k ≤ m) → sum f n ≤ n * m
unfolding sum
sum-most f m zero h = omega arith
sum-most f m (suc n) h = omega (arith, sum-most f m n h, h n)

-- an entry is no longer than its group
pub entry-narrow : (u : List ℕ) (g k : ℕ) → Narrow u → g < 5 → entry_of u g k < 2 ^ 24
unfolding entry_of group_of
entry-narrow u g k n h =
    of-cond (λ (x : ℕ). x < 2 ^ 24) (ltb k (entries (numbered g))) _ _
    (λ t. omega (arith, n.group g h, sum-some (units_at u g) (entries (numbered g)) k (ltb-true k (entries (numbered g)) t)))
    (λ t. omega arith)

-- ---- lengths
pub length-named : (w H : ℕ) → length (named_of w H) ≡ 128
length-named w H = simp (length-append, length-number)

module _ (u : List ℕ) where
  pub length-sizes : (n : ℕ) → length (sizes_of u n) ≡ n * 24
  length-sizes n = length-rows 24 (λ g. number_bits 24 (group_of u g)) (λ g. length-number 24 (group_of u g)) n

  pub length-entries : (g n : ℕ) → length (rows n (λ k. number_bits 24 (entry_of u g k))) ≡ n * 24
  length-entries g n = length-rows 24 (λ k. number_bits 24 (entry_of u g k)) (λ k. length-number 24 (entry_of u g k)) n

  pub length-block : (g : ℕ) → length (block_of u g) ≡ 128
  unfolding block_of
  length-block g =
      let n = entries (numbered g) in
      let e = rows 5 (λ k. number_bits 24 (entry_of u g k)) in
      omega (arith, length-append (zero_bits 4) (number_bits 4 n ++ e), length-append (number_bits 4 n) e, length-replicate {A = ℕ} 4 0, length-number 4 n, length-entries g 5)

  pub length-blocks : (n : ℕ) → length (blocks_of u n) ≡ n * 128
  length-blocks n = length-rows 128 (block_of u) length-block n

-- the first byte of a block, and the rest
pub block-bits : (u : List ℕ) (g n : ℕ) → n ≡ entries (numbered g) → n ≤ 3 → number_bits 8 n ++ rows 5 (λ k. number_bits 24 (entry_of u g k)) ≡ block_of u g
unfolding block_of
block-bits u g n e h =
    let z : n ≡ 0 * 2 ^ 4 + n = omega arith in
    let first : number_bits 8 n ≡ zero_bits 4 ++ number_bits 4 n = ap (number_bits 8) z ∙ number-join 4 0 4 n (omega arith) ∙ ap (λ (x : List ℕ). x ++ number_bits 4 n) (number-zeros 4) in
    let r = rows 5 (λ k. number_bits 24 (entry_of u g k)) in
    ap (λ (x : List ℕ). x ++ r) first ∙ append_assoc (zero_bits 4) (number_bits 4 n) r ∙ ap (λ (m : ℕ). zero_bits 4 ++ (number_bits 4 m ++ r)) e

pub length_front : (w H : ℕ) (u : List ℕ) → length (front_of w H u) ≡ 1024
length_front w H u =
    let b = zero_bits 136 ++ blocks_of u 5 in
    omega (arith, length-append (named_of w H) (sizes_of u 5 ++ b), length-append (sizes_of u 5) b, length-append (zero_bits 136) (blocks_of u 5), length-named w H, length-sizes u 5, length-replicate {A = ℕ} 136 0, length-blocks u 5)

-- all 128 bytes
pub front-packed : (w H : ℕ) (u s t : List ℕ) (b r : BitWriter) → length s ≡ 128 → Fresh b s → Appends b r (front_of w H u) → t ≡ r.out.now → ((i : ℕ) → get_or t i 0 < 256) → t ≡ packed (front_of w H u)
front-packed w H u s t b r long f a e bytes =
    let n = length_front w H u in
    let m : length r.out.now ≡ 128 = a.long ∙ ap length f.slice ∙ long in
    e
    ∙ wrote-all s r.out.now r.place r.cache r.held _ (rw e at bytes) (a.wrote s [] (fresh-wrote b s f)) (omega (arith, a.on, a.few, n, f.none_out, f.none_held)) (omega (arith, a.on, a.few, n, m, f.none_out, f.none_held))

-- no group is too long
pub narrow-units : (u : List ℕ) → each (λ g. on (ltb 268435440 (16 * group_of u g)) 26) 5 ≡ 0 → Narrow u
narrow-units u h =
    record { group = λ g l. omega (arith, ltb-false 268435440 (16 * group_of u g) (not_on _ 25 (each-zero (λ g. on (ltb 268435440 (16 * group_of u g)) 26) g 5 h l))) }
