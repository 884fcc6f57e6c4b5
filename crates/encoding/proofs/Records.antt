-- Laws of a record's numbers in a list. Assumes nothing.
use Rattle.std.proofs.Common.{◌≡◌, refl, sym, ap, ◌∙◌, List, [], ◌++◌, Bool, true, false, cond, ⊎_elim, ◌⊎◌, inl, inr, ℕ, zero, suc, ◌+◌, ◌-◌, ◌*◌}
use Rattle.std.proofs.Common.{◌/◌, ◌%◌, ◌≤◌, ◌<◌, mul-le-mul_right, eq-or-lt_of_le, le_of_suc-le-suc, arith, ℤ, pos, negsuc, nat_abs, length, get_or, take, drop, length-append, length-take, eqb, ltb, eq-eqb, ne_eqb, ltb-true}
use Rattle.std.proofs.Math.ListN.{length-replicate, get_or-eq_default}
use Rattle.std.specs.Bool.{MatchBool}
use Rattle.std.specs.List.{AllWithin, HoldsAt}
use Rattle.lists.specs.Lists.{rows, row}
use Rattle.lists.proofs.Tab.{get_d_part, length_part}
use Rattle.format.specs.Lifting.{Signal, Plane}
use Rattle.format.specs.Packets.{sum}
use Rattle.format.proofs.BitLaws.{le-or-lt}
use Rattle.format.specs.Writing.{zero_bits, update_bits, group_width, groups_bits, padded, row_bits, record_row, magnitudes, record_bits, units, filled}
use Rattle.lists.proofs.Rows.{rows_same}
use Rattle.encoding.specs.Numbers.{Small, line}
use Rattle.codes.specs.Wrote.{Appends}
use Rattle.encoding.specs.Record.{total, rows_in, record_in}
use Rattle.codes.specs.declared.BitWriter.{BitWriter}
use Rattle.format.proofs.TurnLaws.{sum_same}
use Rattle.codes.proofs.Laws.{appends-both}

-- ---- sums
pub sum-add : (f : ℕ → ℕ) (a b : ℕ) → sum f (a + b) ≡ sum f a + sum (λ k. f (a + k)) b
unfolding sum
sum-add f a zero = let e : a + 0 ≡ a = omega arith in rw e (omega arith)
sum-add f a (suc b) = let e : a + suc b ≡ suc (a + b) = omega arith in rw e (omega (arith, sum-add f a b))

pub sum_rows : (f : ℕ → ℕ) (cols n : ℕ) → sum f (n * cols) ≡ sum (λ q. sum (λ x. f (q * cols + x)) cols) n
unfolding sum
sum_rows f cols zero = let e : 0 * cols ≡ 0 = omega arith in rw e refl
sum_rows f cols (suc n) =
    let e : suc n * cols ≡ n * cols + cols = omega arith in
    rw e (sum-add f (n * cols) cols ∙ ap (λ (k : ℕ). k + sum (λ x. f (n * cols + x)) cols) (sum_rows f cols n))

-- one that is not 0
pub sum-some : (f : ℕ → ℕ) (n k : ℕ) → k < n → f k ≤ sum f n
unfolding sum
sum-some f zero k l = absurd (omega arith)
sum-some f (suc n) k l = by (eq-or-lt_of_le (le_of_suc-le-suc l)) (λ q. sum-some f n k q)
  where
    by : (k ≡ n) ⊎ (k < n) → (k < n → f k ≤ sum f n) → f k ≤ sum f n + f n
    by (inl q) h = rw q (omega arith)
    by (inr q) h = omega (arith, h q)

sum-zeros : (f : ℕ → ℕ) (n : ℕ) → ((k : ℕ) → k < n → f k ≡ 0) → sum f n ≡ 0
unfolding sum
sum-zeros f zero h = refl
sum-zeros f (suc n) h = omega (arith, sum-zeros f n (λ k l. h k (omega arith)), h n (omega arith))

size-none : (z : ℤ) → nat_abs z ≡ 0 → z ≡ pos 0
size-none (pos zero) e = refl
size-none (pos (suc n)) e = absurd (omega arith)
size-none (negsuc n) e = absurd (omega arith)

pub none_in : (l : List ℤ) → sum (λ x. nat_abs (line l x)) (length l) ≡ 0 → true ≡ eqb (total l) 0
unfolding total
none_in l e = sym (eq-eqb _ 0 e)

pub some_in : (l : List ℤ) (x : ℕ) → x < length l → (nat_abs (line l x) ≡ 0 → ⊥) → false ≡ eqb (total l) 0
unfolding total
some_in l x h e = let f : ℕ → ℕ = λ x. nat_abs (line l x) in sym (ne_eqb (sum f (length l)) 0 (λ q. e (omega (arith, q, sum-some f (length l) x h))))

-- all numbers are 0, or one is not
pub zero_in : (r : Bool) (l : List ℤ) → MatchBool r (AllWithin (λ z. z ≡ pos 0) l 0 (length l)) ((k : ℕ) × (k < length l) × HoldsAt (λ z. z ≡ pos 0 → ⊥) l k) → r ≡ eqb (total l) 0
zero_in true l h = none_in l (sum-zeros (λ x. nat_abs (line l x)) (length l) (λ k q. ap nat_abs (h k (pos 0) (omega arith) q)))
zero_in false l h = some_in l h.0 h.1 (λ z. h.2 (pos 0) (size-none _ z))

-- ---- rows of a list
pub row_at : (cols : ℕ) (l : List ℤ) (q x : ℕ) → x < cols → line (row cols l q) x ≡ line l (q * cols + x)
row_at cols l q x h = get_d_part l (q * cols) cols x (pos 0) h

-- a part of small numbers has small numbers
pub part_small : (l : List ℤ) (a n : ℕ) → Small (line l) → Small (line (take n (drop a l)))
part_small l a n h x =
    ⊎_elim
    (λ (g : n ≤ x).
    let m : length (take n (drop a l)) ≤ n = simp length-take (omega arith) in
    let z : get_or (take n (drop a l)) x (pos 0) ≡ pos 0 = get_or-eq_default (take n (drop a l)) (pos 0) (omega (arith, m)) in
    rw z (omega arith))
    (λ (g : x < n). rw (get_d_part l a n x (pos 0) g) (h (a + x)))
    (le-or-lt n x)

-- row q as a part of its list
module _ (l : List ℤ) (cols n q a : ℕ) (long : length l ≡ n * cols) (less : q < n) (at : a ≡ q * cols) where
  pub row_fits : a + cols ≤ length l
  row_fits = omega (arith, mul-le-mul_right cols less)

  pub row-part : take (a + cols - a) (drop a l) ≡ row cols l q
  row-part = let e : a + cols - a ≡ cols = omega arith in λ i. take (e i) (drop (at i) l)

  pub row-length : length (take (a + cols - a) (drop a l)) ≡ cols
  row-length = let e : a + cols - a ≡ cols = omega arith in ap (λ (k : ℕ). length (take k (drop a l))) e ∙ length_part l a cols row_fits

  pub row-bits : row_bits (length (take (a + cols - a) (drop a l))) (line (take (a + cols - a) (drop a l))) ≡ row_bits cols (line (row cols l q))
  row-bits = λ i. row_bits (row-length i) (line (row-part i))

-- rows that are the same in their columns have the same bits
padded-same : (n : ℕ) (f g : Signal) → ((x : ℕ) → x < n → f x ≡ g x) → (x : ℕ) → padded n f x ≡ padded n g x
padded-same n f g h x = by (ltb x n) refl
  where
    by : (b : Bool) → ltb x n ≡ b → cond b (f x) (pos 0) ≡ cond b (g x) (pos 0)
    by true e = h x (ltb-true x n e)
    by false e = refl

pub row_same : (n : ℕ) (f g : Signal) → ((x : ℕ) → x < n → f x ≡ g x) → row_bits n f ≡ row_bits n g
unfolding row_bits
row_same n f g h =
    let G = (n + 3) / 4 in
    λ i. update_bits 0 (group_width (λ x. padded-same n f g h x i) 0) ++ groups_bits (λ x. padded-same n f g h x i) G 0 G

-- the record of a packet that stands in a list
pub record-in : (v : ℕ → Plane) (m cols n k : ℕ) (l : List ℤ) → length l ≡ n * cols → ((q x : ℕ) → q < n → x < cols → line l (q * cols + x) ≡ record_row v m k q x)
    → record_in cols n l ≡ record_bits v m cols n k
unfolding record_in record_bits magnitudes total
record-in v m cols n k l long same =
    let sums : sum (λ x. nat_abs (line l x)) (length l) ≡ sum (λ q. sum (λ x. nat_abs (record_row v m k q x)) cols) n =
    ap (sum (λ x. nat_abs (line l x))) long ∙ sum_rows (λ x. nat_abs (line l x)) cols n ∙ sum_same _ _ n (λ q a. sum_same _ _ cols (λ x b. ap nat_abs (same q x a b))) in
    let bits : rows_in cols l n ≡ rows n (λ q. row_bits cols (record_row v m k q)) =
    rows_same n _ _ (λ q a. row_same cols _ _ (λ x b. row_at cols l q x b ∙ same q x a b)) in
    λ i. cond (eqb (sums i) 0) [] (bits i)

pub record-none : (cols n : ℕ) (l : List ℤ) → eqb (total l) 0 ≡ true → record_in cols n l ≡ []
unfolding record_in
record-none cols n l e = rw e refl

pub record-some : (cols n : ℕ) (l : List ℤ) → eqb (total l) 0 ≡ false → record_in cols n l ≡ rows_in cols l n
unfolding record_in
record-some cols n l e = rw e refl

-- ---- rows, one by one
module _ {A : Type 0} (g : ℕ → List A) where
  pub rows_none : rows 0 g ≡ []
  unfolding rows
  rows_none = refl

  pub rows_next : (n : ℕ) → rows n g ++ g n ≡ rows (n + 1) g
  unfolding rows
  rows_next n = let e : n + 1 ≡ suc n = omega arith in rw e refl

  pub rows-within : (n q : ℕ) → q < n → length (rows q g) + length (g q) ≤ length (rows n g)
  unfolding rows
  rows-within zero q l = absurd (omega arith)
  rows-within (suc n) q l = by (eq-or-lt_of_le (le_of_suc-le-suc l)) (λ k. rows-within n q k)
    where
      by : (q ≡ n) ⊎ (q < n) → (q < n → length (rows q g) + length (g q) ≤ length (rows n g)) → length (rows q g) + length (g q) ≤ length (rows n g ++ g n)
      by (inl k) h = rw k (omega (arith, length-append (rows n g) (g n)))
      by (inr k) h = omega (arith, length-append (rows n g) (g n), h k)

-- ---- filled up to whole bytes
pub length-filled : (b : List ℕ) → length (filled 8 b) ≡ 8 * units 8 b
unfolding filled
length-filled b = length-append b (zero_bits (units 8 b * 8 - length b)) ∙ omega (arith, length-replicate {A = ℕ} (units 8 b * 8 - length b) 0)

pub appends-filled : (w r q : BitWriter) (x : List ℕ) → w.held ≡ 0 → Appends w r x → Appends r q (zero_bits ((8 - r.held) % 8)) → Appends w q (filled 8 x)
unfolding filled
appends-filled w r q x none h k =
    let e : (8 - r.held) % 8 ≡ units 8 x * 8 - length x = omega (arith, none, h.on, h.few) in
    rw (← e) (appends-both w r q x _ h k)
