-- The places of rows that stand one after the other in a slice. Assumes nothing.
use Rattle.std.proofs.Common.{◌≡◌, inl, inr, ⊎_elim, ℕ, suc, ◌+◌, ◌-◌, ◌*◌, ◌≤◌, ◌<◌, mul-le-mul_right, arith}
use Rattle.lists.specs.Lists.{Apart, Clear}
use Rattle.format.proofs.BitLaws.{le-or-lt}
use Rattle.undoing.specs.Down.{Within, RowsApart}

-- rows lie where the last one does
pub within_all : (start step n count size : ℕ) → start + (count - 1) * step + n ≤ size → Within start step n count size
within_all start step n count size h r b =
    let m : r * step ≤ (count - 1) * step = mul-le-mul_right step (omega arith) in
    omega arith

-- a row before another ends before it, if rows of n have n places at least
pub row_before : (start step n r q : ℕ) → n ≤ step → r < q → start + r * step + n ≤ start + q * step
row_before start step n r q h b =
    let m : suc r * step ≤ q * step = mul-le-mul_right step b in
    omega arith

-- two different rows have no place in common; of any two, the one is clear while the other is written
pub row_apart : (start step n r q : ℕ) → n ≤ step → (r ≡ q → ⊥) → Apart (start + r * step) n (start + q * step) n
row_apart start step n r q h ne =
    ⊎_elim
    (λ (b : suc r ≤ q). inl (row_before start step n r q h b))
    (λ (a : q < suc r).
    ⊎_elim
    (λ (b : suc q ≤ r). inr (row_before start step n q r h b))
    (λ (b : r < suc q). let e : r ≡ q = omega arith in absurd (ne e))
    (le-or-lt (suc q) r))
    (le-or-lt (suc r) q)

pub row-clear : (start step n r q : ℕ) → n ≤ step → Clear (start + q * step) n (start + r * step)
row-clear start step n r q h =
    ⊎_elim
    (λ (b : suc r ≤ q). inl (row_before start step n r q h b))
    (λ (b : q < suc r). inr (let m : q * step ≤ r * step = mul-le-mul_right step (omega arith) in omega arith))
    (le-or-lt (suc r) q)

-- rows beside each other, with the same distance; rows in two regions that lie apart
pub rows-beside : (from t n count : ℕ) → 2 * n ≤ t → RowsApart from t (from + n) t n count
rows-beside from t n count h r q a b =
    ⊎_elim
    (λ (l : suc q ≤ r). inr (let m : suc q * t ≤ r * t = mul-le-mul_right t l in omega arith))
    (λ (l : r < suc q). inl (let m : r * t ≤ q * t = mul-le-mul_right t (omega arith) in omega arith))
    (le-or-lt (suc q) r)

pub rows-regions : (from s to t n count : ℕ) → Apart from ((count - 1) * s + n) to ((count - 1) * t + n) → RowsApart from s to t n count
rows-regions from s to t n count h r q a b =
    let i : r * s ≤ (count - 1) * s = mul-le-mul_right s (omega arith) in
    let j : q * t ≤ (count - 1) * t = mul-le-mul_right t (omega arith) in
    ⊎_elim
    (λ (l : from + ((count - 1) * s + n) ≤ to). inl (omega arith))
    (λ (l : to + ((count - 1) * t + n) ≤ from). inr (omega arith))
    h

-- rows of n one right behind the other: each lies in their region, and regions that lie apart have rows that do
pub dense-in : (start n count size : ℕ) → start + count * n ≤ size → Within start n n count size
dense-in start n count size h r b =
    let m : suc r * n ≤ count * n = mul-le-mul_right n b in
    omega arith

pub dense-apart : (from to n count : ℕ) → Apart from (count * n) to (count * n) → RowsApart from n to n n count
dense-apart from to n count h r q a b =
    let i : suc r * n ≤ count * n = mul-le-mul_right n a in
    let j : suc q * n ≤ count * n = mul-le-mul_right n b in
    ⊎_elim
    (λ (l : from + count * n ≤ to). inl (omega arith))
    (λ (l : to + count * n ≤ from). inr (omega arith))
    h
