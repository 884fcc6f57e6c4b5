-- A ring of pairs of rows is a ring of rows, and what stands there after more pairs were laid. Assumes nothing.
use Rattle.std.proofs.Common.{◌≡◌, refl, sym, ap, ◌∙◌, List, ◌++◌, ℕ, zero, suc, ◌+◌, ◌*◌, ◌/◌, ◌%◌, ◌≤◌, ◌<◌, mul-le-mul_right, mod-lt, div-add-mod', arith, length, take, drop, length-append, length-drop, length-take-le, take-take}
use Rattle.std.proofs.Common.{take-add, take_at, drop_at, drop-drop}
use Rattle.std.proofs.Math.Arith.{digits_mod}
use Rattle.lists.specs.Lists.{part, put_at, laid, Rung, Gone}
use Rattle.lists.proofs.Laid.{length-laid}
use Rattle.lists.proofs.Rings.{rung-on, rung-out}

-- row 2 y + b of 2 n
pub mod-two : (n y b : ℕ) → 1 ≤ n → b < 2 → (2 * y + b) % (2 * n) ≡ 2 * (y % n) + b
mod-two n y b h k =
    let m = mod-lt y h in
    let d = div-add-mod' y n in
    let e : 2 * y + b ≡ y / n * (2 * n) + (2 * (y % n) + b) = omega (arith, d) in
    ap (λ (x : ℕ). x % (2 * n)) e ∙ digits_mod (y / n) (omega (arith, m, k))

module _ {A : Type 0} (l xs ys : List A) (p c : ℕ) (a : length xs ≡ c) (h : p + 2 * c ≤ length l) (e : part l p (2 * c) ≡ xs ++ ys) where
  pub pair-first : part l p c ≡ xs
  pair-first = sym (take-take c (2 * c) (drop p l) (omega arith)) ∙ ap (take c) e ∙ take_at xs ys c a

  pub pair-second : part l (p + c) c ≡ ys
  pair-second =
      let n : 2 * c ≡ c + c = omega arith in
      let t : length (take c (drop p l)) ≡ c = length-take-le c (drop p l) (rw length-drop (omega (arith, h))) in
      ap (take c) (sym (drop-drop c p l))
      ∙ sym (drop_at (take c (drop p l)) (take c (drop c (drop p l))) c t)
      ∙ ap (drop c) (sym (take-add c c (drop p l)) ∙ ap (λ (k : ℕ). take k (drop p l)) (sym n) ∙ e)
      ∙ drop_at xs ys c a

module _ {A : Type 0} (at c size : ℕ) (f : ℕ → List A) (each : (r : ℕ) → length (f r) ≡ 2 * c) (some : 1 ≤ size) (l : List A) (room : at + size * (4 * c) ≤ length l) where
  pub pairs-rows : (a e : ℕ) → Rung at (4 * c) size (λ y. f (2 * y) ++ f (2 * y + 1)) a e l → Rung at (2 * c) (2 * size) f (2 * a) (2 * e) l
  pairs-rows a e h r p q = by (r % 2) refl (omega arith)
    where
      y : ℕ
      y = r / 2

      pair : part l (at + y % size * (4 * c)) (2 * (2 * c)) ≡ f (2 * y) ++ f (2 * y + 1)
      pair = let n : 2 * (2 * c) ≡ 4 * c = omega arith in ap (part l (at + y % size * (4 * c))) n ∙ h y (omega (arith, p)) (omega (arith, q))

      fits : at + y % size * (4 * c) + 2 * (2 * c) ≤ length l
      fits = let m = mul-le-mul_right (4 * c) (mod-lt y some) in omega (arith, m, room)

      by : (b : ℕ) → r % 2 ≡ b → b < 2 → part l (at + r % (2 * size) * (2 * c)) (2 * c) ≡ f r
      by zero s t =
          let k : 2 * y ≡ r = omega (arith, s) in
          let j : 2 * y + 0 ≡ r = omega (arith, s) in
          let m : r % (2 * size) ≡ 2 * (y % size) + 0 = ap (λ (x : ℕ). x % (2 * size)) (sym j) ∙ mod-two size y 0 some (omega arith) in
          let n : at + r % (2 * size) * (2 * c) ≡ at + y % size * (4 * c) = rw m (omega arith) in
          ap (λ (x : ℕ). part l x (2 * c)) n ∙ pair-first l (f (2 * y)) (f (2 * y + 1)) _ (2 * c) (each (2 * y)) fits pair ∙ ap f k
      by (suc zero) s t =
          let k : 2 * y + 1 ≡ r = omega (arith, s) in
          let m : r % (2 * size) ≡ 2 * (y % size) + 1 = ap (λ (x : ℕ). x % (2 * size)) (sym k) ∙ mod-two size y 1 some (omega arith) in
          let n : at + r % (2 * size) * (2 * c) ≡ at + y % size * (4 * c) + 2 * c = rw m (omega arith) in
          ap (λ (x : ℕ). part l x (2 * c)) n ∙ pair-second l (f (2 * y)) (f (2 * y + 1)) _ (2 * c) (each (2 * y)) fits pair ∙ ap f k
      by (suc (suc b)) s t = absurd (omega arith)

-- a ring of rows is a ring of pairs
pub rows-paired : {A : Type 0} (at c size : ℕ) (f : ℕ → List A) (l : List A) → 1 ≤ size → (a e : ℕ) → Rung at (2 * c) (2 * size) f (2 * a) (2 * e) l → Rung at (4 * c) size (λ y. f (2 * y) ++ f (2 * y + 1)) a e l
rows-paired at c size f l some a e h y p q =
    let n : 4 * c ≡ 2 * c + 2 * c = omega arith in
    let o = at + y % size * (4 * c) in
    let z : 2 * y ≡ 2 * y + 0 = omega arith in
    let i : (2 * y) % (2 * size) ≡ 2 * (y % size) + 0 = ap (λ (x : ℕ). x % (2 * size)) z ∙ mod-two size y 0 some (omega arith) in
    let j = mod-two size y 1 some (omega arith) in
    let u : o ≡ at + (2 * y) % (2 * size) * (2 * c) = rw i (omega arith) in
    let v : o + 2 * c ≡ at + (2 * y + 1) % (2 * size) * (2 * c) = rw j (omega arith) in
    ap (part l o) n
    ∙ take-add (2 * c) (2 * c) (drop o l)
    ∙ (λ k. (ap (λ (x : ℕ). part l x (2 * c)) u ∙ h (2 * y) (omega (arith, p)) (omega (arith, q))) k
    ++ (ap (λ (t : List _). part t 0 (2 * c)) (drop-drop (2 * c) o l) ∙ ap (λ (x : ℕ). part l x (2 * c)) v ∙ h (2 * y + 1) (omega (arith, p)) (omega (arith, q))) k)

-- pairs of rows laid into a ring
module _ {A : Type 0} (out c pairs : ℕ) (f : ℕ → List A) (rows : (y : ℕ) → length (f y) ≡ 2 * c) (some : 1 ≤ pairs) (work : List A) (room : out + pairs * (4 * c) ≤ length work) where
  each : (y : ℕ) → length (f (2 * y) ++ f (2 * y + 1)) ≡ 4 * c
  each y = length-append (f (2 * y)) (f (2 * y + 1)) ∙ omega (arith, rows (2 * y), rows (2 * y + 1))

  pub ring-on : (from count a low : ℕ) → a ≤ low → from + count ≤ low + pairs → Rung out (2 * c) (2 * pairs) f (2 * a) (2 * from) work
      → Rung out (2 * c) (2 * pairs) f (2 * low) (2 * (from + count)) (laid (λ k. out + (from + k) % pairs * (4 * c)) (λ k. f (2 * (from + k)) ++ f (2 * (from + k) + 1)) work count)
  ring-on from count a low i j h =
      pairs-rows out c pairs f rows some _ (rw long room) low (from + count)
      (rung-on out (4 * c) pairs (λ y. f (2 * y) ++ f (2 * y + 1)) each some work room a from count low (rows-paired out c pairs f work some a from h) i j)
    where
      long : length (laid (λ k. out + (from + k) % pairs * (4 * c)) (λ k. f (2 * (from + k)) ++ f (2 * (from + k) + 1)) work count) ≡ length work
      long =
          length-laid (λ (k : ℕ). out + (from + k) % pairs * (4 * c)) (λ (k : ℕ). f (2 * (from + k)) ++ f (2 * (from + k) + 1)) work (4 * c) count (λ k. each (from + k))
          (λ k _. let m = mul-le-mul_right (4 * c) (mod-lt (from + k) some) in omega (arith, m, room))
          count (omega arith)

  -- a ring of pairs goes on
  pub pairs-gone : (from count : ℕ) (after : List A) → after ≡ laid (λ k. out + (from + k) % pairs * (4 * c)) (λ k. f (2 * (from + k)) ++ f (2 * (from + k) + 1)) work count → Gone out (2 * c) (2 * pairs) f from (2 * (from + count)) work after
  pairs-gone from count after e = record {
    stand = λ a low i j h. rw e (ring-on from count a low i (omega (arith, j)) h);
    beside = λ s m o.
        let z : 2 * pairs * (2 * c) ≡ pairs * (4 * c) = omega arith in
        ap (λ (t : List A). part t s m) e ∙ rung-out out (4 * c) pairs (λ y. f (2 * y) ++ f (2 * y + 1)) each some work room from count s m (rw z at o);
  }

  -- and by one row more, the first of pair h
  pub row-gone : (from h : ℕ) (mid after : List A) → length mid ≡ length work → Gone out (2 * c) (2 * pairs) f from (2 * h) work mid → after ≡ put_at mid (out + h % pairs * (4 * c)) (f (2 * h)) → Gone out (2 * c) (2 * pairs) f from (2 * h + 1) work after
  unfolding laid
  row-gone from h mid after long g e = record {
    stand = λ a low i j r. rw one (rung-on out (2 * c) (2 * pairs) f rows (omega (arith, some)) mid (omega (arith, room, long)) (2 * low) (2 * h) 1 (2 * low) (g.stand a low i (omega (arith, j)) r) (omega arith) (omega (arith, j)));
    beside = λ s m o. rw one (rung-out out (2 * c) (2 * pairs) f rows (omega (arith, some)) mid (omega (arith, room, long)) (2 * h) 1 s m o ∙ g.beside s m o);
  }
    where
      z : 2 * h + 0 ≡ 2 * h
      z = omega arith

      place : out + h % pairs * (4 * c) ≡ out + (2 * h + 0) % (2 * pairs) * (2 * c)
      place = rw (mod-two pairs h 0 some (omega arith)) (omega arith)

      one : after ≡ laid (λ k. out + (2 * h + k) % (2 * pairs) * (2 * c)) (λ k. f (2 * h + k)) mid 1
      one = e ∙ (λ i. put_at mid (place i) (f (sym z i)))
