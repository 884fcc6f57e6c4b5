-- Rows that go to their places one after the other, none from where one goes to. Assumes nothing.
use Rattle.std.proofs.Common.{◌≡◌, refl, sym, ap, ◌∙◌, List, ◌++◌, ℕ, ◌+◌, ◌-◌, ◌*◌, ◌≤◌, ◌<◌, arith, ℤ, length, take, drop, append_assoc, length-take-le, take_at, drop_at, drop-drop}
use lib.Seq.{paste}
use Rattle.lists.specs.Lists.{part, put_at, laid}
use Rattle.lists.proofs.Tab.{length_part}
use Rattle.lists.proofs.Part.{part-put-in}
use Rattle.lists.proofs.Laid.{length-laid, laid_out, laid-step}
use Rattle.returning.specs.Return.{Movable}

-- ---- a row of c numbers at a that was copied to a place, and what becomes of it there
module _ (l m : List ℤ) (a to c : ℕ) (stands : a + c ≤ length l) (room : to + c ≤ length l) where
  many : length (part l a c) ≡ c
  many = length_part l a c stands

  pub copied-is : m ≡ paste l to (drop a l) (a + c - a) → m ≡ put_at l to (part l a c)
  copied-is copied =
      let n : a + c - a ≡ c = omega arith in
      copied ∙ ap (paste l to (drop a l)) n ∙ rw (append_assoc, many, drop-drop c to l) (ap (λ (i : ℕ). take to l ++ (part l a c ++ drop i l)) (omega arith))

  module _ (put : m ≡ put_at l to (part l a c)) where
    there : to + c - to ≡ c
    there = omega arith

    pub copied-row : part m to (to + c - to) ≡ part l a c
    copied-row = rw (there, put) (ap (λ (i : ℕ). part (put_at l to (part l a c)) to i) (sym many) ∙ part-put-in l to (part l a c) (omega (arith, many)))

    pub copied-back : (ys : List ℤ) → length ys ≡ c → take to m ++ (ys ++ drop (to + c - to) (drop to m)) ≡ put_at l to ys
    copied-back ys e =
        let t : length (take to l) ≡ to = length-take-le to l (omega arith) in
        let r = drop (length (part l a c)) (drop to l) in
        rw (there, put, take_at (take to l) (part l a c ++ r) to t, drop_at (take to l) (part l a c ++ r) to t, drop_at (part l a c) r c many, many, e) refl

-- ---- rows of c numbers, the first at `from` and then one every t numbers, each of which becomes g of it at its place
module _ (p : ℕ → ℕ) (g : ℕ → List ℤ → List ℤ) (l : List ℤ) (c from t count : ℕ) (each : (k : ℕ) (r : List ℤ) → length (g k r) ≡ c) (move : Movable p c from t count (length l)) where
  abbrev went : ℕ → List ℤ
  went y = g y (part l (from + y * t) c)

  -- row y after those before it
  module _ (m k : List ℤ) (y to : ℕ) (e : m ≡ laid p went l y) (b : y < count) (at : to ≡ p y) (copied : k ≡ put_at m to (part m (from + y * t) c)) where
    long : length m ≡ length l
    long = ap length e ∙ length-laid p went l c count (λ k. each k _) move.target y (omega arith)

    still : part m (from + y * t) c ≡ part l (from + y * t) c
    still = rw e (laid_out p went l c count (λ k. each k _) move.target (from + y * t) c y (omega arith) (λ i q. move.apart y i b (omega (arith, q))))

    stands : from + y * t + c ≤ length m
    stands = omega (arith, move.stands y b, long)

    room : to + c ≤ length m
    room = omega (arith, move.target y b, long)

    pub row-there : part k to (to + c - to) ≡ part l (from + y * t) c
    row-there = copied-row m k (from + y * t) to c stands room copied ∙ still

    pub row-went : (ys : List ℤ) → ys ≡ went y → take to k ++ (ys ++ drop (to + c - to) (drop to k)) ≡ laid p went l (y + 1)
    row-went ys q = copied-back m k (from + y * t) to c stands room copied ys (ap length q ∙ each y _) ∙ laid-step p went l m ys y to e at q
