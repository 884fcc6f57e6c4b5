-- The laws of the rows of synthesis undone. Assumes nothing.
use Rattle.std.proofs.Common.{◌≡◌, refl, sym, ap, ◌∙◌, cond, List, ◌++◌, append_assoc, inl, inr, ⊎_elim}
use Rattle.std.proofs.Common.{ℕ, ◌+◌, ◌-◌, ◌*◌, ◌^◌, ◌≤◌, ◌<◌, min, arith, eq-eqb, ne_eqb, eqb, ℤ, pos, negsuc, ◌+ℤ◌, length, take, drop, set, length-append, length-take-le, drop_at, drop-drop, w32, SFits}
use Rattle.std.specs.Int.Signed.{mag, shr_z}
use Rattle.wrap32.specs.Cut.{add_w, sub_w}
use Rattle.wrap32.specs.Arithmetic.{wrapping}
use Rattle.wrap32.proofs.Laws.{stored, add_w-fits, add_w-plain, shr-fits, mag-add}
use Rattle.lists.specs.Lists.{Apart, tab, put_at, part}
use Rattle.lists.proofs.Tab.{length-tab, get_or-tab, tab-same, get_d_part}
use Rattle.lists.proofs.Put.{put-start, put_step, get_or-put-below, get_or-put-above}
use Rattle.lists.proofs.Part.{part-put-below, part-put-out, part-put-in}
use Rattle.format.specs.Lifting.{Signal, Plane, low_leads, highs_of, lows_of, added, taken}
use Rattle.format.specs.Synthesis.{quarter, around, guess}
use Rattle.format.specs.Recovery.{d_of, l_of}
use Rattle.lifting.specs.Lift.{at}
use Rattle.undoing.specs.Undo.{half_back, quarter_back, lows_from, split_row, around_at, guess_at, average_back}

-- for `grind`, at a sum that fits
pub ruleset stored_sum = (stored, add_w-plain)

-- a run of none
pub put-none : (l : List ℤ) (a n : ℕ) (f : ℕ → ℤ) → n ≡ 0 → l ≡ put_at l a (tab n f)
put-none l a n f e = rw e (put-start l a f)

-- a place of n apart from the run that is written
pub read-apart : (l m : List ℤ) (a c i s n j k : ℕ) (f : ℕ → ℤ) → m ≡ put_at l a (tab i f) → a + c ≤ length l → i ≤ c → Apart s n a c → j ≡ s + k → k < n → at m j ≡ at (part l s n) k
read-apart l m a c i s n j k f e h b p z q =
    let r : a + length (tab i f) ≤ length l = rw length-tab (omega arith) in
    ap (at m) z
    ∙ ⊎_elim
    (λ (t : s + n ≤ a). rw e (get_or-put-below l a (tab i f) (pos 0) r (s + k) (omega arith)))
    (λ (t : a + c ≤ s). rw e (get_or-put-above l a (tab i f) (pos 0) r (s + k) (rw length-tab (omega arith))))
    p
    ∙ sym (get_d_part l s n k (pos 0) q)

-- the highs and lows of a row of 2 c
pub high_is : (c : ℕ) (s : Signal) (x : ℕ) → highs_of low_leads c s x ≡ half_back (s (2 * x + 1)) (s (2 * x)) (s (2 * min (x + 1) (c - 1)))
unfolding highs_of added half_back
high_is c s x = refl

pub low-is : (c : ℕ) (s : Signal) (x : ℕ) → lows_of low_leads c c s x ≡ quarter_back (s (2 * x)) (highs_of low_leads c s (x - 1)) (highs_of low_leads c s x)
unfolding lows_of taken quarter_back
low-is c s x = refl

-- ---- a run put in before another is one longer run
module _ {A : Type 0} where
  pub put-before : (l xs ys : List A) (a n : ℕ) → length xs ≡ n → a + n + length ys ≤ length l → put_at (put_at l (a + n) ys) a xs ≡ put_at l a (xs ++ ys)
  put-before l xs ys a n e h =
      let R = ys ++ drop (length ys) (drop (a + n) l) in
      let t : length (take (a + n) l) ≡ a + n = length-take-le (a + n) l (omega arith) in
      let front : take a (put_at l (a + n) ys) ≡ take a l = part-put-below l (a + n) ys (omega arith) 0 a (omega arith) in
      let back : drop (length xs) (drop a (put_at l (a + n) ys)) ≡ R =
      ap (λ (k : ℕ). drop k (drop a (put_at l (a + n) ys))) e ∙ drop-drop n a (put_at l (a + n) ys) ∙ drop_at (take (a + n) l) R (a + n) t in
      let m : a + length (xs ++ ys) ≡ a + n + length ys = omega (arith, length-append xs ys) in
      let rest : drop (length (xs ++ ys)) (drop a l) ≡ drop (length ys) (drop (a + n) l) =
      drop-drop (length (xs ++ ys)) a l ∙ ap (λ (k : ℕ). drop k l) m ∙ sym (drop-drop (length ys) (a + n) l) in
      (λ i. front i ++ (xs ++ back i))
      ∙ ap (λ (z : List A). take a l ++ z) (sym (append_assoc xs ys (drop (length ys) (drop (a + n) l))))
      ∙ ap (λ (z : List A). take a l ++ ((xs ++ ys) ++ z)) (sym rest)

-- ---- one more high of the row of 2 c at `from`, to its place behind `to`
module _ (l m : List ℤ) (from to c x : ℕ) (room : to + c ≤ length l) (apart : Apart from (2 * c) to c) (b : x < c)
    (e : m ≡ put_at l to (tab x (highs_of low_leads c (at (part l from (2 * c)))))) where
  row_read : (j k : ℕ) → j ≡ from + k → k < 2 * c → at m j ≡ at (part l from (2 * c)) k
  row_read j k = read-apart l m to c x from (2 * c) j k (highs_of low_leads c (at (part l from (2 * c)))) e room (omega arith) apart

  pub high-step : (n : ℕ) → n ≡ min (x + 1) (c - 1)
      → set m (to + x) (half_back (at m (from + 2 * x + 1)) (at m (from + 2 * x)) (at m (from + 2 * n))) ≡ put_at l to (tab (x + 1) (highs_of low_leads c (at (part l from (2 * c)))))
  high-step n q =
      let P = part l from (2 * c) in
      let k1 = row_read (from + 2 * x + 1) (2 * x + 1) (omega arith) (omega arith) in
      let k2 = row_read (from + 2 * x) (2 * x) refl (omega arith) in
      let k3 = row_read (from + 2 * n) (2 * min (x + 1) (c - 1)) (ap (λ (j : ℕ). from + 2 * j) q) (omega arith) in
      put_step l m to x (highs_of low_leads c (at P)) _ e (omega arith) ((λ i. half_back (k1 i) (k2 i) (k3 i)) ∙ sym (high_is c (at P) x))

-- ---- one more of its lows, from the highs at `high`
module _ (l : List ℤ) (from high c : ℕ) where
  -- low k
  abbrev pub low_of : ℕ → ℤ
  low_of k = quarter_back (at (part l from (2 * c)) (2 * k)) (at (part l high c) (k - 1)) (at (part l high c) k)

  module _ (m : List ℤ) (to x : ℕ) (room : to + c ≤ length l) (apart : Apart from (2 * c) to c) (apart-high : Apart high c to c) (b : x < c) (e : m ≡ put_at l to (tab x low_of)) where
    low_read : (s n j k : ℕ) → Apart s n to c → j ≡ s + k → k < n → at m j ≡ at (part l s n) k
    low_read s n j k = read-apart l m to c x s n j k low_of e room (omega arith)

    pub low-step : (p : ℕ) → p ≡ x - 1 → set m (to + x) (quarter_back (at m (from + 2 * x)) (at m (high + p)) (at m (high + x))) ≡ put_at l to (tab (x + 1) low_of)
    low-step p q =
        let k1 = low_read from (2 * c) (from + 2 * x) (2 * x) apart refl (omega arith) in
        let k2 = low_read high c (high + p) (x - 1) apart-high (ap (λ (j : ℕ). high + j) q) (omega arith) in
        let k3 = low_read high c (high + x) x apart-high refl b in
        put_step l m to x low_of _ e (omega arith) (λ i. quarter_back (k1 i) (k2 i) (k3 i))

pub apart-back : (s n a c : ℕ) → Apart s n a (2 * c) → Apart s n (a + c) c
apart-back s n a c p = ⊎_elim (λ (q : s + n ≤ a). inl (omega arith)) (λ (q : a + 2 * c ≤ s). inr (omega arith)) p

-- ---- a row of 2 c: its highs, then its lows before them
module _ (l m k : List ℤ) (from to c : ℕ) (fits : to + 2 * c ≤ length l) (apart : Apart from (2 * c) to (2 * c)) where
  abbrev highs : List ℤ
  highs = tab c (highs_of low_leads c (at (part l from (2 * c))))

  long : length highs ≡ c
  long = length-tab c _

  lows-are : (x : ℕ) → x < c → quarter_back (at (part l from (2 * c)) (2 * x)) (at highs (x - 1)) (at highs x) ≡ lows_of low_leads c c (at (part l from (2 * c))) x
  lows-are x h =
      let f = highs_of low_leads c (at (part l from (2 * c))) in
      let a = get_or-tab c f (x - 1) (pos 0) (omega arith) in
      let b = get_or-tab c f x (pos 0) (omega arith) in
      (λ i. quarter_back (at (part l from (2 * c)) (2 * x)) (a i) (b i)) ∙ sym (low-is c (at (part l from (2 * c))) x)

  pub split-both : m ≡ put_at l (to + c) highs → k ≡ put_at m to (lows_from c (part m from (2 * c)) (part m (to + c) c))
      → k ≡ put_at l to (split_row c (part l from (2 * c)))
  split-both e d =
      let room : to + c + length highs ≤ length l = omega (arith, long) in
      let p : part m from (2 * c) ≡ part l from (2 * c) = rw e (part-put-out l (to + c) highs room from (2 * c) c long (apart-back from (2 * c) to c apart)) in
      let q : part m (to + c) c ≡ highs = rw e (ap (λ (n : ℕ). part (put_at l (to + c) highs) (to + c) n) (sym long) ∙ part-put-in l (to + c) highs room) in
      let lows : lows_from c (part m from (2 * c)) (part m (to + c) c) ≡ tab c (lows_of low_leads c c (at (part l from (2 * c)))) =
      (λ i. lows_from c (p i) (q i)) ∙ tab-same c _ _ lows-are in
      d ∙ (λ i. put_at (e i) to (lows i)) ∙ put-before l (tab c (lows_of low_leads c c (at (part l from (2 * c))))) highs to c (length-tab c _) room

-- ---- green
pub quarter-fits : (a b c d : ℤ) → SFits w32 (quarter wrapping a b c d)
quarter-fits a b c d = shr-fits 4 (add_w-fits _ _)

module _ (row next : List ℤ) (x : ℕ) where
  pub around-first : x ≡ 0 → around_at row next x ≡ shr_z (add_w (at row 1) (at next 1)) 2
  unfolding around_at
  around-first e = rw (eq-eqb x 0 e)

  pub around-inner : 0 < x → around_at row next x ≡ quarter wrapping (at row (2 * x - 1)) (at next (2 * x - 1)) (at row (2 * x + 1)) (at next (2 * x + 1))
  unfolding around_at
  around-inner h =
      let e : 2 * (x - 1) + 1 ≡ 2 * x - 1 = omega arith in
      rw (ne_eqb x 0 (λ q. omega arith), e)

-- the details of a plane's row y, of h, from the lists of rows y and y + 1
pub detail-is : (h c : ℕ) (p : Plane) (y : ℕ) (row next : List ℤ) → ((k : ℕ) → k < 2 * c → at row k ≡ p y k) → ((k : ℕ) → k < 2 * c → at next k ≡ p (min (y + 1) (h - 1)) k)
    → (x : ℕ) → x < c → sub_w (at row (2 * x)) (around_at row next x) ≡ d_of h p y x
unfolding d_of around around_at
detail-is h c p y row next a b x l =
    let r1 = a (2 * x) (omega arith) in
    let r2 = a 1 (omega arith) in
    let r3 = b 1 (omega arith) in
    let r4 = a (2 * (x - 1) + 1) (omega arith) in
    let r5 = b (2 * (x - 1) + 1) (omega arith) in
    let r6 = a (2 * x + 1) (omega arith) in
    let r7 = b (2 * x + 1) (omega arith) in
    λ i. sub_w (r1 i) (cond (eqb x 0) (shr_z (add_w (r2 i) (r3 i)) 2) (quarter wrapping (r4 i) (r5 i) (r6 i) (r7 i)))

shr-less : (z : ℤ) → SFits w32 z → mag (shr_z z 4) < 2 ^ 30
shr-less (pos n) f = omega arith
shr-less (negsuc n) f = omega arith

shr-more : (z : ℤ) → SFits w32 z → SFits w32 (shr_z z 4 +ℤ pos 1)
shr-more z f = omega (arith, mag-add (shr_z z 4) (pos 1) (2 ^ 30) 2 (shr-less z f) (omega arith))

pub quarter-more : (a b c d : ℤ) → SFits w32 (quarter wrapping a b c d +ℤ pos 1)
quarter-more a b c d = shr-more (add_w (add_w (add_w a b) c) d) (add_w-fits _ _)

pub guess-is : (c : ℕ) (prev cur : List ℤ) (x : ℕ) → guess_at c prev cur x ≡ quarter wrapping (at prev x) (at cur x) (at prev (min (x + 1) (c - 1))) (at cur (min (x + 1) (c - 1)))
unfolding guess_at
guess-is c prev cur x = refl

-- one more average of a row, to its place behind `to`
module _ (l row : List ℤ) (prev cur c : ℕ) where
  -- average k
  abbrev pub average_of : ℕ → ℤ
  average_of k = average_back (at row (2 * k + 1)) (guess_at c (part l prev c) (part l cur c) k)

  module _ (m : List ℤ) (to x : ℕ) (room : to + c ≤ length l) (p : Apart prev c to c) (q : Apart cur c to c) (b : x < c) (e : m ≡ put_at l to (tab x average_of)) where
    detail-read : (s j k : ℕ) → Apart s c to c → j ≡ s + k → k < c → at m j ≡ at (part l s c) k
    detail-read s j k = read-apart l m to c x s c j k average_of e room (omega arith)

    pub average-step : (n : ℕ) → n ≡ min (x + 1) (c - 1)
        → set m (to + x) (average_back (at row (2 * x + 1)) (quarter wrapping (at m (prev + x)) (at m (cur + x)) (at m (prev + n)) (at m (cur + n)))) ≡ put_at l to (tab (x + 1) average_of)
    average-step n z =
        let j = min (x + 1) (c - 1) in
        let k1 = detail-read prev (prev + x) x p refl b in
        let k2 = detail-read cur (cur + x) x q refl b in
        let k3 = detail-read prev (prev + n) j p (ap (λ (j : ℕ). prev + j) z) (omega arith) in
        let k4 = detail-read cur (cur + n) j q (ap (λ (j : ℕ). cur + j) z) (omega arith) in
        put_step l m to x average_of _ e (omega arith)
        (ap (average_back (at row (2 * x + 1))) ((λ i. quarter wrapping (k1 i) (k2 i) (k3 i) (k4 i)) ∙ sym (guess-is c (part l prev c) (part l cur c) x)))

-- the averages of a plane's row y, from the details of rows y - 1 and y
pub average-is : (h c : ℕ) (p : Plane) (y : ℕ) (row prev cur : List ℤ) → ((k : ℕ) → k < 2 * c → at row k ≡ p y k) → ((k : ℕ) → k < c → at prev k ≡ d_of h p (y - 1) k) → ((k : ℕ) → k < c → at cur k ≡ d_of h p y k)
    → (x : ℕ) → x < c → average_back (at row (2 * x + 1)) (guess_at c prev cur x) ≡ l_of h c p y x
unfolding l_of guess guess_at average_back
average-is h c p y row prev cur a b d x l =
    let e = min (x + 1) (c - 1) in
    let r1 = a (2 * x + 1) (omega arith) in
    let r2 = b x l in
    let r3 = d x l in
    let r4 = b e (omega arith) in
    let r5 = d e (omega arith) in
    λ i. add_w (r1 i) (shr_z (quarter wrapping (r2 i) (r3 i) (r4 i) (r5 i) +ℤ pos 1) 2)

pub length-split : (c : ℕ) (row : List ℤ) → length (split_row c row) ≡ 2 * c
length-split c row = length-append (tab c _) (tab c _) ∙ omega (arith, length-tab c (lows_of low_leads c c (at row)), length-tab c (highs_of low_leads c (at row)))
