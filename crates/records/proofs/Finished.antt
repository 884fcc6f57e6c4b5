-- What a finished record is: how long, row by row, and where nothing is done to it. Assumes nothing.
use Rattle.std.proofs.Common.{◌≡◌, refl, sym, ap, ◌∙◌, Bool, true, false, cond, List, ℕ, suc, ◌+◌, ◌-◌, ◌*◌, ◌≤◌, ◌<◌, mul-le-mul_right, zero-mul, arith, ltb-true, ltb-false, ltb, ℤ, pos, length, get_or}
use Rattle.wrap32.specs.Arithmetic.{wrapping}
use Rattle.wrap32.proofs.Laws.{of-cond}
use Rattle.wrap32.specs.Edge.{edge_detail}
use Rattle.lists.specs.Lists.{part}
use Rattle.lists.proofs.Tab.{length-tab, length-put, tab-same, tab-part, get_d_part}
use Rattle.lists.proofs.Put.{put-start}
use Rattle.lists.proofs.Part.{part-put-within, part-put-below, part-put-above}
use Rattle.format.specs.Table.{ends}
use Rattle.lifting.specs.Lift.{edge_at, edge_row, sum_at, sum_row}
use Rattle.records.specs.Finished.{edges_end, edged, edged_rows, finished_by}
use Rattle.records.specs.declared.EdgeRows.{EdgeRows}
use Rattle.records.specs.declared.Finish.{Finish}
use Rattle.records.specs.declared.Finish.TheVariants.{Sums, Edges, Nothing}

pub finished-none : (cols i : ℕ) (l : List ℤ) → finished_by Nothing cols i l ≡ l
unfolding finished_by
finished-none cols i l = refl

-- where no row gets E, nothing is done
pub finished-no_rows : (e : EdgeRows) (cols i : ℕ) (l : List ℤ) → e.count ≡ 0 → finished_by (Edges e) cols i l ≡ l
unfolding finished_by
finished-no_rows e cols i l none =
    let a = e.first * cols in
    let n : e.count * cols ≡ 0 = ap (λ (x : ℕ). x * cols) none ∙ zero-mul cols in
    rw n
    (of-cond (λ (t : List ℤ). t ≡ l) (ends i e.last) _ _ (λ _. sym (put-start l a (edge_at e.odd (part l a 0)))) (λ _. refl))

pub finished-sums : (cols i : ℕ) (l : List ℤ) → finished_by Sums cols i l ≡ sum_row (length l) l
unfolding finished_by
finished-sums cols i l = refl

-- E's mode, where a row gets it
abbrev pub mode_of : Finish → Bool
mode_of Sums = false
mode_of (Edges e) = e.odd
mode_of Nothing = false

module _ (f : EdgeRows) (cols i : ℕ) (l : List ℤ) (room : (f.first + f.count) * cols ≤ length l) where
  abbrev a : ℕ
  a = f.first * cols

  abbrev n : ℕ
  n = f.count * cols

  abbrev run : List ℤ
  run = edge_row n f.odd (part l a n)

  fits : a + length run ≤ length l
  fits = omega (arith, room, length-tab n (edge_at f.odd (part l a n)))

  length-edged : length (finished_by (Edges f) cols i l) ≡ length l
  unfolding finished_by
  length-edged = of-cond (λ (t : List ℤ). length t ≡ length l) (ends i f.last) _ _ (λ _. length-put l a run fits) (λ _. refl)

  module _ (j : ℕ) where
    -- row j as it was, and with E
    abbrev old : List ℤ
    old = part l (j * cols) cols

    abbrev new : List ℤ
    new = edge_row cols f.odd old

    within : f.first ≤ j → j < f.first + f.count → part (edged_rows f cols l) (j * cols) cols ≡ new
    within p q =
        let s = (j - f.first) * cols in
        let k : suc (j - f.first) ≤ f.count = omega (arith, p, q) in
        let b : s + cols ≤ n = omega (arith, mul-le-mul_right cols k) in
        let o : f.first + (j - f.first) ≡ j = omega (arith, p) in
        let e : j * cols ≡ a + s = ap (λ (x : ℕ). x * cols) (sym o) ∙ omega arith in
        ap (λ (x : ℕ). part (edged_rows f cols l) x cols) e
        ∙ part-put-within l a run fits s cols (omega (arith, b, length-tab n (edge_at f.odd (part l a n))))
        ∙ tab-part n s cols (edge_at f.odd (part l a n)) b
        ∙ tab-same cols _ (edge_at f.odd old) (λ x c. ap (edge_detail wrapping f.odd) (same s b e x c))
      where
        same : (s : ℕ) → s + cols ≤ n → j * cols ≡ a + s → (x : ℕ) → x < cols → get_or (part l a n) (s + x) (pos 0) ≡ get_or old x (pos 0)
        same s b e x c =
            let k : a + (s + x) ≡ j * cols + x = omega (arith, e) in
            get_d_part l a n (s + x) (pos 0) (omega (arith, b, c))
            ∙ ap (λ (y : ℕ). get_or l y (pos 0)) k
            ∙ sym (get_d_part l (j * cols) cols x (pos 0) c)

    edged-row : part (finished_by (Edges f) cols i l) (j * cols) cols ≡ cond (edged (Edges f) i j) new old
    unfolding finished_by edged
    edged-row = by (ends i f.last) (ltb j f.first) (ltb j (f.first + f.count)) refl refl
      where
        by : (t u v : Bool) → ltb j f.first ≡ u → ltb j (f.first + f.count) ≡ v
            → part (cond t (edged_rows f cols l) l) (j * cols) cols ≡ cond (cond t (cond u false v) false) new old
        by false u v p q = refl
        by true true v p q =
            let m = mul-le-mul_right cols (ltb-true j f.first p) in
            part-put-below l a run fits (j * cols) cols (omega (arith, m))
        by true false true p q = within (ltb-false j f.first p) (ltb-true j (f.first + f.count) q)
        by true false false p q =
            let m = mul-le-mul_right cols (ltb-false j (f.first + f.count) q) in
            let e = length-tab n (edge_at f.odd (part l a n)) in
            part-put-above l a run fits (j * cols) cols (omega (arith, m, e))

pub length-finished : (f : Finish) (cols i : ℕ) (l : List ℤ) → edges_end f * cols ≤ length l → length (finished_by f cols i l) ≡ length l
unfolding finished_by
length-finished Sums cols i l room = length-tab (length l) (sum_at l)
length-finished (Edges e) cols i l room = length-edged e cols i l room
length-finished Nothing cols i l room = refl

pub finished-row : (f : Finish) (cols i : ℕ) (l : List ℤ) → edges_end f * cols ≤ length l → (j : ℕ) → (f ≡ Sums → ⊥)
    → part (finished_by f cols i l) (j * cols) cols ≡ cond (edged f i j) (edge_row cols (mode_of f) (part l (j * cols) cols)) (part l (j * cols) cols)
unfolding finished_by edged
finished-row Sums cols i l room j some = absurd (some refl)
finished-row (Edges e) cols i l room j some = edged-row e cols i l room j
finished-row Nothing cols i l room j some = refl
