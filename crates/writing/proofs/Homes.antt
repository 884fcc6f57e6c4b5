-- Each place of the table is one row's only: the band and the row that component c, row r, belong to. Assumes nothing.
use Rattle.std.proofs.Common.{◌≡◌, refl, ap, Bool, true, false, cond, ℕ, zero, suc, ◌+◌, ◌-◌, ◌*◌, ◌≤◌, ◌<◌, arith, eqb, ltb, lt-ltb, le-ltb, ltb-true, ltb-false, eqb-true, eq-eqb, ne_eqb}
use Rattle.std.proofs.lemmas.Bool.{eqb-false}
use Rattle.wrap32.proofs.Laws.{of-cond}
use Rattle.format.specs.Sizes.{Level, l1, l2, l3, Tall}
use Rattle.format.specs.Table.{height, highs, Source, Band, hl, lh, hh, plain1, first, middle, last, plain, guarded1, guarded2, guarded3, source, band_rows, chosen, from_component, from_row}

pub record Home : Type 0 where
  pub band : Band
  pub row : ℕ

abbrev pub at : Band → ℕ → Home
at b y = record { band = b; row = y }

-- by component
abbrev by : Home → Home → Home → ℕ → Home
by a b c zero = a
by a b c (suc zero) = b
by a b c (suc (suc k)) = c

-- the home of component c, row r
abbrev home_p1 : ℕ → ℕ → ℕ → Home
home_p1 h c r = by (cond (ltb r h) (at hl r) (at lh (r - 1))) (cond (ltb r h) (at lh (r - 1)) (at hh (r - 1))) (at hh (r - 1)) c

abbrev home_p : ℕ → ℕ → ℕ → ℕ → Home
home_p e h c r =
    by (cond (ltb r e) (at hl r) (cond (ltb r (2 * e)) (at lh (r - e)) (cond (ltb r (h + e)) (at hl (r - e)) (at lh (r - 2 * e)))))
    (cond (ltb r e) (at hh r) (cond (ltb r h) (at lh (r - e)) (at hh (r - e)))) (at hh (r - e)) c

abbrev home_g1 : ℕ → ℕ → ℕ → Home
home_g1 h c r = by (cond (ltb r (h + 1)) (at hl (r - 1)) (at lh (r - 1))) (cond (ltb r (h + 1)) (at lh (r - 1)) (at hh (r - 1))) (at hh (r - 1)) c

abbrev home_g2 : ℕ → ℕ → Home
home_g2 c r = by (cond (eqb r 0) (at lh 0) (cond (eqb r 1) (at hh 0) (at hl (r - 2)))) (at lh (r - 1)) (at hh (r - 1)) c

abbrev home_g3 : ℕ → ℕ → ℕ → Home
home_g3 h c r =
    by (cond (eqb r 0) (at hl 0) (cond (eqb r 1) (at lh 0) (cond (eqb r 2) (at hh 0) (cond (ltb r (h + 3)) (at hl (r - 3)) (cond (eqb r (h + 3)) (at lh (h - 1)) (at hh (h - 1)))))))
    (at lh (r - 3)) (at hh (r - 3)) c

unfoldable pub home : Bool → Level → ℕ → ℕ → ℕ → Home
home false l1 h c r = home_p1 h c r
home false l2 h c r = home_p 1 h c r
home false l3 h c r = home_p 2 h c r
home true l1 h c r = home_g1 h c r
home true l2 h c r = home_g2 c r
home true l3 h c r = home_g3 h c r

abbrev row_is : (b : Band) {k y : ℕ} → k ≡ y → at b k ≡ at b y
row_is b e = ap (at b) e

-- ---- plain
module _ (h y : ℕ) (p : y < h) where
  abbrev P1 : Band → Source → Type 0
  P1 b s = home_p1 h (from_component s) (from_row s) ≡ at b y

  home-plain1 : (b : Band) → P1 b (plain1 h b y)
  home-plain1 hl = simp (lt-ltb y h p)
  home-plain1 lh =
      of-cond (P1 lh) (eqb (y + 1) h) _ _
      (λ t. simp (le-ltb h h (omega arith)) (row_is lh (omega (arith, eqb-true (y + 1) h t))))
      (λ t. let q : y + 1 < h = omega (arith, eqb-false (y + 1) h t) in simp (lt-ltb (y + 1) h q) (row_is lh (omega arith)))
  home-plain1 hh =
      of-cond (P1 hh) (eqb (y + 1) h) _ _
      (λ t. simp (le-ltb h h (omega arith)) (row_is hh (omega (arith, eqb-true (y + 1) h t))))
      (λ t. row_is hh (omega arith))

module _ (e h y : ℕ) (s : 0 < e) (k : 2 * e ≤ h) (p : y < h) where
  abbrev P : Band → Source → Type 0
  P b s = home_p e h (from_component s) (from_row s) ≡ at b y

  home-first : (b : Band) → y < e → P b (first e b y)
  home-first hl t = simp (lt-ltb y e t)
  home-first lh t = simp (le-ltb (y + e) e (omega arith), lt-ltb (y + e) (2 * e) (omega arith)) (row_is lh (omega arith))
  home-first hh t = simp (lt-ltb y e t)

  home-middle : (b : Band) → e ≤ y → y < h - e → P b (middle e b y)
  home-middle hl u t = simp (le-ltb (y + e) e (omega arith), le-ltb (y + e) (2 * e) (omega arith), lt-ltb (y + e) (h + e) (omega arith)) (row_is hl (omega arith))
  home-middle lh u t = simp (le-ltb (y + e) e (omega arith), lt-ltb (y + e) h (omega arith)) (row_is lh (omega arith))
  home-middle hh u t = row_is hh (omega arith)

  home-last : (b : Band) → h - e ≤ y → P b (last e h b (y - (h - e)))
  home-last hl t =
      let r = h + (y - (h - e)) in
      simp (le-ltb r e (omega arith), le-ltb r (2 * e) (omega arith), lt-ltb r (h + e) (omega arith)) (row_is hl (omega arith))
  home-last lh t =
      let r = h + e + (y - (h - e)) in
      simp (le-ltb r e (omega arith), le-ltb r (2 * e) (omega arith), le-ltb r (h + e) (omega arith)) (row_is lh (omega arith))
  home-last hh t =
      let r = h + (y - (h - e)) in
      simp (le-ltb r e (omega arith), le-ltb r h (omega arith)) (row_is hh (omega arith))

  home-plain : (b : Band) → P b (plain e h b y)
  home-plain b =
      of-cond (P b) (ltb y e) (first e b y) _ (λ t. home-first b (ltb-true y e t)) λ t.
      of-cond (P b) (ltb y (h - e)) (middle e b y) (last e h b (y - (h - e))) (λ u. home-middle b (ltb-false y e t) (ltb-true y (h - e) u)) (λ u. home-last b (ltb-false y (h - e) u))

-- ---- guarded
module _ (h y : ℕ) where
  abbrev G1 : Band → Source → Type 0
  G1 b s = home_g1 h (from_component s) (from_row s) ≡ at b y

  home-guarded1 : (b : Band) → y < band_rows h (h + 1) b → G1 b (guarded1 h b y)
  home-guarded1 hl p = simp (lt-ltb (y + 1) (h + 1) (omega arith)) (row_is hl (omega arith))
  home-guarded1 lh p =
      of-cond (G1 lh) (eqb y h) _ _
      (λ t. simp (le-ltb (h + 1) (h + 1) (omega arith)) (row_is lh (omega (arith, eqb-true y h t))))
      (λ t. let q : y < h = omega (arith, eqb-false y h t) in simp (lt-ltb (y + 1) (h + 1) (omega arith)) (row_is lh (omega arith)))
  home-guarded1 hh p =
      of-cond (G1 hh) (eqb y h) _ _
      (λ t. simp (le-ltb (h + 1) (h + 1) (omega arith)) (row_is hh (omega (arith, eqb-true y h t))))
      (λ t. row_is hh (omega arith))

  abbrev G2 : Band → Source → Type 0
  G2 b s = home_g2 (from_component s) (from_row s) ≡ at b y

  home-guarded2 : (b : Band) → G2 b (guarded2 b y)
  home-guarded2 hl = simp (ne_eqb (y + 2) 0 (λ q. omega arith), ne_eqb (y + 2) 1 (λ q. omega arith)) (row_is hl (omega arith))
  home-guarded2 lh = of-cond (G2 lh) (eqb y 0) _ _ (λ t. row_is lh (omega (arith, eqb-true y 0 t))) (λ t. row_is lh (omega arith))
  home-guarded2 hh = of-cond (G2 hh) (eqb y 0) _ _ (λ t. row_is hh (omega (arith, eqb-true y 0 t))) (λ t. row_is hh (omega arith))

  abbrev G3 : Band → Source → Type 0
  G3 b s = home_g3 h (from_component s) (from_row s) ≡ at b y

  home-guarded3 : (b : Band) → y < h → G3 b (guarded3 h b y)
  home-guarded3 hl p =
      of-cond (G3 hl) (eqb y 0) _ _
      (λ t. row_is hl (omega (arith, eqb-true y 0 t)))
      (λ t.
      simp (ne_eqb (y + 3) 0 (λ q. omega arith), ne_eqb (y + 3) 1 (λ q. omega arith), ne_eqb (y + 3) 2 (λ q. omega (arith, eqb-false y 0 t)), lt-ltb (y + 3) (h + 3) (omega arith))
      (row_is hl (omega arith)))
  home-guarded3 lh p =
      of-cond (G3 lh) (eqb y 0) _ _ (λ t. row_is lh (omega (arith, eqb-true y 0 t))) λ t.
      of-cond (G3 lh) (eqb (y + 1) h) _ _
      (λ u.
      simp (ne_eqb (h + 3) 0 (λ q. omega arith), ne_eqb (h + 3) 1 (λ q. omega arith), ne_eqb (h + 3) 2 (λ q. omega arith), le-ltb (h + 3) (h + 3) (omega arith), eq-eqb (h + 3) (h + 3) refl)
      (row_is lh (omega (arith, eqb-true (y + 1) h u))))
      (λ u. row_is lh (omega arith))
  home-guarded3 hh p =
      of-cond (G3 hh) (eqb y 0) _ _ (λ t. row_is hh (omega (arith, eqb-true y 0 t))) λ t.
      of-cond (G3 hh) (eqb (y + 1) h) _ _
      (λ u.
      simp (ne_eqb (h + 4) 0 (λ q. omega arith), ne_eqb (h + 4) 1 (λ q. omega arith), ne_eqb (h + 4) 2 (λ q. omega arith), le-ltb (h + 4) (h + 3) (omega arith), ne_eqb (h + 4) (h + 3) (λ q. omega arith))
      (row_is hh (omega (arith, eqb-true (y + 1) h u))))
      (λ u. row_is hh (omega arith))

-- ---- the table
even : (h y : ℕ) (b : Band) → y < band_rows h h b → y < h
even h y hl p = p
even h y lh p = p
even h y hh p = p

pub home-source : (g : Bool) (n : ℕ) → Tall g n → (l : Level) (b : Band) (y : ℕ) → y < band_rows (height g n l) (highs g l (height g n l)) b
    → home g l (height g n l) (from_component (source g l (height g n l) b y)) (from_row (source g l (height g n l) b y)) ≡ at b y
unfolding home source
home-source false n t l1 b y p = home-plain1 n y (even n y b p) b
home-source false n t l2 b y p = home-plain 1 (2 * n) y (omega arith) (omega arith) (even (2 * n) y b p) b
home-source false n t l3 b y p = home-plain 2 (4 * n) y (omega arith) (omega arith) (even (4 * n) y b p) b
home-source true n t l1 b y p = home-guarded1 (n - 1) y b p
home-source true n t l2 b y p = home-guarded2 0 y b
home-source true n t l3 b y p = home-guarded3 (4 * n - 2) y b (even (4 * n - 2) y b p)

-- ---- the details of the final green: the row that uses row r
unfoldable pub user : Bool → ℕ → ℕ
user false r = cond (ltb r 4) r (r - 4)
user true r = cond (ltb r 2) r (r - 6)

pub user-chosen : (g : Bool) (y : ℕ) → user g (chosen g y) ≡ y
unfolding user chosen
user-chosen false y =
    of-cond (λ (r : ℕ). cond (ltb r 4) r (r - 4) ≡ y) (ltb y 4) _ _
    (λ t. simp t) (λ t. simp (le-ltb (y + 4) 4 (omega arith)) (omega arith))
user-chosen true y =
    of-cond (λ (r : ℕ). cond (ltb r 2) r (r - 6) ≡ y) (ltb y 2) _ _
    (λ t. simp t) (λ t. simp (le-ltb (y + 6) 2 (omega arith)) (omega arith))
