-- A pass between two pairs of rows: which rows it asks for, and what its ring holds.
use Rattle.std.specs.Prelude.{Bool, true, false, cond, List, ◌++◌, ℕ, ◌-◌, ◌*◌, ◌≤◌, ◌<◌, min, length, ℤ}
use Rattle.ring.specs.Ring.{along_row}
use Rattle.passes.specs.declared.Level.{Level}
use Rattle.passes.specs.declared.pass.Pass.{Pass}
use Rattle.passes.specs.declared.Turn.{Turn}
use Rattle.passes.specs.Level.{Stands, TwoSlots, HighsAt, Holds, lo_e, hi_e, lo_l, hi_l}

-- the row of h of the low bands whose result pair y goes by: its own, or where the high band leads that of the pair before
abbrev pub low_beside : Bool → ℕ → ℕ → ℕ
low_beside leads h y = cond leads (y - 1) (min y (h - 1))

-- that result stands in a ring l at a, if there is one
abbrev pub Begun : Bool → Level → ℕ → List ℤ → ℕ → List ℤ → ℕ → Type 0
Begun true g m w y l a = 1 ≤ y → Holds l a g.c (lo_l g m w (y - 1)) (hi_l g m w (y - 1))
Begun false g m w y l a = y < g.h → Holds l a g.c (lo_e g w y) (hi_e g w y)

-- all rows of a pass stand within n numbers
abbrev pub Lifted : Pass → ℕ → Type 0
Lifted p n = Stands p.g p.m n

-- a turn of a pass over w, with a ring l
pub record Ready (p : Pass) (w l : List ℤ) (t : Turn) : Type 0 where
  pub slots : TwoSlots p.g.c (length l) t.a t.b
  pub highs : t.y < p.m → HighsAt p.g t.y t.at
  pub begun : Begun p.leads p.g p.m w t.y l t.a

-- the rows of a turn's pair, along themselves out of the ring, its high result at 4 c
abbrev pub pair_out : Bool → ℕ → List ℤ → ℕ → ℕ → List ℤ
pair_out true c l a b = along_row c l (4 * c) ++ along_row c l b
pair_out false c l a b = along_row c l a ++ along_row c l (4 * c)
