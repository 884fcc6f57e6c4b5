-- Steps of a level laid into the work slice: what stands below them stays, and so the row after the last pair is made of what was there. Assumes nothing.
use Rattle.std.proofs.Common.{◌≡◌, sym, ap, ◌∙◌, List, ℕ, ◌+◌, ◌-◌, ◌≤◌, arith, ℤ}
use Rattle.lifting.specs.Lift.{lift_row, end_row}
use Rattle.passes.specs.declared.Level as code
use Rattle.passes.specs.Level.{band_row, lo_h, hi_h, lo_l, hi_l, Stands}
use Rattle.lists.specs.Lists.{SameBelow}
use Rattle.passes.proofs.LeadLaws.{high_end, lead-low-same, lead-end-same, lead-end-same-hi}

-- the row after the last pair
pub last-same : (g : code.Level) (m out : ℕ) (after work : List ℤ) → SameBelow out after work → Stands g m out → 1 ≤ g.h → m ≡ g.h + 1
    → lift_row g.c (lo_h g m after g.h) (hi_h g m after g.h) ≡ lift_row g.c (lo_h g m work g.h) (hi_h g m work g.h)
last-same g m out after work same z some e =
    let p = high_end g m after g.h some (omega arith) in
    let q = high_end g m work g.h some (omega arith) in
    let f = lead-low-same g m after work out same z (g.h - 1) (omega (arith, some)) (omega (arith, some, e)) in
    let lo =
    p.0 ∙ ap (end_row g.c (band_row after g.c g.lh g.h)) f.0
    ∙ lead-end-same g m after work out same z g.h (lo_l g m work (g.h - 1)) (omega (arith, e)) ∙ sym q.0 in
    let hi =
    p.1 ∙ ap (end_row g.c (band_row after g.c g.hh g.h)) f.1
    ∙ lead-end-same-hi g m after work out same z g.h (hi_l g m work (g.h - 1)) (omega (arith, e)) ∙ sym q.1 in
    (λ i. lift_row g.c (lo i) (hi i))
