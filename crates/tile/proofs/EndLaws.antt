-- Which of the 13 packets ends what: its number, by its group and its colour. Assumes nothing.
use Rattle.std.proofs.Common.{◌≡◌, refl, sym, ap, ◌∙◌, Bool, true, false, cond, ℕ, ◌+◌, ◌*◌, ◌/◌, ◌%◌, ◌<◌, ltb, arith, ltb-true, ltb-false}
use Rattle.format.specs.Sizes.{Colour, index, l3, detail, final, number, group_in, colour_in}
use Rattle.format.proofs.Numbered.{number_in, index_in}
use Rattle.fields.specs.declared.group.Group.{Group}
use Rattle.fields.specs.declared.group.Group.TheVariants.{Base, First, Second, Third, Final}
use Rattle.fields.specs.Kinds.{group_of}

third : (p k : ℕ) (b : Bool) → cond b (p % 4) 4 ≡ 3 → cond b (p / 4) 0 ≡ k → p ≡ 4 * k + 3
third p k true g i = omega (arith, g, i)
third p k false g i = absurd (omega (arith, g))

fourth : (p : ℕ) (b : Bool) → ltb p 12 ≡ b → p < 13 → cond b (p % 4) 4 ≡ 4 → p ≡ 12
fourth p true e h g = absurd (omega (arith, g))
fourth p false e h g = omega (arith, ltb-false p 12 e, h)

lower : (p k : ℕ) (b : Bool) → ltb p 12 ≡ b → k < 3 → cond b (p % 4) 4 ≡ k → (p < 12) × (p % 4 < 3)
lower p k true e h g = (ltb-true p 12 e, omega (arith, g, h))
lower p k false e h g = absurd (omega (arith, g, h))

module _ (p : ℕ) (h : p < 13) where
  -- the last packet of a colour, and that of group 4
  pub last_of : (i : Colour) → group_in p ≡ detail l3 → colour_in p ≡ i → p ≡ 4 * index i + 3
  last_of i g c = third p (index i) (ltb p 12) (sym (number_in p h) ∙ ap number g) (sym (index_in p h) ∙ ap index c)

  pub final_of : group_in p ≡ final → p ≡ 12
  final_of g = fourth p (ltb p 12) refl h (sym (number_in p h) ∙ ap number g)

  -- a packet of groups 0 to 2
  pub before_last : (g : Group) → group_of g ≡ group_in p → (g ≡ Third → ⊥) → (g ≡ Final → ⊥) → (p < 12) × (p % 4 < 3)
  before_last Base e a b = lower p 0 (ltb p 12) refl (omega arith) (sym (number_in p h) ∙ ap number (sym e))
  before_last First e a b = lower p 1 (ltb p 12) refl (omega arith) (sym (number_in p h) ∙ ap number (sym e))
  before_last Second e a b = lower p 2 (ltb p 12) refl (omega arith) (sym (number_in p h) ∙ ap number (sym e))
  before_last Third e a b = absurd (a refl)
  before_last Final e a b = absurd (b refl)
