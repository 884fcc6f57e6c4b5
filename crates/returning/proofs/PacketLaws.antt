-- A packet in its block, and rows that stand apart from it. Assumes nothing.
use Rattle.std.proofs.Common.{◌≡◌, refl, sym, ap, ◌∙◌, List, ⊎_elim, inl, inr, ℕ, zero, suc, ◌+◌, ◌*◌, ◌≤◌, ◌<◌, mul_assoc, arith, ℤ, pos}
use Rattle.lists.specs.Lists.{Apart, tab}
use Rattle.lists.proofs.Tab.{get_or-tab}
use Rattle.lifting.specs.Lift.{at}
use Rattle.format.specs.Lifting.{Plane, Signal}
use Rattle.format.specs.Sizes.{Group, multiplier, components, columns}
use Rattle.format.specs.Synthesis.{flat}
use Rattle.format.specs.Recovery.{before}
use Rattle.format.specs.Numbers.{in_turn, packet_rows, packet_numbers}
use Rattle.passes.specs.declared.Plan.{Plan}
use Rattle.levels.specs.Block.{record_size, group_at}
use Rattle.levels.proofs.Blocks.{group-room}
use Rattle.returning.specs.Return.{Held, packet_size, Clean}

pub packet-flat : (w : ℕ) (g : Group) (k : ℕ) (v : ℕ → Plane) → packet_numbers w g k v ≡ flat (packet_rows g k) (columns w g) (in_turn g v)
unfolding packet_numbers
packet-flat w g k v = refl

-- a packet ends in its block
pub packet-room : (z : Plan) (place n : ℕ) → Held z place n → (g : Group) → group_at z place g + packet_size z g ≤ n
packet-room z place n held g =
    let size : packet_size z g ≡ z.slots * record_size z.w g =
    mul_assoc (z.n + 1) (components g * multiplier g) (columns z.w g) ∙ ap (λ (s : ℕ). s * record_size z.w g) (sym held.all) in
    omega (arith, size, group-room z place held.fits.0.whole g, held.room)

-- what is apart from a run is apart from a part of it, and so is a part of it
pub apart-within : (s k a m b j : ℕ) → a ≤ b → b + j ≤ a + m → Apart s k a m → Apart s k b j
apart-within s k a m b j p q = ⊎_elim (λ (t : s + k ≤ a). inl (omega arith)) (λ (t : a + m ≤ s). inr (omega arith))

pub clean-part : (z : Plan) (place : ℕ) (g : Group) (n s k b j : ℕ) → s ≤ b → b + j ≤ s + k → Clean z place g n s k → Clean z place g n b j
clean-part z place g n s k b j p q c = (
  omega (arith, c.0),
  ⊎_elim (λ (t : s + k ≤ group_at z place g). inl (omega arith)) (λ (t : group_at z place g + packet_size z g ≤ s). inr (omega arith)) c.1,
)

-- what stands in a row, and before it
module _ (c : ℕ) (l : List ℤ) (f : Signal) (e : l ≡ tab c f) where
  pub at-line : (x : ℕ) → x < c → at l x ≡ f x
  at-line x b = rw e (get_or-tab c f x (pos 0) b)

  pub before-line : (x : ℕ) → x < c → before (at l) x ≡ before f x
  before-line zero b = refl
  before-line (suc x) b = at-line x (omega (arith, b))
