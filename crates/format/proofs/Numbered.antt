-- Groups and indices by their numbers, and the 13 packets. Assumes nothing.
use Rattle.std.proofs.Common.{◌≡◌, refl, ap, Bool, true, false, cond, ℕ, zero, suc, ◌/◌, ◌%◌, ◌≤◌, ◌<◌, arith, ltb, ltb-true}
use Rattle.wrap32.proofs.Laws.{of-cond}
use Rattle.format.specs.Sizes.{Colour, green, red, blue, l1, l2, l3, Group, base, detail, final, present, number, index, numbered, indexed, packet_group, packet_index, group_in, colour_in, multiplier, columns}
use Rattle.format.specs.Packets.{sum}
use Rattle.format.specs.Coefficients.{plane_sum, tile_sum}

-- groups and their numbers
pub number_lt : (g : Group) → number g < 5
number_lt base = omega arith
number_lt (detail l1) = omega arith
number_lt (detail l2) = omega arith
number_lt (detail l3) = omega arith
number_lt final = omega arith

pub number_of : (g : ℕ) → g < 5 → number (numbered g) ≡ g
number_of zero h = refl
number_of (suc zero) h = refl
number_of (suc (suc zero)) h = refl
number_of (suc (suc (suc zero))) h = refl
number_of (suc (suc (suc (suc zero)))) h = refl
number_of (suc (suc (suc (suc (suc g))))) h = absurd (omega arith)

pub group-number : (g : Group) → numbered (number g) ≡ g
group-number base = refl
group-number (detail l1) = refl
group-number (detail l2) = refl
group-number (detail l3) = refl
group-number final = refl

pub group-last : (g : ℕ) → (g ≡ 0 → ⊥) → (g ≡ 1 → ⊥) → (g ≡ 2 → ⊥) → (g ≡ 3 → ⊥) → numbered g ≡ final
group-last zero a b c d = absurd (a refl)
group-last (suc zero) a b c d = absurd (b refl)
group-last (suc (suc zero)) a b c d = absurd (c refl)
group-last (suc (suc (suc zero))) a b c d = absurd (d refl)
group-last (suc (suc (suc (suc g)))) a b c d = refl

-- planes and their indices
pub colour-index : (i : Colour) → indexed (index i) ≡ i
colour-index green = refl
colour-index red = refl
colour-index blue = refl

pub index_of : (i : ℕ) → i < 3 → index (indexed i) ≡ i
index_of zero h = refl
index_of (suc zero) h = refl
index_of (suc (suc zero)) h = refl
index_of (suc (suc (suc i))) h = absurd (omega arith)

-- ---- packet p below 13: its numbers are in range, and the tile has it
pub packet-range : (p : ℕ) → p < 13 → (packet_group p < 5) × (packet_index p < 3)
packet-range p h = (
  of-cond (λ (g : ℕ). g < 5) (ltb p 12) (p % 4) 4 (λ _. omega arith) (λ _. omega arith),
  of-cond (λ (k : ℕ). k < 3) (ltb p 12) (p / 4) 0 (λ e. omega (arith, ltb-true p 12 e)) (λ _. omega arith),
)

pub number_in : (p : ℕ) → p < 13 → number (group_in p) ≡ packet_group p
number_in p h = number_of (packet_group p) (packet-range p h).0

pub index_in : (p : ℕ) → p < 13 → index (colour_in p) ≡ packet_index p
index_in p h = index_of (packet_index p) (packet-range p h).1

-- group 4 has only green's
pub present-of : (g k : ℕ) → (3 < g → k ≡ 0) → present (numbered g) (indexed k) ≡ true
present-of zero k h = refl
present-of (suc zero) k h = refl
present-of (suc (suc zero)) k h = refl
present-of (suc (suc (suc zero))) k h = refl
present-of (suc (suc (suc (suc g)))) k h = ap (λ (j : ℕ). present final (indexed j)) (h (omega arith))

pub packet-present : (p : ℕ) → p < 13 → present (group_in p) (colour_in p) ≡ true
packet-present p h = by (ltb p 12) refl
  where
    by : (b : Bool) → ltb p 12 ≡ b → present (numbered (cond b (p % 4) 4)) (indexed (cond b (p / 4) 0)) ≡ true
    by true e = present-of (p % 4) (p / 4) (λ l. omega (arith, l))
    by false e = refl

-- a number of each of them, added up
pub packets-sum : (f : Group → Colour → ℕ) → sum (λ p. f (group_in p) (colour_in p)) 13 ≡ tile_sum f
unfolding sum tile_sum plane_sum
packets-sum f = omega arith

-- ---- rows and columns of a group's records
pub multiplier-most : (g : Group) → multiplier g ≤ 8
multiplier-most base = omega arith
multiplier-most (detail l1) = omega arith
multiplier-most (detail l2) = omega arith
multiplier-most (detail l3) = omega arith
multiplier-most final = omega arith

pub columns-most : (w : ℕ) (g : Group) → columns w g ≤ w
columns-most w base = omega arith
columns-most w (detail l1) = omega arith
columns-most w (detail l2) = omega arith
columns-most w (detail l3) = omega arith
columns-most w final = omega arith
