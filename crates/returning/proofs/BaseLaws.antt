-- The steps of level 1's ll in group 0's packet are what recovery gives back. Assumes nothing.
use Rattle.std.proofs.Common.{◌≡◌, refl, sym, ap, ◌∙◌, Bool, true, false, List, ℕ, ◌+◌, ◌-◌, ◌*◌, ◌/◌, ◌≤◌, ◌<◌, mul-le-mul_right, arith, ℤ, length, w16}
use mir.Val.{bool_byte}
use Rattle.wrap32.specs.Cut.{cut, sub_w}
use Rattle.lists.specs.Lists.{part}
use Rattle.lists.proofs.Tab.{length-tab, tab-same}
use Rattle.lists.proofs.Laid.{length-laid, laid_out, laid_same}
use Rattle.format.specs.Lifting.{Plane}
use Rattle.format.specs.Sizes.{l1, base}
use Rattle.format.specs.Table.{start, height, Source, S}
use Rattle.format.specs.Recovery.{before, differences}
use Rattle.format.specs.Writing.{too_far}
use Rattle.format.specs.Numbers.{row_of, packet_rows}
use Rattle.format.proofs.NumberLaws.{place_of, line_back, laid-seek, row-alone}
use Rattle.passes.specs.declared.Plan.{Plan}
use Rattle.levels.specs.Block.{group_at}
use Rattle.returning.specs.Return.{step_of, steps_laid, steps_refused, Held, packet_size, Numbers, BaseGiven, base_back, base_fault, BaseReturned}
use Rattle.format.proofs.TurnLaws.{each_same}
use Rattle.returning.proofs.PacketLaws.{packet-flat, packet-room, apart-within, at-line, before-line}

-- the rows of level 1's ll
pub base-height : (g : Bool) (n : ℕ) → n - start g ≡ height g n l1
base-height false n = omega arith
base-height true n = refl

-- the first row that goes in, as the code has it
pub start-is : (g : Bool) → bool_byte g ≡ start g
start-is false = refl
start-is true = refl

start-below : (g : Bool) (n y : ℕ) → y < height g n l1 → y + start g < n + 1
start-below false n y t = omega arith
start-below true n y t = omega arith

module _ (z : Plan) (at from t : ℕ) (work : List ℤ) (held : Held z at (length work)) where
  abbrev cols : ℕ
  cols = z.w / 16

  abbrev count : ℕ
  count = height z.guarded z.n l1

  abbrev to : ℕ
  to = at + start z.guarded * cols

  abbrev src : ℕ → Source
  src y = S 0 (y + start z.guarded)

  placed : (y : ℕ) → to + y * cols ≡ group_at z at base + row_of base 0 (y + start z.guarded) * cols
  placed y = rw (row-alone base (y + start z.guarded) refl) (omega arith)

  low : (y : ℕ) → y < count → row_of base 0 (y + start z.guarded) < packet_rows base (z.n + 1)
  low y b = omega (arith, row-alone base (y + start z.guarded) refl, start-below z.guarded z.n y b)

  row_room : (y : ℕ) → y < count → to + y * cols + cols ≤ group_at z at base + packet_size z base
  row_room y b =
      let m = mul-le-mul_right cols (low y b) in
      omega (arith, m, placed y)

  target : (y : ℕ) → y < count → to + y * cols + cols ≤ length work
  target y b = omega (arith, row_room y b, packet-room z at (length work) held base)

  module _ (ll : Plane) (given : BaseGiven z from t ll work) where
    step_is : (y x : ℕ) → y < count → x < cols → step_of (part work (from + y * t) cols) x ≡ sub_w (ll y x) (before (ll y) x)
    step_is y x b c =
        let l = part work (from + y * t) cols in
        λ i. sub_w (at-line cols l (ll y) (given y b) x c i) (before-line cols l (ll y) (given y b) x c i)

    base-refused : steps_refused cols from t count work ≡ base_fault z.guarded z.n z.w ll
    base-refused = each_same _ _ count (λ y b. each_same _ _ cols (λ x c. ap too_far (step_is y x b c)))

    base-numbers : (rest : ℕ → Plane) → Numbers z at base rest work → Numbers z at base (base_back z.guarded z.n ll rest) (steps_laid cols from t to count work)
    base-numbers rest h =
        let room = packet-room z at (length work) held base in
        let rows = packet_rows base (z.n + 1) in
        let same =
        laid_same (λ y. to + y * cols) (place_of base cols rows (group_at z at base) false src (differences ll) rest work room)
        _ (line_back base cols rows (group_at z at base) false src (differences ll) rest work room) work count
        (λ y _. placed y) (λ y b. tab-same cols _ _ (λ x c. ap (cut w16) (step_is y x b c))) in
        ap (λ (m : List ℤ). part m (group_at z at base) (packet_size z base)) same
        ∙ laid-seek base cols rows (group_at z at base) false src (differences ll) rest work room count (λ y _. omega arith) low (h ∙ packet-flat z.w base (z.n + 1) rest)
        ∙ sym (packet-flat z.w base (z.n + 1) _)

  base-returned : BaseReturned z at from t work (steps_laid cols from t to count work) (steps_refused cols from t count work)
  base-returned = record {
    numbers = λ ll rest given h. base-numbers ll given rest h;
    refusal = base-refused;
    beside = λ s m o. laid_out (λ y. to + y * cols) _ work cols count (λ y. length-tab cols _) target s m count (omega arith)
        (λ y b. apart-within s m (group_at z at base) (packet_size z base) (to + y * cols) cols (omega (arith, placed y)) (omega (arith, row_room y b)) o);
    same = length-laid (λ y. to + y * cols) _ work cols count (λ y. length-tab cols _) target count (omega arith);
  }

  -- as the code has it: s is the first row, and k rows go in
  pub base_gives : (s k : ℕ) → s ≡ start z.guarded → k ≡ count → (after : List ℤ) (r : ℕ)
      → after ≡ steps_laid cols from t (at + s * cols) k work → r ≡ steps_refused cols from t k work
      → BaseReturned z at from t work after r
  base_gives s k e f after r p q =
      let x : after ≡ steps_laid cols from t to count work = p ∙ (λ i. steps_laid cols from t (at + e i * cols) (f i) work) in
      let y : r ≡ steps_refused cols from t count work = q ∙ ap (λ (j : ℕ). steps_refused cols from t j work) f in
      rw (x, y) base-returned
