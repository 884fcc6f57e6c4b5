-- Numbers that may be written: all coefficients that stand in the work slice are small. Assumes nothing.
use Rattle.std.proofs.Common.{◌≡◌, sym, ap, ◌∙◌, List, true, ⊎_elim, ℕ, ◌+◌, ◌*◌, ◌/◌, ◌%◌, ◌^◌, ◌≤◌, ◌<◌, mod-lt, div-add-mod', div-lt_iff_lt-mul, arith, ℤ, pos, nat_abs, length}
use Rattle.std.proofs.Math.ListN.{get_or-eq_default}
use Rattle.format.specs.Sizes.{Colour, Group, present, columns}
use Rattle.format.specs.Lifting.{Plane}
use Rattle.format.specs.Coefficients.{Coefs}
use Rattle.format.specs.Numbers.{packet_rows, packet_numbers}
use Rattle.format.specs.Writing.{records}
use Rattle.format.proofs.BitLaws.{le-or-lt}
use Rattle.encoding.specs.Numbers.{Small, line}
use Rattle.assembly.specs.Tile.{packet_in, Holds}
use Rattle.assembly.proofs.Held.{length-numbers, numbers-at}

-- past its end a list has 0
past : (l : List ℤ) (x : ℕ) → length l ≤ x → nat_abs (line l x) < 2 ^ 19
past l x h = let z : line l x ≡ pos 0 = get_or-eq_default l (pos 0) h in rw z (omega arith)

-- the numbers of a packet are its components'
small-numbers : (w : ℕ) (g : Group) (n : ℕ) (v : ℕ → Plane) → ((c r x : ℕ) → x < columns w g → nat_abs (v c r x) < 2 ^ 19) → Small (line (packet_numbers w g n v))
small-numbers w g n v h x =
    let C = columns w g in
    let R = packet_rows g n in
    let l = packet_numbers w g n v in
    let none : C ≤ 0 → R * C ≤ x = λ z. let e : C ≡ 0 = omega arith in rw e (omega arith) in
    ⊎_elim
    (λ (a : R * C ≤ x). past l x (rw (length-numbers w g n v) a))
    (λ (a : x < R * C).
    let some : 0 < C = ⊎_elim (λ (z : C ≤ 0). absurd (omega (arith, none z))) (λ (z : 0 < C). z) (le-or-lt C 0) in
    let y = x / C in
    let at : y * C + x % C ≡ x = div-add-mod' x C in
    let is = ap (line l) (sym at) ∙ numbers-at w g n v y (x % C) ((div-lt_iff_lt-mul some).1 a) (mod-lt x some) in
    rw is (h _ _ (x % C) (mod-lt x some)))
    (le-or-lt (R * C) x)

pub small-coefs : (w H : ℕ) (v : Coefs) (work : List ℤ) → Holds w H v work → ((g : Group) (i : Colour) (c r x : ℕ) → x < columns w g → nat_abs (v g i c r x) < 2 ^ 19) → (g : Group) (i : Colour) → present g i ≡ true → Small (line (packet_in w H g i work))
small-coefs w H v work h s g i e = rw (h.stand g i e) (small-numbers w g (records H) (v g i) (s g i))
