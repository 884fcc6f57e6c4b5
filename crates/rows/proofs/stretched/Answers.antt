-- `stretched` meets its contract. Assumes nothing.
use Rattle.std.proofs.Common.{rules, ◌≡◌, ap, ◌∙◌, cond, ℕ, ◌-◌, ◌*◌, ◌%◌, ◌^◌, arith, ℤ, pos, nat_abs, ◌+ℤ◌, ◌-ℤ◌, ◌*ℤ◌, w32, w64, SFits, to_z, of_z, to_z-of_z}
use lib.Signed.{lt_z}
use Rattle.wrap32.specs.Cut.{wrap}
use Rattle.wrap32.proofs.Laws.{wide, cut_fits, read_back, add_wide, mag-add, mag-diff}
use Rattle.rows.proofs.StretchLaws.{shifted-left, half-less, stretch-sum}
use Rattle.rows.proofs.stretched.Goals.{After-kept-p, After-kept-q, After-odd}
use Rattle.rows.proofs.stretched.Goals as goal

-- half a step, less 1 where x is odd
module _ (c : After-odd) where
  abbrev x : ℤ
  x = c.args.x

  abbrev sel : ℕ
  sel = c.args.selector.number

  abbrev half : ℤ
  half = pos (2 ^ (sel - 1) - nat_abs x % 2)

  half-fits : SFits w32 half
  half-fits = (half-less sel (nat_abs x % 2) (omega arith) (omega (arith, c.args.selector.small))).1

  half_is : to_z w32 (1 * 2 ^ (sel - 1) % 2 ^ 32) -ℤ to_z w32 (of_z w32 c.odd.result) ≡ half
  half_is =
      let f = c.ranges.x in
      let one : SFits w32 (pos (nat_abs x % 2)) = record { sfits = omega arith } in
      let e : to_z w32 (of_z w32 c.odd.result) ≡ pos (nat_abs x % 2) = read_back (simp to_z-of_z at c.odd.ensures) one in
      ap (λ (z : ℤ). to_z w32 (1 * 2 ^ (sel - 1) % 2 ^ 32) -ℤ z) e ∙ (half-less sel (nat_abs x % 2) (omega arith) (omega (arith, c.args.selector.small))).0

pub overflow_sub-h-2 : goal.overflow_sub-h-2
overflow_sub-h-2 c = rw (half_is c) (half-fits c)

-- its share on either side of 0
plus-is : (c : After-kept-p) → c.kept-p.result ≡ cond (lt_z (pos 0) (x (goal.at.After-kept-p c).After-odd)) (half (goal.at.After-kept-p c).After-odd) (pos 0)
plus-is c =
    let f = c.ranges.x in
    let g = half-fits (goal.at.After-kept-p c).After-odd in
    simp (half_is (goal.at.After-kept-p c).After-odd, to_z-of_z) at c.kept-p.ensures

minus_is : (c : After-kept-q) → c.kept-q.result ≡ cond (lt_z (x (goal.at.After-kept-q c).After-odd) (pos 0)) (half (goal.at.After-kept-q c).After-odd) (pos 0)
minus_is c =
    let f = c.ranges.x in
    let g = half-fits (goal.at.After-kept-q c).After-odd in
    simp (half_is (goal.at.After-kept-q c).After-odd, to_z-of_z) at c.kept-q.ensures

-- the summands and the sums
module _ (c : After-kept-q) where
  abbrev scaled : ℤ
  scaled = wrap (x (goal.at.After-kept-q c).After-odd *ℤ pos (2 ^ sel (goal.at.After-kept-q c).After-odd))

  abbrev plus : ℤ
  plus = c.kept-p.result

  abbrev minus : ℤ
  minus = c.kept-q.result

  scaled-is : to_z w32 (of_z w32 (x (goal.at.After-kept-q c).After-odd) * 2 ^ sel (goal.at.After-kept-q c).After-odd % 2 ^ 32) ≡ scaled
  scaled-is = shifted-left (x (goal.at.After-kept-q c).After-odd) (sel (goal.at.After-kept-q c).After-odd) c.ranges.x

  scaled_fits : SFits w32 scaled
  scaled_fits = cut_fits w32 _

  plus-fits : SFits w32 plus
  plus-fits = search rules

  minus-fits : SFits w32 minus
  minus-fits = search rules

  sum_fits : SFits w64 (scaled +ℤ plus)
  sum_fits = add_wide scaled plus scaled_fits plus-fits

  all-fits : SFits w64 (scaled +ℤ plus -ℤ minus)
  all-fits = record {
    sfits = omega (arith, mag-diff (scaled +ℤ plus) minus (2 ^ 32) (2 ^ 31) (mag-add scaled plus (2 ^ 31) (2 ^ 31) scaled_fits.sfits plus-fits.sfits) minus-fits.sfits);
  }

pub overflow_cast-x : goal.overflow_cast-x
overflow_cast-x c =
    let k = (goal.at.overflow_cast-x c).After-kept-q in
    rw (scaled-is k) (wide (scaled_fits k))

pub overflow_cast-p : goal.overflow_cast-p
overflow_cast-p c =
    let k = (goal.at.overflow_cast-p c).After-kept-q in
    let f = plus-fits k in simp to_z-of_z (wide f)

pub overflow_cast-q : goal.overflow_cast-q
overflow_cast-q c =
    let k = (goal.at.overflow_cast-q c).After-kept-q in
    let f = minus-fits k in simp to_z-of_z (wide f)

pub overflow_add-x : goal.overflow_add-x
overflow_add-x c =
    let k = (goal.at.overflow_add-x c).After-kept-q in
    let f = scaled_fits k in
    let g = plus-fits k in
    simp (scaled-is k, to_z-of_z, wide) (sum_fits k)

pub overflow_sub-x : goal.overflow_sub-x
overflow_sub-x c =
    let k = (goal.at.overflow_sub-x c).After-kept-q in
    let f = scaled_fits k in
    let g = plus-fits k in
    let h = minus-fits k in
    let s = sum_fits k in
    simp (scaled-is k, to_z-of_z, wide) (all-fits k)

pub returns : goal.returns
returns c =
    let a = (goal.at.returns c).After-kept-q in
    let f = scaled_fits a in
    let g = plus-fits a in
    let h = minus-fits a in
    let s = sum_fits a in
    let t = all-fits a in
    let e : c.cut32.result ≡ wrap (scaled a +ℤ plus a -ℤ minus a) = simp (scaled-is a, to_z-of_z, wide) at c.cut32.ensures in
    read_back e (cut_fits w32 _)
    ∙ stretch-sum (sel (goal.at.After-kept-q a).After-odd) (x (goal.at.After-kept-q a).After-odd) (plus a) (minus a) (omega arith) (plus-is (goal.at.After-kept-q a).After-kept-p) (minus_is a)
