-- `group` meets its contract. Assumes nothing.
use Rattle.std.proofs.Common.{◌≡◌, ◌+◌, ◌-◌, ◌*◌, ◌^◌, ◌≤◌, ℕ, take, drop, ap, ◌∙◌, arith}
use Rattle.std.specs.List.{sum_by}
use Rattle.std.proofs.lemmas.Iterator.{YieldsList-from_slice}
use Rattle.std.proofs.lemmas.Iterator.Consumers.{sum_from_yields_List, fits_from_yields_list}
use Rattle.format.specs.Packets.{sum}
use Rattle.assembly.specs.Front.{units_at, group_of}
use Rattle.assembly.proofs.Fronts.{sum-part, sum-most}
use Rattle.assembly.proofs.front.Units.group.Goals.{After-entries}
use Rattle.assembly.proofs.front.Units.group.Goals as goal

-- what is summed
summed : (c : After-entries) → sum_by (λ x. x) (take (3 * c.args.group + c.entries.result - 3 * c.args.group) (drop (3 * c.args.group) c.args.self.now.each)) ≡ sum (units_at c.args.self.now.each c.args.group) c.entries.result
summed c =
    let a = 3 * c.args.group in
    let n = c.entries.result in
    let e : a + n - a ≡ n = omega arith in
    ap (λ (k : ℕ). sum_by (λ x. x) (take k (drop a c.args.self.now.each))) e ∙ sum-part c.args.self.now.each a n (omega (arith, c.args.self.now.long, c.entries.ensures))

few : (c : After-entries) → sum (units_at c.args.self.now.each c.args.group) c.entries.result ≤ 3 * 2 ^ 48
few c = omega (arith, c.entries.ensures, sum-most (units_at c.args.self.now.each c.args.group) (2 ^ 48) c.entries.result (λ k. omega (arith, c.args.self.now.small (3 * c.args.group + k))))

pub sum-requires-clause-fits : goal.sum-requires-clause-fits
sum-requires-clause-fits c =
    let n = (goal.at.sum-requires-clause-fits c).After-entries in
    fits_from_yields_list c.iter.result _ (YieldsList-from_slice _ c.iter.ensures.rest) (omega (arith, summed n, few n))

pub returns : goal.returns
unfolding group_of
returns c =
    let n = (goal.at.returns c).After-entries in
    let e = sum_from_yields_List c.iter.result _ c.sum.ensures.ran (YieldsList-from_slice _ c.iter.ensures.rest) ∙ summed n in
    (e ∙ ap (sum (units_at c.args.self.now.each c.args.group)) c.entries.ensures.0, omega (arith, e, few n))
