-- `BitReader::zero_run` meets its contract. Assumes nothing.
use Rattle.std.proofs.Common.{rules, ◌≡◌, ap, ◌∙◌, ℕ, ◌*◌, ◌%◌, ◌^◌, ◌<◌, one-mul, arith, lit<, pow_pos, shl_exact}
use Rattle.format.specs.Reader.{find_of, at_most}
use Rattle.bits.specs.View.{as_reader, as_taken}
use Rattle.format.proofs.RunLaws.{exponent_lt, power_below, run-one, run_none, run-stopped, run-part}
use Rattle.bits.proofs.BitReader.zero_run.Goals.{After-find-found, After-read-extra, Else-stops}
use Rattle.bits.proofs.BitReader.zero_run.Goals as goal

pub returns-then-groups-le1 : goal.returns-then-groups-le1
returns-then-groups-le1 c =
    record {
      value = run-one c.args.packet.now (as_reader c.args.self) c.args.groups c.if-groups-le1.true;
      ready_below = search rules;
      some = λ h. h;
    }

pub returns-then-most-z : goal.returns-then-most-z
returns-then-most-z c =
    let a = c.args in
    let s = a.packet.now in
    let most = c.bit_length-most.ensures.0 in
    let found = c.find-found.ensures.value ∙ ap (find_of s (as_reader a.self)) most in
    record {
      value = run_none s (as_reader a.self) a.groups c.if-groups-le1.false (as_taken c.find-found.result) found (omega (arith, most));
      ready_below = search rules;
      some = λ h. h;
    }

pub returns-then-stops : goal.returns-then-stops
returns-then-stops c =
    let a = c.args in
    let s = a.packet.now in
    let most = c.bit_length-most.ensures.0 in
    let found = c.find-found.ensures.value ∙ ap (find_of s (as_reader a.self)) most in
    record {
      value = run-stopped s (as_reader a.self) a.groups c.if-groups-le1.false (as_taken c.find-found.result) found (omega (arith, most)) (c.stops.ensures.0 c.if-stops.true);
      ready_below = search rules;
      some = λ h. h;
    }

-- 1 shifted is a power of 2
shifted : (n : ℕ) → n < 64 → 1 * 2 ^ n % 2 ^ 64 ≡ 2 ^ n
shifted n h = shl_exact {a = 1} 1 n 64 (lit< tt) (omega arith) ∙ one-mul (2 ^ n)

-- the power is below the groups that are left
below : (c : Else-stops) → 2 ^ c.find-found.result.value < c.args.groups
below c =
    let x = (goal.at.Else-stops c).After-find-found in
    let a = x in
    power_below a.args.groups x.find-found.result.value x.if-groups-le1.false (omega (arith, a.requires.groups_bound)) (omega (arith, x.bit_length-most.ensures.0, c.if-most-z.false))

short : (c : Else-stops) → c.find-found.result.value < 32
short c =
    exponent_lt c.find-found.result.value 32 (omega (arith, below c, c.requires.groups_bound))

pub overflow_add-z : goal.overflow_add-z
overflow_add-z c =
    let e = (goal.at.overflow_add-z c).After-read-extra in
    let n = (goal.at.After-read-extra e).Else-stops in
    let a = e in
    omega (arith, shifted n.find-found.result.value (omega (arith, short n)), below n, e.read-extra.ensures.ready_below.bound, a.requires.groups_bound)

pub returns : goal.returns
returns c =
    let e = (goal.at.returns c).After-read-extra in
    let n = (goal.at.After-read-extra e).Else-stops in
    let x = n in
    let a = x.args in
    let s = a.packet.now in
    let most = x.bit_length-most.ensures.0 in
    let found = x.find-found.ensures.value ∙ ap (find_of s (as_reader a.self)) most in
    let z = x.find-found.result.value in
    let power = shifted z (omega (arith, short n)) in record {
      value = rw (c.min.ensures, power) (ap (at_most a.groups z) e.read-extra.ensures.value ∙ run-part s (as_reader a.self) a.groups x.if-groups-le1.false (as_taken x.find-found.result) found (omega (arith, most, n.if-most-z.false)) (n.stops.ensures.1 n.if-stops.false) (below n));
      ready_below = record { ready = e.read-extra.ensures.ready_below.ready; bound = omega (arith, c.min.ensures) };
      some = λ h. omega (arith, c.min.ensures, power, pow_pos z);
    }

pub read-extra-requires : goal.read-extra-requires
read-extra-requires c = record { ready = c.find-found.ensures.ready_below.ready; few_bits = omega (arith, short c) }

pub overflow_shl-z : goal.overflow_shl-z
overflow_shl-z c = omega (arith, short (goal.at.overflow_shl-z c).Else-stops)
