-- `BitReader::read` meets its contract. Assumes nothing.
use Rattle.std.proofs.Common.{le-leb, ◌≡◌, refl, sym, ap, ◌∙◌, cond, List, ⊎_elim, ℕ, ◌-◌, ◌+◌, ◌*◌, ◌%◌, ◌^◌, ◌≤◌, ◌<◌, min, mul-one, arith, leb, shl_exact, shl_lt}
use borrow.Author.Tests.{lt-leb}
use Rattle.format.specs.Bits.{bits_at}
use Rattle.format.specs.Reader.{Reader, read_of}
use Rattle.format.proofs.BitLaws.{prefix, bits-lt, le-or-lt}
use Rattle.bits.proofs.BitReader.read.Goals.{After-min-k, After-top}
use Rattle.bits.proofs.BitReader.read.Goals as goal

-- what is left of n bits, and zeros for the others
parted : (s : List ℕ) (r : Reader) (n k : ℕ) → k ≡ min n r.remaining
    → read_of s r n
    ≡ record { value = bits_at s r.place k * 2 ^ (n - k); reader = record { place = r.place + k; remaining = r.remaining - k; status = cond (leb n r.remaining) r.status 2 } }
unfolding read_of
parted s r n k e = ⊎_elim all some (le-or-lt n r.remaining)
  where
    goal : Type 0
    goal =
        read_of s r n
        ≡ record { value = bits_at s r.place k * 2 ^ (n - k); reader = record { place = r.place + k; remaining = r.remaining - k; status = cond (leb n r.remaining) r.status 2 } }

    all : n ≤ r.remaining → goal
    all h =
        let same : k ≡ n = omega (arith, e) in
        let none : n - n ≡ 0 = omega arith in
        rw (le-leb n r.remaining h, same, none, mul-one (bits_at s r.place n)) refl

    some : r.remaining < n → goal
    some h =
        let same : k ≡ r.remaining = omega (arith, e) in
        let none : r.remaining - r.remaining ≡ 0 = omega arith in
        rw (lt-leb n r.remaining h, same, none) refl

pub returns : goal.returns
returns c =
    let t = (goal.at.returns c).After-top in
    let l = (goal.at.After-top t).After-min-k in
    let s = l in
    let a = s.args in
    let k = l.min-k.result in
    let p = a.packet.now in
    let bits = bits-lt p a.self.place k in
    let few : k ≤ a.n = omega (arith, l.min-k.ensures) in
    let v = t.top.ensures ∙ prefix p a.self.place a.self.cache k s.requires.ready.bits (omega arith) in
    let e = ap (λ (x : ℕ). x * 2 ^ (a.n - k) % 2 ^ 64) v ∙ shl_exact k (a.n - k) 64 bits (omega arith) in
    let whole : k + (a.n - k) ≡ a.n = omega (arith, few) in
    let after = c.at.ensures.value ∙ ap (λ (x : ℕ). record { place = a.self.place + k; remaining = a.self.remaining - k; status = x }) t.status_past-status.ensures in record {
      value = (λ j. record { value = e j; reader = after j }) ∙ sym (parted p _ a.n k l.min-k.ensures);
      ready_below = record { ready = c.at.ensures.ready; bound = rw e (rw whole at (shl_lt k (a.n - k) bits)) };
    }

pub top-requires : goal.top-requires
top-requires c = omega (arith, c.min-k.ensures, c.requires.few_bits)

pub overflow_sub-result : goal.overflow_sub-result
overflow_sub-result c = omega (arith, c.min-k.ensures)

pub overflow_shl-result : goal.overflow_shl-result
overflow_shl-result c = omega (arith, c.requires.few_bits)

pub overflow_add-self : goal.overflow_add-self
overflow_add-self c = omega (arith, c.min-k.ensures, c.requires.ready.room)

pub overflow_sub-self : goal.overflow_sub-self
overflow_sub-self c = omega (arith, c.min-k.ensures)

pub at-requires : goal.at-requires
at-requires c = (c.requires.ready.size, omega (arith, c.min-k.ensures, c.requires.ready.room))
