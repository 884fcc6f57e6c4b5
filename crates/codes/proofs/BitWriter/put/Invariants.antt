-- `put` meets its contract: the bits that go out one byte after the other are the same. Assumes nothing.
use Rattle.std.proofs.Common.{◌≡◌, List, ℕ, ◌+◌, ◌*◌, ◌^◌, ◌≤◌, ◌<◌, length}
use Rattle.codes.specs.Wrote.{Wrote}
use Rattle.codes.specs.declared.BitWriter.{BitWriter}
use Rattle.codes.proofs.BitWriter.put.Given as goal

-- from w to r some whole bytes went out
pub record Out (w r : BitWriter) : Type 0 where
  pub same : r.out.ghost_name ≡ w.out.ghost_name
  pub long : length r.out.now ≡ length w.out.now
  pub short : r.held < 64
  pub small : r.cache < 2 ^ r.held
  pub on : 8 * r.place + r.held ≡ 8 * w.place + w.held
  pub room : 8 * r.place + r.held ≤ 8 * length r.out.now
  pub wrote : (old b : List ℕ) → Wrote old w.out.now w.place w.cache w.held b → Wrote old r.out.now r.place r.cache r.held b

abbrev pub invariant-loop-self : goal.invariant-loop-self
invariant-loop-self l = Out l.initial.self l.self

abbrev pub decreases-loop-self : goal.decreases-loop-self
decreases-loop-self l = l.self.held
