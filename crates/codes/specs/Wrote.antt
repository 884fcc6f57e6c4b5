-- What a bit writer has written: the bits b, whole bytes of them in the slice, the others held.
use Rattle.std.specs.Prelude.{◌≡◌, List, ◌++◌, ℕ, ◌+◌, ◌-◌, ◌*◌, ◌/◌, ◌%◌, ◌^◌, ◌<◌, ◌≤◌, length, get_or, drop}
use Rattle.format.specs.Bits.{bit_at}
use Rattle.codes.specs.declared.BitWriter.{BitWriter}
use Rattle.codes.specs.declared.Count.{Count}

-- the bits that are held are those of b from place 8 · place on
pub record Held (cache held place : ℕ) (b : List ℕ) : Type 0 where
  pub long : length b ≡ 8 * place + held
  pub small : cache < 2 ^ held
  pub each : (j : ℕ) → j < held → cache / 2 ^ (held - 1 - j) % 2 ≡ get_or b (8 * place + j) 0

-- the bytes of s before `place`, and behind them `count` bits of `cache`, hold b; the bytes from there on are as they were in `old`
pub record Wrote (old s : List ℕ) (place cache count : ℕ) (b : List ℕ) : Type 0 where
  pub held : Held cache count place b
  pub out : (k : ℕ) → k < 8 * place → bit_at s k ≡ get_or b k 0
  pub kept : drop place s ≡ drop place old

-- nothing is written yet
pub record Fresh (w : BitWriter) (s : List ℕ) : Type 0 where
  pub none_out : w.place ≡ 0
  pub none_held : w.held ≡ 0
  pub empty : w.cache ≡ 0
  pub slice : w.out.now ≡ s

-- a writer between two calls, with room for n bits more
pub record Room (w : BitWriter) (n : ℕ) : Type 0 where
  pub few : w.held < 8
  pub small : w.cache < 2 ^ w.held
  pub room : 8 * w.place + w.held + n ≤ 8 * length w.out.now

-- from w to r the bits x were written, whatever was written before
pub record Appends (w r : BitWriter) (x : List ℕ) : Type 0 where
  pub same : r.out.ghost_name ≡ w.out.ghost_name
  pub few : r.held < 8
  pub small : r.cache < 2 ^ r.held
  pub on : 8 * r.place + r.held ≡ 8 * w.place + w.held + length x
  pub long : length r.out.now ≡ length w.out.now
  pub wrote : (old b : List ℕ) → Wrote old w.out.now w.place w.cache w.held b → Wrote old r.out.now r.place r.cache r.held (b ++ x)

-- from a count to the next the bits x were counted; a count with room for n bits more
pub record Counts (w r : Count) (x : List ℕ) : Type 0 where
  pub on : r.bits ≡ w.bits + length x

pub record CountRoom (w : Count) (n : ℕ) : Type 0 where
  pub room : w.bits + n < 2 ^ 64
