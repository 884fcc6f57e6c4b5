-- Arithmetics: what adds, subtracts and shifts. Document 01's synthesis is written over any of them, so its text can combine numbers by these
-- operations and in no other way. There are three. In `wrapping` it is document 01's: sums wrap at 32 bits. In `whole` nothing is ever cut. In
-- `checked` what leaves signed 32 bits is no number, and nothing made from it is one.
use Rattle.std.specs.Prelude.{ℕ, ◌^◌, cond, ltb, ℤ, ◌+ℤ◌, ◌-ℤ◌}
use Rattle.std.specs.Int.Signed.{mag, shr_z}
use Rattle.std.specs.Int.{w32}
use Rattle.wrap32.specs.Cut.{cut, add_w, sub_w}

-- on numbers of N: a coefficient or a constant as its number, sum, difference, floored division by a power of two; and, for the final green,
-- the sum and the difference in 64 bits, and the cut to 32
pub record Arithmetic (N : Type 0) : Type 0 where
  pub of : ℤ → N
  pub plus : N → N → N
  pub minus : N → N → N
  pub shift : N → ℕ → N
  pub plus64 : N → N → N
  pub minus64 : N → N → N
  pub cut32 : N → N

-- sums wrap at 32 bits
abbrev pub wrapping : Arithmetic ℤ
wrapping = record { of = λ z. z; plus = add_w; minus = sub_w; shift = shr_z; plus64 = ◌+ℤ◌; minus64 = ◌-ℤ◌; cut32 = cut w32 }

-- whole numbers of any size
abbrev pub whole : Arithmetic ℤ
whole = record { of = λ z. z; plus = ◌+ℤ◌; minus = ◌-ℤ◌; shift = shr_z; plus64 = ◌+ℤ◌; minus64 = ◌-ℤ◌; cut32 = λ z. z }

-- a whole number, or none once one has left signed 32 bits
pub data Checked : Type 0 where
  outside : Checked
  number : ℤ → Checked

-- z, if it lies from -2 ^ 31 to 2 ^ 31 - 1
unfoldable pub within : ℤ → Checked
within z = cond (ltb (mag z) (2 ^ 31)) (number z) outside

abbrev pub both : (ℤ → ℤ → ℤ) → Checked → Checked → Checked
both f outside b = outside
both f (number x) outside = outside
both f (number x) (number y) = within (f x y)

abbrev pub alone : (ℤ → ℤ) → Checked → Checked
alone f outside = outside
alone f (number x) = within (f x)

-- signed 32 bits everywhere, also where document 01 allows 64
abbrev pub checked : Arithmetic Checked
checked = record {
  of = within;
  plus = both ◌+ℤ◌;
  minus = both ◌-ℤ◌;
  shift = λ a n. alone (λ z. shr_z z n) a;
  plus64 = both ◌+ℤ◌;
  minus64 = both ◌-ℤ◌;
  cut32 = λ a. a;
}
