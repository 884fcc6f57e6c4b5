-- A reader of the code, and what it reads, as document 01 sees them: without the cache, which holds no more than the place says.
use Rattle.std.specs.Prelude.{◌≡◌, List, cond, ℕ, ◌+◌, ◌-◌, ◌*◌, ◌/◌, ◌%◌, ◌^◌, ◌≤◌, ◌<◌, min, ltb, length}
use Rattle.std.specs.Int.Count.{count_leading_zeros}
use Rattle.format.specs.Bits.{bits_at}
use Rattle.format.specs.Reader as format
use Rattle.format.specs.Coefficients as coefficients
use Rattle.bits.specs.declared.Status.{Status}
use Rattle.bits.specs.declared.Status.TheVariants.{Good, Broken, Spent}
use Rattle.bits.specs.declared.BitReader.{BitReader}
use Rattle.bits.specs.declared.Taken.{Taken}
use Rattle.bits.specs.declared.Four.{Four}
use Rattle.bits.specs.declared.Used.{Used}

-- document 01's number of a status
abbrev pub number_of : Status → ℕ
number_of Good = 0
number_of Broken = 1
number_of Spent = 2

abbrev pub as_reader : BitReader → format.Reader
as_reader r = record { place = r.place; remaining = r.remaining; status = number_of r.status }

abbrev pub as_taken : Taken ℕ → format.Taken
as_taken t = record { value = t.value; reader = as_reader t.reader }

abbrev pub as_four : Taken (Four ℕ) → coefficients.Four
as_four q = let v = q.value in record { a = v.a; b = v.b; c = v.c; d = v.d; reader = as_reader q.reader }

-- what each method asks: the packet has a whole word, no place within the allowance is out of range, and the cache holds the bits from the
-- place on
pub record Ready (s : List ℕ) (r : BitReader) : Type 0 where
  pub size : 8 ≤ length s
  pub room : r.place + r.remaining < 2 ^ 40
  pub bits : r.cache / 2 ^ 7 ≡ bits_at s r.place 57

-- what each method leaves: a reader that is ready again, and a value below a bound
pub record ReadyBelow (s : List ℕ) (t : Taken ℕ) (most : ℕ) : Type 0 where
  pub ready : Ready s t.reader
  pub bound : t.value < most

-- the same of four values
pub record ReadyBelowFour (s : List ℕ) (t : Taken (Four ℕ)) (most : ℕ) : Type 0 where
  pub ready : Ready s t.reader
  pub a : t.value.a < most
  pub b : t.value.b < most
  pub c : t.value.c < most
  pub d : t.value.d < most

-- a width update out of a word's first bits: 0 keeps the width; 10 and z zeros and a one add z + 1; 11 looks through width - 1 bits for a one
-- after z zeros, and takes z + 1 off
unfoldable pub change_of : ℕ → ℕ → Used ℕ
change_of word w =
    let z = count_leading_zeros 64 (word * 2 ^ 2 % 2 ^ 64) in
    cond (ltb word (2 ^ 63)) (record { value = w; used = 1 })
    (cond (ltb word (2 ^ 63 + 2 ^ 62)) (record { value = w + z + 1; used = z + 3 }) (record { value = w - (z + 1); used = min (z + 1) (w - 1) + 2 }))
