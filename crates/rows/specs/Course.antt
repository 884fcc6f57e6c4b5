-- The course of a row: that what is decoded so far, and what the rest gives, make the whole row.
use Rattle.std.specs.Prelude.{◌≡◌, List, ◌++◌, ◌⊎◌, ℕ, ◌+◌, ◌-◌, ◌/◌, ◌^◌, ◌≤◌, ◌<◌, ℤ, pos, length, take, get_or}
use Rattle.format.specs.Reader.{Reader, Taken}
use Rattle.format.specs.Coefficients.{Part, row_from}
use Rattle.bits.specs.declared.BitReader.{BitReader}
use Rattle.bits.specs.View.{as_reader, Ready}

-- a width and a reader
abbrev pub state_of : ℕ → BitReader → Taken
state_of width reader = record { value = width; reader = as_reader reader }

-- the rest of the row is zero: a status that is not 0, or a width above 19
abbrev pub Halted : Taken → Type 0
Halted t = (t.reader.status ≡ 0 → ⊥) ⊎ ((t.reader.status ≡ 0) × (19 < t.value))

-- the first i elements of d and then l, cut to the length of d
abbrev pub filled : List ℤ → ℕ → List ℤ → List ℤ
filled d i l = take (length d) (take i d ++ l)

-- all of d is 0 from i on
abbrev pub Clean : List ℤ → ℕ → Type 0
Clean d i = (j : ℕ) → i ≤ j → get_or d j (pos 0) ≡ pos 0

-- a row under way: nothing has stopped it, and elements are left, all of them 0
pub record Underway (d : List ℤ) (out w : ℕ) (r : BitReader) : Type 0 where
  pub go : (as_reader r).status ≡ 0
  pub size : length d < 2 ^ 32
  pub more : out < length d
  pub short : w ≤ 19
  pub clean : Clean d out

-- the list d holds the row as far as out, and what g groups more give makes it the whole row
pub record Going (s : List ℕ) (sel : ℕ) (whole : Part) (d₀ d : List ℤ) (out g : ℕ) (t : Taken) : Type 0 where
  pub turns : ℕ
  pub enough : g ≤ turns
  pub values : filled d out (row_from s sel turns g t).values ≡ filled d₀ 0 whole.values
  pub reader : (row_from s sel turns g t).reader ≡ whole.reader

-- the groups that are left of a row
abbrev pub left_of : List ℤ → ℕ → ℕ
left_of d out = (length d - out + 3) / 4

-- from one point of a row to a later one, with zeros beyond it
pub record Onward (s : List ℕ) (sel : ℕ) (d : List ℤ) (out : ℕ) (t : Taken) (d' : List ℤ) (out' : ℕ) (t' : Taken) : Type 0 where
  pub same : length d' ≡ length d
  pub clean : Clean d' out'
  pub goes : (whole : Part) (d₀ : List ℤ) → Going s sel whole d₀ d out (left_of d out) t → Going s sel whole d₀ d' out' (left_of d' out') t'

-- a reader further on in its allowance
abbrev pub moved_to : Reader → ℕ → Reader
moved_to r place = record { place = place; remaining = r.place + r.remaining - place; status = r.status }

-- what is left after runs and groups are taken out of words: a place in the row, with the width as it was if nothing was taken
pub record Done (s : List ℕ) (n out w out' w' : ℕ) (r : BitReader) : Type 0 where
  pub ready : Ready s r
  pub going : (as_reader r).status ≡ 0
  pub forward : out ≤ out'
  pub inside : out' < n + 4
  pub still : out' ≡ out → w' ≡ w
