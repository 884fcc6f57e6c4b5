-- What a call of `inspect_record` gives.
use Rattle.std.specs.Prelude.{◌≡◌, List, ℕ, ℤ, length, Option, Some, None, Result, Ok, Err}
use Rattle.format.specs.Used as used
use Rattle.format.specs.Used.{nothing, inspect_refusal, inspected, band_after}
use Rattle.refusals.specs.declared.Refusal.{Refusal}
use Rattle.refusals.specs.Number.{number_of}
use Rattle.inspection.specs.declared.Inspected.{Inspected}

-- what an answer tells, as document 02 has it: the refusal, or none for a record that isn't there, with every other field 0; or all of a record
abbrev pub told : Result (Option Inspected) Refusal → used.Inspected
told (Ok (Some a)) = record {
  refusal = 0;
  bytes = a.bytes;
  allowance = a.allowance;
  bits = a.counts.bits;
  broken = a.counts.broken;
  spent = a.counts.spent;
}
told (Ok None) = nothing 0
told (Err r) = nothing (number_of r)

-- the whole outcome of a call on record i of packet q of a stream, with a lent band: what is told, and the band after it
pub record InspectOutcome (s : List ℕ) (q i : ℕ) (band : List ℤ) (r : used.Inspected) (band' : List ℤ) : Type 0 where
  pub answer : r ≡ inspected s (inspect_refusal s q i (length band)) q i
  pub bands : band' ≡ band_after s (inspect_refusal s q i (length band)) q i band
