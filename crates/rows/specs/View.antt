-- The answers of a row's parts as document 01 sees them: their readers without the cache.
use Rattle.std.specs.Prelude.{[], ◌∷◌, ℕ, ℤ}
use Rattle.format.specs.Coefficients as coefficients
use Rattle.bits.specs.View.{as_reader}
use Rattle.bits.specs.declared.Four.{Four}
use Rattle.bits.specs.declared.Taken.{Taken}
use Rattle.rows.specs.declared.Decoded.{Decoded}

abbrev pub as_signed : Taken ℤ → coefficients.Signed
as_signed t = record { value = t.value; reader = as_reader t.reader }

abbrev pub as_signed_four : Taken (Four ℤ) → coefficients.SignedFour
as_signed_four q = let v = q.value in record { a = v.a; b = v.b; c = v.c; d = v.d; reader = as_reader q.reader }

abbrev pub as_group : Decoded (Four ℤ) → coefficients.GroupAnswer
as_group q = let v = q.value in record { values = v.a ∷ v.b ∷ v.c ∷ v.d ∷ []; width = q.width; reader = as_reader q.reader }

abbrev pub as_run : Decoded ℕ → coefficients.RunAnswer
as_run z = record { groups = z.value; width = z.width; reader = as_reader z.reader }
