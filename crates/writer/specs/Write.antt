-- What the contracts of `write_stream` cite, besides documents 01 and 02.
use Rattle.std.specs.Prelude.{◌≡◌, cond, List, ◌++◌, ℕ, ◌+◌, ◌*◌, ◌%◌, ◌^◌, ◌≤◌, ◌<◌, ltb, ℤ, drop, Result, Ok, Err}
use Rattle.format.specs.Coefficients.{Coefs}
use Rattle.format.specs.Sizes.{Colour, green, red, blue, stripes, guarded, plane_rows_of, plane_columns}
use Rattle.format.specs.Refusals.{◌▷◌, on}
use Rattle.format.specs.Tile.{accepted}
use Rattle.format.specs.Writing.{Written, lengths_refusal, stream_length, stream_of, written_of, work_left, stream_left}
use Rattle.passes.specs.declared.Plan.{Plan}
use Rattle.assembly.specs.Tile.{Tile, Holds}
use Rattle.refusals.specs.declared.Refusal.{Refusal}
use Rattle.refusals.specs.Number.{number_of}

-- what an answer tells, as document 02 has it: no refusal and the stream's length, or the refusal with length 0
abbrev pub told : Result ℕ Refusal → Written
told (Ok n) = record { refusal = 0; length = n }
told (Err r) = record { refusal = number_of r; length = 0 }

-- the plan of a tile of coded size w, H whose slots hold all records
abbrev pub plan_of : ℕ → ℕ → Plan
plan_of w H = record { w = w; n = stripes H; guarded = guarded H; slots = stripes H + 1 }

-- a size that is not refused, with planes long enough for it
pub record Fit (w H green_n red_n blue_n : ℕ) : Type 0 where
  pub narrow : w < 2 ^ 16
  pub whole : w % 16 ≡ 0
  pub wide : 16 ≤ w
  pub tall : 16 ≤ H
  pub low : H ≤ 32767
  pub greens : plane_rows_of H * plane_columns w green ≤ green_n
  pub reds : plane_rows_of H * plane_columns w red ≤ red_n
  pub blues : plane_rows_of H * plane_columns w blue ≤ blue_n

-- ---- coefficients that stand in the work slice and may be written
pub record Filled (w H : ℕ) (work : List ℤ) : Type 0 where
  pub tile : Tile w H work
  pub v : Coefs
  pub holds : Holds w H v work

-- what refuses them, with a stream of so many bytes lent; the answer and the stream
abbrev pub coefs_refusal : ℕ → ℕ → Coefs → ℕ → ℕ
coefs_refusal w H v n = lengths_refusal w H v ▷ on (ltb n (stream_length w H v)) 4

abbrev pub answer_by : ℕ → ℕ → Written
answer_by refusal long = record { refusal = refusal; length = cond (accepted refusal) long 0 }

abbrev pub stream_by : ℕ → ℕ → ℕ → Coefs → List ℕ → List ℕ
stream_by refusal w H v stream = cond (accepted refusal) (stream_of w H v ++ drop (stream_length w H v) stream) stream

-- ---- The whole outcome of a call of `write_stream` with planes p, a work slice and a stream: what is told, and both slices after it (primed)
pub record WriteOutcome (w H : ℕ) (p : Colour → List ℤ) (work : List ℤ) (stream : List ℕ) (r : Written) (work' : List ℤ) (stream' : List ℕ) : Type 0 where
  pub answer : r ≡ written_of w H p work stream
  pub works : work' ≡ work_left w H p work stream
  pub streams : stream' ≡ stream_left w H p work stream
