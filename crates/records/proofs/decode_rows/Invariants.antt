-- `decode_rows` meets its contract. Assumes nothing.
use Rattle.std.proofs.Common.{◌≡◌, List, ℕ, ◌-◌, ◌*◌, ℤ, length}
use Rattle.format.specs.Packets.{selector}
use Rattle.format.specs.Coefficients.{rows_of}
use Rattle.format.specs.Counts.{first_status}
use Rattle.format.specs.Used.{rows_used}
use Rattle.bits.specs.declared.BitReader.{BitReader}
use Rattle.bits.specs.View.{as_reader, Ready}
use Rattle.records.proofs.Walk.{Walk}
use Rattle.records.proofs.decode_rows.Given as goal

-- the numbers of record i, all of them
abbrev pub all : List ℕ → ℕ → ℕ → ℕ → ℕ → BitReader → List ℤ
all p i m cols count r = (rows_of p (selector p i) m cols count 0 (as_reader r)).values

abbrev pub invariant-loop-k : goal.invariant-loop-k
invariant-loop-k l =
    Walk l.packet (selector l.packet l.i) l.shape.m l.shape.cols (as_reader l.initial.r) (all l.packet l.i l.shape.m l.shape.cols l.count l.initial.r) l.band (l.k * l.shape.cols) (l.count - l.k) l.k (as_reader l.r)
    × (length l.band ≡ length l.initial.band) × Ready l.packet l.r
    × ((as_reader l.r).status ≡ 0) × (first_status l.packet (selector l.packet l.i) l.shape.m l.shape.cols l.k (as_reader l.initial.r) ≡ 0)
    × (l.bits ≡ rows_used l.packet (selector l.packet l.i) l.shape.m l.shape.cols l.k (as_reader l.initial.r))
