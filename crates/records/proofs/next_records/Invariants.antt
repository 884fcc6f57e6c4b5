-- `records::next_records` meets its contract: k records are laid, each into its slot. Assumes nothing.
use Rattle.std.proofs.Common.{◌≡◌, List, ℕ, ◌+◌, ◌*◌, ◌%◌, ℤ, length}
use Rattle.lists.specs.Lists.{laid}
use Rattle.format.specs.Packets.{kind}
use Rattle.records.specs.Record.{walked_by, values_by}
use Rattle.records.specs.Finished.{finished_by}
use Rattle.records.specs.declared.Walked.{Walked}
use Rattle.records.specs.declared.Held.{Held}
use Rattle.records.specs.declared.Finish.{Finish}
use Rattle.records.proofs.next_records.Given as goal

-- where record from + k is put, and what is put there
abbrev pub placed : List ℕ → ℕ → Held → ℕ → ℕ
placed p from h k = h.at + (from + k) % h.slots * (kind p * h.m * h.cols)

abbrev pub done : List ℕ → ℕ → Walked → Held → Finish → ℕ → List ℤ
done p from v h f k = finished_by f h.cols (from + k) (values_by p h.m h.cols from v k)

abbrev pub invariant-loop-k : goal.invariant-loop-k
invariant-loop-k l =
    (length l.work ≡ length l.initial.work) × (l.r ≡ walked_by l.packet l.h.m l.h.cols l.from l.initial.r l.k)
    × (l.work ≡ laid (placed l.packet l.from l.h) (done l.packet l.from l.initial.r l.h l.f) l.initial.work l.k)
