-- Counts of records as the code has them: document 02, Jobs 1 and 3.
use Rattle.std.specs.Prelude.{List, ℕ, ◌+◌, ◌≤◌}
use Rattle.format.specs.Packets.{sum}
use Rattle.format.specs.Counts.{goes_by, record_status, packet_count}
use Rattle.format.specs.Used.{record_used, packet_used}
use Rattle.records.specs.declared.Counts.{Counts}

-- no record
abbrev pub none : Counts
none = record { broken = 0; spent = 0; bits = 0 }

-- one that goes by a status and took so many bits
abbrev pub counts_of : ℕ → ℕ → Counts
counts_of status bits = record { broken = goes_by 1 status; spent = goes_by 2 status; bits = bits }

-- those of two together, and of n
abbrev pub both : Counts → Counts → Counts
both c d = record { broken = c.broken + d.broken; spent = c.spent + d.spent; bits = c.bits + d.bits }

abbrev pub together : (ℕ → Counts) → ℕ → Counts
together f n = record { broken = sum (λ i. (f i).broken) n; spent = sum (λ i. (f i).spent) n; bits = sum (λ i. (f i).bits) n }

-- each is at most n
pub record Few (n : ℕ) (c : Counts) : Type 0 where
  pub broken : c.broken ≤ n
  pub spent : c.spent ≤ n
  pub bits : c.bits ≤ n

-- of a record, and of a packet's records
abbrev pub record_counts : List ℕ → ℕ → ℕ → ℕ → Counts
record_counts p m cols i = counts_of (record_status p m cols i) (record_used p m cols i)

abbrev pub packet_counts : List ℕ → ℕ → ℕ → Counts
packet_counts p m cols = record { broken = packet_count 1 p m cols; spent = packet_count 2 p m cols; bits = packet_used p m cols }
