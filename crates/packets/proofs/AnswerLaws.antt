-- Laws of the checks: an entry that is there, a stream that none refuses. Assumes nothing.
use Rattle.std.proofs.Common.{◌≡◌, true, refl, List, ℕ, ◌+◌, ◌≤◌, ◌<◌, length, lt-ltb}
use Rattle.format.specs.Strip.{valid_header}
use Rattle.format.specs.Packets.{entry_count, has_entry, block_at, packet_start, packet_length}
use Rattle.format.specs.Refusals.{directory_refusal, packets_refusal}
use Rattle.format.specs.Used.{stream_refusal}
use Rattle.format.proofs.DirectoryLaws.{inside}

-- the packet of an entry that is there lies within the stream
pub found_inside : (s : List ℕ) (g k n : ℕ) → n ≡ entry_count s (block_at s g) → directory_refusal s ≡ 0 → g < 5 → k < n → packet_start s g k + packet_length s g k ≤ length s
unfolding has_entry
found_inside s g k n is good h has = inside s g k good h (rw (← is) (lt-ltb k n has))

-- a stream whose header is valid and whose other checks pass
pub rest_passed : (s : List ℕ) → valid_header s ≡ true → directory_refusal s ≡ 0 → packets_refusal s ≡ 0 → stream_refusal s ≡ 0
unfolding stream_refusal
rest_passed s valid listed packets = rw (valid, listed, packets) refl
