-- Laws of a packet's header. Assumes nothing.
use Rattle.std.proofs.Common.{◌≡◌, refl, true, false, not, ◌||◌, List, ℕ, ◌≤◌, ltb, eqb, le-ltb, eq-eqb, length}
use Rattle.format.specs.Packets.{tag, zero4, kind, zero6, blocks, marker, zero8, padding, size_of}
use Rattle.format.specs.Refusals.{each, record_refusal, packet_refusal}

module _ (p : List ℕ) where
  -- a packet whose header is right is refused by its records alone
  pub header-right : 16 ≤ length p → padding p ≡ 0 → (not (eqb (tag p) 4) || not (eqb (zero4 p) 0) || not (eqb (zero6 p) 0)) ≡ false
      → (eqb (kind p) 1 || eqb (kind p) 3) ≡ true → (eqb (blocks p) 0 || ltb 30000 (blocks p)) ≡ false
      → (not (eqb (marker p) 16) || not (eqb (zero8 p) 0)) ≡ false → size_of p ≡ length p
      → packet_refusal p ≡ each (record_refusal p) (blocks p)
  unfolding packet_refusal
  header-right long zero tagged known some marked sized = rw (le-ltb _ _ long, eq-eqb _ _ zero, tagged, known, some, marked, eq-eqb _ _ sized) refl
