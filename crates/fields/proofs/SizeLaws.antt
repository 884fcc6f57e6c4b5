-- Laws of a tile's sizes. Assumes nothing.
use Rattle.std.proofs.Common.{◌≡◌, true, List, ℕ, ◌+◌, ◌*◌, ◌≤◌, ◌<◌, arith, mul-le-mul_right}
use Rattle.std.proofs.lemmas.Bool.{not-true, eqb-false}
use Rattle.format.specs.Sizes.{stripes, guarded}
use Rattle.format.specs.Packets.{control, payload_at}
use Rattle.format.proofs.RecordLaws.{payload-none}

-- a height that is no multiple of 16 has a stripe
pub guarded-some : (H : ℕ) → guarded H ≡ true → 1 ≤ stripes H
guarded-some H e = let some = eqb-false _ 0 (not-true _ e) in omega (arith, some)

-- a record's header has 28 bits at most
pub header_le : (k i : ℕ) → k < 4 → (16 + 4 * k) * i ≤ 28 * i
header_le k i h = mul-le-mul_right i (omega arith)

-- the first payload stands where the record headers end
pub first_payload : (p : List ℕ) → payload_at p 0 ≡ (control p + 1) * 16
first_payload p = payload-none p
