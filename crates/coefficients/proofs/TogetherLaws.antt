-- What a packet, sizes and a band that go together have: all that `decode_packet` asks. Assumes nothing.
use Rattle.std.proofs.Common.{◌≡◌, List, true, ℕ, ◌*◌, ◌^◌, ◌≤◌, ◌<◌, length, leb-true, ltb-true, eqb-true}
use Rattle.std.proofs.Math.Bool.{and-eq-true_iff}
use Rattle.format.specs.Packets.{kind, blocks}
use Rattle.coefficients.specs.Together.{together}

pub together-holds : (p : List ℕ) (m cols n size : ℕ) → together p m cols n size ≡ true
    → (16 ≤ length p) × ((m ≤ 8) × (cols < 2 ^ 16)) × ((n < 2 ^ 16) × (blocks p ≤ n) × (size ≡ n * (kind p * m * cols)))
unfolding together
together-holds p m cols n size e =
    let a = (and-eq-true_iff _ _).0 e in
    let b = (and-eq-true_iff _ _).0 a.0 in
    let c = (and-eq-true_iff _ _).0 b.0 in
    let d = (and-eq-true_iff _ _).0 c.0 in
    let f = (and-eq-true_iff _ _).0 d.0 in
    (leb-true _ _ f.0, (leb-true _ _ f.1, ltb-true _ _ d.1), (ltb-true _ _ c.1, leb-true _ _ b.1, eqb-true _ _ a.1))
