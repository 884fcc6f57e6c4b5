-- `out_byte` meets its contract. Assumes nothing.
use Rattle.std.proofs.Common.{◌≡◌, ℕ, ◌-◌, ◌*◌, ◌%◌, ◌^◌, refl, ap, ◌∙◌, arith, shl_exact, one-mul, lit<}
use Rattle.codes.proofs.Pushed.{byte-lt, wrote-out}
use Rattle.codes.proofs.BitWriter.out_byte.Goals as goal

pub overflow_cast-self : goal.overflow_cast-self
overflow_cast-self c =
    let s = c.args.self.now in
    omega (arith, byte-lt s.cache s.held c.requires.0 c.requires.2)

pub returns-clause-wrote : goal.returns-clause-wrote
returns-clause-wrote c old b h =
    let s = c.args.self.now in
    let e : 1 * 2 ^ (s.held - 8) % 2 ^ 64 ≡ 2 ^ (s.held - 8) = shl_exact {a = 1} 1 (s.held - 8) 64 (lit< tt) (omega arith) ∙ one-mul (2 ^ (s.held - 8)) in
    wrote-out old s.out.now b s.place s.cache s.held _ _ c.requires.0 c.requires.3 refl (ap (λ (k : ℕ). s.cache % k) e) h
