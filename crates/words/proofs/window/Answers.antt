-- `words::window` meets its contract: the word that is loaded starts no later than the place, and earlier by more than 7 bits only where it is the slice's last.
-- Assumes nothing.
use Rattle.std.proofs.Common.{ℕ, ◌-◌, ◌*◌, ◌/◌, ◌%◌, ◌^◌, sym, ap, ◌∙◌, arith}
use Rattle.format.specs.Bits.{bits_at}
use Rattle.format.proofs.BitLaws.{bits-past}
use Rattle.words.proofs.WordLaws.{window-bits}
use Rattle.words.proofs.window.Goals as goal

pub returns-then-k-gt63 : goal.returns-then-k-gt63
returns-then-k-gt63 c = sym (bits-past c.args.s.now c.args.place 57 (omega arith))

pub returns : goal.returns
returns c =
    let s = c.args.s.now in
    let i = c.min-i.result in
    let place = c.args.place in
    ap (λ (w : ℕ). w * 2 ^ (place - 8 * i) % 2 ^ 64 / 2 ^ 7) c.load.ensures
    ∙ window-bits s i (place - 8 * i) (λ j. (c.type_inv.s j).fits) (omega arith) (λ h. omega arith)
    ∙ ap (λ (p : ℕ). bits_at s p 57) (omega arith)
