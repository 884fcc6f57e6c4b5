-- `then` meets its contract. Assumes nothing.
use Rattle.std.proofs.Common.{refl, arith}
use Rattle.codes.proofs.Pushed.{behind, number-join}
use Rattle.codes.proofs.Code.then.Goals as goal

pub overflow_add-result-2 : goal.overflow_add-result-2
overflow_add-result-2 c =
    let a = c.args.self in
    let b = c.args.b in
    let h = behind a.v a.n b.v b.n a.fits b.fits (omega arith) in
    rw h.whole (omega (arith, h.fits))

pub invariant_of-result : goal.invariant_of-result
invariant_of-result c =
    let a = c.args.self in
    let b = c.args.b in
    let h = behind a.v a.n b.v b.n a.fits b.fits (omega arith) in
    record { short = omega arith; fits = rw h.whole h.less }

pub returns : goal.returns
returns c =
    let a = c.args.self in
    let b = c.args.b in
    let h = behind a.v a.n b.v b.n a.fits b.fits (omega arith) in
    (refl, rw h.whole (number-join a.n a.v b.n b.v b.fits))
