-- `put` meets its contract: the bits that go out one byte after the other are the same. Assumes nothing.
use Rattle.std.proofs.Common.{ℕ, ◌+◌, refl, ap, ◌∙◌, arith}
use Rattle.codes.proofs.Pushed.{length-number, behind, wrote-more}
use Rattle.codes.proofs.BitWriter.put.Goals as goal

pub overflow_add-self : goal.overflow_add-self
overflow_add-self c =
    let s = c.args.self.now in
    let a = c.args.c in
    let h = behind s.cache s.held a.v a.n c.requires.small a.fits (omega (arith, a.short)) in
    rw h.whole (omega (arith, h.fits))

pub loop-self-init : goal.loop-self-init
loop-self-init c =
    let s = c.args.self.now in
    let a = c.args.c in
    let h = behind s.cache s.held a.v a.n c.requires.small a.fits (omega (arith, a.short)) in
    record { same = refl; long = refl; short = omega (arith, a.short); small = rw h.whole h.less; on = refl; room = omega arith; wrote = λ old b x. x }

pub loop-self-preserved : goal.loop-self-preserved
loop-self-preserved c =
    let i = c.loop-self.invariant in
    let e = c.out_byte.ensures in
    record {
      same = e.same ∙ i.same;
      long = e.place.3 ∙ i.long;
      short = omega (arith, e.place, i.short);
      small = e.place.2;
      on = omega (arith, e.place, i.on);
      room = omega (arith, e.place, i.room);
      wrote = λ old b x. e.wrote old b (i.wrote old b x);
    }

pub returns : goal.returns
returns c =
    let s = c.args.self.now in
    let a = c.args.c in
    let i = c.loop-self.invariant in
    let h = behind s.cache s.held a.v a.n c.requires.small a.fits (omega (arith, a.short)) in
    record {
      same = i.same;
      few = omega arith;
      small = i.small;
      on = omega (arith, i.on, length-number a.n a.v);
      long = i.long;
      wrote = λ old b x. i.wrote old _ (wrote-more old s.out.now b s.place s.cache s.held a.n a.v _ a.fits (ap (λ (k : ℕ). k + a.v) h.whole) x);
    }
