-- `records::decode_packet` meets its contract: a walk from the first record on, in as many slots as records. Assumes nothing.
use Rattle.std.proofs.Common.{refl, ap, ◌∙◌, ◌+◌, arith}
use Rattle.lists.proofs.Laid.{laid_same}
use Rattle.records.specs.declared.Walked.{Walked}
use Rattle.records.proofs.Packet.{none-few, packet-counted, packet-laid}
use Rattle.records.proofs.Finished.{finished-none}
use Rattle.records.proofs.decode_packet.Goals.{After-before_first-v, After-next_records-r}
use Rattle.records.proofs.decode_packet.Goals as goal

pub next_records-r-requires : goal.next_records-r-requires
next_records-r-requires c =
    let b = c.before_first-v.ensures in
    let p = c.requires in record {
      in_bounds = (omega (arith, p.0), b.1, none-few _ b.2, omega arith);
      shape = (c.args.shape.few, c.args.shape.short, omega arith, omega (arith, p.2));
    }

pub returns : goal.returns
returns c =
    let d = (goal.at.returns c).After-next_records-r in
    let f = (goal.at.After-next_records-r d).After-before_first-v in
    let s = f in
    let a = s.args in
    let p = s.requires in
    let q = a.packet.now in
    let e = d.next_records-r.ensures in
    let b = f.before_first-v.ensures in
    let plain = laid_same _ _ _ _ a.band.now a.n (λ k _. refl) (λ k _. finished-none a.shape.cols (0 + k) _) in record {
      value = ap (λ (r : Walked). r.counts) e.value ∙ packet-counted q a.shape.m a.shape.cols _ b.0 b.2 a.n p.1;
      band_after = e.work_after ∙ plain ∙ packet-laid q a.shape.m a.shape.cols _ b.0 b.2 a.n a.band.now p.2;
    }
