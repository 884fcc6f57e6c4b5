-- `writer::recover_and_write` meets its contract. Assumes nothing.
use Rattle.std.proofs.Common.{◌≡◌, sym, ap, ◌∙◌, subst, ℕ, ◌+◌, List, ℤ, length}
use Rattle.format.specs.Sizes.{Colour, stripes, guarded, work_length}
use Rattle.format.specs.Recovery as format
use Rattle.format.specs.Tile.{slice}
use Rattle.format.specs.Writing.{numbers_refusal, stream_length}
use Rattle.passes.specs.declared.Plan.{Plan}
use Rattle.recovery.specs.Recovered.{Room, Recovered}
use Rattle.refusals.proofs.Laws.{not_zero}
use Rattle.writer.specs.Write.{plan_of, answer_by, stream_by}
use Rattle.writer.proofs.WriteLaws.{told_exit, refused-answer, refused-stream}
use Rattle.writer.proofs.PlaneLaws.{plan-room, holds, filled, numbers-refused, numbers-fine}
use Rattle.writer.proofs.recover_and_write.Goals.{After-guarded, After-recover}
use Rattle.writer.proofs.recover_and_write.Goals as goal

-- the plan is that of the coded size
planned : (c : After-guarded) → record { w = c.args.size.width; n = c.stripes-n.result; guarded = c.guarded.result; slots = c.stripes-n.result + 1 } ≡ plan_of c.args.size.width c.args.size.height
planned c = λ i. record { w = c.args.size.width; n = c.stripes-n.ensures.0 i; guarded = c.guarded.ensures i; slots = c.stripes-n.ensures.0 i + 1 }

pub recover-requires : goal.recover-requires
recover-requires c =
    let a = c.args in
    let g = (goal.at.recover-requires c).After-guarded in
    subst (λ (z : Plan). Room z (length a.work.now) (length a.full.now) (length a.red.now) (length a.blue.now)) (sym (planned g)) (plan-room a.size.width a.size.height _ _ _ c.requires.0 _ c.requires.1)

-- the planes, what their numbers refuse, and what work holds
module _ (c : After-recover) where
  abbrev lent : Colour → List ℤ
  lent = let a = c.args in slice a.full.now a.red.now a.blue.now

  abbrev g : After-guarded
  g = (goal.at.After-recover c).After-guarded

  pub numbers : numbers_refusal c.guarded.result c.stripes-n.result c.args.size.width lent ≡ numbers_refusal (guarded c.args.size.height) (stripes c.args.size.height) c.args.size.width lent
  numbers = ap (λ (z : Plan). numbers_refusal z.guarded z.n z.w lent) (planned g)

  pub made : Recovered (plan_of c.args.size.width c.args.size.height) lent c.recover.new.work
  made = subst (λ (z : Plan). Recovered z lent c.recover.new.work) (planned g) c.recover.ensures.recovered

  pub long : length c.recover.new.work ≡ work_length c.args.size.width c.args.size.height
  long = c.recover.ensures.same_length ∙ c.requires.1

pub returns-in_err-recover : goal.returns-in_err-recover
returns-in_err-recover c =
    let m = (goal.at.returns-in_err-recover c).After-recover in
    let a = c.args in
    let some = not_zero c.in_err-recover.field-0.0 in
    let e = numbers-refused a.size.width a.size.height (length a.stream.now) (lent m) _ (c.in_err-recover.ensures.value ∙ numbers m) some in record {
      value = told_exit _ _ c.from_residual.ensures.1 ∙ refused-answer _ _ _ some e;
      same_length = c.recover.ensures.same_length;
      stream_after = refused-stream _ _ a.size.width a.size.height _ a.stream.now some e;
    }

pub write_coefficients-requires : goal.write_coefficients-requires
write_coefficients-requires c =
    let m = (goal.at.write_coefficients-requires c).After-recover in
    filled c.args.size.width c.args.size.height _ _ _ c.requires.0 (lent m) _ (long m) (made m) (sym (c.in_ok-recover.ensures.value ∙ numbers m))

pub returns : goal.returns
returns c =
    let m = (goal.at.returns c).After-recover in
    let a = c.args in
    let v = format.recover a.size.width a.size.height (lent m) in
    let h = holds a.size.width a.size.height _ _ _ c.requires.0 (lent m) c.recover.new.work (long m) (made m) in
    let q = numbers-fine a.size.width a.size.height (length a.stream.now) (lent m) (sym (c.in_ok-recover.ensures.value ∙ numbers m)) in record {
      value = c.write_coefficients.ensures.value v h ∙ ap (λ (n : ℕ). answer_by n (stream_length a.size.width a.size.height v)) q;
      same_length = c.recover.ensures.same_length;
      stream_after = c.write_coefficients.ensures.stream_after v h ∙ ap (λ (n : ℕ). stream_by n a.size.width a.size.height v a.stream.now) q;
    }
