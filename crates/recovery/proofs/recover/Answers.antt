-- `recovery::recover` meets its contract. Assumes nothing.
use Rattle.std.proofs.Common.{arith, ◌≡◌, ◌∙◌, subst, ℕ, ◌*◌}
use Rattle.refusals.specs.Number.{code_of}
use Rattle.refusals.proofs.Laws.{code_of-and-4}
use Rattle.passes.specs.Plan.{unit_of}
use Rattle.recovery.specs.Recovered.{ColourBack}
use Rattle.recovery.proofs.RecoverLaws.{recovered, refused}
use Rattle.recovery.proofs.recover.Goals.{After-colour_back-b, After-colour_back-c}
use Rattle.recovery.proofs.recover.Goals as goal

-- red's block is the second, blue's the third
second : (c : After-colour_back-b) → let z = c.args.z in
    ColourBack z (64 * unit_of z) c.args.red.now c.green_back-a.new.work c.colour_back-b.new.work (code_of c.colour_back-b.result)
second c =
    subst (λ (n : ℕ). ColourBack c.args.z (64 * n) c.args.red.now c.green_back-a.new.work c.colour_back-b.new.work (code_of c.colour_back-b.result)) c.unit-n.ensures c.colour_back-b.ensures

third : (c : After-colour_back-c) → let z = c.args.z in
    ColourBack z (2 * (64 * unit_of z)) c.args.blue.now c.colour_back-b.new.work c.colour_back-c.new.work (code_of c.colour_back-c.result)
third c =
    let e : 2 * (64 * c.unit-n.result) ≡ 2 * (64 * unit_of c.args.z) = omega (arith, c.unit-n.ensures) in
    subst (λ (n : ℕ). ColourBack c.args.z n c.args.blue.now c.colour_back-b.new.work c.colour_back-c.new.work (code_of c.colour_back-c.result)) e c.colour_back-c.ensures

pub returns : goal.returns
returns c =
    let d = (goal.at.returns c).After-colour_back-c in
    let b = second (goal.at.After-colour_back-c d).After-colour_back-b in
    let g = c.args in
    let k = c.requires in record {
      value = code_of-and-4 _ _ _ _ _ c.and.ensures c.and-2.ensures _ _ c.and-3.ensures
          ∙ refused g.z _ _ _ _ k g.full.now g.red.now g.blue.now _ _ _ _ _ _ _ _ c.green_back-a.ensures.back b (third d) c.details_back-d.ensures;
      recovered = recovered g.z _ _ _ _ k g.full.now g.red.now g.blue.now _ _ _ _ _ _ _ _ c.green_back-a.ensures.back b (third d) c.details_back-d.ensures;
      same_length = c.details_back-d.ensures.long ∙ (third d).long ∙ b.long ∙ c.green_back-a.ensures.same_length;
    }
