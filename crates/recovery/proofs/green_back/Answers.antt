-- `recovery::green_back` meets its contract. Assumes nothing.
use Rattle.std.proofs.Common.{refl, subst, ℕ, ◌*◌, ◌/◌, false}
use Rattle.refusals.specs.Number.{code_of}
use Rattle.format.specs.Sizes.{green, plane_rows}
use Rattle.format.specs.Recovery.{read_plane, l_of}
use Rattle.recovery.specs.Recovered.{IndexBack}
use Rattle.recovery.proofs.green_back.Goals as goal

pub returns-clause-back : goal.returns-clause-back
returns-clause-back c =
    let z = c.args.z in
    let out = l_of (plane_rows z.guarded z.n) (z.w / 2) (read_plane z.w c.args.plane.now) in
    let i = subst (λ (n : ℕ). IndexBack z 0 false (64 * n) c.average_rows.new.work c.index_back.new.work (code_of c.index_back.result)) c.unit-u.ensures c.index_back.ensures in
    let rows = c.average_rows.ensures.index_rows in
    record { steps = i.steps green out refl rows; details = i.details green out refl rows; refusal = i.refusal green out refl rows }
