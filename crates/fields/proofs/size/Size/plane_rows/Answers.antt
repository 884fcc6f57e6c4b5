-- `fields::size::Size::plane_rows` meets its contract. Assumes nothing.
use Rattle.std.proofs.Common.{sym, ◌∙◌, arith}
use Rattle.fields.proofs.SizeLaws.{guarded-some}
use Rattle.fields.proofs.size.Size.plane_rows.Goals as goal

pub rows_of-requires : goal.rows_of-requires
rows_of-requires c =
    ((λ e. omega (arith, c.stripes.ensures.0, guarded-some c.args.self.height (sym c.guarded.ensures ∙ e))), omega (arith, c.stripes.ensures.1))

pub returns : goal.returns
returns c =
    (rw (← c.guarded.ensures, ← c.stripes.ensures.0) c.rows_of.ensures.0, omega (arith, c.stripes.ensures.1, c.rows_of.ensures.1))
