-- `tile::decode_stream` meets its contract. Assumes nothing.
use Rattle.std.proofs.Common.{◌≡◌, sym, ap, ◌∙◌, arith}
use Rattle.format.specs.Sizes.{green, red, blue}
use Rattle.format.specs.Tile.{Lengths}
use Rattle.format.proofs.Accepted.{accepted}
use Rattle.refusals.proofs.Laws.{not_zero}
use Rattle.packets.proofs.LengthLaws.{needed_is}
use Rattle.tile.specs.Decode.{refusal_of}
use Rattle.tile.proofs.PacketLaws.{tile-below}
use Rattle.tile.proofs.AfterLaws.{refused-exit, refused-plane, refused-work, accepted-answer, accepted-plane, accepted-work}
use Rattle.tile.proofs.decode_stream.Goals as goal

pub returns-in_err-accepted : goal.returns-in_err-accepted
returns-in_err-accepted c =
    let a = c.args in
    let s = a.stream.now in
    let k = refusal_of s a.green.now a.red.now a.blue.now a.work.now in
    let is = c.in_err-accepted.ensures.refusal in
    let some : k ≡ 0 → ⊥ = λ z. not_zero _ (is ∙ z) in
    record {
      answer = refused-exit s k some _ _ is c.from_residual.ensures.1;
      greens = refused-plane s k some green a.green.now;
      reds = refused-plane s k some red a.red.now;
      blues = refused-plane s k some blue a.blue.now;
      works = refused-work s k some a.work.now;
    }

pub decode_accepted-counts-requires : goal.decode_accepted-counts-requires
decode_accepted-counts-requires c = rw c.in_ok-accepted.ensures.same (accepted _ _ _ _ _ (sym c.in_ok-accepted.ensures.refusal))

-- stopped is the sum of both counts
pub overflow_add-result : goal.overflow_add-result
overflow_add-result c = omega (arith, tile-below _ _ c.decode_accepted-counts.ensures.value)

pub returns : goal.returns
returns c =
    let a = c.args in
    let s = a.stream.now in
    let none = sym c.in_ok-accepted.ensures.refusal in
    let is = rw c.in_ok-accepted.ensures.same at (needed_is _ c.in_ok-accepted.accepted.need c.in_ok-accepted.accepted.needed) in
    let n = rw c.in_ok-accepted.ensures.same at c.decode_accepted-counts.ensures in
    record {
      answer = accepted-answer s _ none _ _ _ _ (ap (λ (x : Lengths). x.width) is) (ap (λ (x : Lengths). x.height) is) (ap (λ (x : Lengths). x.rows) is) n.value;
      greens = accepted-plane s _ none green a.green.now _ n.slices_after.0;
      reds = accepted-plane s _ none red a.red.now _ n.slices_after.1;
      blues = accepted-plane s _ none blue a.blue.now _ n.slices_after.2;
      works = accepted-work s _ none a.work.now _ n.slices_after.3;
    }
