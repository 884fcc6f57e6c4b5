-- `inspection::inspect_record` meets its contract. Assumes nothing.
use Rattle.std.proofs.Common.{true, ◌≡◌, sym, ap, refl, ◌∙◌, List, ℕ, ◌≤◌, ◌<◌, arith}
use Rattle.format.specs.Sizes.{group_in, multiplier, columns}
use Rattle.format.specs.Strip.{width}
use Rattle.format.specs.Packets.{kind, blocks}
use Rattle.format.specs.Used.{packet_in, has_record}
use Rattle.std.specs.Option.{is_some}
use Rattle.format.specs.Accepted.{Good}
use Rattle.format.proofs.Accepted.{stream-good}
use Rattle.format.proofs.BitLaws.{bits-lt}
use Rattle.packets.proofs.TilePackets.{packet-kind}
use Rattle.inspection.proofs.InspectLaws.{told_exit, no-packet, no_record, has-record, refused, absent, there}
use Rattle.std.proofs.lemmas.Result.{IfOk-weaker}
use Rattle.inspection.proofs.inspect_record.Goals.{After-packet_in-own}
use Rattle.inspection.proofs.inspect_record.Goals as goal

pub returns-in_err-checked-clause-outcome : goal.returns-in_err-checked-clause-outcome
returns-in_err-checked-clause-outcome c =
    let a = c.args in
    refused a.stream.now a.number a.«record» a.band.now _ _ c.in_err-checked.ensures.refusal (told_exit _ _ c.from_residual.ensures.1)

pub returns-then-number-ge-PACKETS-clause-outcome : goal.returns-then-number-ge-PACKETS-clause-outcome
returns-then-number-ge-PACKETS-clause-outcome c =
    let a = c.args in
    absent a.stream.now a.number a.«record» a.band.now _ (sym c.in_ok-checked.ensures.refusal) (no-packet _ _ _ c.if-number-ge-PACKETS.true) refl

-- the packet, once it is found
module _ (c : After-packet_in-own) where
  abbrev s : List ℕ
  s = c.args.stream.now

  abbrev q : ℕ
  q = c.args.number

  abbrev p : List ℕ
  p = c.packet_in-own.result

  pub good : Good s
  good = stream-good s (sym c.in_ok-checked.ensures.refusal)

  pub low : q < 13
  low = omega arith

  pub own : p ≡ packet_in s q
  own = c.packet_in-own.ensures ∙ ap (λ (x : List ℕ). packet_in x q) c.in_ok-checked.ensures.same

pub returns-then-blocks-record-clause-outcome : goal.returns-then-blocks-record-clause-outcome
returns-then-blocks-record-clause-outcome c =
    let k = (goal.at.returns-then-blocks-record-clause-outcome c).After-packet_in-own in
    let a = c.args in
    let past : blocks (packet_in (s k) (q k)) ≤ a.«record» = omega (arith, c.if-blocks-record.true, c.blocks-2.ensures.0, ap blocks (own k)) in
    absent (s k) (q k) a.«record» a.band.now _ (sym c.in_ok-checked.ensures.refusal) (no_record _ _ _ past) refl

pub inspect_packet-requires : goal.inspect_packet-requires
inspect_packet-requires c =
    let k = (goal.at.inspect_packet-requires c).After-packet_in-own in
    let few = bits-lt (p k) 56 16 in
    omega (arith, c.if-blocks-record.false, c.blocks-2.ensures.0, few)

pub returns-clause-outcome : goal.returns-clause-outcome
returns-clause-outcome c =
    let k = (goal.at.returns-clause-outcome c).After-packet_in-own in
    let a = c.args in
    let group = c.of-group.ensures.0 in
    let has : a.«record» < blocks (packet_in (s k) (q k)) = omega (arith, c.if-blocks-record.false, c.blocks-2.ensures.0, ap blocks (own k)) in
    let rows : c.multiplier.result ≡ multiplier (group_in (q k)) = c.multiplier.ensures.0 ∙ ap multiplier group in
    let side : c.width.result ≡ width (s k) = c.width.ensures.0 ∙ ap width c.in_ok-checked.ensures.same in
    let wide : c.columns.result ≡ columns (width (s k)) (group_in (q k)) = c.columns.ensures.0 ∙ (λ j. columns (side j) (group j)) in
    let kinds = ap kind (own k) ∙ packet-kind (s k) (good k) (q k) (low k) in
    there (s k) (q k) a.«record» a.band.now _ (sym c.in_ok-checked.ensures.refusal) (has-record _ _ _ (low k) has) (p k) _ _ (own k) rows wide kinds _ c.inspect_packet.ensures.value c.inspect_packet.ensures.band_after

pub returns-then-number-ge-PACKETS-clause-there : goal.returns-then-number-ge-PACKETS-clause-there
returns-then-number-ge-PACKETS-clause-there c = sym (no-packet _ _ _ c.if-number-ge-PACKETS.true)

pub returns-then-blocks-record-clause-there : goal.returns-then-blocks-record-clause-there
returns-then-blocks-record-clause-there c =
    let k = (goal.at.returns-then-blocks-record-clause-there c).After-packet_in-own in
    let past : blocks (packet_in (s k) (q k)) ≤ c.args.«record» = omega (arith, c.if-blocks-record.true, c.blocks-2.ensures.0, ap blocks (own k)) in
    sym (no_record _ _ _ past)

pub returns-clause-there : goal.returns-clause-there
returns-clause-there c =
    let k = (goal.at.returns-clause-there c).After-packet_in-own in
    let has : c.args.«record» < blocks (packet_in (s k) (q k)) = omega (arith, c.if-blocks-record.false, c.blocks-2.ensures.0, ap blocks (own k)) in
    IfOk-weaker c.inspect_packet.result (λ found. is_some found ≡ true) (λ found. is_some found ≡ has_record (s k) (q k) c.args.«record») (λ found e. e ∙ sym (has-record (s k) (q k) c.args.«record» (low k) has)) c.inspect_packet.ensures.there
