-- From a stream that no check refused to what decoding one of its packets asks and gives. Assumes nothing.
use Rattle.std.proofs.Common.{◌≡◌, refl, sym, ap, ◌∙◌, List, ℕ, ◌+◌, ◌*◌, ◌%◌, ◌^◌, ◌≤◌, ◌<◌, zero-add, add-one, arith, ℤ}
use Rattle.lists.specs.Lists.{laid}
use Rattle.lists.proofs.Laid.{laid_same}
use Rattle.format.specs.Coefficients.{record_values, coefs}
use Rattle.format.specs.Counts.{group_count, broken_of, spent_of}
use Rattle.format.specs.Used.{packet_in, group_used, bits_of}
use Rattle.format.specs.Packets.{sum, packet_of, kind, blocks, payload_at}
use Rattle.format.specs.Sizes.{Colour, index, Group, number, group_in, colour_in, multiplier, components, columns}
use Rattle.format.specs.Strip.{width}
use Rattle.format.specs.Accepted.{Good}
use Rattle.format.proofs.Numbered.{packets-sum, multiplier-most, columns-most}
use Rattle.packets.proofs.TilePackets.{ok, packet-kind}
use Rattle.packets.proofs.TilePackets as tile_packets
use Rattle.passes.specs.declared.Plan.{Plan}
use Rattle.passes.specs.Plan.{unit_of, final_units, Fits}
use Rattle.records.specs.declared.Counts.{Counts}
use Rattle.records.specs.declared.Finish.{Finish}
use Rattle.records.specs.declared.Held.{Held}
use Rattle.records.specs.declared.Walked.{Walked}
use Rattle.records.specs.Counted.{none, both, together, Few, packet_counts}
use Rattle.records.specs.Finished.{edges_end, finished_by}
use Rattle.records.specs.Record.{walked_by, values_by}
use Rattle.records.proofs.Packet.{together-few, few-more, packet-few, none-few, values-all, packet-counted}
use Rattle.levels.specs.Block.{stood, record_lines, group_at}
use Rattle.levels.proofs.Blocks.{group-room}
use Rattle.tile.specs.Packets.{Measured, held_of, finish_of, group_counts, tile_counts, packet_laid}
use Rattle.tile.proofs.RecordLaws.{edges_fit, finished-stood}

module _ (s : List ℕ) (good : Good s) (z : Plan) (m : Measured s z) (fits : Fits z 0) (slots : z.slots ≡ z.n + 1) (p : ℕ) (h : p < 13) where
  abbrev g : Group
  g = group_in p

  abbrev i : Colour
  i = colour_in p

  module _ (q : List ℕ) (eq : q ≡ packet_in s p) where
    own : q ≡ packet_of s (number g) (index i)
    own = eq ∙ tile_packets.own s good p h

    kinds : kind q ≡ components g
    kinds = ap kind eq ∙ packet-kind s good p h

    module _ (d : Held) (ed : d ≡ held_of z 0 g) (f : Finish) (ef : f ≡ finish_of z g i) where
      -- what its records ask
      pub records-ask : (v : Walked) → v.offset < 2 ^ 35 → v.counts ≡ none → (size : ℕ) → final_units * unit_of z ≤ size
          → ((0 + (z.n + 1) ≤ 2 ^ 16) × (v.offset < 2 ^ 35) × Few (2 ^ 59) v.counts × (edges_end f ≤ kind q * d.m))
          × ((d.m ≤ 8) × (d.cols < 2 ^ 16) × (z.n + 1 ≤ d.slots) × (d.at + d.slots * (kind q * d.m * d.cols) ≤ size))
      records-ask v o n size room =
          let few : z.n ≤ 2048 = omega (arith, m.tall, good.low) in
          let narrow : columns z.w g < 2 ^ 16 = omega (arith, columns-most z.w g, m.wide, good.narrow) in
          let fit = group-room z 0 fits.0.whole g in
          rw (ed, ef, kinds) (
            (omega (arith, few), o, none-few v.counts n, edges_fit z i g),
            (multiplier-most g, narrow, omega (arith, slots), omega (arith, fit, room)),
          )

      module _ (v : Walked) (o : v.offset ≡ payload_at q 0) (n : v.counts ≡ none) where
        pub records-laid : (work after : List ℤ)
            → after ≡ laid (λ k. d.at + (0 + k) % d.slots * (kind q * d.m * d.cols)) (λ k. finished_by f d.cols (0 + k) (values_by q d.m d.cols 0 v k)) work (z.n + 1)
            → after ≡ packet_laid s z p 0 (z.n + 1) work
        records-laid work after e =
            e
            ∙ (λ j. laid (λ k. (ed j).at + (0 + k) % (ed j).slots * (kind q * (ed j).m * (ed j).cols)) (λ k. finished_by (ef j) (ed j).cols (0 + k) (values_by q (ed j).m (ed j).cols 0 v k)) work (z.n + 1))
            ∙ laid_same _ _ _ _ work (z.n + 1)
            (λ k _. ap (λ (x : ℕ). group_at z 0 g + (0 + k) % z.slots * (x * multiplier g * columns z.w g)) kinds)
            (λ k _. record_is k)
          where
            record_is : (k : ℕ) → finished_by (finish_of z g i) (columns z.w g) (0 + k) (values_by q (multiplier g) (columns z.w g) 0 v k) ≡ record_lines z.w g (stood z.guarded z.n (coefs s) g i) (0 + k)
            record_is k =
                let zero = zero-add k in
                (λ j. finished_by (finish_of z g i) (columns z.w g) (zero j) (values-all q (multiplier g) (columns z.w g) v o n k j))
                ∙ ap (λ (t : List ℕ). finished_by (finish_of z g i) (columns z.w g) k (record_values t (multiplier g) (columns z.w g) k)) own
                ∙ finished-stood s z m i k g (ok s good p h).kinds
                ∙ ap (record_lines z.w g (stood z.guarded z.n (coefs s) g i)) (sym zero)

        pub records-counted : (r : Walked) → r ≡ walked_by q d.m d.cols 0 v (z.n + 1) → r.counts ≡ group_counts s g i
        unfolding group_count group_used
        records-counted r e =
            let few : blocks q ≤ z.n + 1 = omega (arith, ap blocks own, (ok s good p h).few, m.tall) in
            ap (λ (x : Walked). x.counts) e
            ∙ (λ j. (walked_by q (ed j).m (ed j).cols 0 v (z.n + 1)).counts)
            ∙ packet-counted q (multiplier g) (columns z.w g) v o n (z.n + 1) few
            ∙ (λ j. packet_counts (own j) (multiplier g) (columns (m.wide j) g))

-- ---- counts, packet by packet: those of the first p packets
abbrev pub counts_by : List ℕ → ℕ → Counts
counts_by s p = together (λ q. group_counts s (group_in q) (colour_in q)) p

pub counts_start : (s : List ℕ) → none ≡ counts_by s 0
unfolding sum
counts_start s = refl

pub counts_step : (s : List ℕ) (p : ℕ) (c d : Counts) → c ≡ counts_by s p → d ≡ group_counts s (group_in p) (colour_in p) → both c d ≡ counts_by s (p + 1)
unfolding sum
counts_step s p c d e f = rw add-one (λ j. both (e j) (f j))

pub counts_all : (s : List ℕ) → counts_by s 13 ≡ tile_counts s
unfolding broken_of spent_of bits_of
counts_all s = λ j. record { broken = packets-sum (group_count 1 s) j; spent = packets-sum (group_count 2 s) j; bits = packets-sum (group_used s) j }

-- ---- they are few
group-few : (s : List ℕ) (g : Group) (i : Colour) → Few (2 ^ 35) (group_counts s g i)
unfolding group_count group_used
group-few s g i = packet-few (packet_of s (number g) (index i)) (multiplier g) (columns (width s) g)

pub packet-below : (s : List ℕ) (g : Group) (i : Colour) (c : Counts) → c ≡ group_counts s g i → Few (2 ^ 60) c
packet-below s g i c e = rw e (few-more (2 ^ 35) (2 ^ 60) _ (omega arith) (group-few s g i))

pub counts-below : (s : List ℕ) (p : ℕ) (c : Counts) → p ≤ 13 → c ≡ counts_by s p → Few (2 ^ 60) c
counts-below s p c h e =
    rw e (few-more (p * 2 ^ 35) (2 ^ 60) _ (omega arith) (together-few _ (2 ^ 35) (λ q. group-few s (group_in q) (colour_in q)) p))

pub tile-below : (s : List ℕ) (c : Counts) → c ≡ tile_counts s → Few (2 ^ 60) c
tile-below s c e = counts-below s 13 c (omega arith) (e ∙ sym (counts_all s))
