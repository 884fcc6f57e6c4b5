-- Packet p of a stream that no check refuses, of 13 in the order of the checks. Assumes nothing.
use Rattle.std.proofs.Common.{◌≡◌, sym, ap, ◌∙◌, List, ℕ, ◌+◌, ◌≤◌, ◌<◌, length}
use Rattle.format.specs.Sizes.{index, number, group_in, colour_in, components}
use Rattle.format.specs.Packets.{packet_start, packet_length, packet_of, kind}
use Rattle.format.specs.Used.{packet_in, stream_refusal}
use Rattle.format.specs.Accepted.{Good, PacketOk}
use Rattle.format.proofs.Accepted.{stream-good}
use Rattle.format.proofs.Numbered.{number_in, index_in, packet-present}

module _ (s : List ℕ) (good : Good s) (p : ℕ) (h : p < 13) where
  pub ok : PacketOk s (group_in p) (index (colour_in p))
  ok = good.packets (group_in p) (colour_in p) (packet-present p h)

  pub own : packet_in s p ≡ packet_of s (number (group_in p)) (index (colour_in p))
  own = λ j. packet_of s (sym (number_in p h) j) (sym (index_in p h) j)

  -- it lies in the stream
  pub packet_there : packet_start s (number (group_in p)) (index (colour_in p)) + packet_length s (number (group_in p)) (index (colour_in p)) ≤ length s
  packet_there = ok.within

  pub packet_long : 16 ≤ length (packet_in s p)
  packet_long = rw own ok.long

  pub packet-kind : kind (packet_in s p) ≡ components (group_in p)
  packet-kind = ap kind own ∙ ok.kinds

-- the same, of a stream that no check of its own bytes refuses
module _ (s : List ℕ) (passed : stream_refusal s ≡ 0) (p : ℕ) (h : p < 13) where
  pub there : packet_start s (number (group_in p)) (index (colour_in p)) + packet_length s (number (group_in p)) (index (colour_in p)) ≤ length s
  there = packet_there s (stream-good s passed) p h

  pub long_enough : (q : List ℕ) → q ≡ packet_of s (number (group_in p)) (index (colour_in p)) → (16 ≤ length q) × (q ≡ packet_in s p)
  long_enough q is = let same = is ∙ sym (own s (stream-good s passed) p h) in (rw same (packet_long s (stream-good s passed) p h), same)
