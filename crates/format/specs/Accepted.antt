-- An accepted stream: what is known of it once no check refuses.
use Rattle.std.specs.Prelude.{◌≡◌, List, true, ◌⊎◌, ℕ, ◌+◌, ◌*◌, ◌%◌, ◌^◌, ◌≤◌, ◌<◌, length}
use Rattle.format.specs.Sizes.{Colour, green, red, blue, index, Group, number, present, stripes, guarded, components, plane_rows_of, plane_columns, work_length}
use Rattle.format.specs.Strip.{width, coded_height, valid_header}
use Rattle.format.specs.Packets.{packet_start, packet_length, has_entry, packet_of, kind, blocks, size_of, record_bit, record_length, payload_at}

-- packet k of group g: it lies within the stream, and its records lie within it
pub record PacketOk (s : List ℕ) (g : Group) (k : ℕ) : Type 0 where
  pub entry : has_entry s (number g) k ≡ true
  pub within : packet_start s (number g) k + packet_length s (number g) k ≤ length s
  pub bytes : length (packet_of s (number g) k) ≡ packet_length s (number g) k
  pub long : 16 ≤ length (packet_of s (number g) k)
  pub size : size_of (packet_of s (number g) k) ≡ length (packet_of s (number g) k)
  pub kinds : kind (packet_of s (number g) k) ≡ components g
  pub count : (blocks (packet_of s (number g) k) ≡ stripes (coded_height s) + 1)
      ⊎ ((guarded (coded_height s) ≡ true) × (blocks (packet_of s (number g) k) ≡ stripes (coded_height s)))
  pub few : blocks (packet_of s (number g) k) ≤ stripes (coded_height s) + 1
  pub headers : (i : ℕ) → i < blocks (packet_of s (number g) k) → record_bit (packet_of s (number g) k) (i + 1) ≤ length (packet_of s (number g) k) * 8
  pub payloads : (i : ℕ) → i < blocks (packet_of s (number g) k)
      → payload_at (packet_of s (number g) k) i + record_length (packet_of s (number g) k) i ≤ length (packet_of s (number g) k)

-- a stream that no check of its own bytes refuses
pub record Good (s : List ℕ) : Type 0 where
  pub valid : valid_header s ≡ true
  pub long : 128 ≤ length s
  pub whole : width s % 16 ≡ 0
  pub wide : 16 ≤ width s
  pub narrow : width s < 2 ^ 16
  pub tall : 16 ≤ coded_height s
  pub low : coded_height s ≤ 32767
  pub packets : (g : Group) (i : Colour) → present g i ≡ true → PacketOk s g (index i)

-- an accepted stream, with lent slices so long
pub record Accepted (s : List ℕ) (green_n red_n blue_n work_n : ℕ) : Type 0 where
  pub good : Good s
  pub small : plane_rows_of (coded_height s) * width s ≤ 134217728
  pub greens : plane_rows_of (coded_height s) * plane_columns (width s) green ≤ green_n
  pub reds : plane_rows_of (coded_height s) * plane_columns (width s) red ≤ red_n
  pub blues : plane_rows_of (coded_height s) * plane_columns (width s) blue ≤ blue_n
  pub works : work_length (width s) (coded_height s) ≤ work_n
