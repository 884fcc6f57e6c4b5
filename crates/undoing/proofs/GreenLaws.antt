-- The details and the averages of green's rows are `d_of` and `l_of` of its plane. Assumes nothing.
use Rattle.std.proofs.Common.{◌≡◌, ap, ◌∙◌, List, ℕ, ◌+◌, ◌-◌, ◌*◌, ◌<◌, min, ℤ, pos}
use Rattle.lists.specs.Lists.{part, tab}
use Rattle.lists.proofs.Tab.{get_or-tab, get_d_part, tab-same}
use Rattle.format.specs.Recovery.{d_of, l_of, read_plane}
use Rattle.lifting.specs.Lift.{at}
use Rattle.undoing.specs.Undo.{details_row, averages_row}
use Rattle.undoing.proofs.UndoLaws.{detail-is, average-is}

module _ (count c : ℕ) (plane : List ℤ) (y : ℕ) where
  -- row y of the plane
  row_reads : (k : ℕ) → k < 2 * c → at (part plane (y * (2 * c)) (2 * c)) k ≡ read_plane (2 * c) plane y k
  row_reads k b = get_d_part plane (y * (2 * c)) (2 * c) k (pos 0) b

  pub details-are : (j : ℕ) → j ≡ min (y + 1) (count - 1)
      → details_row c (part plane (y * (2 * c)) (2 * c)) (part plane (j * (2 * c)) (2 * c)) ≡ tab c (d_of count (read_plane (2 * c) plane) y)
  details-are j e =
      tab-same c _ _
      (detail-is count c (read_plane (2 * c) plane) y (part plane (y * (2 * c)) (2 * c)) (part plane (j * (2 * c)) (2 * c)) row_reads
      (λ k b. get_d_part plane (j * (2 * c)) (2 * c) k (pos 0) b ∙ ap (λ (r : ℕ). read_plane (2 * c) plane r k) e))

  pub averages-are : (prev cur : List ℤ) → prev ≡ tab c (d_of count (read_plane (2 * c) plane) (y - 1)) → cur ≡ tab c (d_of count (read_plane (2 * c) plane) y)
      → averages_row c (part plane (y * (2 * c)) (2 * c)) prev cur ≡ tab c (l_of count c (read_plane (2 * c) plane) y)
  averages-are prev cur p q =
      tab-same c _ _
      (average-is count c (read_plane (2 * c) plane) y (part plane (y * (2 * c)) (2 * c)) prev cur row_reads
      (λ k b. ap (λ (l : List ℤ). at l k) p ∙ get_or-tab c _ k (pos 0) b)
      (λ k b. ap (λ (l : List ℤ). at l k) q ∙ get_or-tab c _ k (pos 0) b))
