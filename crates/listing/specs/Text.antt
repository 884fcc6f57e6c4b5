-- Text at the start of a slice, and what is appended to it.
use Rattle.std.specs.Prelude.{◌≡◌, List, ℕ, ◌+◌, length}
use Rattle.lists.specs.Lists.{put_at}
use Rattle.listing.specs.declared.Text.{Text}

-- from t to r the bytes x were appended; all else of the slice is as before
pub record Appends (t r : Text) (x : List ℕ) : Type 0 where
  pub same : r.out.ghost_name ≡ t.out.ghost_name
  pub on : r.len ≡ t.len + length x
  pub long : length r.out.now ≡ length t.out.now
  pub slice : r.out.now ≡ put_at t.out.now t.len x
