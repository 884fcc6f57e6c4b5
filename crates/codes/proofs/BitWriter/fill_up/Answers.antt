-- `fill_up` meets its contract. Assumes nothing.
use Rattle.std.proofs.Common.{rules, ◌≡◌, ◌++◌, ◌-◌, List, ℕ, [], refl, take, drop, length, replicate, length-drop, length-take, append-nil, drop_of_length-le, arith}
use borrow.Rule.Slice.PartMut.{put_mid}
use Rattle.codes.proofs.Finished.{filled-up}
use Rattle.codes.proofs.BitWriter.fill_up.Goals as goal

-- zeros in the place of all from p on
zeros_behind : (p : ℕ) (s t : List ℕ) → t ≡ replicate (length (take (length s - p) (drop p s))) 0 → put_mid p (length s - p) s t ≡ take p s ++ replicate (length s - p) 0
zeros_behind p s t e =
    let n : length (take (length s - p) (drop p s)) ≡ length s - p = simp (length-take, length-drop) (omega arith) in
    let z : drop (length s - p) (drop p s) ≡ [] = drop_of_length-le (drop p s) {i = length s - p} (simp length-drop (omega arith)) in
    rw (z, append-nil, e, n) refl

pub returns-clause-filled : goal.returns-clause-filled
returns-clause-filled c =
    let e = c.finish.ensures in
    let s = c.finish.new.self in
    filled-up _ _ c.requires e.appends e.none_held _ (zeros_behind s.place s.out.now _ (c.fill.ensures.after (λ y h. h))) (search rules)
