-- The next run of a slice. Assumes nothing.
use Rattle.std.proofs.Common.{◌≡◌, sym, ap, ◌∙◌, List, ◌++◌, append_assoc, ℕ, ◌-◌, ◌≤◌, length, length-append, length-drop, take, drop, take_at, length-take-le, arith}
use Rattle.lists.proofs.Tab.{length_part}

-- up to place p, and from there on
pub first_part : {A : Type 0} (s : List A) (p : ℕ) → take (p - 0) s ≡ take p s
first_part s p = let z : p - 0 ≡ p = omega arith in ap (λ (n : ℕ). take n s) z

-- behind x
pub put_on : (l ys x : List ℕ) (a e : ℕ) → a ≤ e → e ≤ length l → length ys ≡ length (take (e - a) (drop a l)) → take a l ≡ x → take e (take a l ++ (ys ++ drop (e - a) (drop a l))) ≡ x ++ ys
put_on l ys x a e h k f g =
    let rest = drop (e - a) (drop a l) in
    let m : length ys ≡ e - a = f ∙ length_part l a (e - a) (omega arith) in
    let n : length (take a l ++ ys) ≡ e = length-append (take a l) ys ∙ omega (arith, length-take-le a l (omega arith)) in
    ap (take e) (sym (append_assoc (take a l) ys rest)) ∙ take_at (take a l ++ ys) rest e n ∙ ap (λ (z : List ℕ). z ++ ys) g

pub put-long : (l ys : List ℕ) (a e : ℕ) → a ≤ e → e ≤ length l → length ys ≡ length (take (e - a) (drop a l)) → length (take a l ++ (ys ++ drop (e - a) (drop a l))) ≡ length l
put-long l ys a e h k f =
    let m : length ys ≡ e - a = f ∙ length_part l a (e - a) (omega arith) in
    let rest = drop (e - a) (drop a l) in
    omega (arith, length-append (take a l) (ys ++ rest), length-append ys rest, length-take-le a l (omega arith), length-drop (e - a) (drop a l), length-drop a l)
