-- The laws of E undone, of the faults of a number, and of checks in turn. Assumes nothing.
use Rattle.std.proofs.Common.{◌≡◌, refl, sym, ap, ◌∙◌, List, length, drop, Bool, true, false, cond, not, ◌&&◌, ◌⊎◌, inl, inr, ℕ, zero, suc, ◌+◌, ◌/◌, ◌^◌, ◌≤◌, ◌<◌, arith, ltb, ℤ, pos, negsuc, neg_ℤ, nat_abs, Option, Some, None, MatchOption, w32, of_z, eq-eqb, ne_eqb, lt-ltb, le-ltb, eq-or-lt_of_le, SFits}
use lib.Signed.{quot_z}
use Rattle.std.specs.Option.{unwrap_or}
use Rattle.std.proofs.lemmas.List.{get_or-append-add, get_or-drop}
use Rattle.lists.specs.Lists.{tab, fill}
use Rattle.lists.proofs.Tab.{length-tab}
use Rattle.lifting.specs.Lift.{at}
use Rattle.wrap32.specs.Cut.{add_w, cut}
use Rattle.wrap32.specs.Arithmetic.{wrapping}
use Rattle.wrap32.specs.Edge.{eq_z, edge_detail, edge_back}
use Rattle.wrap32.proofs.Laws.{half-fits, of-cond}
use Rattle.format.specs.Refusals.{◌▷◌, on, each}
use Rattle.format.specs.Table.{E}
use Rattle.format.specs.Writing.{too_large, band_refusal}
use Rattle.format.proofs.TurnLaws.{one}
use Rattle.returning.specs.Return.{value_back}

-- ---- checks in turn
pub each_next : (f : ℕ → ℕ) (n r s : ℕ) → r ≡ each f n → s ≡ f n → (r ▷ s) ≡ each f (n + 1)
unfolding each
each_next f n r s p q = rw (one n, p, q)

-- ---- a row whose first x numbers have been replaced: the next is as it was
pub fill-here : (l m : List ℤ) (x : ℕ) (f : ℕ → ℤ) → m ≡ fill l x f → at m x ≡ at l x
fill-here l m x f e =
    let n : x ≡ length (tab x f) + 0 = simp length-tab (omega arith) in
    let r : x + 0 ≡ x = omega arith in
    rw e (ap (λ (k : ℕ). at (fill l x f) k) n ∙ get_or-append-add (tab x f) (drop x l) 0 (pos 0) ∙ get_or-drop x l 0 (pos 0) ∙ ap (at l) r)

-- ---- E undone: half of e, rounded toward 0, is the only number; -2 ^ 30, whose bits are 3221225472, is too far
neg-near : (m : ℕ) → m ≤ 2 ^ 30 → (of_z w32 (neg_ℤ (pos m)) ≡ 3221225472 → ⊥) → nat_abs (neg_ℤ (pos m)) < 2 ^ 30
neg-near zero h q = omega arith
neg-near (suc m) h q = by (eq-or-lt_of_le h)
  where
    by : (suc m ≡ 2 ^ 30) ⊎ (suc m < 2 ^ 30) → suc m < 2 ^ 30
    by (inl e) = absurd (q (omega arith))
    by (inr l) = l

half-near : (e : ℤ) → SFits w32 e → (of_z w32 (quot_z e (pos 2)) ≡ 3221225472 → ⊥) → nat_abs (quot_z e (pos 2)) < 2 ^ 30
half-near (pos n) f q = omega arith
half-near (negsuc n) f q = neg-near (suc n / 2) (omega arith) q

far : (v : ℤ) → SFits w32 v → of_z w32 v ≡ 3221225472 → nat_abs v ≡ 2 ^ 30
far (pos n) f e = absurd (omega arith)
far (negsuc n) f e = omega arith

same-is : (a b : ℤ) → a ≡ b → eq_z a b ≡ true
same-is a b e = rw e (own b)
  where
    own : (z : ℤ) → eq_z z z ≡ true
    own (pos n) = eq-eqb n n refl
    own (negsuc n) = eq-eqb n n refl

other-is : (a b : ℤ) → (a ≡ b → ⊥) → eq_z a b ≡ false
other-is (pos a) (pos b) h = ne_eqb a b (λ q. h (ap pos q))
other-is (pos a) (negsuc b) h = refl
other-is (negsuc a) (pos b) h = refl
other-is (negsuc a) (negsuc b) h = ne_eqb a b (λ q. h (ap negsuc q))

none_right : (a : Bool) (v : ℤ) → cond (a && false) v (pos 0) ≡ pos 0
none_right true v = refl
none_right false v = refl

module _ (odd : Bool) (e : ℤ) (f : SFits w32 e) where
  pub edge-far : of_z w32 (quot_z e (pos 2)) ≡ 3221225472 → pos 0 ≡ edge_back odd e
  unfolding edge_back
  edge-far q =
      rw (le-ltb (nat_abs (quot_z e (pos 2))) (2 ^ 30) (omega (arith, far (quot_z e (pos 2)) (half-fits e f) q)))
      (sym (none_right (eq_z (edge_detail wrapping odd (quot_z e (pos 2))) e) (quot_z e (pos 2))))

  pub edge-found : (of_z w32 (quot_z e (pos 2)) ≡ 3221225472 → ⊥) → edge_detail wrapping odd (quot_z e (pos 2)) ≡ e → quot_z e (pos 2) ≡ edge_back odd e
  unfolding edge_back
  edge-found q h = rw (lt-ltb (nat_abs (quot_z e (pos 2))) (2 ^ 30) (half-near e f q), same-is (edge_detail wrapping odd (quot_z e (pos 2))) e h)

  pub edge_none : (edge_detail wrapping odd (quot_z e (pos 2)) ≡ e → ⊥) → pos 0 ≡ edge_back odd e
  unfolding edge_back
  edge_none h = rw (other-is (edge_detail wrapping odd (quot_z e (pos 2))) e h)

-- ---- the value of E undone, if there is one
zero-edge : (odd : Bool) → edge_detail wrapping odd (pos 0) ≡ pos 0
unfolding edge_detail add_w cut
zero-edge true = refl
zero-edge false = refl

pub no-zero : (odd : Bool) (e : ℤ) → pos 0 ≡ e → edge_detail wrapping odd (quot_z e (pos 2)) ≡ e
no-zero odd e z = rw (← z) (zero-edge odd)

pub zero-near : (e : ℤ) → of_z w32 (quot_z e (pos 2)) ≡ 3221225472 → pos 0 ≡ e → ⊥
zero-near e q z = let r = rw (← z) at q in omega (arith, r)

pub some-back : (odd : Bool) (e v : ℤ) → v ≡ edge_back odd e → edge_detail wrapping odd v ≡ e → Some v ≡ value_back odd e
some-back odd e v h k = rw (← h, same-is (edge_detail wrapping odd v) e k)

pub none-back : (odd : Bool) (e : ℤ) → pos 0 ≡ edge_back odd e → (pos 0 ≡ e → ⊥) → None ≡ value_back odd e
none-back odd e h k = rw (← h, zero-edge odd, other-is (pos 0) e k)

-- where there is none, 0 goes back
both-left : (a b : Bool) → (a && b) ≡ true → a ≡ true
both-left true b e = refl
both-left false b e = e

zero-or : (f : ℤ → Bool) (q : ℤ) (b c : Bool) → c ≡ (f q && b) → f (cond c q (pos 0)) ≡ false → cond c q (pos 0) ≡ pos 0
zero-or f q b true e h = let t = both-left (f q) b (sym e) in cc
zero-or f q b false e h = refl

zero-back : (odd : Bool) (e : ℤ) → eq_z (edge_detail wrapping odd (edge_back odd e)) e ≡ false → edge_back odd e ≡ pos 0
unfolding edge_back
zero-back odd e = zero-or (λ v. eq_z (edge_detail wrapping odd v) e) (quot_z e (pos 2)) (ltb (nat_abs (quot_z e (pos 2))) (2 ^ 30)) _ refl

pub value-or : (odd : Bool) (e : ℤ) → unwrap_or (value_back odd e) (pos 0) ≡ edge_back odd e
value-or odd e =
    of-cond (λ (o : Option ℤ). unwrap_or o (pos 0) ≡ edge_back odd e) (eq_z (edge_detail wrapping odd (edge_back odd e)) e) (Some (edge_back odd e)) None
    (λ _. refl) (λ f. sym (zero-back odd e f))

pub value-refused : (odd : Bool) (e : ℤ) (r : ℕ) → MatchOption (value_back odd e) (r ≡ 25) (λ v. r ≡ too_large v) → r ≡ band_refusal odd (E 0 0) e
value-refused odd e r = by (eq_z (edge_detail wrapping odd (edge_back odd e)) e)
  where
    by : (b : Bool) → MatchOption (cond b (Some (edge_back odd e)) None) (r ≡ 25) (λ v. r ≡ too_large v) → r ≡ (on (not b) 25 ▷ too_large (edge_back odd e))
    by true h = h
    by false h = h
