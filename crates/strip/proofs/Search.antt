-- Laws of the search for a tile: offset 512, the candidates in turn. Assumes nothing.
use Rattle.std.proofs.Common.{◌≡◌, ℕ, zero, suc, ◌+◌, ◌-◌, ◌*◌, ◌≤◌, ◌<◌, List, Option, Some, None, Bool, true, false, cond, ◌&&◌, length, drop, leb, refl, arith, sym, ap, subst, MatchOption, IfSome, IsSomeAnd, IsTrue, option_map, option_and_then, ◌∙◌, le-leb, eqb}
use native.Mathlib.Numerals.{unary_clauses}
use Rattle.format.specs.Strip.{Tile, only_if, tile_at, valid_header, payload, alone, or_else, first_taken}
use Rattle.strip.specs.declared.TileStream.{TileStream}
use Rattle.strip.specs.Answers.{stream_tile, stream_of, located_tile_of}

kept : (b : Bool) (t : Tile) → located_tile_of (only_if b t) ≡ cond b (Some (stream_of t)) None
kept true t = refl
kept false t = refl

-- a stream that is of the frame's size
abbrev of_size : ℕ → ℕ → TileStream → Option TileStream
of_size w h t = cond (eqb t.width w && eqb t.height h) (Some t) None

lone : (valid fitting : Bool) (t : Tile) (w h : ℕ) → located_tile_of (only_if (valid && fitting && eqb t.width w && eqb t.height h) t)
    ≡ option_and_then (of_size w h) (located_tile_of (only_if (valid && true && fitting) t))
lone true true t w h = kept (eqb t.width w && eqb t.height h) t
lone true false t w h = refl
lone false fitting t w h = refl

-- offset 512 alone: the stream there, if it is of the frame's size
pub alone_is : (s : List ℕ) (w h : ℕ) → located_tile_of (alone s w h) ≡ option_and_then (of_size w h) (located_tile_of (stream_tile s 512 0))
unfolding alone stream_tile
alone_is s w h =
    let d = drop 512 s in
    let room : length s - 512 - 128 ≡ length s - 640 = omega arith in
    rw (room, le-leb 0 (payload d) (omega arith)) (lone (valid_header d) (leb (payload d) (length s - 640)) (tile_at d 512 0 0) w h)

-- ---- the candidates in turn

passed : (o rest : Option Tile) → located_tile_of o ≡ None → or_else o rest ≡ rest
passed (Some t) rest e = cc
passed None rest e = refl

hit : (o rest : Option Tile) (t : TileStream) → located_tile_of o ≡ Some t → located_tile_of (or_else o rest) ≡ Some t
hit (Some u) rest t e = e
hit None rest t e = cc

module _ (f : ℕ → Option Tile) where
  next : (at k : ℕ) → (at + 16) + k * 16 ≡ at + suc k * 16
  next at k = omega arith

  -- no candidate is taken
  pub none_taken : (at n : ℕ) → ((k : ℕ) → k < n → located_tile_of (f (at + k * 16)) ≡ None) → located_tile_of (first_taken f at n) ≡ None
  unfolding first_taken
  none_taken at zero none = refl
  none_taken at (suc n) none =
      let here : located_tile_of (f at) ≡ None = simp unary_clauses at (none 0 (omega arith)) in
      rw (passed (f at) (first_taken f (at + 16) n) here) (none_taken (at + 16) n (λ k h. rw (next at k) (none (suc k) (omega arith))))

  -- the first that is taken
  pub first_is : (at n i : ℕ) (t : TileStream) → i < n → ((k : ℕ) → k < i → located_tile_of (f (at + k * 16)) ≡ None) → located_tile_of (f (at + i * 16)) ≡ Some t
      → located_tile_of (first_taken f at n) ≡ Some t
  unfolding first_taken
  first_is at zero i t h none some = absurd (omega arith)
  first_is at (suc n) zero t h none some = hit (f at) (first_taken f (at + 16) n) t (simp unary_clauses at some)
  first_is at (suc n) (suc i) t h none some =
      let here : located_tile_of (f at) ≡ None = simp unary_clauses at (none 0 (omega arith)) in
      rw (passed (f at) (first_taken f (at + 16) n) here) (first_is (at + 16) n i t (omega arith) (λ k l. rw (next at k) (none (suc k) (omega arith))) (rw (next at i) some))

-- ---- what `find_map` found over the numbers from 0, where Q says that it passed a number on, and R what it took there

same_some : (o : Option ℕ) (v : ℕ) → option_map (λ y. y) o ≡ Some v → o ≡ Some v
same_some (Some x) v e = e
same_some None v e = cc

-- the numbers from 0, each at its own place
pub counts_from_0 : (at : ℕ → Option ℕ) (len a : ℕ) → a ≡ 0 → ((k : ℕ) → k < len → option_map (λ y. y) (at k) ≡ Some (a + k)) → (k : ℕ) → k < len → at k ≡ Some k
counts_from_0 at len a from each k h =
    let place : a + k ≡ k = omega arith in
    same_some (at k) k (each k h ∙ ap Some place)

module _ (f : ℕ → Option Tile) (Q : ℕ → Type 0) (R : ℕ → TileStream → Type 0) (K : Type 0) (whole : Bool) (len a n : ℕ) (at : ℕ → Option ℕ) where
  pub found_from :
      (r : Option TileStream)
      → MatchOption r
      (IsTrue whole × (K → (k : ℕ) → IfSome (at k) Q))
      (λ y. (i : ℕ) × (i < len) × (len ≡ i + 1) × (K → IsSomeAnd (at i) (λ x. R x y) × ((k : ℕ) → k < i → IsSomeAnd (at k) Q)))
      → K → ((k : ℕ) → Q k → located_tile_of (f (a + k * 16)) ≡ None) → ((k : ℕ) (y : TileStream) → R k y → located_tile_of (f (a + k * 16)) ≡ Some y)
      → ((k : ℕ) → k < len → at k ≡ Some k) → len ≤ n → (whole ≡ true → len ≡ n)
      → r ≡ located_tile_of (first_taken f a n)
  found_from None (all, passed) keeps no_tile tile reads short full =
      let long : len ≡ n = full all in
      sym (none_taken f a n (λ k h. no_tile k (subst (λ o. IfSome o Q) (reads k (omega arith)) (passed keeps k))))
  found_from (Some t) (i, below, last, first) keeps no_tile tile reads short full =
      let (here, before) = first keeps in
      sym (first_is f a n i t (omega arith) (λ k h. no_tile k (subst (λ o. IsSomeAnd o Q) (reads k (omega arith)) (before k h))) (tile i t (subst (λ o. IsSomeAnd o (λ x. R x t)) (reads i below) here)))
