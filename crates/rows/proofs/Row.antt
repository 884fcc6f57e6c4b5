-- The turns of a row. Assumes nothing.
use Rattle.std.proofs.Common.{eq-eqb, ne_eqb, le-leb, ◌≡◌, sym, ap, ◌∙◌, List, [], ◌∷◌, ◌++◌, append-nil, ⊎_elim, ℕ, zero, suc, ◌+◌, ◌-◌, ◌*◌, ◌/◌, ◌≤◌, ◌<◌, arith, ℤ, pos, length, set, replicate, take}
use borrow.Author.Tests.{lt-leb}
use Rattle.format.specs.Reader.{Taken, Reader, update_of}
use Rattle.format.specs.Coefficients.{GroupAnswer, RunAnswer, Part, zeros_part, group_part, stop_part, stopped, zeros_of, group_of, row_step, row_from, row_of}
use Rattle.bits.specs.View.{as_reader, Ready}
use Rattle.bits.specs.declared.BitReader.{BitReader}
use Rattle.rows.specs.Course.{state_of, left_of, filled, Clean, Halted, Going, Onward}
use Rattle.rows.proofs.Filled.{clean-filled, filled-past, filled-four}

-- the ways through a turn
module _ (rest : ℕ → Taken → Part) (s : List ℕ) (sel g : ℕ) (t : Taken) where
  step-none : g ≡ 0 → row_step rest s sel g t ≡ record { values = []; reader = t.reader }
  unfolding row_step
  step-none e = simp (eq-eqb _ _ e)

  module _ (some : g ≡ 0 → ⊥) where
    step-stopped : (t.reader.status ≡ 0 → ⊥) → row_step rest s sel g t ≡ stop_part g t.reader
    unfolding row_step
    step-stopped n = simp (ne_eqb _ _ some, ne_eqb _ _ n)

    module _ (go : t.reader.status ≡ 0) where
      step-wide : 19 < t.value → row_step rest s sel g t ≡ stop_part g t.reader
      unfolding row_step
      step-wide h = simp (ne_eqb _ _ some, eq-eqb _ _ go, lt-leb _ _ h)

      step_run : t.value ≡ 0 → row_step rest s sel g t ≡ zeros_part rest g (zeros_of s g t.reader)
      unfolding row_step
      step_run z = simp (ne_eqb _ _ some, eq-eqb _ _ go, le-leb t.value 19 (omega arith), eq-eqb _ _ z)

      step-group : t.value ≤ 19 → (t.value ≡ 0 → ⊥) → row_step rest s sel g t ≡ group_part rest g (group_of s sel g t)
      unfolding row_step
      step-group h n = simp (ne_eqb _ _ some, eq-eqb _ _ go, le-leb _ _ h, ne_eqb _ _ n)

module _ (s : List ℕ) (sel : ℕ) (whole : Part) (d₀ d : List ℤ) (out g : ℕ) (t : Taken) where
  -- one turn, by what it gives
  next : (p : (ℕ → Taken → Part) → Part) → ((rest : ℕ → Taken → Part) → row_step rest s sel g t ≡ p rest) → (g ≡ 0 → ⊥) → (now : Going s sel whole d₀ d out g t)
      → (f : ℕ) × (g ≤ suc f) × (filled d out (p (row_from s sel f)).values ≡ filled d₀ 0 whole.values) × ((p (row_from s sel f)).reader ≡ whole.reader)
  unfolding row_from
  next p step some now = go now.turns now.enough now.values now.reader
    where
      go : (f : ℕ) → g ≤ f → filled d out (row_from s sel f g t).values ≡ filled d₀ 0 whole.values → (row_from s sel f g t).reader ≡ whole.reader
          → (f : ℕ) × (g ≤ suc f) × (filled d out (p (row_from s sel f)).values ≡ filled d₀ 0 whole.values) × ((p (row_from s sel f)).reader ≡ whole.reader)
      go zero h v r = absurd (some (omega arith))
      go (suc f) h v r =
          (f, h, ap (λ (q : Part). filled d out q.values) (sym (step (row_from s sel f))) ∙ v, ap (λ (q : Part). q.reader) (sym (step (row_from s sel f))) ∙ r)

  module _ (now : Going s sel whole d₀ d out g t) where
    -- the row is done
    going_done : length d ≤ out → g ≡ 0 → (d ≡ filled d₀ 0 whole.values) × (t.reader ≡ whole.reader)
    unfolding row_from
    going_done h e = go now.turns now.values now.reader
      where
        go : (f : ℕ) → filled d out (row_from s sel f g t).values ≡ filled d₀ 0 whole.values → (row_from s sel f g t).reader ≡ whole.reader
            → (d ≡ filled d₀ 0 whole.values) × (t.reader ≡ whole.reader)
        go zero v r = (sym (filled-past d out [] h) ∙ v, r)
        go (suc f) v r =
            let none = step-none (row_from s sel f) s sel g t e in
            (sym (filled-past d out [] h) ∙ ap (λ (q : Part). filled d out q.values) (sym none) ∙ v, ap (λ (q : Part). q.reader) (sym none) ∙ r)

    -- the rest of the row is zero
    stop-at : (some : g ≡ 0 → ⊥) → ((rest : ℕ → Taken → Part) → row_step rest s sel g t ≡ stop_part g t.reader) → (d' : List ℤ)
        → length d' ≤ out + 4 * g → ((l : List ℤ) → filled d' (out + 4 * g) l ≡ filled d out (replicate (4 * g) (pos 0) ++ l))
        → (d' ≡ filled d₀ 0 whole.values) × (stopped t.reader ≡ whole.reader)
    stop-at some step d' long cleared =
        let n = next (λ rest. stop_part g t.reader) step some now in
        (sym (filled-past d' (out + 4 * g) [] long) ∙ cleared [] ∙ ap (filled d out) (append-nil (replicate (4 * g) (pos 0))) ∙ n.2, n.3)

    module _ (some : g ≡ 0 → ⊥) (d' : List ℤ) where
      going-halted : length d' ≤ out + 4 * g → ((l : List ℤ) → filled d' (out + 4 * g) l ≡ filled d out (replicate (4 * g) (pos 0) ++ l)) → Halted t
          → (d' ≡ filled d₀ 0 whole.values) × (stopped t.reader ≡ whole.reader)
      going-halted long cleared =
          ⊎_elim (λ h. stop-at some (λ rest. step-stopped rest s sel g t some h) d' long cleared) (λ h. stop-at some (λ rest. step-wide rest s sel g t some h.0 h.1) d' long cleared)

      -- after a zero run
      pub going-run : (z : RunAnswer) → z ≡ zeros_of s g t.reader → 0 < z.groups → t.reader.status ≡ 0 → t.value ≡ 0
          → ((l : List ℤ) → filled d' (out + 4 * z.groups) l ≡ filled d out (replicate (4 * z.groups) (pos 0) ++ l))
          → Going s sel whole d₀ d' (out + 4 * z.groups) (g - z.groups) (record { value = z.width; reader = z.reader })
      going-run z e more ok w cleared =
          let n = next (λ rest. zeros_part rest g z) (λ rest. step_run rest s sel g t some ok w ∙ ap (zeros_part rest g) (sym e)) some now in
          record { turns = n.0; enough = omega (arith, n.1); values = cleared _ ∙ n.2; reader = n.3 }

    -- after four values
    pub going-group : (some : g ≡ 0 → ⊥) (v1 v2 v3 v4 : ℤ) (w : ℕ) (r : Reader) → record { values = v1 ∷ v2 ∷ v3 ∷ v4 ∷ []; width = w; reader = r } ≡ group_of s sel g t
        → t.reader.status ≡ 0 → t.value ≤ 19 → (t.value ≡ 0 → ⊥)
        → Going s sel whole d₀ (set (set (set (set d out v1) (out + 1) v2) (out + 2) v3) (out + 3) v4) (out + 4) (g - 1) (record { value = w; reader = r })
    going-group some v1 v2 v3 v4 w r e ok h more =
        let q : GroupAnswer = record { values = v1 ∷ v2 ∷ v3 ∷ v4 ∷ []; width = w; reader = r } in
        let n = next (λ rest. group_part rest g q) (λ rest. step-group rest s sel g t some ok h more ∙ ap (group_part rest g) (sym e)) some now in
        record { turns = n.0; enough = omega (arith, n.1); values = filled-four d out v1 v2 v3 v4 _ ∙ n.2; reader = n.3 }

-- a whole row, by the width that it starts with
row_done : (s : List ℕ) (sel n : ℕ) (r : Reader) (first : Taken) → first ≡ update_of s r 0 → (d₀ d : List ℤ) (t : Reader) → length d₀ ≡ n
    → (d ≡ filled d₀ 0 (row_from s sel ((n + 3) / 4) ((n + 3) / 4) first).values) × (t ≡ (row_from s sel ((n + 3) / 4) ((n + 3) / 4) first).reader)
    → (t ≡ (row_of s sel n r).reader) × (d ≡ (row_of s sel n r).values)
unfolding row_of
row_done s sel n r first start d₀ d t len done =
    let row = row_from s sel ((n + 3) / 4) ((n + 3) / 4) in (
      done.1 ∙ ap (λ (u : Taken). (row u).reader) start,
      done.0 ∙ ap (λ (k : ℕ). take k (row first).values) len ∙ ap (λ (u : Taken). take n (row u).values) start,
    )

-- a row of n elements on its way, by the width that it started with
pub record Decoding (s : List ℕ) (sel n : ℕ) (first : Taken) (d₀ d : List ℤ) (r : BitReader) (width out : ℕ) : Type 0 where
  pub all : length d₀ ≡ n
  pub same : length d ≡ n
  pub inside : out ≤ n + 3
  pub ready : Ready s r
  pub clean : Clean d out
  pub going : Going s sel (row_from s sel ((n + 3) / 4) ((n + 3) / 4) first) d₀ d out (left_of d out) (state_of width r)

pub decoding-first : (s : List ℕ) (sel n : ℕ) (d : List ℤ) (r : BitReader) (width : ℕ) → length d ≡ n → Ready s r → Clean d 0
    → Decoding s sel n (state_of width r) d d r width 0
decoding-first s sel n d r width same ready clean =
    let row = row_from s sel ((n + 3) / 4) in
    let first = state_of width r in
    let all : left_of d 0 ≡ (n + 3) / 4 = omega arith in
    record {
      all = same;
      same = same;
      inside = omega arith;
      ready = ready;
      clean = clean;
      going =
          record {
            turns = (n + 3) / 4;
            enough = omega arith;
            values = ap (λ (g : ℕ). filled d 0 (row g first).values) all;
            reader = ap (λ (g : ℕ). (row g first).reader) all;
          };
    }

module _ {s : List ℕ} {sel n : ℕ} {first : Taken} {d₀ d : List ℤ} {r : BitReader} {width out : ℕ} (now : Decoding s sel n first d₀ d r width out) where
  pub decoding-on : {d' : List ℤ} {out' width' : ℕ} {r' : BitReader} → Onward s sel d out (state_of width r) d' out' (state_of width' r')
      → out' < n + 4 → Ready s r' → Decoding s sel n first d₀ d' r' width' out'
  decoding-on on inside ready =
      record {
        all = now.all;
        same = on.same ∙ now.same;
        inside = omega arith;
        ready = ready;
        clean = on.clean;
        going = on.goes _ d₀ now.going;
      }

  module _ (start : Reader) (opens : first ≡ update_of s start 0) where
    -- the rest is zero
    pub decoding-halted : out < n → Halted (state_of width r) → (x : BitReader) → as_reader x ≡ stopped (as_reader r) → (Ready s r → Ready s x)
        → (as_reader x ≡ (row_of s sel n start).reader) × ((d ≡ (row_of s sel n start).values) × Ready s x)
    decoding-halted more halted x e ready =
        let g = left_of d out in
        let len = now.same in
        let end = going-halted s sel _ d₀ d out g (state_of width r) now.going (λ z. omega arith) d (omega arith) (clean-filled d out now.clean (4 * g)) halted in
        let done = row_done s sel n start first opens d₀ d (as_reader x) now.all (end.0, e ∙ end.1) in
        (done.0, (done.1, ready now.ready))

    -- the row is done
    pub decoding-done : n ≤ out → (as_reader r ≡ (row_of s sel n start).reader) × ((d ≡ (row_of s sel n start).values) × Ready s r)
    decoding-done past =
        let len = now.same in
        let end = going_done s sel _ d₀ d out (left_of d out) (state_of width r) now.going (omega arith) (omega arith) in
        let done = row_done s sel n start first opens d₀ d (as_reader r) now.all end in
        (done.0, (done.1, now.ready))
