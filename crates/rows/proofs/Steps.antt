-- The turns of a row, as it is read and out of single words. Assumes nothing.
use Rattle.std.proofs.Common.{◌≡◌, refl, sym, ap, subst, ◌∙◌, true, false, List, [], ◌∷◌, ℕ, ◌+◌, ◌-◌, ◌*◌, ◌/◌, ◌%◌, ◌^◌, ◌≤◌, ◌<◌, min, arith, T, ℤ, pos, nat_abs, length, set, length-set, w64, Fits, to_z}
use lib.Signed.{le_z, non_neg}
use Rattle.format.specs.Bits.{bits_at}
use Rattle.format.specs.Reader.{Reader, Taken, skipped}
use Rattle.format.specs.Coefficients.{RunAnswer, group_of, width_next, zeros_of}
use Rattle.bits.specs.View.{as_reader, Ready}
use Rattle.bits.specs.declared.BitReader.{BitReader}
use Rattle.bits.specs.declared.Four.{Four}
use Rattle.bits.specs.declared.Used.{Used}
use Rattle.rows.specs.declared.Decoded.{Decoded}
use Rattle.rows.specs.declared.Run.{Run}
use Rattle.bits.specs.View.{change_of}
use Rattle.rows.specs.Word.{step_of, quad_of, level_of, store_quad, Near, Ends, Runs}
use Rattle.rows.specs.Stretch.{stretch_quad}
use Rattle.rows.specs.Course.{left_of, state_of, Onward, moved_to, Done, Clean}
use Rattle.rows.proofs.LevelLaws.{level-none, level-some, level-wide}
use Rattle.rows.proofs.Row.{going-group, going-run}
use Rattle.rows.proofs.Filled.{clean-filled, clean-four}
use Rattle.rows.proofs.StretchLaws.{stretch-quad}
use Rattle.rows.proofs.WordLaws.{group-word, next_last, next_more}

-- one way along a row after another
onward-join : {s : List ℕ} {sel : ℕ} {d d' d'' : List ℤ} {out out' out'' : ℕ} {t t' t'' : Taken} → Onward s sel d out t d' out' t'
    → Onward s sel d' out' t' d'' out'' t'' → Onward s sel d out t d'' out'' t''
onward-join a b = record { same = b.same ∙ a.same; clean = b.clean; goes = λ whole d₀ now. b.goes whole d₀ (a.goes whole d₀ now) }

module _ (s : List ℕ) (sel : ℕ) (d : List ℤ) (i : ℕ) (t : Taken) (clean : Clean d i) where
  -- one group
  pub onward-group : (v1 v2 v3 v4 : ℤ) (w : ℕ) (r : Reader) → record { values = v1 ∷ v2 ∷ v3 ∷ v4 ∷ []; width = w; reader = r } ≡ group_of s sel (left_of d i) t
      → t.reader.status ≡ 0 → t.value ≤ 19 → (t.value ≡ 0 → ⊥) → i < length d
      → (d' : List ℤ) → d' ≡ set (set (set (set d i v1) (i + 1) v2) (i + 2) v3) (i + 3) v4
      → Onward s sel d i t d' (i + 4) (record { value = w; reader = r })
  onward-group v1 v2 v3 v4 w r e go short some inside d' ed =
      let len : length d' ≡ length d = ap length ed ∙ simp length-set in
      let left : left_of d i - 1 ≡ left_of d' (i + 4) = omega arith in
      record {
        same = len;
        clean = rw ed (clean-four d i v1 v2 v3 v4 clean);
        goes = λ whole d₀ now.
            rw left at (rw (← ed) at (going-group s sel whole d₀ d i (left_of d i) t now (λ z. omega arith) v1 v2 v3 v4 w r e go short some));
      }

  -- one zero run
  pub onward-run : (z : RunAnswer) → z ≡ zeros_of s (left_of d i) t.reader → t.reader.status ≡ 0 → t.value ≡ 0 → i < length d
      → 0 < z.groups → z.groups ≤ left_of d i → Onward s sel d i t d (i + 4 * z.groups) (record { value = z.width; reader = z.reader })
  onward-run z e go none inside some most =
      let left : left_of d i - z.groups ≡ left_of d (i + 4 * z.groups) = omega arith in
      let cleared = clean-filled d i clean (4 * z.groups) in
      record {
        same = refl;
        clean = λ j before. clean j (omega arith);
        goes = λ whole d₀ now. rw left at (going-run s sel whole d₀ d i (left_of d i) t now (λ q. omega arith) d z e some go none cleared);
      }

-- a reader that has not moved
moved_none : (r : Reader) → moved_to r r.place ≡ r
moved_none r =
    let e : r.place + r.remaining - r.place ≡ r.remaining = omega arith in
    simp e

-- what a loop over single words is called with
pub record Call : Type 0 where
  pub packet : List ℕ
  pub selector : ℕ
  pub slice : List ℤ
  pub out : ℕ
  pub width : ℕ
  pub reader : BitReader

-- where its allowance ends
abbrev stop_of : Call → ℕ
stop_of k = k.reader.place + k.reader.remaining

-- its reader at a place
abbrev reader_at : Call → ℕ → Reader
reader_at k place = moved_to (as_reader k.reader) place

-- what the loop relies on
pub record Asked (k : Call) : Type 0 where
  pub ready : Ready k.packet k.reader
  pub go : (as_reader k.reader).status ≡ 0
  pub below : k.selector < 16
  pub wide : length k.slice < 2 ^ 32

-- a point of the row that it comes to
pub record Turn (k : Call) (d : List ℤ) (place w i : ℕ) : Type 0 where
  pub on : Onward k.packet k.selector k.slice k.out (state_of k.width k.reader) d i
      (record { value = w; reader = reader_at k place })
  pub from : k.reader.place ≤ place
  pub to : place ≤ stop_of k
  pub forward : k.out ≤ i
  pub inside : i < length k.slice + 4
  pub still : i ≡ k.out → w ≡ k.width

-- the same point, by another name of its width
turn_at : {k : Call} {d : List ℤ} {place w w' i : ℕ} → w ≡ w' → Turn k d place w i → Turn k d place w' i
turn_at {k} {d} {place} {w} {w'} {i} e t = subst (λ (v : ℕ). Turn k d place v i) e t

-- a word that holds the bits from a place on
abbrev Loaded : List ℕ → ℕ → ℕ → Type 0
Loaded s place word = (word < 2 ^ 64) × (word / 2 ^ 7 ≡ bits_at s place 57)

-- a point of the loop: the slice as it is, the word at a place, the width as the loop has it, and the element that comes next
pub record Point : Type 0 where
  pub call : Call
  pub d : List ℤ
  pub place : ℕ
  pub word : ℕ
  pub level : ℤ
  pub i : ℕ

-- the width there, a signed number
abbrev signed_at : Point → ℤ
signed_at p = p.level

-- the width of its group
abbrev pub width_at : Point → ℕ
width_at p = nat_abs (signed_at p)

-- what holds before each turn, of the numbers that are set before the loop and of the point
pub record State (n last end stop room : ℕ) (p : Point) : Type 0 where
  pub asked : Asked p.call
  pub n-is : n ≡ length p.call.slice
  pub last-is : last ≡ length p.call.slice - 4
  pub end_is : end ≡ min (length p.call.packet) (2 ^ 40) * 8 - 127
  pub stop_is : stop ≡ stop_of p.call
  pub room-is : room ≡ stop_of p.call - 4
  pub turn : Turn p.call p.d p.place (level_of (signed_at p)) p.i
  pub loaded : Loaded p.call.packet p.place p.word

-- the first turn
pub state-first : (k : Call) → Asked k → k.out < length k.slice → k.width ≤ 19 → Clean k.slice k.out
    → (last end room word : ℕ) → last ≡ length k.slice - 4 → end ≡ min (length k.packet) (2 ^ 40) * 8 - 127 → room ≡ stop_of k - 4
    → Loaded k.packet k.reader.place word
    → State (length k.slice) last end (stop_of k) room
    (record { call = k; d = k.slice; place = k.reader.place; word = word; level = to_z w64 k.width; i = k.out })
state-first k asked h most clean last end room word el ee er loaded =
    let first : Turn k k.slice k.reader.place k.width k.out =
    record {
      on = record { same = refl; clean = clean; goes = λ whole d₀ now. rw (moved_none (as_reader k.reader)) now };
      from = omega arith;
      to = omega arith;
      forward = omega arith;
      inside = omega arith;
      still = λ e. refl;
    } in
    record {
      asked = asked;
      n-is = refl;
      last-is = el;
      end_is = ee;
      stop_is = refl;
      room-is = er;
      turn = turn_at (level-wide k.width (omega arith)) first;
      loaded = loaded;
    }

-- where the loop may take a run or a group
pub record Inside (p : Point) : Type 0 where
  pub short : level_of (signed_at p) ≤ 12
  pub more : p.i + 4 < length p.call.slice
  pub wide : length p.call.slice < 2 ^ 32
  pub far : p.place < 2 ^ 40
  pub whole : p.place / 8 + 16 ≤ length p.call.packet

-- the width of a group there, as the code casts it
pub inside-some : {p : Point} → Inside p → le_z (signed_at p) (pos 0) ≡ false → T (non_neg (signed_at p)) × Fits w64 (width_at p)
inside-some {p} inside high =
    let some = level-some (signed_at p) high in
    (some.2, record { fits = omega (arith, some.0, inside) })

pub inside-short : {p : Point} → Inside p → le_z (signed_at p) (pos 0) ≡ false → (1 ≤ width_at p) × (width_at p ≤ 12)
inside-short {p} inside high = omega (arith, level-some (signed_at p) high, inside)

-- a run that is taken, and the turn after it
pub record Ran (p : Point) (h : Run) : Type 0 where
  pub inside : Inside p
  pub some : 0 < h.groups
  pub most : 4 * h.groups < 2 ^ 34
  pub short : h.width ≤ 65
  pub few : h.used ≤ 56
  pub turn : Turn p.call p.d (p.place + h.used) h.width (p.i + 4 * h.groups)

-- a group that is taken, by its width, the bits up to its signs and the width after it: the turn after it, however its values are stored
pub record Took (p : Point) (w used w' : ℕ) : Type 0 where
  pub some : 1 ≤ w
  pub short : w ≤ 12
  pub more : p.i + 4 ≤ length p.d
  pub same : length p.d ≡ length p.call.slice
  pub wide : length p.call.slice < 2 ^ 32
  pub least : 4 * w ≤ used
  pub few : used ≤ 52
  pub far : p.place + used < 2 ^ 40
  pub turn : (q : Used (Four ℤ)) (q' : Four ℤ) → (q ≡ quad_of 0 p.word w used) × (q.used ≤ 4) → q' ≡ stretch_quad p.call.selector q.value
      → (d : List ℤ) → d ≡ store_quad p.d p.i q' → (place : ℕ) → place ≡ p.place + (used + q.used) → Turn p.call d place w' (p.i + 4)

-- that a point of the row is where the answer stands
abbrev Reached : Call → List ℤ → Decoded ℕ → Type 0
Reached k d m =
    Onward k.packet k.selector k.slice k.out (state_of k.width k.reader) d m.value (state_of m.width m.reader)
    × Done k.packet (length k.slice) k.out k.width m.value m.width m.reader

-- to stop after a turn
pub turn_last : {k : Call} {d : List ℤ} {place word w i : ℕ} → Asked k → Turn k d place w i → Loaded k.packet place word
    → (m : Decoded ℕ) → (m.value ≡ i) × (m.width ≡ w) × (as_reader m.reader ≡ reader_at k place) × (m.reader.cache ≡ word) → Reached k d m
turn_last {k} {d} {place} {word} {w} {i} asked turn loaded n e =
    let r = n.reader in
    let p : r.place ≡ place = ap (λ (t : Reader). t.place) e.2 in
    let m : r.remaining ≡ stop_of k - place = ap (λ (t : Reader). t.remaining) e.2 in
    let g : (as_reader r).status ≡ (as_reader k.reader).status = ap (λ (t : Reader). t.status) e.2 in (
      rw (e.0, e.1, e.2) turn.on,
      record {
        ready = record { size = asked.ready.size; room = omega (arith, asked.ready.room, turn.to); bits = rw (e.3, p) loaded.1 };
        going = g ∙ asked.go;
        forward = omega (arith, e.0, turn.forward);
        inside = omega (arith, e.0, turn.inside);
        still = λ same. e.1 ∙ turn.still (sym e.0 ∙ same);
      },
    )

module _ {n last end stop room : ℕ} {p : Point} (t : State n last end stop room p) where
  -- the next turn
  pub state-again : {d : List ℤ} {place w i : ℕ} (word : ℕ) (level : ℤ) → w ≡ level_of level → Turn p.call d place w i
      → Loaded p.call.packet place word
      → State n last end stop room (record { call = p.call; d = d; place = place; word = word; level = level; i = i })
  state-again word level e turn loaded =
      record {
        asked = t.asked;
        n-is = t.n-is;
        last-is = t.last-is;
        end_is = t.end_is;
        stop_is = t.stop_is;
        room-is = t.room-is;
        turn = turn_at e turn;
        loaded = loaded;
      }

  pub state-inside : Near (level_of (signed_at p)) p.i last p.place end → Inside p
  state-inside near = omega (arith, near, t)

  -- to stop here
  pub state-last : (m : Decoded ℕ) (w : ℕ) → level_of (signed_at p) ≡ w
      → (m.value ≡ p.i) × (m.width ≡ w) × (as_reader m.reader ≡ reader_at p.call p.place) × (m.reader.cache ≡ p.word) → Reached p.call p.d m
  state-last m w e = turn_last t.asked (turn_at e t.turn) t.loaded m

  -- a zero run
  pub state-run : Inside p → le_z (signed_at p) (pos 0) ≡ true → (h : Run) → Runs p.word (left_of p.call.slice p.i) h
      → (h.used ≤ 56) × (p.place + h.used ≤ stop) → Ran p h
  state-run inside low h runs fits =
      let k = p.call in
      let i = p.i in
      let r = reader_at k p.place in
      let at = turn_at (level-none (signed_at p) low) t.turn in
      let on = at.on in
      let len = on.same in
      let most = runs.most in
      let got = runs.reads k.packet r t.loaded.1 (omega arith) (omega (arith, fits, t.stop_is)) t.asked.go in
      let same : left_of p.d i ≡ left_of k.slice i = omega arith in
      let rm : stop_of k - (p.place + h.used) ≡ stop_of k - p.place - h.used = omega arith in
      let z : RunAnswer = record { groups = h.groups; width = h.width; reader = reader_at k (p.place + h.used) } in
      let run : z ≡ zeros_of k.packet (left_of p.d i) r = simp rm (sym got.1 ∙ ap (λ (g : ℕ). zeros_of k.packet g r) (sym same)) in
      let one = onward-run k.packet k.selector p.d i (record { value = 0; reader = r }) on.clean z run t.asked.go refl in
      record {
        inside = inside;
        some = got.0;
        most = omega arith;
        short = runs.short;
        few = fits.0;
        turn =
            record {
              on = onward-join on (one (omega arith) got.0 (omega arith));
              from = omega (arith, at.from);
              to = omega (arith, fits, t.stop_is);
              forward = omega (arith, at.forward);
              inside = omega arith;
              still = λ e. omega (arith, got.0, at.forward);
            };
      }

  -- a group
  took : (w used w' : ℕ) → level_of (signed_at p) ≡ w → 1 ≤ w → w ≤ 12 → 4 * w ≤ used → used ≤ 52 → p.place + (used + 4) ≤ stop_of p.call
      → p.i + 4 ≤ length p.call.slice
      → width_next p.call.packet (left_of p.call.slice p.i) w (skipped (reader_at p.call p.place) (4 * w))
      ≡ record { value = w'; reader = skipped (reader_at p.call p.place) used }
      → Took p w used w'
  took w used w' same some short least few enough more next =
      let k = p.call in
      let i = p.i in
      let r = reader_at k p.place in
      let at = turn_at same t.turn in
      let on = at.on in
      let len = on.same in
      let next' = ap (λ (m : ℕ). width_next k.packet ((m - i + 3) / 4) w (skipped r (4 * w))) len ∙ next in
      let group = group-word k.packet r k.selector w p.word (left_of p.d i) used w' t.loaded.0 t.loaded.1 short t.asked.below least in
      record {
        some = some;
        short = short;
        more = omega arith;
        same = len;
        wide = t.asked.wide;
        least = least;
        few = few;
        far = omega (arith, t.asked.ready.room);
        turn = λ q q' e0 eq d ed place ep.
            let v = quad_of k.selector p.word w used in
            let quad = stretch-quad k.selector p.word w used t.asked.below t.loaded.0 short in
            let ev = eq ∙ ap (λ (x : Used (Four ℤ)). stretch_quad k.selector x.value) e0.0 ∙ quad.0 in
            let eu : v.used ≡ q.used = sym (ap (λ (x : Used (Four ℤ)). x.used) e0.0 ∙ quad.1) in
            let pl : place ≡ p.place + (used + v.used) = omega arith in
            let rm : stop_of k - (p.place + (used + v.used)) ≡ stop_of k - p.place - (used + v.used) = omega arith in
            let answer : record { values = v.value.a ∷ v.value.b ∷ v.value.c ∷ v.value.d ∷ []; width = w'; reader = reader_at k place }
            ≡ group_of k.packet k.selector (left_of p.d i) (record { value = w; reader = r }) = simp (pl, rm) (sym (group (omega arith) (omega arith) next')) in
            let one = onward-group k.packet k.selector p.d i (record { value = w; reader = r }) on.clean v.value.a v.value.b v.value.c v.value.d w' in
            record {
              on =
                  onward-join on
                  (one (reader_at k place) answer t.asked.go (omega arith) (λ z. omega arith) (omega arith) d (ed ∙ ap (store_quad p.d i) ev));
              from = omega (arith, ep, at.from);
              to = omega (arith, ep, enough, e0.1);
              forward = omega (arith, at.forward);
              inside = omega arith;
              still = λ z. omega (arith, at.forward);
            };
      }

  -- a group before the last
  pub state-group : Inside p → le_z (signed_at p) (pos 0) ≡ false
      → (u : Used ℤ) → (level_of u.value ≡ (step_of p.word (width_at p)).value) × (u.used ≡ (step_of p.word (width_at p)).used)
      → (u.used ≤ 52) × (p.place + u.used ≤ room) → Took p (width_at p) u.used (level_of u.value)
  state-group inside high u step fits =
      let w = width_at p in
      let some = level-some (signed_at p) high in
      let v = change_of (p.word * 2 ^ (4 * w) % 2 ^ 64) w in
      let least : 4 * w ≤ u.used = omega (arith, step.1) in
      let enough : p.place + (u.used + 4) ≤ stop_of p.call = omega (arith, fits, t.room-is, least, some.1) in
      let next = next_more p.call.packet (reader_at p.call p.place) w p.word (left_of p.call.slice p.i) t.asked.go t.loaded.1 in
      took w u.used (level_of u.value) some.0 some.1 (omega (arith, inside, some.0)) least fits.0 enough (omega (arith, inside))
      (rw (step.0, step.1) (next (omega (arith, inside)) (omega (arith, step.1, fits)) (omega (arith, step.1, enough))))

  -- the row's last group
  pub state-end : (w : ℕ) → w ≡ level_of (signed_at p) → Ends w p.i n p.place stop → Took p w (4 * w) w
  state-end w e ends =
      let last = ends.last in
      let all = t.n-is in
      let next = next_last p.call.packet (reader_at p.call p.place) w p.word (left_of p.call.slice p.i) (omega arith) in
      took w (4 * w) w (sym e) ends.some ends.short (omega arith) (omega (arith, ends.short)) (omega (arith, ends.enough, t.stop_is)) (omega arith) next
