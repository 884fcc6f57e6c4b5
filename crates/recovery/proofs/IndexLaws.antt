-- The levels of an index undone one after the other: what each leaves the next, and what stays. Assumes nothing.
use Rattle.std.proofs.Common.{◌≡◌, ◌∙◌, subst, Bool, false, List, ◌⊎◌, inl, inr, ⊎_elim, ℕ, ◌+◌, ◌*◌, ◌/◌, ◌%◌, ◌≤◌, mul-le-mul_right, arith, ℤ}
use Rattle.lists.specs.Lists.{Apart, part, tab}
use Rattle.format.specs.Lifting.{Plane}
use Rattle.format.specs.Sizes.{Colour, Level, l1, l2, l3, Group, base, detail, final, Tall}
use Rattle.format.specs.Table.{mode}
use Rattle.format.specs.Refusals.{◌▷◌}
use Rattle.format.specs.Recovery.{unstep, given, unband, summed_back, lifted_back}
use Rattle.format.specs.Writing.{bands_refusal, index_refusal}
use Rattle.format.proofs.Exact.{rows-after}
use Rattle.passes.specs.declared.Plan.{Plan}
use Rattle.passes.specs.Plan.{unit_of}
use Rattle.levels.specs.Block.{group_at}
use Rattle.returning.specs.Return.{packet_size, Numbers, bands_back, bands_fault}
use Rattle.recovery.specs.Recovered.{RowsAt, scratch_at, scratch_size, ll_place, ll_step, LevelRows, LowRows, IndexRows, none, LevelBack, StepsBack, IndexBack}

-- ---- a packet in units: where it starts in its block, and its size
abbrev pub units_at : Group → ℕ
units_at base = 0
units_at (detail l1) = 1
units_at (detail l2) = 4
units_at (detail l3) = 16
units_at final = 0

abbrev pub units_in : Group → ℕ
units_in base = 1
units_in (detail l1) = 3
units_in (detail l2) = 12
units_in (detail l3) = 48
units_in final = 64

pub packet-starts : (z : Plan) (place : ℕ) (g : Group) → group_at z place g ≡ place + units_at g * unit_of z
packet-starts z place base = omega arith
packet-starts z place (detail l1) = omega arith
packet-starts z place (detail l2) = omega arith
packet-starts z place (detail l3) = omega arith
packet-starts z place final = omega arith

pub packet-takes : (z : Plan) (g : Group) → z.w % 16 ≡ 0 → z.slots ≡ z.n + 1 → packet_size z g ≡ units_in g * unit_of z
packet-takes z base whole all = rw all (omega arith)
packet-takes z (detail l1) whole all = rw all (omega arith)
packet-takes z (detail l2) whole all = let e : z.w / 8 ≡ 2 * (z.w / 16) = omega arith in rw (all, e) (omega arith)
packet-takes z (detail l3) whole all = let e : z.w / 4 ≡ 4 * (z.w / 16) = omega arith in rw (all, e) (omega arith)
packet-takes z final whole all = let e : z.w / 2 ≡ 8 * (z.w / 16) = omega arith in rw (all, e) (omega arith)

-- rows as another count of other lengths
rows_as : (from step n k count few : ℕ) (p : Plane) (work : List ℤ) → n ≡ k → few ≤ count → RowsAt from step n count p work → RowsAt from step k few p work
rows_as from step n k count few p work e f stand y b = subst (λ (j : ℕ). part work (from + y * step) j ≡ tab j (p y)) e (stand y (omega arith))

module _ (z : Plan) (place : ℕ) (odd : Bool) (from : ℕ) (whole : z.w % 16 ≡ 0) (all : z.slots ≡ z.n + 1) (tall : Tall z.guarded z.n) (front : place + 64 * unit_of z ≤ scratch_at z)
    (w0 w1 w2 w3 w4 : List ℤ) (r3 r2 r1 r0 : ℕ) (third : LevelBack z place l3 odd from (z.w / 2) w0 w1 r3) (second : LevelBack z place l2 false (ll_place z l3) (ll_step z l3) w1 w2 r2)
    (first : LevelBack z place l1 false (ll_place z l2) (ll_step z l2) w2 w3 r1) (steps : StepsBack z place w3 w4 r0) where
  -- two packets of the block are apart, and each is apart from the scratch
  apart : (g k : Group) → (units_at g + units_in g ≤ units_at k) ⊎ (units_at k + units_in k ≤ units_at g) → Apart (group_at z place g) (packet_size z g) (group_at z place k) (packet_size z k)
  apart g k =
      ⊎_elim
      (λ q. inl (omega (arith, mul-le-mul_right (unit_of z) q, packet-starts z place g, packet-starts z place k, packet-takes z g whole all)))
      (λ q. inr (omega (arith, mul-le-mul_right (unit_of z) q, packet-starts z place g, packet-starts z place k, packet-takes z k whole all)))

  inside : (g : Group) → units_at g + units_in g ≤ 64 → Apart (group_at z place g) (packet_size z g) (scratch_at z) (scratch_size z)
  inside g q = inl (omega (arith, mul-le-mul_right (unit_of z) q, packet-starts z place g, packet-takes z g whole all, front))

  -- the rows that each level begins with
  module _ (out : Plane) (stand : IndexRows z from out w0) where
    rows-3 : LevelRows z l3 from (z.w / 2) out w0
    rows-3 = rows_as _ _ _ _ _ _ _ _ (omega arith) (omega (arith, rows-after z.guarded z.n l3 tall)) stand

    rows-2 : LevelRows z l2 (ll_place z l3) (ll_step z l3) (given z.guarded z.n z.w l2 out) w1
    rows-2 = rows_as _ _ _ _ _ _ _ _ (omega arith) (omega (arith, rows-after z.guarded z.n l2 tall)) (third.lls out rows-3)

    rows-1 : LevelRows z l1 (ll_place z l2) (ll_step z l2) (given z.guarded z.n z.w l1 out) w2
    rows-1 = rows_as _ _ _ _ _ _ _ _ (omega arith) (omega (arith, rows-after z.guarded z.n l1 tall)) (second.lls (given z.guarded z.n z.w l2 out) rows-2)

    rows-0 : LowRows z l1 (unstep z.guarded z.n z.w l1 (given z.guarded z.n z.w l1 out)) w3
    rows-0 = first.lls (given z.guarded z.n z.w l1 out) rows-1

    steps-are : Numbers z place base (summed_back z.guarded z.n z.w out) w4
    unfolding summed_back
    steps-are = steps.numbers (unstep z.guarded z.n z.w l1 (given z.guarded z.n z.w l1 out)) rows-0

    module _ (i : Colour) (e : odd ≡ mode l3 i) where
      details-are : (l : Level) → Numbers z place (detail l) (lifted_back z.guarded z.n z.w l i out) w4
      unfolding lifted_back
      details-are l1 =
          steps.beside _ _ (apart (detail l1) base (inr (omega arith)))
          ∙ first.numbers (given z.guarded z.n z.w l1 out) rows-1
      details-are l2 =
          steps.beside _ _ (apart (detail l2) base (inr (omega arith)))
          ∙ first.beside _ _ (apart (detail l2) (detail l1) (inr (omega arith))) (inside (detail l2) (omega arith))
          ∙ second.numbers (given z.guarded z.n z.w l2 out) rows-2
      details-are l3 =
          steps.beside _ _ (apart (detail l3) base (inr (omega arith)))
          ∙ first.beside _ _ (apart (detail l3) (detail l1) (inr (omega arith))) (inside (detail l3) (omega arith))
          ∙ second.beside _ _ (apart (detail l3) (detail l2) (inr (omega arith))) (inside (detail l3) (omega arith))
          ∙ subst (λ (o : Bool). Numbers z place (detail l3) (bands_back z.guarded z.n l3 o (unband z.guarded z.n z.w l3 out) none) w1) e (third.numbers out rows-3)

      refusal_is : (r3 ▷ r2 ▷ r1 ▷ r0) ≡ index_refusal z.guarded z.n z.w i out
      unfolding index_refusal bands_refusal
      refusal_is =
          let a = third.refusal out rows-3 in
          let b = second.refusal (given z.guarded z.n z.w l2 out) rows-2 in
          let c = first.refusal (given z.guarded z.n z.w l1 out) rows-1 in
          let d = steps.refusal (unstep z.guarded z.n z.w l1 (given z.guarded z.n z.w l1 out)) rows-0 in
          let f : r3 ≡ bands_fault z.guarded z.n z.w l3 (mode l3 i) (unband z.guarded z.n z.w l3 out) = subst (λ (o : Bool). r3 ≡ bands_fault z.guarded z.n z.w l3 o (unband z.guarded z.n z.w l3 out)) e a in
          λ j. f j ▷ b j ▷ c j ▷ d j

  -- beside block and scratch
  within : (g : Group) → units_at g + units_in g ≤ 64 → (k n : ℕ) → Apart k n place (64 * unit_of z) → Apart k n (group_at z place g) (packet_size z g)
  within g q k n =
      let m = mul-le-mul_right (unit_of z) q in
      ⊎_elim
      (λ (p : k + n ≤ place). inl (omega (arith, packet-starts z place g)))
      (λ (p : place + 64 * unit_of z ≤ k). inr (omega (arith, m, packet-starts z place g, packet-takes z g whole all)))

  beside-is : (k n : ℕ) → Apart k n place (64 * unit_of z) → Apart k n (scratch_at z) (scratch_size z) → part w4 k n ≡ part w0 k n
  beside-is k n p q =
      steps.beside k n (within base (omega arith) k n p)
      ∙ first.beside k n (within (detail l1) (omega arith) k n p) q
      ∙ second.beside k n (within (detail l2) (omega arith) k n p) q
      ∙ third.beside k n (within (detail l3) (omega arith) k n p) q

  pub index_back : (r : ℕ) → r ≡ (r3 ▷ r2 ▷ r1 ▷ r0) → IndexBack z place odd from w0 w4 r
  index_back r e = record {
    steps = λ i out o stand. steps-are out stand;
    details = λ i out o stand. details-are out stand i o;
    refusal = λ i out o stand. e ∙ refusal_is out stand i o;
    beside = beside-is;
    long = steps.long ∙ first.long ∙ second.long ∙ third.long;
  }
