-- What is read off a work slice that holds the coefficients v is the stream's of v. Assumes nothing.
use Rattle.std.proofs.Common.{◌≡◌, refl, sym, ap, ◌∙◌, List, ◌++◌, append_assoc, Bool, true, false, cond, ⊎_elim, ℕ, zero, suc, ◌+◌, ◌*◌, ◌/◌, ◌%◌, ◌^◌, ◌≤◌, ◌<◌, arith, ℤ, length, get_or, take_all, ltb, ltb-true, ltb-false}
use Rattle.std.proofs.Math.ListN.{get_or-eq_default}
use Rattle.std.specs.List.{sum_by}
use Rattle.lists.specs.Lists.{tab, rows}
use Rattle.lists.proofs.Tab.{get_or-tab, length-tab, tab-same}
use Rattle.lists.proofs.Rows.{rows_same}
use Rattle.format.specs.Packets.{sum}
use Rattle.format.specs.Refusals.{◌▷◌, on, each}
use Rattle.format.specs.Coefficients.{Coefs}
use Rattle.format.specs.Sizes.{numbered, indexed}
use Rattle.format.specs.Writing.{number_bits, zero_bits, entries, records, record_bytes, packet_bits, packet_units, group_bits, group_units, entry_units, block_bits, header_bits, stream_bits, stream_length, lengths_refusal, packed, stream_of}
use Rattle.format.proofs.BitLaws.{le-or-lt}
use Rattle.format.proofs.TurnLaws.{sum_same, not_on, both-none, each-zero, each_same}
use Rattle.codes.proofs.Pushed.{number-zeros}
use Rattle.encoding.proofs.Records.{sum-some}
use Rattle.codes.proofs.Finished.{packed-append, packed-rows}
use Rattle.assembly.specs.Front.{units_at, group_of, entry_of, block_of, front_of}
use Rattle.assembly.specs.Tile.{Holds, group_in, colour_in, shape_in, numbers_in, units_in, refusal_in, packet_bits_in, Short}
use Rattle.assembly.proofs.Held.{units-held, refusal-held, packet-held}
use Rattle.assembly.proofs.Places.{present-in}
use Rattle.assembly.proofs.Fronts.{sum-part, sum-most, entries-three, entries-one, length_front}
use Rattle.assembly.proofs.Whole.{whole-bits}

-- packet k of group g is one of the 13
entry-within : (g k : ℕ) → g < 5 → k < entries (numbered g) → (3 * g + k < 13) × (k < 3)
entry-within g k h l =
    ⊎_elim
    (λ (a : 4 ≤ g). let e = entries-one g a in (omega arith, omega arith))
    (λ (a : g < 4). let e = entries-three g a in (omega arith, omega arith))
    (le-or-lt 4 g)

-- 13 small numbers
pub units_small : (f : ℕ → ℕ) → ((p : ℕ) → p < 13 → f p < 2 ^ 48) → (p : ℕ) → get_or (tab 13 f) p 0 < 2 ^ 48
units_small f h p =
    ⊎_elim
    (λ (a : 13 ≤ p). let z : get_or (tab 13 f) p 0 ≡ 0 = get_or-eq_default (tab 13 f) 0 (rw (length-tab 13 f) a) in rw z (omega arith))
    (λ (a : p < 13). rw (get_or-tab 13 f p 0 a) (h p a))
    (le-or-lt 13 p)

-- ---- the 13 packets, group by group
▷-assoc : (a b c : ℕ) → ((a ▷ b) ▷ c) ≡ (a ▷ (b ▷ c))
▷-assoc zero b c = refl
▷-assoc (suc a) b c = refl

all-checks : (f : ℕ → ℕ → ℕ) → each (λ p. f (p / 3) (p % 3)) 13 ≡ each (λ g. each (f g) (entries (numbered g))) 5
unfolding each
all-checks f = simp ▷-assoc

all-packets : (f : ℕ → ℕ → List ℕ) → rows 13 (λ p. f (p / 3) (p % 3)) ≡ rows 5 (λ g. rows (entries (numbered g)) (f g))
unfolding rows
all-packets f = simp append_assoc

regroup : (a b c d m n s z k p : List ℕ) → (a ++ (b ++ (c ++ (d ++ (m ++ n))))) ++ (s ++ (z ++ k)) ++ p ≡ (a ++ (b ++ (c ++ (d ++ (m ++ (n ++ (s ++ z))))))) ++ (k ++ p)
regroup a b c d m n s z k p = simp append_assoc

module _ (w H : ℕ) (v : Coefs) (work : List ℤ) (h : Holds w H v work) where
  pub units-is : tab 13 (units_in w H work) ≡ tab 13 (λ p. packet_units w H v (group_in p) (colour_in p))
  unfolding units_in
  units-is = tab-same 13 _ _ (λ p l. units-held w H v (group_in p) (colour_in p) _ (h.stand (group_in p) (colour_in p) (present-in p l)))

  -- 26 of a record
  abbrev checked : ℕ → ℕ → ℕ
  checked g k = each (λ r. on (ltb 65535 (record_bytes w H v (numbered g) (indexed k) r)) 26) (records H)

  records-refusal : each (refusal_in w H work) 13 ≡ each (λ g. each (checked g) (entries (numbered g))) 5
  unfolding refusal_in
  records-refusal =
      each_same _ (λ p. checked (p / 3) (p % 3)) 13 (λ p l. refusal-held w H v (group_in p) (colour_in p) _ (h.stand (group_in p) (colour_in p) (present-in p l)))
      ∙ all-checks checked

  pub packets-is : rows 13 (packet_bits_in w H work) ≡ rows 5 (group_bits w H v)
  unfolding packet_bits_in group_bits
  packets-is =
      rows_same 13 _ (λ p. packet_bits w H v (group_in p) (colour_in p)) (λ p l. packet-held w H v (group_in p) (colour_in p) _ (h.stand (group_in p) (colour_in p) (present-in p l)))
      ∙ all-packets (λ g k. packet_bits w H v (numbered g) (indexed k))

  module _ (u : List ℕ) (e : u ≡ tab 13 (λ p. packet_units w H v (group_in p) (colour_in p))) where
    at-is : (g k : ℕ) → g < 5 → k < entries (numbered g) → units_at u g k ≡ packet_units w H v (numbered g) (indexed k)
    at-is g k a b =
        let l = entry-within g k a b in
        let m : (3 * g + k) / 3 ≡ g = omega arith in
        let n : (3 * g + k) % 3 ≡ k = omega arith in
        (λ i. get_or (e i) (3 * g + k) 0) ∙ get_or-tab 13 _ (3 * g + k) 0 l.0 ∙ (λ i. packet_units w H v (numbered (m i)) (indexed (n i)))

    pub group-is : (g : ℕ) → g < 5 → group_of u g ≡ group_units w H v g
    unfolding group_of group_units
    group-is g a = sum_same _ _ (entries (numbered g)) (λ k b. at-is g k a b)

    entry-is : (g k : ℕ) → g < 5 → entry_of u g k ≡ entry_units w H v g k
    unfolding entry_of entry_units
    entry-is g k a = by (ltb k (entries (numbered g))) refl
      where
        by : (b : Bool) → ltb k (entries (numbered g)) ≡ b → cond b (units_at u g k) 0 ≡ cond b (packet_units w H v (numbered g) (indexed k)) 0
        by true t = at-is g k a (ltb-true k (entries (numbered g)) t)
        by false t = refl

    block-is : (g : ℕ) → g < 5 → block_of u g ≡ block_bits w H v g
    unfolding block_of block_bits
    block-is g a = ap (λ (r : List ℕ). zero_bits 4 ++ (number_bits 4 (entries (numbered g)) ++ r)) (rows_same 5 _ _ (λ k _. ap (number_bits 24) (entry-is g k a)))

    pub length-is : 128 + 16 * sum (group_of u) 5 ≡ stream_length w H v
    unfolding stream_length
    length-is = ap (λ (n : ℕ). 128 + 16 * n) (sum_same _ _ 5 group-is)

    pub refusal_is : (each (refusal_in w H work) 13 ▷ each (λ g. on (ltb 268435440 (16 * group_of u g)) 26) 5) ≡ lengths_refusal w H v
    unfolding lengths_refusal
    refusal_is =
        λ i. records-refusal i ▷ each_same (λ g. on (ltb 268435440 (16 * group_of u g)) 26) (λ g. on (ltb 268435440 (16 * group_units w H v g)) 26) 5 (λ g a. ap (λ (n : ℕ). on (ltb 268435440 (16 * n)) 26) (group-is g a)) i

    -- the records' first, then the groups'
    pub refusal-by : (a b : ℕ) → a ≡ each (refusal_in w H work) 13 → b ≡ each (λ g. on (ltb 268435440 (16 * group_of u g)) 26) 5 → (a ▷ b) ≡ lengths_refusal w H v
    refusal-by a b d e = (λ i. d i ▷ e i) ∙ refusal_is

    pub stream-is : front_of w H u ++ rows 13 (packet_bits_in w H work) ≡ stream_bits w H v
    unfolding stream_bits header_bits
    stream-is =
        let a = number_bits 32 0x41303030 in
        let c = number_bits 16 w in
        let d = number_bits 16 (H / 2) in
        let m = number_bits 16 0x0100 in
        let n = number_bits 16 0x6C00 in
        let sizes = rows 5 (λ g. number_bits 24 (group_units w H v g)) in
        let z = zero_bits 136 in
        let blocks = rows 5 (block_bits w H v) in
        let packets = rows 5 (group_bits w H v) in
        (λ i. (a ++ (number_bits 32 0 ++ (c ++ (d ++ (m ++ n))))) ++ (rows_same 5 _ _ (λ g l. ap (number_bits 24) (group-is g l)) i ++ (z ++ rows_same 5 _ _ block-is i)) ++ packets-is i)
        ∙ regroup a (number_bits 32 0) c d m n sizes z blocks packets
        ∙ ap (λ (x : List ℕ). (a ++ (x ++ (c ++ (d ++ (m ++ (n ++ (sizes ++ z))))))) ++ (blocks ++ packets)) (number-zeros 32)

  -- where no length is too large, each packet's records fit their fields
  pub records-short : lengths_refusal w H v ≡ 0 → (p : ℕ) → p < 13 → refusal_in w H work p ≡ 0
  unfolding lengths_refusal
  records-short r p l = each-zero (refusal_in w H work) p 13 (records-refusal ∙ (both-none (each (λ g. each (checked g) (entries (numbered g))) 5) (each (λ g. on (ltb 268435440 (16 * group_units w H v g)) 26) 5) r).0) l

-- ---- the 13 packets have their places in groups, and in the sum
entry_in : (p : ℕ) → p < 13 → p % 3 < entries (numbered (p / 3))
entry_in p h =
    ⊎_elim
    (λ (a : 4 ≤ p / 3). let e = entries-one (p / 3) a in omega arith)
    (λ (a : p / 3 < 4). let e = entries-three (p / 3) a in omega arith)
    (le-or-lt 4 (p / 3))

all-sums : (f : ℕ → ℕ → ℕ) → sum (λ p. f (p / 3) (p % 3)) 13 ≡ sum (λ g. sum (f g) (entries (numbered g))) 5
unfolding sum
all-sums f = omega arith

-- the units of all
units-sum : (u : List ℕ) → length u ≡ 13 → sum_by (λ x. x) u ≡ sum (λ p. get_or u p 0) 13
unfolding sum
units-sum u long = ap (sum_by (λ x. x)) (sym (take_all 13 u (omega (arith, long)))) ∙ sum-part u 0 13 (omega (arith, long))

pub units-most : (u : List ℕ) → length u ≡ 13 → ((p : ℕ) → get_or u p 0 < 2 ^ 48) → sum_by (λ x. x) u ≤ 13 * 2 ^ 48
units-most u long small = omega (arith, units-sum u long, sum-most (λ p. get_or u p 0) (2 ^ 48) 13 (λ p. omega (arith, small p)))

pub units-all : (u : List ℕ) → length u ≡ 13 → sum_by (λ x. x) u ≡ sum (group_of u) 5
unfolding group_of
units-all u long = units-sum u long ∙ sum_same _ _ 13 at ∙ all-sums (units_at u)
  where
    at : (p : ℕ) → p < 13 → get_or u p 0 ≡ units_at u (p / 3) (p % 3)
    at p l = let e : p ≡ 3 * (p / 3) + p % 3 = omega arith in ap (λ (k : ℕ). get_or u k 0) e

whole_in : (w H : ℕ) (work : List ℤ) (p : ℕ) → length (packet_bits_in w H work p) % 8 ≡ 0
unfolding packet_bits_in
whole_in w H work p = whole-bits (shape_in w H p) (numbers_in w H work p)

module _ (w H : ℕ) (v : Coefs) (work : List ℤ) (h : Holds w H v work) where
  unit-is : (p : ℕ) → p < 13 → units_in w H work p ≡ packet_units w H v (group_in p) (colour_in p)
  unfolding units_in
  unit-is p l = units-held w H v (group_in p) (colour_in p) _ (h.stand (group_in p) (colour_in p) (present-in p l))

  pub sum_is : 128 + 16 * sum (units_in w H work) 13 ≡ stream_length w H v
  unfolding stream_length group_units
  sum_is = ap (λ (n : ℕ). 128 + 16 * n) (sum_same _ _ 13 unit-is ∙ all-sums (λ g k. packet_units w H v (numbered g) (indexed k)))

  pub short : lengths_refusal w H v ≡ 0 → Short w H work
  unfolding group_units lengths_refusal
  short r =
      record {
        records = records-short w H v work h r;
        units = λ p l.
            let n = (both-none (each (λ g. each (checked w H v work h g) (entries (numbered g))) 5) (each (λ g. on (ltb 268435440 (16 * group_units w H v g)) 26) 5) r).1 in
            let g : p / 3 < 5 = omega arith in
            let m = ltb-false 268435440 (16 * group_units w H v (p / 3)) (not_on _ 25 (each-zero (λ g. on (ltb 268435440 (16 * group_units w H v g)) 26) (p / 3) 5 n g)) in
            let k = sum-some (λ k. packet_units w H v (numbered (p / 3)) (indexed k)) (entries (numbered (p / 3))) (p % 3) (entry_in p l) in
            omega (arith, unit-is p l, m, k);
      }

  -- header, directory and packets, packed
  pub stream-packed : (u X Y : List ℕ) → u ≡ tab 13 (λ p. packet_units w H v (group_in p) (colour_in p)) → X ≡ packed (front_of w H u) → Y ≡ rows 13 (λ p. packed (packet_bits_in w H work p)) → X ++ Y ≡ stream_of w H v
  unfolding stream_of
  stream-packed u X Y e a b =
      (λ i. a i ++ b i)
      ∙ ap (λ (y : List ℕ). packed (front_of w H u) ++ y) (sym (packed-rows 13 (packet_bits_in w H work) (λ p. whole_in w H work p)))
      ∙ sym (packed-append (front_of w H u) (rows 13 (packet_bits_in w H work)) (omega (arith, length_front w H u)))
      ∙ ap packed (stream-is w H v work h u e)
