-- The outcome of a call, case by case: the stream is refused, the record isn't there, it is. Assumes nothing.
use Rattle.std.proofs.Common.{Result, Ok, Err, Option, ◌≡◌, refl, sym, ap, ◌∙◌, List, ◌++◌, Bool, true, false, cond, ◌&&◌, ℕ, ◌*◌, ◌≤◌, ◌<◌, ltb, eqb, ℤ, length, drop, lt-ltb, le-ltb, ne_eqb}
use Rattle.format.specs.Sizes.{group_in, multiplier, components, columns}
use Rattle.format.specs.Strip.{width}
use Rattle.format.specs.Packets.{kind, blocks}
use Rattle.format.specs.Refusals.{◌▷◌, on}
use Rattle.format.specs.Coefficients.{record_of}
use Rattle.format.specs.Used as used
use Rattle.format.specs.Used.{packet_in, has_record, numbers_in, values_in, stream_refusal, inspect_refusal, nothing, of_record, inspected, band_after}
use Rattle.format.proofs.Lengths.{length-record}
use Rattle.inspection.specs.declared.Inspected.{Inspected}
use Rattle.std.specs.Result.{IsErrAnd}
use Rattle.refusals.specs.declared.Refusal.{Refusal}
use Rattle.refusals.specs.Number.{number_of}
use Rattle.refusals.proofs.Laws.{not_zero, decides}
use Rattle.inspection.specs.Inspect.{told, InspectOutcome}

-- what the exit of a `?` tells
pub told_exit : (r : Result (Option Inspected) Refusal) (e : Refusal) → IsErrAnd r (λ d. d ≡ e) → told r ≡ nothing (number_of e)
told_exit (Ok x) e h = elim h [ ]
told_exit (Err d) e h = ap (λ (x : Refusal). nothing (number_of x)) h

module _ (s : List ℕ) (q i : ℕ) where
  pub no-packet : 13 ≤ q → has_record s q i ≡ false
  unfolding has_record
  no-packet h = rw (le-ltb q 13 h) refl

  pub no_record : blocks (packet_in s q) ≤ i → has_record s q i ≡ false
  unfolding has_record
  no_record h = rw (le-ltb i (blocks (packet_in s q)) h) (none (ltb q 13))
    where
      none : (b : Bool) → (b && false) ≡ false
      none true = refl
      none false = refl

  pub has-record : q < 13 → i < blocks (packet_in s q) → has_record s q i ≡ true
  unfolding has_record
  has-record h k = rw (lt-ltb q 13 h, lt-ltb i (blocks (packet_in s q)) k) refl

  module _ (band : List ℤ) (r : used.Inspected) where
    pub refused : (e : Refusal) → number_of e ≡ stream_refusal s → r ≡ nothing (number_of e) → InspectOutcome s q i band r band
    unfolding inspect_refusal inspected band_after
    refused e is a =
        let k = number_of e in
        let e' : (stream_refusal s ▷ on (has_record s q i && ltb (length band) (numbers_in s q)) 4) ≡ k =
        sym (decides e _ _ is) in
        record { answer = rw (e', ne_eqb k 0 (not_zero e)) a; bands = rw (e', ne_eqb k 0 (not_zero e)) refl }

    pub absent : stream_refusal s ≡ 0 → has_record s q i ≡ false → r ≡ nothing 0 → InspectOutcome s q i band r band
    unfolding inspect_refusal inspected band_after
    absent none not a = record { answer = rw (none, not) a; bands = rw (none, not) refl }

    -- record i of a packet p of so many rows and columns, which is there
    module _ (none : stream_refusal s ≡ 0) (has : has_record s q i ≡ true) (p : List ℕ) (m cols : ℕ) (own : p ≡ packet_in s q) (rows : m ≡ multiplier (group_in q))
        (wide : cols ≡ columns (width s) (group_in q)) (kinds : kind p ≡ components (group_in q)) where
      abbrev size : ℕ
      size = kind p * m * cols

      abbrev short : Bool
      short = ltb (length band) size

      numbers : numbers_in s q ≡ size
      unfolding numbers_in
      numbers = λ j. sym kinds j * sym rows j * sym wide j

      values : values_in s q i ≡ (record_of p m cols i).values
      unfolding values_in
      values = λ j. (record_of (sym own j) (sym rows j) (sym wide j) i).values

      long : length (values_in s q i) ≡ size
      long = ap length values ∙ length-record p m cols i

      pub there : (band' : List ℤ) → r ≡ cond short (nothing 4) (of_record p m cols i)
          → band' ≡ cond short band ((record_of p m cols i).values ++ drop size band) → InspectOutcome s q i band r band'
      unfolding inspect_refusal inspected band_after
      there band' a b =
          let e : (stream_refusal s ▷ on (has_record s q i && ltb (length band) (numbers_in s q)) 4) ≡ on short 4 = rw (none, has, numbers) refl in
          let t : of_record p m cols i ≡ of_record (packet_in s q) (multiplier (group_in q)) (columns (width s) (group_in q)) i = λ j. of_record (own j) (rows j) (wide j) i in
          let l : (record_of p m cols i).values ++ drop size band ≡ values_in s q i ++ drop (length (values_in s q i)) band = λ j. sym values j ++ drop (sym long j) band in
          record {
            answer = a ∙ rw (e, has) (by short _ _ t);
            bands = b ∙ rw (e, has) (after short _ _ l);
          }
        where
          by : (b : Bool) (x y : used.Inspected) → x ≡ y → cond b (nothing 4) x ≡ cond (eqb (on b 4) 0 && true) y (nothing (on b 4))
          by true x y e = refl
          by false x y e = e

          after : (b : Bool) (x y : List ℤ) → x ≡ y → cond b band x ≡ cond (eqb (on b 4) 0 && true) y band
          after true x y e = refl
          after false x y e = e
