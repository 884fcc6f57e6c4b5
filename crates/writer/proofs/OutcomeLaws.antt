-- The whole outcome of a call: refused before anything is changed, or by its planes. Assumes nothing.
use Rattle.std.proofs.Common.{◌≡◌, refl, ◌∙◌, List, ◌++◌, ℕ, ◌≤◌, arith, ℤ, length, drop, eq-eqb, ne_eqb}
use Rattle.format.specs.Coefficients.{zeros}
use Rattle.format.specs.Sizes.{Colour, green, red, blue, work_length}
use Rattle.format.specs.Recovery.{recover}
use Rattle.format.specs.Writing.{Written, call_refusal, planes_refusal, stream_length, write_refusal, written_of, work_left, stream_left}
use Rattle.format.proofs.TurnLaws.{stops}
use Rattle.format.proofs.Accepted.{lent-parts}
use Rattle.writing.proofs.Checked.{sides}
use Rattle.writer.specs.Write.{Fit, answer_by, stream_by, WriteOutcome}

-- what a call that is not refused has
pub fit : (w H green_n red_n blue_n work_n : ℕ) → call_refusal w H green_n red_n blue_n work_n ≡ 0 → Fit w H green_n red_n blue_n
fit w H green_n red_n blue_n work_n e =
    let s = sides w H green_n red_n blue_n work_n e in
    let l = lent-parts w H green_n red_n blue_n work_n s.lent in
    record { narrow = s.narrow; whole = s.whole; wide = omega (arith, s.wide, s.whole); tall = s.tall; low = s.low; greens = l.0; reds = l.1; blues = l.2 }

pub work-lent : (w H green_n red_n blue_n work_n : ℕ) → call_refusal w H green_n red_n blue_n work_n ≡ 0 → work_length w H ≤ work_n
work-lent w H green_n red_n blue_n work_n e = (lent-parts w H green_n red_n blue_n work_n (sides w H green_n red_n blue_n work_n e).lent).3

module _ (w H : ℕ) (p : Colour → List ℤ) (work : List ℤ) (stream : List ℕ) where
  abbrev call : ℕ
  call = call_refusal w H (length (p green)) (length (p red)) (length (p blue)) (length work)

  -- refused before anything is changed
  module _ (some : call ≡ 0 → ⊥) where
    same : write_refusal w H p work stream ≡ call
    unfolding write_refusal
    same = stops call _ some

    pub call-refused : (r : Written) → r ≡ record { refusal = call; length = 0 } → WriteOutcome w H p work stream r work stream
    unfolding written_of work_left stream_left
    call-refused r e = record {
      answer = e ∙ rw (same, ne_eqb call 0 some) refl;
      works = rw (ne_eqb call 0 some) refl;
      streams = rw (same, ne_eqb call 0 some) refl;
    }

  -- refused or not by its planes
  module _ (none : call ≡ 0) where
    planes : write_refusal w H p work stream ≡ planes_refusal w H p (length stream)
    unfolding write_refusal
    planes = rw none refl

    pub call-done : (r : Written) (zero : List ℤ) (m : ℕ) (after : List ℕ) → r ≡ answer_by (planes_refusal w H p (length stream)) (stream_length w H (recover w H p)) → m ≡ work_length w H → zero ≡ zeros (work_length w H)
        → after ≡ stream_by (planes_refusal w H p (length stream)) w H (recover w H p) stream → WriteOutcome w H p work stream r (zero ++ drop m work) after
    unfolding written_of work_left stream_left
    call-done r zero m after e n z s = record {
      answer = e ∙ rw planes refl;
      works = rw (eq-eqb call 0 none) (λ i. z i ++ drop (n i) work);
      streams = s ∙ rw planes refl;
    }
