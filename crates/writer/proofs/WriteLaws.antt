-- The answer of coefficients that are written, and the stream after it. Assumes nothing.
use Rattle.std.proofs.Common.{Result, Ok, Err, ap, ◌≡◌, refl, sym, ◌∙◌, List, ◌++◌, ℕ, ◌≤◌, ◌<◌, arith, length, drop, ne_eqb, lt-ltb, le-ltb}
use Rattle.format.specs.Coefficients.{Coefs}
use Rattle.format.specs.Writing.{Written, lengths_refusal, stream_length, stream_of}
use Rattle.format.proofs.TurnLaws.{stops}
use Rattle.std.specs.Result.{IsErrAnd}
use Rattle.refusals.specs.declared.Refusal.{Refusal}
use Rattle.refusals.specs.Number.{number_of}
use Rattle.writer.specs.Write.{told, coefs_refusal, answer_by, stream_by}

-- what the exit of a `?` tells
pub told_exit : (r : Result ℕ Refusal) (e : Refusal) → IsErrAnd r (λ d. d ≡ e) → told r ≡ record { refusal = number_of e; length = 0 }
told_exit (Ok n) e h = elim h [ ]
told_exit (Err d) e h = ap (λ (x : Refusal). record { refusal = number_of x; length = 0 }) h

-- a refusal k of any kind
pub refused-answer : (k r long : ℕ) → (k ≡ 0 → ⊥) → k ≡ r → ◌≡◌ {A = Written} (record { refusal = k; length = 0 }) (answer_by r long)
refused-answer k r long some e = rw (← e, ne_eqb k 0 some) refl

pub refused-stream : (k r w H : ℕ) (v : Coefs) (stream : List ℕ) → (k ≡ 0 → ⊥) → k ≡ r → stream ≡ stream_by r w H v stream
refused-stream k r w H v stream some e = rw (← e, ne_eqb k 0 some) refl

module _ (w H n : ℕ) (v : Coefs) where
  pub too_long : (k : ℕ) → k ≡ lengths_refusal w H v → (k ≡ 0 → ⊥) → k ≡ coefs_refusal w H v n
  too_long k e some = e ∙ sym (stops (lengths_refusal w H v) _ (λ z. some (e ∙ z)))

  pub no_room : lengths_refusal w H v ≡ 0 → n < stream_length w H v → 4 ≡ coefs_refusal w H v n
  no_room e b = rw (e, lt-ltb n (stream_length w H v) b) refl

  pub room : lengths_refusal w H v ≡ 0 → stream_length w H v ≤ n → coefs_refusal w H v n ≡ 0
  room e b = rw (e, le-ltb n (stream_length w H v) b) refl

  -- all of it written
  pub written-answer : (m : ℕ) → lengths_refusal w H v ≡ 0 → m ≡ stream_length w H v → m ≤ n → ◌≡◌ {A = Written} (record { refusal = 0; length = m }) (answer_by (coefs_refusal w H v n) (stream_length w H v))
  written-answer m e f b = rw (room e (omega (arith, f, b)), f) refl

pub written-stream : (w H m : ℕ) (v : Coefs) (stream new : List ℕ) → lengths_refusal w H v ≡ 0 → m ≡ stream_length w H v → m ≤ length stream → new ≡ stream_of w H v
    → new ++ drop m stream ≡ stream_by (coefs_refusal w H v (length stream)) w H v stream
written-stream w H m v stream new e f b is =
    rw (room w H (length stream) v e (omega (arith, f, b)))
    (λ i. is i ++ drop (f i) stream)
