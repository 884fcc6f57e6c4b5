-- The laws of what takes codes, of a bit writer and of a count.
use Rattle.std.specs.Prelude.{List, [], ◌++◌, ℕ, ◌+◌, ◌≤◌, length}
use Rattle.std.proofs.Common.{refl, ◌∙◌, append-nil, append_assoc, length-append, arith}
use Rattle.codes.specs.Wrote.{Room, Appends, Counts, CountRoom}
use Rattle.codes.specs.declared.BitWriter.{BitWriter}
use Rattle.codes.specs.declared.Count.{Count}

-- ---- what a bit writer takes
pub appends-none : (w : BitWriter) (n : ℕ) → Room w n → Appends w w []
appends-none w n h =
    record { same = refl; few = h.few; small = h.small; on = omega arith; long = refl; wrote = λ old b a. rw (append-nil b) a }

pub appends-both : (w r q : BitWriter) (x y : List ℕ) → Appends w r x → Appends r q y → Appends w q (x ++ y)
appends-both w r q x y h k =
    record {
      same = k.same ∙ h.same;
      few = k.few;
      small = k.small;
      on = k.on ∙ omega (arith, h.on, length-append x y);
      long = k.long ∙ h.long;
      wrote = λ old b a. rw (← append_assoc b x y) (k.wrote old (b ++ x) (h.wrote old b a));
    }

pub room_after : (w r : BitWriter) (x : List ℕ) (n k : ℕ) → Room w n → Appends w r x → length x + k ≤ n → Room r k
room_after w r x n k a h l = record { few = h.few; small = h.small; room = omega (arith, a.room, h.on, h.long) }

-- ---- what a count takes
pub counts-none : (w : Count) (n : ℕ) → CountRoom w n → Counts w w []
counts-none w n h = record { on = omega arith }

pub counts-both : (w r q : Count) (x y : List ℕ) → Counts w r x → Counts r q y → Counts w q (x ++ y)
counts-both w r q x y h k = record { on = omega (arith, h.on, k.on, length-append x y) }

pub counts-after : (w r : Count) (x : List ℕ) (n k : ℕ) → CountRoom w n → Counts w r x → length x + k ≤ n → CountRoom r k
counts-after w r x n k a h l = record { room = omega (arith, a.room, h.on) }
