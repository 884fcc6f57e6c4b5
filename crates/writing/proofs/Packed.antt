-- The bits of the stream are bits, and packed into bytes they stand there. Assumes nothing.
use Rattle.std.proofs.Common.{◌≡◌, refl, ap, ◌∙◌, List, [], ◌∷◌, ◌++◌, ⊎_elim, ℕ, zero, suc, ◌+◌, ◌-◌, ◌*◌, ◌/◌, ◌%◌, ◌^◌, ◌≤◌, ◌<◌, arith, ℤ, pos, negsuc, length, get_or, get_or-append-add, eqb, ltb, leb}
use Rattle.std.proofs.Math.ListN.{get_or-append}
use Rattle.wrap32.proofs.Laws.{of-cond}
use Rattle.lists.specs.Lists.{tab, rows}
use Rattle.lists.proofs.Tab.{get_or-tab, length-tab}
use Rattle.format.specs.Bits.{bit_at}
use Rattle.format.specs.Reader.{bit_length}
use Rattle.format.specs.Sizes.{components, numbered}
use Rattle.format.specs.Lifting.{Signal, Plane}
use Rattle.format.specs.Coefficients.{Coefs}
use Rattle.format.specs.Writing.{number_bits, zero_bits, unary_bits, update_bits, run_bits, sign_bits, group_width, zero_groups, next_bits, after_run, groups_bits, padded, row_bits}
use Rattle.format.specs.Writing.{record_row, magnitudes, record_bits, units, filled, whole_record, record_head, packet_head, packet_bits, group_bits, block_bits, header_bits, stream_bits, byte_at, packed}
use Rattle.format.proofs.BitLaws.{le-or-lt}
use Rattle.writing.proofs.Standing.{Stand}

-- ---- 0 or 1 at every place
pub record Bits (b : List ℕ) : Type 0 where
  pub bit : (k : ℕ) → get_or b k 0 < 2

none : Bits []
none = record { bit = λ k. omega arith }

append-bit : (a b : List ℕ) → Bits a → Bits b → (k : ℕ) → get_or (a ++ b) k 0 < 2
append-bit a b p q k =
    ⊎_elim
    (λ (h : length a ≤ k). let e : k ≡ length a + (k - length a) = omega arith in rw (e, get_or-append-add a b (k - length a) 0) (q.bit (k - length a)))
    (λ (h : k < length a). rw (get_or-append a b 0 k h) (p.bit k))
    (le-or-lt (length a) k)

infixr 20 ◌and◌
◌and◌ : {a b : List ℕ} → Bits a → Bits b → Bits (a ++ b)
◌and◌ {a} {b} p q = record { bit = append-bit a b p q }

more : (b : ℕ) {l : List ℕ} → b < 2 → Bits l → Bits (b ∷ l)
more b {l} h q = record { bit = at }
  where
    at : (k : ℕ) → get_or (b ∷ l) k 0 < 2
    at zero = h
    at (suc k) = q.bit k

one : (b : ℕ) → b < 2 → Bits (b ∷ [])
one b h = more b h none

zeros : (n : ℕ) → Bits (zero_bits n)
zeros zero = none
zeros (suc n) = more 0 (omega arith) (zeros n)

number : (n v : ℕ) → Bits (number_bits n v)
unfolding number_bits
number zero v = none
number (suc n) v = number n (v / 2) and one (v % 2) (omega arith)

unary : (k : ℕ) → Bits (unary_bits k)
unfolding unary_bits
unary k = zeros (k - 1) and one 1 (omega arith)

all-rows : (n : ℕ) (g : ℕ → List ℕ) → ((k : ℕ) → Bits (g k)) → Bits (rows n g)
unfolding rows
all-rows zero g h = none
all-rows (suc n) g h = all-rows n g h and h n

update : (a b : ℕ) → Bits (update_bits a b)
unfolding update_bits
update a b =
    of-cond Bits (eqb a b) _ _ (λ _. one 0 (omega arith)) λ _.
    of-cond Bits (ltb a b) _ _ (λ _. more 1 (omega arith) (more 0 (omega arith) (unary (b - a)))) λ _.
    more 1 (omega arith) (more 1 (omega arith) (of-cond Bits (eqb b 0) _ _ (λ _. zeros (a - 1)) (λ _. unary (a - b))))

run : (g k : ℕ) → Bits (run_bits g k)
unfolding run_bits
run g k = of-cond Bits (eqb k g) _ _ (λ _. zeros (bit_length (g - 1))) (λ _. unary _ and number _ _)

sign : (z : ℤ) → Bits (sign_bits z)
sign (pos zero) = none
sign (pos (suc n)) = one 0 (omega arith)
sign (negsuc n) = one 1 (omega arith)

groups : (f : Signal) (turns j g : ℕ) → Bits (groups_bits f turns j g)
unfolding groups_bits after_run next_bits
groups f zero j g = none
groups f (suc turns) j g =
    of-cond Bits (eqb g 0) _ _ (λ _. none) λ _.
    of-cond Bits (eqb (group_width f j) 0) _ _
    (λ _. run g (zero_groups f j g) and of-cond Bits (eqb (zero_groups f j g) g) _ _ (λ _. none) (λ _. unary _ and groups f turns (j + zero_groups f j g) (g - zero_groups f j g)))
    (λ _.
    (number _ _ and number _ _ and number _ _ and number _ _) and of-cond Bits (leb g 1) _ _ (λ _. none) (λ _. update _ _)
    and (sign (f (4 * j)) and sign (f (4 * j + 1)) and sign (f (4 * j + 2)) and sign (f (4 * j + 3))) and groups f turns (j + 1) (g - 1))

row : (n : ℕ) (f : Signal) → Bits (row_bits n f)
unfolding row_bits
row n f = update _ _ and groups (padded n f) _ _ _

whole : (v : ℕ → Plane) (m cols n k : ℕ) → Bits (record_bits v m cols n k)
unfolding record_bits
whole v m cols n k = of-cond Bits (eqb (magnitudes v m cols n k) 0) _ _ (λ _. none) (λ _. all-rows n _ (λ q. row cols (record_row v m k q)))

fill : (k : ℕ) (b : List ℕ) → Bits b → Bits (filled k b)
unfolding filled
fill k b h = h and zeros (units k b * k - length b)

module _ (w H : ℕ) (v : Coefs) where
  pub stream-bits : Bits (stream_bits w H v)
  unfolding stream_bits header_bits block_bits group_bits packet_bits packet_head record_head whole_record
  stream-bits =
      (number _ _ and zeros 32 and number _ _ and number _ _ and number _ _ and number _ _ and all-rows 5 _ (λ g. number _ _) and zeros 136)
      and all-rows 5 _ (λ g. zeros 4 and number _ _ and all-rows 5 _ (λ k. number _ _))
      and all-rows 5 _ (λ g. all-rows _ _ (λ k.
      fill 128 _ ((number _ _ and number _ _ and number _ _ and zeros 4 and number _ _ and zeros 6 and number _ _ and number _ _ and zeros 8 and zeros 40) and all-rows _ _ (λ r. number _ _ and zeros (4 * components (numbered g))))
      and fill 128 _ (all-rows _ _ (λ r. fill 8 _ (whole _ _ _ _ _)))))

-- ---- eight bits in a byte
in-byte : (a b c d e f g h j : ℕ) → a < 2 → b < 2 → c < 2 → d < 2 → e < 2 → f < 2 → g < 2 → h < 2 → j < 8
    → (a * 2 ^ 7 + b * 2 ^ 6 + c * 2 ^ 5 + d * 2 ^ 4 + e * 2 ^ 3 + f * 2 ^ 2 + g * 2 + h) / 2 ^ (7 - j) % 2
    ≡ get_or (a ∷ b ∷ c ∷ d ∷ e ∷ f ∷ g ∷ h ∷ []) j 0
in-byte a b c d e f g h zero p q r s t u v w l = omega arith
in-byte a b c d e f g h (suc zero) p q r s t u v w l = omega arith
in-byte a b c d e f g h (suc (suc zero)) p q r s t u v w l = omega arith
in-byte a b c d e f g h (suc (suc (suc zero))) p q r s t u v w l = omega arith
in-byte a b c d e f g h (suc (suc (suc (suc zero)))) p q r s t u v w l = omega arith
in-byte a b c d e f g h (suc (suc (suc (suc (suc zero))))) p q r s t u v w l = omega arith
in-byte a b c d e f g h (suc (suc (suc (suc (suc (suc zero)))))) p q r s t u v w l = omega arith
in-byte a b c d e f g h (suc (suc (suc (suc (suc (suc (suc zero))))))) p q r s t u v w l = omega arith
in-byte a b c d e f g h (suc (suc (suc (suc (suc (suc (suc (suc j)))))))) p q r s t u v w l = absurd (omega arith)

of-byte : (b : List ℕ) (k j : ℕ) → j < 8 → get_or (get_or b (8 * k) 0 ∷ get_or b (8 * k + 1) 0 ∷ get_or b (8 * k + 2) 0 ∷ get_or b (8 * k + 3) 0 ∷ get_or b (8 * k + 4) 0 ∷ get_or b (8 * k + 5) 0 ∷ get_or b (8 * k + 6) 0 ∷ get_or b (8 * k + 7) 0 ∷ []) j 0 ≡ get_or b (8 * k + j) 0
of-byte b k zero l = let e : 8 * k ≡ 8 * k + 0 = omega arith in ap (λ (i : ℕ). get_or b i 0) e
of-byte b k (suc zero) l = refl
of-byte b k (suc (suc zero)) l = refl
of-byte b k (suc (suc (suc zero))) l = refl
of-byte b k (suc (suc (suc (suc zero)))) l = refl
of-byte b k (suc (suc (suc (suc (suc zero))))) l = refl
of-byte b k (suc (suc (suc (suc (suc (suc zero)))))) l = refl
of-byte b k (suc (suc (suc (suc (suc (suc (suc zero))))))) l = refl
of-byte b k (suc (suc (suc (suc (suc (suc (suc (suc j)))))))) l = absurd (omega arith)

-- packed, and whatever comes after
pub packed-stands : (b rest : List ℕ) → Bits b → length b % 8 ≡ 0 → Stand (packed b ++ rest) 0 b
unfolding bit_at packed
packed-stands b rest h whole k l =
    let j = (0 + k) / 8 in
    let e : (0 + k) / 8 < length b / 8 = omega arith in
    let front : get_or (tab (length b / 8) (byte_at b) ++ rest) j 0 ≡ byte_at b j =
    get_or-append (tab (length b / 8) (byte_at b)) rest 0 j (rw (length-tab (length b / 8) (byte_at b)) e) ∙ get_or-tab (length b / 8) (byte_at b) j 0 e in
    let back : 8 * j + (0 + k) % 8 ≡ k = omega arith in
    rw front
    (in-byte _ _ _ _ _ _ _ _ ((0 + k) % 8) (h.bit _) (h.bit _) (h.bit _) (h.bit _) (h.bit _) (h.bit _) (h.bit _) (h.bit _) (omega arith)
    ∙ of-byte b j ((0 + k) % 8) (omega arith) ∙ ap (λ (i : ℕ). get_or b i 0) back)
