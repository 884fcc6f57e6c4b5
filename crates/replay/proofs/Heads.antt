-- Laws of the words of a head. Assumes nothing.
use Rattle.std.proofs.Common.{◌≡◌, ℕ, zero, suc, ◌+◌, ◌*◌, List, [], ◌∷◌, ◌++◌, get_or, drop, replicate, refl, ◌∙◌, get_or-drop}
use Rattle.lists.proofs.Tab.{tab-same}
use Rattle.format.specs.Bits.{little32}
use Rattle.replay.specs.Heads.{head_words}

-- there is nothing but zeros in the bytes that a head has no use for
zeros_stay : (m k : ℕ) → ◌≡◌ {A = ℕ} (get_or (replicate m 0) k 0) 0
zeros_stay zero k = refl
zeros_stay (suc m) zero = refl
zeros_stay (suc m) (suc k) = zeros_stay m k

zero_behind : (b : List ℕ) (n m k : ℕ) → get_or (b ++ drop n (replicate m 0)) k 0 ≡ get_or b k 0
zero_behind [] n m k = get_or-drop n (replicate m 0) k 0 ∙ zeros_stay m (n + k)
zero_behind (x ∷ b) n m zero = refl
zero_behind (x ∷ b) n m (suc k) = zero_behind b n m k

word_before : (b : List ℕ) (n m a : ℕ) → little32 (b ++ drop n (replicate m 0)) a ≡ little32 b a
unfolding little32
word_before b n m a = rw (zero_behind b n m a, zero_behind b n m (a + 1), zero_behind b n m (a + 2), zero_behind b n m (a + 3)) refl

-- zeros behind the bytes change no word
pub words_before : (b : List ℕ) (n m : ℕ) → head_words (b ++ drop n (replicate m 0)) ≡ head_words b
words_before b n m = tab-same 11 _ _ (λ k h. word_before b n m (4 * k))
