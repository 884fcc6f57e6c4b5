-- A word of eight bytes.
use Rattle.std.specs.Prelude.{List, ℕ, ◌+◌, ◌*◌, ◌^◌, get_or}

-- the eight bytes from byte i as one number, the first the most significant
abbrev pub word_at : List ℕ → ℕ → ℕ
word_at s i =
    get_or s i 0 * 2 ^ 56 + get_or s (i + 1) 0 * 2 ^ 48 + get_or s (i + 2) 0 * 2 ^ 40 + get_or s (i + 3) 0 * 2 ^ 32
    + get_or s (i + 4) 0 * 2 ^ 24 + get_or s (i + 5) 0 * 2 ^ 16 + get_or s (i + 6) 0 * 2 ^ 8 + get_or s (i + 7) 0
