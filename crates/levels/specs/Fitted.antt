-- That a tile is tall enough has one proof at most, as a ghost field asks of its fact.
use Rattle.std.specs.Prelude.{Bool, true, false, ℕ}
use Rattle.std.specs.Coded.{le_prop}
use Rattle.format.specs.Sizes.{Tall}

pub tall-prop : (g : Bool) (n : ℕ) → IsProp (Tall g n)
tall-prop false n = le_prop
tall-prop true n = le_prop
