-- The number and the name of each kind of cases.
use Rattle.std.specs.Prelude.{◌≡◌, Result, Ok, Err, List, ℕ, ◌<◌, ◌⊎◌, codes}
use Rattle.replay.specs.declared.kind.Kind.{Kind}
use Rattle.replay.specs.declared.kind.Kind.TheVariants as is
use Rattle.replay.specs.declared.kind.NoKind.{NoKind}

-- its number, which leads each of its cases
abbrev pub number_of : Kind → ℕ
number_of is.Strips = 1
number_of is.Refusals = 2
number_of is.Records = 3
number_of is.Tiles = 4
number_of is.Listings = 5
number_of is.Written = 6
number_of is.Inspected = 7

-- what a number gives: the kind that has it; none for 0, and above 7
abbrev pub KindOf : ℕ → Result Kind NoKind → Type 0
KindOf n (Ok k) = number_of k ≡ n
KindOf n (Err e) = (n ≡ 0) ⊎ (7 < n)

-- what is printed for it
abbrev pub name_of : Kind → List ℕ
name_of is.Strips = codes "strips"
name_of is.Refusals = codes "refusals"
name_of is.Records = codes "records"
name_of is.Tiles = codes "tiles"
name_of is.Listings = codes "listings"
name_of is.Written = codes "written"
name_of is.Inspected = codes "inspected"
