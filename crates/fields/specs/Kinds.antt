-- Document 01's groups and colours, as the code has them.
use Rattle.format.specs.Sizes as sizes
use Rattle.fields.specs.declared.colour.Colour.{Colour}
use Rattle.fields.specs.declared.colour.Colour.TheVariants.{Green, Red, Blue}
use Rattle.fields.specs.declared.group.Group.{Group}
use Rattle.fields.specs.declared.group.Group.TheVariants.{Base, First, Second, Third, Final}

-- document 01's group
abbrev pub group_of : Group → sizes.Group
group_of Base = sizes.base
group_of First = sizes.detail sizes.l1
group_of Second = sizes.detail sizes.l2
group_of Third = sizes.detail sizes.l3
group_of Final = sizes.final

-- its colour
abbrev pub colour_of : Colour → sizes.Colour
colour_of Green = sizes.green
colour_of Red = sizes.red
colour_of Blue = sizes.blue
