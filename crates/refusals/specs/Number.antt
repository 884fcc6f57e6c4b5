-- The number of each refusal: documents 01 and 02.
use Rattle.std.specs.Prelude.{Result, Ok, Err, ℕ}
use Rattle.refusals.specs.declared.Refusal.{Refusal}
use Rattle.refusals.specs.declared.Refusal.TheVariants as is

-- the number under which the documents have a refusal
abbrev pub number_of : Refusal → ℕ
number_of is.NoTile = 1
number_of is.InvalidHeader = 2
number_of is.PlaneTooLarge = 3
number_of is.SliceTooShort = 4
number_of is.DirectoryTooShort = 5
number_of is.TooManyEntries = 6
number_of is.EntryPastEnd = 7
number_of is.EntriesPastGroup = 8
number_of is.MissingPacket = 9
number_of is.PacketTooShort = 10
number_of is.RecordHeaderPastEnd = 11
number_of is.PaddingNotZero = 12
number_of is.WrongTag = 13
number_of is.UnknownKind = 14
number_of is.WrongBlockCount = 15
number_of is.WrongMarker = 16
number_of is.WrongPacketSize = 17
number_of is.RecordPastEnd = 18
number_of is.ThreeOutsideDetail = 19
number_of is.HeightAboveLimit = 20
number_of is.RowsOffHeight = 21
number_of is.MoreRecordsThanRoom = 22
number_of is.OneInDetail = 23
number_of is.HeightBelow16 = 24
number_of is.NumberOutOfRange = 25
number_of is.TooLong = 26

-- what a check gives as a number: 0 where it passes, else its refusal's
abbrev pub code_of : {A : Type 0} → Result A Refusal → ℕ
code_of (Ok x) = 0
code_of (Err r) = number_of r
