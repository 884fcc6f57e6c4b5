-- The words of each refusal.
use Rattle.std.specs.Prelude.{List, ℕ, codes}
use Rattle.refusals.specs.declared.Refusal.{Refusal}
use Rattle.refusals.specs.declared.Refusal.TheVariants as is

-- what is printed for a refusal
abbrev pub words_of : Refusal → List ℕ
words_of is.NoTile = codes "no tile located in the strip"
words_of is.InvalidHeader = codes "the stream's header is not valid"
words_of is.PlaneTooLarge = codes "the green plane would hold more than 134,217,728 numbers"
words_of is.SliceTooShort = codes "a lent slice is too short"
words_of is.DirectoryTooShort = codes "the directory runs past the end of the stream"
words_of is.TooManyEntries = codes "the directory lists more than 9 packets in a group"
words_of is.EntryPastEnd = codes "a packet runs past the end of the stream"
words_of is.EntriesPastGroup = codes "the packets of a group are longer than the group"
words_of is.MissingPacket = codes "a packet is missing"
words_of is.PacketTooShort = codes "a packet is shorter than 16 bytes"
words_of is.RecordHeaderPastEnd = codes "a record header runs past the end of its packet"
words_of is.PaddingNotZero = codes "a packet header's padding is not 0"
words_of is.WrongTag = codes "a packet header's tag is not 4, or the zeros beside it are not 0"
words_of is.UnknownKind = codes "a packet's kind is neither 1 nor 3"
words_of is.WrongBlockCount = codes "a packet has no records, or more than 30,000"
words_of is.WrongMarker = codes "a packet header's marker is not 16, or the zeros after it are not 0"
words_of is.WrongPacketSize = codes "a packet's size is not its length in the directory"
words_of is.RecordPastEnd = codes "a record's bytes run past the end of its packet"
words_of is.ThreeOutsideDetail = codes "a packet of kind 3 stands in group 0 or 4"
words_of is.HeightAboveLimit = codes "the coded height is above 32,767"
words_of is.RowsOffHeight = codes "a packet's rows do not fit the coded height"
words_of is.MoreRecordsThanRoom = codes "a packet has more records than a stream of this length may have"
words_of is.OneInDetail = codes "a packet of kind 1 stands in group 1, 2 or 3"
words_of is.HeightBelow16 = codes "the coded height is under 16"
words_of is.NumberOutOfRange = codes "a coefficient is above 524,287 in magnitude, a step of band 0 leaves 16 bits, or an edge value is no value of E"
words_of is.TooLong = codes "a record would be longer than 65,535 bytes, or a group longer than 268,435,440"
