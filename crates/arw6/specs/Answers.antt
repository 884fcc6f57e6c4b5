-- What each answer to C tells, in the words of documents 01 and 02.
use Rattle.format.specs.Tile as tile
use Rattle.format.specs.Used as used
use Rattle.format.specs.Writing as writing
use Rattle.arw6.specs.declared.lengths.Lengths.{Lengths}
use Rattle.arw6.specs.declared.decoded.Decoded.{Decoded}
use Rattle.arw6.specs.declared.inspected.Inspected.{Inspected}
use Rattle.arw6.specs.declared.written.Written.{Written}

-- the lengths for a stream
abbrev pub lengths_told : Lengths → tile.Lengths
lengths_told c = record {
  refusal = c.refusal;
  width = c.width;
  height = c.height;
  rows = c.rows;
  green = c.green;
  red = c.red;
  blue = c.blue;
  work = c.work;
}

-- a decoded tile
abbrev pub tile_told : Decoded → tile.Answer
tile_told c = record {
  refusal = c.refusal;
  width = c.width;
  height = c.height;
  rows = c.rows;
  stopped = c.stopped;
  broken = c.broken;
  spent = c.spent;
  bits = c.bits;
}

-- one record
abbrev pub record_told : Inspected → used.Inspected
record_told c = record {
  refusal = c.refusal;
  bytes = c.bytes;
  allowance = c.allowance;
  bits = c.bits;
  broken = c.broken;
  spent = c.spent;
}

-- a written stream
abbrev pub written_told : Written → writing.Written
written_told c = record { refusal = c.refusal; length = c.length }
