use Rattle.std.proofs.Common.{◌≡◌, ◌≤◌, take, reverse}
use Rattle.std.specs.List.{prefix_len}
use Rattle.hd_lex.specs.Byte.{is_line_byte}
use Rattle.hd_hints.proofs.spot.last_line_len.Given as goal

abbrev pub invariant-loop-byte : goal.invariant-loop-byte
invariant-loop-byte l = record {
  counted : l.count ≡ prefix_len is_line_byte (reverse (take l.byte-index l.bytes));
  few : l.count ≤ l.byte-index;
}
