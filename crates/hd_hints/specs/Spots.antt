-- Lines and columns, counted from 1. (Our own.)
use Rattle.std.specs.Prelude.{ℕ, suc, ◌==◌, List, reverse, count_by}
use Rattle.std.specs.List.{prefix_len}
use Rattle.hd_lex.specs.Byte.{is_line_byte}

-- the line after bytes: one more than the line feeds among them
abbrev pub line_of : List ℕ → ℕ
line_of before = suc (count_by (λ byte. byte == 10) before)

-- the column after bytes: one more than the bytes after the last line feed
abbrev pub column_of : List ℕ → ℕ
column_of before = suc (prefix_len is_line_byte (reverse before))
