-- Document 01's worked rehearsal, to the letter.
use Rattle.std.specs.Prelude.{List, ℕ}
use Rattle.names.specs.Text.{bytes}

abbrev pub schedule : List ℕ
schedule = bytes "P 2\nC 0 1 map 1 5\nA 0 1\nD 0 1\nD 1 0\nU 0 1 map\nA 0 1\nU 0 1 map\nA 0 1\nU 0 1 map\nA 0 1\nK 0\nR 0\nA 0 1\nD 0 1\nD 1 0\nA 0 1\nS\n"

abbrev pub answers : List ℕ
answers = bytes "1 0 0 0\n2 0 1 0\n3 0 1 0\n4 0 1 0\n5 0 1 0\n6 7 0 0\n7 0 1 1\n8 8 0 0\n9 0 1 0\n10 0 1 0\n11 0 1 1\n12 0 0 0\n13 0 0 0\n14 0 1 0\n15 0 1 0\n16 0 1 0\n17 0 1 0\n18 0 0 0 0 0\n"

-- An answer before `P`; a count out of range, which may be tried again; a second `P`; an empty line; two spaces side by side; a
-- leading zero; a number too large; a word too many; a space at the end; a name of nine bytes; the empty square of one partition;
-- five settling steps of a create, counted and then none; the totals; and a last line without LF.
abbrev pub read_schedule : List ℕ
read_schedule =
    bytes
    "S\nP 5\nP 1\nP 1\n\nA 0  1\nA 0 01\nA 0 4294967296\nA 0 4294967295\nK 0 0\nK 0 \nC 0 1 ninebytes 0 5\nC 0 1 eight.by 0 5\nQ\nZ 4294967295\nZ 0\nS\nU 0 1 eight.by"

abbrev pub read_answers : List ℕ
read_answers =
    bytes
    "1 23 0 0\n2 1 0 0\n3 0 0 0\n4 23 0 0\n5 23 0 0\n6 23 0 0\n7 23 0 0\n8 23 0 0\n9 12 0 0\n10 23 0 0\n11 23 0 0\n12 2 0 0\n13 0 1 0\n14 0 0\n15 0 5 0\n16 0 0 0\n17 0 1 1 0 0\n18 0 1 0\n"
