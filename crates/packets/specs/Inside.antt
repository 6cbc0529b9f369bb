-- How many bytes decoding counted. From no document: no promise rests on it. Assumes nothing.
use Rattle.std.specs.Prelude.{ℕ, Result, Ok, Err}
use Rattle.kiss_layout.specs.declared.KissError.{KissError}

abbrev pub count_of : Result ℕ KissError → ℕ
count_of (Ok n) = n
count_of (Err e) = 0
