-- Where the reader's settled bytes begin, by index. From no document: no promise rests on it. Assumes nothing.
use Rattle.std.specs.Prelude.{ℕ, ◌+◌, ◌-◌, List, drop}
use Rattle.kiss_layout.specs.Scan.{is_fend, not_fend, run_of}

-- where settled bytes begin: the last FEND of the first run
abbrev pub settle_at : List ℕ → ℕ
settle_at h = run_of not_fend h + (run_of is_fend (drop (run_of not_fend h) h) - 1)
