-- Codes laid into a room from a place on, one after the other: `lay` of document 01's "KISS bytes", said of any place. Assumes nothing.
use Rattle.std.specs.Prelude.{ℕ, suc, List, [], ◌∷◌, get_or, set}
use Rattle.kiss_layout.specs.Unescape.{Code, laid}

abbrev pub lays : List ℕ → ℕ → List Code → List ℕ
lays d j [] = d
lays d j (c ∷ cs) = lays (set d j (laid c (get_or d j 0))) (suc j) cs
