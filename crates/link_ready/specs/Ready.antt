-- What a write from the host asks, from document 01's "Answer numbers": the lengths of its stores (7). Assumes nothing.
use Rattle.std.specs.Prelude.{ℕ, Bool, eqb}
use Rattle.choice.specs.Pick.{and}
use Rattle.kiss_reader.specs.Reader.{STORE as READER}
use Rattle.host_record.specs.Host.{stores_fit}

-- the reader's store has its length, and so have the packets' and the streams'
unfoldable pub link_fits : ℕ → ℕ → ℕ → Bool
link_fits reader packets streams = and (eqb reader READER) (stores_fit packets streams)
