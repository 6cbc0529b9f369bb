-- What the reader's inner functions leave. From no document: no promise rests on these. Assumes nothing.
use Rattle.std.specs.Prelude.{ℕ, ◌+◌, ◌-◌, min, false, List, ◌++◌, length, take, drop, Option, None, Some, Ok}
use Rattle.room.specs.Room.{over}
use Rattle.kiss_calls.specs.declared.KissBuffer.{KissBuffer}
use Rattle.kiss_calls.specs.declared.WriteError.TheVariants.{Full}
use Rattle.kiss_calls.specs.declared.Written.{Written}
use Rattle.kiss_reader.specs.Reader.{STORE, settle}
use Rattle.kiss_calls.specs.Calls.{not_written}

-- how many bytes are held once those from `from` up to `filled` are settled, and the store then
unfoldable pub compacted : ℕ → ℕ → List ℕ → ℕ × List ℕ
compacted from filled store = (length (settle (drop from (take filled store))), over (settle (drop from (take filled store))) store)

-- the offered bytes that fit stand behind the kept ones
unfoldable pub accepted : ℕ → List ℕ → List ℕ → Written × List ℕ
accepted kept offered store = (
  record { answer = Ok (min (length offered) (STORE - kept)); buffer = record { filled = kept + min (length offered) (STORE - kept); taken = false } },
  over (take kept store ++ take (min (length offered) (STORE - kept)) offered) store,
)

-- what is left to do of a write once room was made, with so many bytes kept: with no room it is refused
abbrev pub room_made : KissBuffer → Option ℕ → List ℕ → List ℕ → Written × List ℕ
room_made b None offered store = not_written Full b store
room_made b (Some kept) offered store = accepted kept offered store
