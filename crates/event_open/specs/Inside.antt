-- What a run of events 01 leaves whose bytes complete no frame. From no document: it is what these events leave one by one (`RunIsItsEvents` of crate event_block). Assumes nothing.
use Rattle.std.specs.Prelude.{ℕ, ◌+◌, ◌-◌, Bool, false, not, List, [], ◌∷◌, ltb, leb, eqb, length, take, drop, get_or, set}
use Rattle.std.proofs.lemmas.List.Edits.{sets}
use Rattle.choice.specs.Pick.{pick, and}
use Rattle.channel.specs.declared.Channel.{Channel}
use Rattle.channel.specs.Access.{sound_channel}
use Rattle.kiss_layout.specs.Scan.{is_fend, not_fend, run_of}
use Rattle.tnc_core.specs.declared.Tnc.{Tnc}
use Rattle.tnc_core.specs.Tnc.{sound_tnc}
use Rattle.link_ready.specs.Ready.{link_fits}
use Rattle.event_input.specs.Events.{HOST}
use Rattle.event_line.specs.Line.{line_of}
use Rattle.event_answer.specs.declared.EventBox.{EventBox}
use Rattle.event_answer.specs.Answer.{LINE}
use Rattle.event_answer.specs.declared.Taken.{Taken}
use Rattle.event_open.specs.declared.Run.{Run}

-- a frame is open: a FEND, and none behind it
unfoldable pub opened : List ℕ → Bool
opened [] = false
opened (b ∷ h) = and (is_fend b) (eqb (run_of not_fend h) (length h))

-- the stores have their lengths, all is within its bounds, no frame was handed out, and one is open
unfoldable pub is_open : Tnc → Channel → List ℕ → ℕ → ℕ → Bool
is_open t c reader p q =
    and (link_fits (length reader) p q)
    (and (sound_tnc t) (and (sound_channel c) (and (not t.buffer.taken) (opened (take t.buffer.filled reader)))))

-- the event that stands next is of kind 01
unfoldable pub begins : List ℕ → ℕ → Bool
begins s at = and (ltb at (length s)) (eqb (get_or s at 0) HOST)

-- 01 and a byte other than FEND, with room for a longest line and place for the byte
unfoldable pub keeps : ℕ → ℕ → ℕ → ℕ → Bool
keeps kind b room place = and (eqb kind HOST) (and (not_fend b) (and (leb LINE room) (ltb 0 place)))

-- a run that goes no further
abbrev pub ended : ℕ → List ℕ → ℕ → List ℕ → ℕ → Run × List ℕ × List ℕ
ended u d n r f = (record { used = u; wrote = n; filled = f }, d, r)

-- event by event: the byte behind those that count, and the line `01 0` with PTT
unfoldable pub kept_run : List ℕ → ℕ → List ℕ → ℕ → List ℕ → ℕ → Bool → Run × List ℕ × List ℕ
kept_run [] u d n r f on = ended u d n r f
kept_run (k ∷ []) u d n r f on = ended u d n r f
kept_run (k ∷ b ∷ s) u d n r f on =
    pick (keeps k b (length d - n) (length r - f)) (kept_run s (u + 2) (sets d n (line_of HOST 0 on [])) (n + 7) (set r f b) (f + 1) on) (ended u d n r f)

-- the same with another number of bytes that count
abbrev pub filled_to : EventBox → ℕ → EventBox
filled_to x f =
    record {
      tnc = record { buffer = record { filled = f; taken = x.tnc.buffer.taken }; sending = x.tnc.sending; radio = x.tnc.radio; ptt = x.tnc.ptt };
      channel = x.channel;
    }

-- nothing is taken
abbrev pub stays : EventBox → ℕ → ℕ → Taken
stays x at n = record { used = at; wrote = n; after = x }

-- what a run leaves of the box, and of both stores
abbrev pub ran_to : EventBox → Run × List ℕ × List ℕ → Taken × List ℕ × List ℕ
ran_to x k = (record { used = k.0.used; wrote = k.0.wrote; after = filled_to x k.0.filled }, k.1, k.2)

-- the answer of `take_open`, the lines' room and the reader's store after it
unfoldable pub open_run : EventBox → List ℕ → ℕ → List ℕ → ℕ → List ℕ → ℕ → ℕ → Taken × List ℕ × List ℕ
open_run x s at d n r p q =
    pick (and (begins s at) (and (leb n (length d)) (is_open x.tnc x.channel r p q)))
    (ran_to x (kept_run (drop at s) at d n r x.tnc.buffer.filled x.tnc.ptt))
    (stays x at n, d, r)
