-- The promises of specs/Promises.antt are kept. Assumes nothing.
use Prim.Native.Nat.{ℕ}
use mathlib.Core.Bool.{Bool, true, false, false≢true}
use mathlib.Core.Path.{◌≡◌, refl, sym}
use lib.Dec.{leb}
use borrow.Author.Tests.{le-leb, leb-true}
use Rattle.choice.specs.Pick.{pick, pick_all}
use Rattle.state.specs.declared.State.{State}
use Rattle.state.specs.declared.State.TheVariants.{Idle, RxAcquiringStream, RxStream, RxPacket, TxStream, TxStreamSentEndOfStream, TxPacket, TxEnding, TxEndingAtTime}
use Rattle.state.specs.State.{LASTEND, transmits, sound_state}
use Rattle.state.specs.Promises.{SoundAtTime, SoundEndingAt, Over, PttUntilTheEnd, EndTimeKeepsPtt, FirstEndCounts}

pub sound_at_time : SoundAtTime
sound_at_time Idle now e = e
sound_at_time (RxAcquiringStream mask) now e = e
sound_at_time (RxStream expected) now e = e
sound_at_time (RxPacket count) now e = e
sound_at_time TxStream now e = e
sound_at_time TxStreamSentEndOfStream now e = e
sound_at_time TxPacket now e = e
sound_at_time TxEnding now e = e
sound_at_time (TxEndingAtTime end) now e = pick_all (λ (s : State). sound_state s ≡ true) (leb end now) Idle (TxEndingAtTime end) (λ t. refl) (λ t. e)

pub sound_ending_at : SoundEndingAt
sound_ending_at Idle end h e = e
sound_ending_at (RxAcquiringStream mask) end h e = e
sound_ending_at (RxStream expected) end h e = e
sound_ending_at (RxPacket count) end h e = e
sound_ending_at TxStream end h e = e
sound_ending_at TxStreamSentEndOfStream end h e = e
sound_ending_at TxPacket end h e = e
sound_ending_at TxEnding end h e = le-leb end LASTEND h
sound_ending_at (TxEndingAtTime last) end h e = e

over : (end now : ℕ) (b : Bool) → leb end now ≡ b → transmits (pick b Idle (TxEndingAtTime end)) ≡ false → Over (TxEndingAtTime end) now
unfolding pick
over end now true t off = record { end = end; given = refl; reached = leb-true end now t }
over end now false t off = absurd (false≢true (sym off))

pub ptt_until_the_end : PttUntilTheEnd
ptt_until_the_end Idle now on off = absurd (false≢true on)
ptt_until_the_end (RxAcquiringStream mask) now on off = absurd (false≢true on)
ptt_until_the_end (RxStream expected) now on off = absurd (false≢true on)
ptt_until_the_end (RxPacket count) now on off = absurd (false≢true on)
ptt_until_the_end TxStream now on off = absurd (false≢true (sym off))
ptt_until_the_end TxStreamSentEndOfStream now on off = absurd (false≢true (sym off))
ptt_until_the_end TxPacket now on off = absurd (false≢true (sym off))
ptt_until_the_end TxEnding now on off = absurd (false≢true (sym off))
ptt_until_the_end (TxEndingAtTime end) now on off = over end now (leb end now) refl off

pub end_time_keeps_ptt : EndTimeKeepsPtt
end_time_keeps_ptt Idle end = refl
end_time_keeps_ptt (RxAcquiringStream mask) end = refl
end_time_keeps_ptt (RxStream expected) end = refl
end_time_keeps_ptt (RxPacket count) end = refl
end_time_keeps_ptt TxStream end = refl
end_time_keeps_ptt TxStreamSentEndOfStream end = refl
end_time_keeps_ptt TxPacket end = refl
end_time_keeps_ptt TxEnding end = refl
end_time_keeps_ptt (TxEndingAtTime last) end = refl

pub first_end_counts : FirstEndCounts
first_end_counts Idle end later = refl
first_end_counts (RxAcquiringStream mask) end later = refl
first_end_counts (RxStream expected) end later = refl
first_end_counts (RxPacket count) end later = refl
first_end_counts TxStream end later = refl
first_end_counts TxStreamSentEndOfStream end later = refl
first_end_counts TxPacket end later = refl
first_end_counts TxEnding end later = refl
first_end_counts (TxEndingAtTime last) end later = refl
