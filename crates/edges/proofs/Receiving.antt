-- Proved: what every call of the TNC with a frame from the air does at its edges, by computation. Assumes nothing.
use mathlib.Core.Path.{refl}
use borrow.Author.Tests.{ne_eqb}
use lib.ListN.{length}
use Rattle.choice.specs.Pick.{pick}
use Rattle.tnc_receive.specs.Calls.{tnc_hears, air_heard}
use Rattle.edges.specs.Receiving.{Put, Refused}

pub put : Put
put = record { air_keeps_ptt = λ t a o. (refl, refl); answer_forgotten = λ t r. refl }

pub refused : Refused
unfolding pick tnc_hears air_heard
refused =
    record {
      lsf_refusal_swaps_stores = λ t lsf rx message n. rw (ne_eqb (length rx) 855 n);
      packet_refusal_swaps_stores = λ t frame rx message n. rw (ne_eqb (length rx) 855 n);
      stream_refusal_swaps_stores = λ t frame rx message n. rw (ne_eqb (length rx) 855 n);
    }
