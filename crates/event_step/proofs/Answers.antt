-- What the code for each kind of event answers, put together of what its callees said. Assumes nothing.
use Prim.Native.Nat.{ℕ}
use Rattle.std.specs.Prelude.{Result, Ok, Err}
use Rattle.std.specs.Result.{MatchResult, result_unwrap_or}
use Rattle.room.specs.declared.LentError.{LentError}
use mathlib.Core.Path.{◌≡◌, ap, sym, ◌∙◌}
use Rattle.channel.specs.declared.ChannelSet.{ChannelSet}
use Rattle.channel.specs.Access.{set_number}
use Rattle.tnc_core.specs.declared.Tnc.{Tnc}
use Rattle.tnc_clock.specs.declared.Timed.{Timed}
use Rattle.event_answer.specs.declared.Applied.{Applied}
use Rattle.event_answer.specs.Answer.{answered}
use Rattle.event_step.specs.Channel.{of_set, of_timed}
use mathlib.Core.List.{List, ◌++◌}
use lib.ListN.{length, drop}
use Rattle.room.specs.Room.{over}
use Rattle.channel.specs.declared.Channel.{Channel}
use Rattle.kiss_calls.specs.Calls.{write_number}
use Rattle.outgoing.specs.Message.{read_count, host_number}
use Rattle.tnc.specs.declared.TncWritten.{TncWritten}
use Rattle.tnc_read.specs.declared.TncRead.{TncRead}
use Rattle.event_step.specs.Host.{of_write, of_read}

-- document 01's number of an answer, from what `number_of` says of it
pub numbered : {T E : Type 0} {n : ℕ} (f : E → ℕ) (g : Result T E → ℕ) → ((x : T) → g (Ok x) ≡ 0) → ((e : E) → g (Err e) ≡ f e) → (a : Result T E) → MatchResult a (λ _. n ≡ 0) (λ e. n ≡ f e) → n ≡ g a
numbered f g p q (Ok x) h = h ∙ sym (p x)
numbered f g p q (Err e) h = h ∙ sym (q e)

pub set_is : (t : Tnc) (s : ChannelSet) {n : ℕ} {r : Applied} {q : ChannelSet} → r ≡ answered n 0 t s.channel → n ≡ set_number s.answer → s ≡ q → r ≡ of_set t q
set_is t s e f g = e ∙ (λ j. answered (f j) 0 t s.channel) ∙ ap (of_set t) g

pub timed_is : (s : Timed) {n : ℕ} {r : Applied} {q : Timed} → r ≡ answered n 0 s.tnc s.channel → n ≡ set_number s.answer → s ≡ q → r ≡ of_timed q
timed_is s e f g = e ∙ (λ j. answered (f j) 0 s.tnc s.channel) ∙ ap of_timed g

pub write_is : (w : TncWritten) (a b c : List ℕ) {n : ℕ} {r : Applied} {q : TncWritten × List ℕ × List ℕ × List ℕ} → r ≡ answered n 0 w.tnc w.channel → n ≡ write_number w.answer → (w, a, b, c) ≡ q → (r, a, b, c) ≡ of_write q
write_is w a b c e f g = (λ j. (e j, a, b, c)) ∙ (λ j. (answered (f j) 0 w.tnc w.channel, a, b, c)) ∙ ap of_write g

-- of a refusal no byte counts
pub counted : (a : Result ℕ LentError) {k : ℕ} → k ≡ result_unwrap_or a 0 → k ≡ read_count a
counted (Ok n) e = e
counted (Err x) e = e

read_is : (c : Channel) (g : TncRead) (room a : List ℕ) {n k : ℕ} {r : Applied} {q : TncRead × List ℕ} → k ≡ read_count g.answer → r ≡ answered n k g.tnc c → n ≡ host_number g.answer → (g, a) ≡ q → (r, over a room) ≡ of_read c q room
read_is c g room a d e f h = (λ j. (e j, over a room)) ∙ (λ j. (answered (f j) (d j) g.tnc c, over a room)) ∙ ap (λ (q : TncRead × List ℕ). of_read c q room) h

-- the room was lent up to m
pub read_part : (c : Channel) (g : TncRead) (room a : List ℕ) (m : ℕ) {n k : ℕ} {r : Applied} {q : TncRead × List ℕ} → m ≡ length a → k ≡ read_count g.answer → r ≡ answered n k g.tnc c → n ≡ host_number g.answer → (g, a) ≡ q → (r, a ++ drop m room) ≡ of_read c q room
read_part c g room a m {r = r} l d e f h = (λ j. (r, a ++ drop (l j) room)) ∙ read_is c g room a d e f h
