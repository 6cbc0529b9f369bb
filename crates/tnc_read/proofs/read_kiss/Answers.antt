-- `tnc_read::read_kiss` meets its contract. Assumes nothing.
use Rattle.std.proofs.Common.{ℕ, ◌+◌, ◌-◌, ◌≤◌, ◌≡◌, List, ◌++◌, length, take, drop, sym, ap, ◌∙◌, arith}
use Rattle.std.specs.Prelude.{min, Ok}
use mathlib.Core.Bool.{true}
use borrow.Author.Tests.{eq-eqb}
use lib.ListN.{length-drop}
use lib.Seq.{sets, sets-eq, take-take, length-take-le}
use Rattle.choice.specs.Pick.{pick, is_yes, and_snd}
use Rattle.room.specs.Room.{over}
use Rattle.room.proofs.Copies.{copied_in}
use Rattle.outgoing.specs.declared.HostRead.{HostRead}
use Rattle.outgoing.specs.Message.{STORE, read_up_to, given, sound_message}
use Rattle.outgoing.proofs.Messages.{sound_read, sound_len, read_sound}
use Rattle.radio.specs.Radio.{sound_radio}
use Rattle.tnc_core.specs.declared.Tnc.{Tnc}
use Rattle.tnc_core.specs.Tnc.{sound_tnc, with_radio}
use Rattle.tnc_core.proofs.Bounds.{parts}
use Rattle.tnc_read.specs.declared.TncRead.{TncRead}
use Rattle.tnc_read.specs.Calls.{has_read, with_message, tnc_read}
use Rattle.tnc_read.proofs.read_kiss.Goals as goal

its_message : (t : Tnc) → sound_tnc t ≡ true → sound_message t.radio.outgoing ≡ true
unfolding sound_radio
its_message t e = and_snd _ _ (parts t e).its_radio

-- n bytes put at the start of a room
put-first : (d s : List ℕ) (n : ℕ) → length s ≡ n → n ≤ length d → sets d 0 s ≡ s ++ drop n d
put-first d s n e h =
    let k : 0 + length s ≡ n = omega (arith, e) in
    sets-eq s d 0 (omega (arith, e)) ∙ ap (λ m. s ++ drop m d) k

module _ (t : Tnc) (message : List ℕ) (l : length message ≡ STORE) (e : sound_tnc t ≡ true) where
  abbrev from : ℕ
  from = t.radio.outgoing.read

  abbrev waiting : List ℕ
  waiting = take (t.radio.outgoing.len - from) (drop from message)

  abbrev sent : ℕ → List ℕ
  sent n = take n (drop from message)

  within : (from ≤ t.radio.outgoing.len) × (t.radio.outgoing.len ≤ length message)
  within = let s = its_message t e in (sound_read _ s, omega (arith, sound_len _ s, l))

  all : length waiting ≡ t.radio.outgoing.len - from
  all = length-take-le _ _ (omega (arith, length-drop from message, within))

  -- what is answered once so much of what waits stands in the target
  answers : (target : List ℕ) (n : ℕ) {x : Tnc} {left : List ℕ} → n ≡ min (length waiting) (length target) → x ≡ with_message t (read_up_to t.radio.outgoing (from + n)) → left ≡ sets target 0 (take n waiting)
      → (record { answer = Ok n; tnc = x }, left) ≡ tnc_read t message target
  unfolding tnc_read pick
  answers target n {x} {left} m q p =
      let g : n ≡ given t.radio.outgoing target = m ∙ ap (λ k. min k (length target)) all in
      let fit : length (sent n) ≡ n = length-take-le _ _ (omega (arith, m, all, length-drop from message, within)) in
      let here : length (take n waiting) ≡ n = length-take-le _ _ (omega (arith, m)) in
      let out : left ≡ over (sent n) target =
      p ∙ put-first target (take n waiting) n here (omega (arith, m)) ∙ ap (λ k. k ++ drop n target) (take-take n _ (drop from message) (omega (arith, m, all))) ∙ ap (λ k. sent n ++ drop k target) (sym fit) in
      rw (eq-eqb (length message) STORE l, e)
      ((λ j. (record { answer = Ok n; tnc = q j }, out j))
      ∙ ap {B = TncRead × List ℕ} (λ k. (record { answer = Ok k; tnc = with_message t (read_up_to t.radio.outgoing (from + k)) }, over (sent k) target)) g
      ∙ ap {B = TncRead × List ℕ} (λ (w : HostRead × List ℕ). (has_read t w.0, w.1)) (read_sound t.radio.outgoing message target l (its_message t e)))

pub returns : goal.returns
returns c =
    let a = c.args in
    answers a.tnc a.message.now c.if-message-ne-MESSAGE_STORE_LEN.false (is_yes c.is_sound.ensures c.if-not-is_sound.false) a.target.now c.min-count.result c.min-count.ensures
    (c.with_radio.ensures ∙ ap (with_radio a.tnc) c.read_up_to.ensures)
    (copied_in (take c.min-count.result (waiting a.tnc a.message.now c.if-message-ne-MESSAGE_STORE_LEN.false (is_yes c.is_sound.ensures c.if-not-is_sound.false))) a.target.now 0 c.copy_in.ensures (omega (arith, c.min-count.ensures, length-take-le c.min-count.result (waiting a.tnc a.message.now c.if-message-ne-MESSAGE_STORE_LEN.false (is_yes c.is_sound.ensures c.if-not-is_sound.false)) (omega (arith, c.min-count.ensures)))))

pub slice_bounds-waiting-count : goal.slice_bounds-waiting-count
slice_bounds-waiting-count c = let a = c.args in (within a.tnc a.message.now c.if-message-ne-MESSAGE_STORE_LEN.false (is_yes c.is_sound.ensures c.if-not-is_sound.false)).0

pub slice_bounds-waiting-start : goal.slice_bounds-waiting-start
slice_bounds-waiting-start c = let a = c.args in omega (arith, within a.tnc a.message.now c.if-message-ne-MESSAGE_STORE_LEN.false (is_yes c.is_sound.ensures c.if-not-is_sound.false))

pub slice_bounds-waiting-end : goal.slice_bounds-waiting-end
slice_bounds-waiting-end c = let a = c.args in omega (arith, within a.tnc a.message.now c.if-message-ne-MESSAGE_STORE_LEN.false (is_yes c.is_sound.ensures c.if-not-is_sound.false))
