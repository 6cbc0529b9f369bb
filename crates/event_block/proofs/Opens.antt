-- A run of bytes that complete no frame leaves what its events leave one by one. Assumes nothing.
use Prim.Native.Nat.{ℕ, ◌+◌, ◌-◌, ◌≤◌, ◌<◌, min}
use mathlib.Core.Bool.{Bool, true, false, not}
use mathlib.Core.Path.{◌≡◌, refl, sym, ap, ap₂, ◌∙◌, subst}
use mathlib.Core.List.{List, [], ◌∷◌, ◌++◌}
use native.Mathlib.Omega.{arith}
use borrow.Author.Tests.{le-leb, eqb-true}
use lib.ListN.{length, take, drop, set, length-append, length-take, length-set, take-append-drop}
use lib.Seq.{sets, sets-eq, take_at, drop-drop}
use Rattle.choice.specs.Pick.{pick, pick_all, and, and_fst, and_snd, and_both, not_no}
use Rattle.room.specs.Room.{over}
use Rattle.channel.specs.declared.Channel.{Channel}
use Rattle.channel.specs.Access.{sound_channel}
use Rattle.kiss_layout.specs.Scan.{not_fend}
use Rattle.kiss_reader.specs.Reader.{Reader, STORE, flush, next, after_next}
use Rattle.kiss_calls.specs.declared.Written.{Written}
use Rattle.kiss_calls.specs.declared.NextFrame.{NextFrame}
use Rattle.kiss_calls.specs.Calls.{reader_of, buffer_of, sound_buffer, written, found}
use Rattle.kiss_calls.specs.Inside.{accepted}
use Rattle.kiss_calls.specs.Promises.{Box, after_next_frame, Sound}
use Rattle.kiss_calls.proofs.Cases.{next_sound, written_roomy}
use Rattle.host_record.specs.declared.Host.{Host}
use Rattle.host_record.specs.Host.{sound_host}
use Rattle.tnc_core.specs.declared.Tnc.{Tnc}
use Rattle.std.specs.Prelude.{Ok, false, true}
use Rattle.tnc_core.specs.Tnc.{sound_tnc, ptt_of}
use Rattle.tnc_core.proofs.Bounds.{parts, joined}
use Rattle.link_ready.specs.Ready.{link_fits}
use Rattle.link_ready.proofs.Stores.{reader_fits, packets_fit, streams_fit}
use Rattle.tnc_drain.specs.declared.Drained.{Drained}
use Rattle.tnc_drain.specs.Drain.{host_box, drained}
use Rattle.tnc_drain.proofs.Drains.{then_ends}
use Rattle.tnc.specs.declared.KissWritten.{KissWritten}
use Rattle.tnc.specs.Bytes.{kiss_written}
use Rattle.tnc.proofs.Links.{went}
use Rattle.tnc.specs.declared.TncWritten.{TncWritten}
use Rattle.tnc.specs.Calls.{put_back, tnc_written}
use Rattle.tnc.proofs.Cases.{is_written}
use Rattle.event_input.specs.Events.{HOST, known, body_len}
use Rattle.event_line.specs.Line.{line_of}
use Rattle.event_line.proofs.Lines.{line_none_long}
use Rattle.event_answer.specs.declared.EventBox.{EventBox}
use Rattle.event_answer.specs.Answer.{MOST, LINE, keyed, answered}
use Rattle.event_step.specs.Host.{of_write}
use Rattle.event_step.specs.Step.{Turn, applied, world_of, turn_of}
use Rattle.event_step.proofs.Events.{on_host}
use Rattle.event_block.specs.Spot.{Spot, spot}
use Rattle.event_answer.specs.declared.Taken.{Taken}
use Rattle.event_open.specs.declared.Run.{Run}
use Rattle.event_open.specs.Inside.{opened, is_open, keeps, kept_run, filled_to, open_run}
use Rattle.event_open.proofs.Opens.{open_more, open_settled, open_quiet}
use Rattle.event_open.proofs.Runs.{kept_room}
use Rattle.event_block.specs.Block.{behind, turned, walk}
use Rattle.event_block.proofs.Blocks.{cons_yes, is_ready}

-- ---- the reader where a frame is open

abbrev held_by : ℕ → List ℕ → Box
held_by f store = record { buffer = record { filled = f; taken = false }; store = store }

module _ (f : ℕ) (store : List ℕ) (l : length store ≡ STORE) where
  untaken : f ≤ STORE → sound_buffer (record { filled = f; taken = false }) store ≡ true
  unfolding sound_buffer and pick
  untaken h = rw (le-leb f STORE h)

  is_sound : f ≤ STORE → Sound (held_by f store)
  is_sound h = record { its_store = l; its_state = untaken h }

  module _ (o : opened (take f store) ≡ true) where
    after_next_lem : after_next (reader_of (record { filled = f; taken = false }) store) ≡ record { held = take f store; taken = false }
    unfolding after_next next flush pick
    after_next_lem = rw (open_settled (take f store) o, open_quiet (take f store) o)

    -- no frame is found, and all stays where it stands
    next-stays : f ≤ STORE → after_next_frame (held_by f store) ≡ held_by f store
    unfolding found
    next-stays h =
        let n : length (take f store) ≡ f = omega (arith, length-take f store) in
        ap {B = Box} (λ (t : NextFrame × List ℕ). record { buffer = t.0.buffer; store = t.1 }) (sym (next_sound (record { filled = f; taken = false }) store l (untaken h)))
        ∙ ap {B = Box} (λ (r : Reader). record { buffer = buffer_of r; store = over r.held store }) after_next_lem
        ∙ rw (n, take-append-drop f store)

  -- a byte is kept behind the others
  kept_one : (b : ℕ) → f < STORE → over (take f store ++ b ∷ []) store ≡ set store f b
  kept_one b h =
      let n : length (take f store ++ b ∷ []) ≡ f + 1 = omega (arith, length-append (take f store) (b ∷ []), length-take f store) in
      ap (λ (k : ℕ). (take f store ++ b ∷ []) ++ drop k store) n
      ∙ sym (sets-eq (b ∷ []) store f (omega arith))

  set-takes : (b : ℕ) → f < STORE → take (f + 1) (set store f b) ≡ take f store ++ b ∷ []
  set-takes b h =
      ap (take (f + 1)) (sym (kept_one b h))
      ∙ take_at (take f store ++ b ∷ []) _ (f + 1) (omega (arith, length-append (take f store) (b ∷ []), length-take f store))

  write_keeps : (b : ℕ) → f < STORE
      → (record { answer = Ok 1; buffer = record { filled = f + 1; taken = false } }, set store f b) ≡ written (record { filled = f; taken = false }) (b ∷ []) store
  unfolding accepted
  write_keeps b h =
      let m : min 1 (STORE - f) ≡ 1 = omega arith in
      ap {B = Written × List ℕ} (λ (s : List ℕ). (record { answer = Ok 1; buffer = record { filled = f + 1; taken = false } }, s)) (sym (kept_one b h))
      ∙ (rw m at (written_roomy (record { filled = f; taken = false }) (b ∷ []) store l (untaken (omega arith)) refl h))

-- ---- a byte from the host where a frame is open

module _ (t : Tnc) (c : Channel) (reader packets streams : List ℕ) (b : ℕ)
    (fit : link_fits (length reader) (length packets) (length streams) ≡ true) (sound : sound_tnc t ≡ true) (clear : sound_channel c ≡ true)
    (o : opened (take t.buffer.filled reader) ≡ true) (nf : not_fend b ≡ true) (h : t.buffer.filled < STORE) where
  abbrev f : ℕ
  f = t.buffer.filled

  abbrev host : Host
  host = record { sending = t.sending; channel = c }

  its : length reader ≡ STORE
  its = reader_fits (length reader) (length packets) (length streams) fit

  -- once it is kept, a frame is still open, and none is whole
  abbrev box : Box
  box = held_by (f + 1) (set reader f b)

  long : length (set reader f b) ≡ STORE
  long = length-set reader f b ∙ its

  still_open : opened (take (f + 1) (set reader f b)) ≡ true
  still_open = rw (set-takes f reader its b h) (open_more (take f reader) b o nf)

  none-drained : (record { buffer = box.buffer; host = host }, set reader f b, packets, streams) ≡ drained box (host_box host packets streams)
  none-drained =
      then_ends box box (sym (next-stays (f + 1) (set reader f b) long still_open (omega arith))) (is_sound (f + 1) (set reader f b) long (omega arith)) (host_box host packets streams) refl

  kiss_keeps : (record { answer = Ok 1; buffer = box.buffer; host = host }, set reader f b, packets, streams)
      ≡ kiss_written (record { filled = f; taken = false }) host (b ∷ []) reader packets streams
  unfolding sound_host
  kiss_keeps =
      ap {B = KissWritten × List ℕ × List ℕ × List ℕ} (λ (d : Drained × List ℕ × List ℕ × List ℕ). (record { answer = Ok 1; buffer = d.0.buffer; host = d.0.host }, d.1, d.2, d.3)) none-drained
      ∙ went (record { filled = f; taken = false }) host (b ∷ []) reader packets streams its
      (packets_fit (length reader) (length packets) (length streams) fit) (streams_fit (length reader) (length packets) (length streams) fit)
      (and_both (parts t sound).its_sending clear) (Ok 1) _ _ (write_keeps f reader its b h) refl

  -- the TNC with one byte more
  abbrev more : Tnc
  more = record { buffer = record { filled = f + 1; taken = false }; sending = t.sending; radio = t.radio; ptt = t.ptt }

  tnc_keeps : t.buffer.taken ≡ false → (record { answer = Ok 1; tnc = more; channel = c }, set reader f b, packets, streams) ≡ tnc_written t c (b ∷ []) reader packets streams
  tnc_keeps e =
      ap {B = TncWritten × List ℕ × List ℕ × List ℕ} (λ (w : KissWritten × List ℕ × List ℕ × List ℕ). (put_back t w.0, w.1, w.2, w.3))
      (kiss_keeps ∙ (λ i. kiss_written (record { filled = f; taken = sym e i }) host (b ∷ []) reader packets streams))
      ∙ is_written t c (b ∷ []) reader packets streams its
      (packets_fit (length reader) (length packets) (length streams) fit) (streams_fit (length reader) (length packets) (length streams) fit) sound

  more_sound : sound_tnc more ≡ true
  more_sound = let s = parts t sound in joined more (record { its_filled = omega arith; its_sending = s.its_sending; its_radio = s.its_radio; its_ptt = s.its_ptt })

-- ---- its event and its line

keyed_sound : (t : Tnc) → sound_tnc t ≡ true → keyed t ≡ t.ptt
unfolding ptt_of pick
keyed_sound t e = rw e

module _ (x : EventBox) (r p q rx m y d : List ℕ) (n b : ℕ) (room : MOST ≤ length y)
    (ready : is_open x.tnc x.channel r (length p) (length q) ≡ true) (keep : keeps HOST b (length d - n) (length r - x.tnc.buffer.filled) ≡ true) where
  abbrev filled : ℕ
  filled = x.tnc.buffer.filled

  fit : link_fits (length r) (length p) (length q) ≡ true
  unfolding is_open
  fit = and_fst _ _ ready

  sound : sound_tnc x.tnc ≡ true
  unfolding is_open
  sound = and_fst _ _ (and_snd _ _ ready)

  clear : sound_channel x.channel ≡ true
  unfolding is_open
  clear = and_fst _ _ (and_snd _ _ (and_snd _ _ ready))

  not_taken : x.tnc.buffer.taken ≡ false
  unfolding is_open
  not_taken = not_no refl (and_fst _ _ (and_snd _ _ (and_snd _ _ (and_snd _ _ ready))))

  begun : opened (take filled r) ≡ true
  unfolding is_open
  begun = and_snd _ _ (and_snd _ _ (and_snd _ _ (and_snd _ _ ready)))

  plain : not_fend b ≡ true
  unfolding keeps
  plain = and_fst _ _ (and_snd _ _ keep)

  short : filled < STORE
  short = omega (arith, kept_room HOST b (length d - n) (length r - filled) keep, reader_fits (length r) (length p) (length q) fit)

  abbrev next_box : EventBox
  next_box = filled_to x (filled + 1)

  next_sound' : sound_tnc next_box.tnc ≡ true
  next_sound' =
      (λ i. sound_tnc (record { buffer = record { filled = filled + 1; taken = not_taken i }; sending = x.tnc.sending; radio = x.tnc.radio; ptt = x.tnc.ptt }))
      ∙ more_sound x.tnc x.channel r p q b fit sound clear begun plain short

  -- the run goes on
  open_next : is_open next_box.tnc next_box.channel (set r filled b) (length p) (length q) ≡ true
  unfolding is_open
  open_next =
      and_both (ap (λ (k : ℕ). link_fits k (length p) (length q)) (length-set r filled b) ∙ fit)
      (and_both next_sound' (and_both clear (and_both (ap not not_taken) (still_open x.tnc x.channel r p q b fit sound clear begun plain short))))

  on_keep : turn_of (answered 0 0 next_box.tnc x.channel) (set r filled b) p q rx m y ≡ applied HOST (b ∷ []) (world_of x r p q rx m) y
  unfolding pick
  on_keep =
      (λ i. turn_of (answered 0 0 (record { buffer = record { filled = filled + 1; taken = not_taken i }; sending = x.tnc.sending; radio = x.tnc.radio; ptt = x.tnc.ptt }) x.channel) (set r filled b) p q rx m y)
      ∙ on_host x HOST (b ∷ []) r p q rx m y room refl (ap of_write (tnc_keeps x.tnc x.channel r p q b fit sound clear begun plain short not_taken))

  -- one turn of the walk
  keeps-turned : spot (world_of next_box (set r filled b) p q rx m) y (sets d n (line_of HOST 0 x.tnc.ptt [])) (n + 7) ≡ turned HOST (b ∷ []) (spot (world_of x r p q rx m) y d n)
  unfolding turned
  keeps-turned =
      ap₂ (λ (on : Bool) (k : ℕ). spot (world_of next_box (set r filled b) p q rx m) y (sets d n (line_of HOST 0 on [])) (n + k))
      (sym (keyed_sound next_box.tnc next_sound')) (sym (line_none_long HOST 0 (keyed next_box.tnc) [] refl))
      ∙ ap (λ (t : Turn). behind HOST t d n) on_keep

-- ---- a run

kept_kind : (k b room place : ℕ) → keeps k b room place ≡ true → k ≡ HOST
unfolding keeps
kept_kind k b room place e = eqb-true k HOST (and_fst _ _ e)

-- one event 01 of the walk
host_walks : (l : List ℕ) (b i : ℕ) (p : Spot) → LINE ≤ length p.room - p.wrote → walk 0 l (i + 2) (turned HOST (b ∷ []) p) ≡ walk 0 (HOST ∷ b ∷ l) i p
unfolding body_len known pick and
host_walks l b i p h =
    let two : i + 2 ≡ i + 1 + 1 = omega arith in
    ap (λ (u : ℕ). walk 0 l u (turned HOST (b ∷ []) p)) two ∙ sym (cons_yes HOST (b ∷ l) i p (is_ready HOST (b ∷ l) p h refl (omega arith)))

run_walks : (l s : List ℕ) (i : ℕ) (x : EventBox) (r p q rx m y d : List ℕ) (n : ℕ) → l ≡ drop i s → MOST ≤ length y
    → is_open x.tnc x.channel r (length p) (length q) ≡ true
    → let k = kept_run l i d n r x.tnc.buffer.filled x.tnc.ptt in
    walk 0 (drop k.0.used s) k.0.used (spot (world_of (filled_to x k.0.filled) k.2 p q rx m) y k.1 k.0.wrote) ≡ walk 0 l i (spot (world_of x r p q rx m) y d n)
unfolding kept_run
run_walks [] s i x r p q rx m y d n e room ready = rw e
run_walks (k ∷ []) s i x r p q rx m y d n e room ready = rw e
run_walks (k ∷ b ∷ l) s i x r p q rx m y d n e room ready =
    pick_all (λ (t : Run × List ℕ × List ℕ). walk 0 (drop t.0.used s) t.0.used (spot (world_of (filled_to x t.0.filled) t.2 p q rx m) y t.1 t.0.wrote)
    ≡ walk 0 (k ∷ b ∷ l) i (spot (world_of x r p q rx m) y d n)) _ _ _
    (λ kept.
    let is : k ≡ HOST = kept_kind k b (length d - n) (length r - x.tnc.buffer.filled) kept in
    let keep : keeps HOST b (length d - n) (length r - x.tnc.buffer.filled) ≡ true = subst (λ (z : ℕ). keeps z b (length d - n) (length r - x.tnc.buffer.filled) ≡ true) is kept in
    let at : l ≡ drop (i + 2) s = ap (drop 2) e ∙ drop-drop 2 i s in
    run_walks l s (i + 2) (filled_to x (x.tnc.buffer.filled + 1)) (set r x.tnc.buffer.filled b) p q rx m y (sets d n (line_of HOST 0 x.tnc.ptt [])) (n + 7) at room
    (open_next x r p q rx m y d n b room ready keep)
    ∙ ap (walk 0 l (i + 2)) (keeps-turned x r p q rx m y d n b room ready keep)
    ∙ host_walks l b i (spot (world_of x r p q rx m) y d n) (kept_room HOST b (length d - n) (length r - x.tnc.buffer.filled) keep).0
    ∙ ap (λ (z : ℕ). walk 0 (z ∷ b ∷ l) i (spot (world_of x r p q rx m) y d n)) (sym is))
    (λ kept. rw e)

-- the same of what `take_open` left
pub open_walks : (x : EventBox) (s : List ℕ) (at : ℕ) (d : List ℕ) (n : ℕ) (r p q rx m y : List ℕ) → MOST ≤ length y
    → {o : Taken} {e g : List ℕ} → (o, e, g) ≡ open_run x s at d n r (length p) (length q)
    → walk 0 (drop o.used s) o.used (spot (world_of o.after g p q rx m) y e o.wrote) ≡ walk 0 (drop at s) at (spot (world_of x r p q rx m) y d n)
unfolding open_run
open_walks x s at d n r p q rx m y room {o} {e} {g} f =
    subst (λ (t : Taken × List ℕ × List ℕ). walk 0 (drop t.0.used s) t.0.used (spot (world_of t.0.after t.2 p q rx m) y t.1 t.0.wrote)
    ≡ walk 0 (drop at s) at (spot (world_of x r p q rx m) y d n)) (sym f)
    (pick_all (λ (t : Taken × List ℕ × List ℕ). walk 0 (drop t.0.used s) t.0.used (spot (world_of t.0.after t.2 p q rx m) y t.1 t.0.wrote)
    ≡ walk 0 (drop at s) at (spot (world_of x r p q rx m) y d n)) _ _ _
    (λ c. run_walks (drop at s) s at x r p q rx m y d n refl room (and_snd _ _ (and_snd _ _ c)))
    (λ c. refl))
