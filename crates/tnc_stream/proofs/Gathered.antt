-- An LSF is gathered from the segments that stream frames bring. Assumes nothing.
use Prim.Native.Nat.{ℕ, ◌+◌, ◌/◌, ◌<◌}
use mathlib.Core.Bool.{Bool, true, false, false≢true}
use mathlib.Core.Path.{◌≡◌, refl, sym, ap, ◌∙◌, subst}
use mathlib.Core.List.{List, [], ◌∷◌, ◌++◌}
use native.Mathlib.Omega.{arith}
use borrow.Author.Tests.{lt-leb, eq-eqb, ne_eqb}
use lib.Dec.{eqb, eqb→eq}
use Rattle.choice.specs.Pick.{pick, pick_yes, and, and_both}
use Rattle.choice.proofs.Table.{below, below_two}
use Rattle.crc.specs.Crc.{crc_of}
use Rattle.protocol.specs.declared.StreamFrame.{StreamFrame}
use Rattle.lich.specs.declared.LichCollection.{LichCollection}
use Rattle.lich.specs.declared.LichError.{LichError}
use Rattle.std.specs.Prelude.{Result, Ok, Err, Option, Some, None}
use Rattle.protocol.specs.Lsf.{bits_at}
use Rattle.lich.specs.Lich.{heard, heard_count, new_collection, with_segment, assembled}
use Rattle.lich.specs.Promises.{Segment, is_among, OfLsf, none, more}
use Rattle.lich.specs.Promises.{after_all as with_all}
use Rattle.lich.proofs.Masks.{then_heard}
use Rattle.lich.proofs.Collected.{Sound as Whole30}
use Rattle.lich.proofs.Kept.{any_order_gives_back}
use Rattle.kiss_layout.specs.Build.{stream_setup}
use Rattle.state.specs.declared.State.TheVariants.{RxStream}
use Rattle.state.specs.State.{transmits}
use Rattle.radio.specs.Box.{Box, Receiving}
use Rattle.radio.specs.Promises.{Told}
use Rattle.tnc_stream.specs.Restarted.{with_frame}
use Rattle.tnc_stream.proofs.Segments.{frame_mask, frame_thirty}
use Rattle.tnc_stream.specs.Acquired.{complete}
use Rattle.tnc_stream.specs.Promises.{after, Typed, InRange, Collects, Brings, after_all, brought, SixSegmentsGiveTheLsf}
use Rattle.tnc_stream.proofs.Kept.{sound_stays_sound, acquisition_restarts, collected, told-whole}

-- ---- masks

below_six : (n : ℕ) → n / 6 ≡ 0 → n ≡ 6 → ⊥
below_six n p e = omega (arith, p, e)

-- where one has not been heard, not all six have
missing_one : (m i : ℕ) → m < 64 → i < 6 → heard i m ≡ 0 → heard_count m ≡ 6 → ⊥
unfolding and pick heard_count bits_at
missing_one m i h k e n =
    let q = eqb→eq (pick (eqb (heard i m) 0) (heard_count m / 6) 0) 0
    (below_two (λ (m i : ℕ). eqb (pick (eqb (heard i m) 0) (heard_count m / 6) 0) 0) 64 6 tt m i h k) in
    below_six (heard_count m) (pick_yes _ (eq-eqb (heard i m) 0 e) refl ∙ q) n

none-heard : (i : ℕ) → i < 6 → heard i 0 ≡ 0
unfolding and bits_at
none-heard i h = eqb→eq (heard i 0) 0 (below (λ (i : ℕ). eqb (heard i 0) 0) 6 tt i h)

-- ---- frames and segments

module _ {lsf : List ℕ} where
  segment : Brings lsf → Segment
  segment b = record { index = b.frame.lich_idx; bytes = b.frame.lich_part; in_range = omega (arith, b.in_range.its_index); five = b.typed.its_part }

  segments : List (Brings lsf) → List Segment
  segments [] = []
  segments (b ∷ bs) = segment b ∷ segments bs

  among : (i : ℕ) (bs : List (Brings lsf)) → is_among i (segments bs) ≡ brought i bs
  unfolding segment segments
  among i [] = refl
  among i (b ∷ bs) = ap (λ (t : Bool). pick (eqb i b.frame.lich_idx) true t) (among i bs)

  of_lsf : (bs : List (Brings lsf)) → OfLsf lsf (segments bs)
  unfolding segment segments
  of_lsf [] = none
  of_lsf (b ∷ bs) = more b.its_own (of_lsf bs)

  one_behind : (bs : List (Brings lsf)) (b : Brings lsf) (c : LichCollection) → with_all (segments (bs ++ (b ∷ []))) c ≡ with_frame b.frame (with_all (segments bs) c)
  unfolding segment segments
  one_behind [] b c = refl
  one_behind (d ∷ bs) b c = one_behind bs b (with_frame d.frame c)

-- ---- one frame more

record Holds (x : Box) (c : LichCollection) : Type 0 where
  receiving : Receiving x
  collects : Collects x c
  whole : Whole30 c

-- the bytes that were assembled, where there are any
abbrev bytes_of : Result (Option (List ℕ)) LichError → List ℕ
bytes_of (Ok (Some bytes)) = bytes
bytes_of (Ok None) = []
bytes_of (Err e) = []

abbrev is_whole : Result (Option (List ℕ)) LichError → Type 0
is_whole (Ok (Some bytes)) = Unit {0}
is_whole (Ok None) = ⊥
is_whole (Err e) = ⊥

-- six segments and their CRC, from what was assembled
complete_as : (c : LichCollection) (lsf : List ℕ) → c.mask < 64 → assembled c ≡ Ok (Some lsf) → crc_of lsf ≡ 0 → (complete c ≡ true) × (c.segments ≡ lsf)
unfolding assembled pick and
complete_as c lsf m a z = go (eqb (heard_count c.mask) 6) refl (rw (lt-leb 64 c.mask m) at a)
  where
    go : (t : Bool) → eqb (heard_count c.mask) 6 ≡ t → pick {A = Result (Option (List ℕ)) LichError} t (Ok (Some c.segments)) (Ok None) ≡ Ok (Some lsf) → (complete c ≡ true) × (c.segments ≡ lsf)
    go true e b = let q = ap bytes_of b in (and_both e (eq-eqb (crc_of c.segments) 0 (ap crc_of q ∙ z)), q)
    go false e b = absurd (subst is_whole (sym b) Prim.tt)

module _ (x : Box) (c : LichCollection) (f : StreamFrame) (ty : Typed f) (i : InRange f) (h : Holds x c) where
  grows : (heard_count (with_frame f c).mask ≡ 6 → ⊥) → Holds (after x f) (with_frame f c)
  unfolding and
  grows n =
      let r = collected x c f h.receiving i h.collects ty (rw (ne_eqb (heard_count (with_frame f c).mask) 6 n)) in
      record {
        receiving = record { sound = sound_stays_sound x f ty h.receiving.sound; not_sending = ap transmits r.its_collection.its_state };
        collects = r.its_collection;
        whole = record { small = frame_mask f c i.its_index h.whole.small; thirty = frame_thirty f c i.its_index ty.its_part h.whole.thirty };
      }

  completes : (lsf : List ℕ) → assembled (with_frame f c) ≡ Ok (Some lsf) → crc_of lsf ≡ 0 → Told (after x f) (RxStream (f.frame_number + 1)) (stream_setup lsf)
  completes lsf a z =
      let p = complete_as (with_frame f c) lsf (frame_mask f c i.its_index h.whole.small) a z in
      subst (λ (s : List ℕ). Told (after x f) (RxStream (f.frame_number + 1)) (stream_setup s)) p.1 (told-whole x c f h.receiving i h.collects p.0)

-- ---- all frames

not-brought : (a b : Bool) → pick a true b ≡ false → (a ≡ false) × (b ≡ false)
unfolding pick
not-brought true b e = absurd (false≢true (sym e))
not-brought false b e = (refl, e)

-- a segment that none has brought has not been heard
still : (c : LichCollection) (f : StreamFrame) (j : ℕ) → c.mask < 64 → j < 6 → InRange f → heard j c.mask ≡ 0 → eqb j f.lich_idx ≡ false → heard j (with_frame f c).mask ≡ 0
unfolding with_segment pick
still c f j m k i e n = then_heard c.mask j f.lich_idx m k (omega (arith, i.its_index)) ∙ rw n e

module _ {lsf : List ℕ} (j : ℕ) (k : j < 6) where
  all_held : (bs : List (Brings lsf)) (x : Box) (c : LichCollection) → Holds x c → heard j c.mask ≡ 0 → brought j bs ≡ false → Holds (after_all x bs) (with_all (segments bs) c)
  unfolding segment segments
  all_held [] x c h e n = h
  all_held (b ∷ bs) x c h e n =
      let p = not-brought (eqb j b.frame.lich_idx) (brought j bs) n in let f = b.frame in
      let q = still c f j h.whole.small k b.in_range e p.0 in
      all_held bs (after x f) (with_frame f c)
      (grows x c f b.typed b.in_range h (missing_one (with_frame f c).mask j (frame_mask f c b.in_range.its_index h.whole.small) k q)) q p.1

pub six_segments_give_the_lsf : SixSegmentsGiveTheLsf
unfolding segment segments
six_segments_give_the_lsf lsf x first others last n z g s absent present =
    let f = first.frame in let i = first.in_range in let bs = first ∷ others in
    let j = last.frame.lich_idx in let k : j < 6 = omega (arith, last.in_range.its_index) in
    let p = not-brought (eqb j f.lich_idx) (brought j others) absent in
    let new : Whole30 new_collection = record { small = omega arith; thirty = refl } in
    let r = acquisition_restarts x f g first.typed i s in
    let c = with_frame f new_collection in
    let small = frame_mask f new_collection i.its_index new.small in
    let h : Holds (after x f) c =
    record {
      receiving = record { sound = sound_stays_sound x f first.typed g.sound; not_sending = ap transmits r.its_collection.its_state };
      collects = r.its_collection;
      whole = record { small = small; thirty = frame_thirty f new_collection i.its_index first.typed.its_part refl };
    } in
    let held = all_held j k others (after x f) c h (still new_collection f j new.small k i (none-heard j k) p.0) p.1 in
    completes (after_all x bs) (with_all (segments bs) new_collection) last.frame last.typed last.in_range held lsf
    (ap assembled (sym (one_behind bs last new_collection))
    ∙ any_order_gives_back lsf n (segments (bs ++ (last ∷ [])))
    (record { each_index = λ q t. among q (bs ++ (last ∷ [])) ∙ present q t; each_right = of_lsf (bs ++ (last ∷ [])) }))
    z
