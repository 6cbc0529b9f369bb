-- LICH acquisition: a frame's segment in a collection. Assumes nothing.
use Prim.Native.Nat.{ℕ, ◌*◌, ◌≤◌, ◌<◌}
use mathlib.Core.Path.{◌≡◌, refl, sym, ap, ◌∙◌}
use mathlib.Core.List.{List, ◌++◌}
use native.Mathlib.Omega.{arith}
use borrow.Author.Tests.{lt-leb, le-ltb}
use lib.ListN.{length, drop}
use Rattle.choice.specs.Pick.{pick}
use Rattle.room.specs.Room.{over}
use Rattle.room.proofs.Places.{placed-length}
use Rattle.protocol.specs.declared.StreamFrame.{StreamFrame}
use Rattle.lich.specs.declared.LichCollection.{LichCollection}
use Rattle.lich.specs.declared.SegmentSet.{SegmentSet}
use Rattle.lich.specs.Lich.{new_collection, with_segment, segment_set}
use Rattle.lich.proofs.Masks.{stays_small}
use Rattle.radio.specs.declared.Radio.{Radio}
use Rattle.radio.specs.declared.Heard.{Heard}
use Rattle.tnc_stream.specs.Restarted.{with_frame, collecting, restarted}

module _ (f : StreamFrame) (c : LichCollection) (i : f.lich_idx ≤ 5) where
  pub frame-set : {s : SegmentSet} → s ≡ segment_set c f.lich_idx f.lich_part → c.mask < 64 → s.collection ≡ with_frame f c
  unfolding segment_set pick
  frame-set e m = ap (λ (s : SegmentSet). s.collection) e ∙ rw (lt-leb 64 c.mask m, le-ltb 5 f.lich_idx i)

  pub frame_mask : c.mask < 64 → (with_frame f c).mask < 64
  unfolding with_segment
  frame_mask m = stays_small c.mask f.lich_idx m (omega (arith, i))

  pub frame_thirty : length f.lich_part ≡ 5 → length c.segments ≡ 30 → length (with_frame f c).segments ≡ 30
  unfolding with_segment
  frame_thirty p n = placed-length f.lich_part c.segments (5 * f.lich_idx) (omega (arith, i, p, n)) ∙ n

-- segments over the store's start
pub segments_in : (s rx : List ℕ) {v : List ℕ} → length s ≡ 30 → v ≡ s → v ++ drop 30 rx ≡ over s rx
segments_in s rx n e = ap (λ (x : List ℕ). x ++ drop 30 rx) e ∙ ap (λ (k : ℕ). s ++ drop k rx) (sym n)

-- acquisition restarts
pub restart_is : (r : Radio) (f : StreamFrame) (rx : List ℕ) → f.lich_idx ≤ 5 → length f.lich_part ≡ 5 → {s : SegmentSet} {h : Heard} {v : List ℕ}
    → s ≡ segment_set new_collection f.lich_idx f.lich_part → h ≡ collecting r s.collection → v ≡ s.collection.segments → (h, v ++ drop 30 rx) ≡ restarted r f rx
unfolding restarted
restart_is r f rx i five {s = s} e q p =
    let c = frame-set f new_collection i e (omega arith) in
    let w = segments_in s.collection.segments rx (ap (λ (k : LichCollection). length k.segments) c ∙ frame_thirty f new_collection i five refl) p in
    (λ t. (q t, w t)) ∙ ap (λ (k : LichCollection). (collecting r k, over k.segments rx)) c
