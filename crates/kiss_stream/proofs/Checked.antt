-- What a checked content says to its caller: a choice by the same two tests is made. Assumes nothing.
use mathlib.Core.Path.{◌≡◌, refl}
use mathlib.Core.Bool.{Bool, true, false}
use Rattle.std.specs.Prelude.{ℕ, List, Option, Some, None}
use lib.Dec.{ltb}
use Rattle.choice.specs.Pick.{pick}
use Rattle.protocol.specs.declared.StreamFrame.{StreamFrame}
use Rattle.kiss_layout.specs.Stream.{stream_content}
use Rattle.kiss_stream.specs.Checked.{checked_content}

module _ {A : Type 0} (f : StreamFrame) (x y : A) where
  abbrev inside : Option (List ℕ)
  inside = Some (stream_content f)

  -- the same choice, between the refusal x and y
  abbrev pub chosen : A
  chosen = pick (ltb 5 f.lich_idx) x (pick (ltb 32767 f.frame_number) x y)

  pub when_outside : checked_content f ≡ None → x ≡ chosen
  unfolding checked_content pick
  when_outside e = go (ltb 5 f.lich_idx) (ltb 32767 f.frame_number) e
    where
      go : (a b : Bool) → pick a None (pick b None inside) ≡ None → x ≡ pick a x (pick b x y)
      go true b e = refl
      go false true e = refl
      go false false e = cc

  pub when_inside : (content : List ℕ) → checked_content f ≡ Some content → (y ≡ chosen) × (content ≡ stream_content f)
  unfolding checked_content pick
  when_inside content e = go (ltb 5 f.lich_idx) (ltb 32767 f.frame_number) e
    where
      go : (a b : Bool) → pick a None (pick b None inside) ≡ Some content → (y ≡ pick a x (pick b x y)) × (content ≡ stream_content f)
      go true b e = cc
      go false true e = cc
      go false false e = (refl, cc)
