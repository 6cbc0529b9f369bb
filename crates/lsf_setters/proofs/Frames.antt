-- Bytes of a frame after its type was set. Assumes nothing.
use mathlib.Core.Path.{◌≡◌, ap, ◌∙◌}
use mathlib.Core.List.{List, ◌∷◌, ◌++◌, append_assoc}
use Prim.Native.Nat.{ℕ, ◌/◌, ◌%◌}
use native.Mathlib.Nat.{div-add-mod'}
use native.Mathlib.Omega.{arith}
use lib.ListN.{length, take, drop, length-append, length-drop}
use lib.Seq.{take_at, drop_at, drop-drop, get_or-drop, length-take-le}
use Rattle.crc.specs.Crc.{two_bytes, crc_of, sealed}
use Rattle.lsf_layout.specs.Bits.{Field, with_bits_at}
use Rattle.lsf_layout.specs.Bytes.{type_field}
use Rattle.lsf_bytes.specs.Bytes.{meta, retyped}
use Rattle.lsf_setters.specs.Lsf.{with_field}

-- what a setter's code does: it has the number n put into a run of the type's bits, where n is the v that its contract names
pub set_bits : (f : List ℕ) (k : Field) (v n : ℕ) {g : List ℕ} → n ≡ v → g ≡ retyped (with_bits_at k n (type_field f)) f → g ≡ with_field k v f
unfolding with_field
set_bits f k v n e put = put ∙ ap (λ (x : ℕ). retyped (with_bits_at k x (type_field f)) f) e

-- ---- a frame whose type was set

module _ (t : ℕ) (f : List ℕ) (whole : length f ≡ 30) where
  head_length : length (take 12 f) ≡ 12
  head_length = length-take-le 12 f (omega arith)

  meta-length : length (meta f) ≡ 14
  unfolding meta
  meta-length = length-take-le 14 (drop 14 f) (omega (arith, length-drop 14 f))

  -- what follows the type
  rest : List ℕ
  rest = meta f ++ two_bytes (crc_of (take 12 f ++ two_bytes t ++ meta f))

  in_order : retyped t f ≡ take 12 f ++ (t / 256 ∷ t % 256 ∷ rest)
  unfolding retyped sealed rest
  in_order = simp append_assoc

  from_type : drop 12 (retyped t f) ≡ t / 256 ∷ t % 256 ∷ rest
  from_type = rw in_order (drop_at (take 12 f) _ 12 head_length)

  pub addresses_kept : take 12 (retyped t f) ≡ take 12 f
  addresses_kept = rw in_order (take_at (take 12 f) _ 12 head_length)

  pub type_read : type_field (retyped t f) ≡ t
  unfolding type_field
  type_read = rw (← get_or-drop 12 (retyped t f) 0 0, ← get_or-drop 12 (retyped t f) 1 0, from_type) (div-add-mod' t 256)

  pub meta-kept : meta (retyped t f) ≡ meta f
  unfolding meta rest
  meta-kept = rw (← drop-drop 2 12 (retyped t f), from_type) (take_at (meta f) _ 14 meta-length)

  pub retyped-length : length (retyped t f) ≡ 30
  unfolding rest
  retyped-length = rw (in_order, length-append (take 12 f), length-append (meta f), head_length, meta-length)
