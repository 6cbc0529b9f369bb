-- The fields of the link setup frame (LSF), as `lsf_layout` has them from the M17 protocol specification and document 01, for the crates above. Assumes nothing.
pub use Rattle.lsf_layout.specs.Bits.{Field, mode_bits, data_type_bits, encryption_bits, channel_bits}
unfoldable pub use Rattle.lsf_layout.specs.Bits.{bits_at, with_bits_at}
pub use Rattle.lsf_layout.specs.Bytes.{part}
unfoldable pub use Rattle.lsf_layout.specs.Bytes.{type_field}
unfoldable pub use Rattle.lsf_layout.specs.Lsf.{field_of}
