-- What is promised of channel access over its calls, from document 01. Each is proved in proofs/Kept.antt. Assumes nothing.
use Rattle.std.specs.Prelude.{ℕ, Bool, true, false, ◌≢◌, ◌≡◌, Ok}
use Rattle.channel.specs.declared.Channel.{Channel}
use Rattle.channel.specs.declared.Access.TheVariants.{Sends}
use Rattle.channel.specs.Access.{new_channel, sound_channel, clock_set, carrier_set, duplex_set, accessed, set_number, access_number}

-- a new channel is sound, and a sound one stays sound, whatever the call
abbrev pub NewIsSound : Type 0
NewIsSound = sound_channel new_channel ≡ true

pub record StaysSound (c : Channel) : Type 0 where
  pub by_clock : (n : ℕ) → sound_channel (clock_set c n).channel ≡ true
  pub by_carrier : (b : Bool) → sound_channel (carrier_set c b).channel ≡ true
  pub by_duplex : (b : Bool) → sound_channel (duplex_set c b).channel ≡ true
  pub by_access : sound_channel (accessed c).channel ≡ true

abbrev pub SoundStaysSound : Type 0
SoundStaysSound = (c : Channel) → sound_channel c ≡ true → StaysSound c

-- with any answer but 0 the record is as it was
pub record Kept (c : Channel) : Type 0 where
  pub by_clock : (n : ℕ) → set_number (clock_set c n).answer ≢ 0 → (clock_set c n).channel ≡ c
  pub by_carrier : (b : Bool) → set_number (carrier_set c b).answer ≢ 0 → (carrier_set c b).channel ≡ c
  pub by_duplex : (b : Bool) → set_number (duplex_set c b).answer ≢ 0 → (duplex_set c b).channel ≡ c
  pub by_access : access_number (accessed c).answer ≢ 0 → (accessed c).channel ≡ c

abbrev pub RefusedKeepsAll : Type 0
RefusedKeepsAll = (c : Channel) → Kept c

-- while a carrier is heard nobody sends, but in full duplex
abbrev pub CarrierHoldsBack : Type 0
CarrierHoldsBack = (c : Channel) → c.carrier ≡ true → c.duplex ≡ false → (accessed c).answer ≢ Ok Sends

-- full duplex always sends, and leaves a pending check pending
abbrev pub DuplexSends : Type 0
DuplexSends = (c : Channel) → sound_channel c ≡ true → c.duplex ≡ true → accessed c ≡ record { answer = Ok Sends; channel = c }
