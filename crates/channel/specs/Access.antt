-- Channel access, from document 01 under "Channel access", "Bounds for 8" and answer 6. Assumes nothing.
use Rattle.std.specs.Prelude.{ℕ, ◌+◌, ◌%◌, ◌^◌, Bool, true, false, ltb, leb, eqb, Result, Ok, Err}
use Rattle.choice.specs.Pick.{pick, and}
use Rattle.channel.specs.declared.Channel.{Channel}
use Rattle.channel.specs.declared.ChannelError.{ChannelError}
use Rattle.channel.specs.declared.ChannelError.TheVariants.{OutOfRange, OutOfBounds}
use Rattle.channel.specs.declared.Access.{Access}
use Rattle.channel.specs.declared.Access.TheVariants.{Waits, Sends}
use Rattle.channel.specs.declared.ChannelSet.{ChannelSet}
use Rattle.channel.specs.declared.Accessed.{Accessed}

-- the clock's limit, and the time from a check to the next
abbrev pub LAST : ℕ
LAST = 2 ^ 62

abbrev pub SLOT : ℕ
SLOT = 1920

abbrev pub new_channel : Channel
new_channel = record { clock = 0; carrier = false; waits = false; check = 0; duplex = false }

-- now ≤ 2^62, check ≤ now's limit + 1,920
unfoldable pub sound_channel : Channel → Bool
sound_channel c = and (leb c.clock LAST) (leb c.check (LAST + SLOT))

-- ---- changes of one field

abbrev pub with_clock : Channel → ℕ → Channel
with_clock c n = record { clock = n; carrier = c.carrier; waits = c.waits; check = c.check; duplex = c.duplex }

abbrev pub with_carrier : Channel → Bool → Channel
with_carrier c b = record { clock = c.clock; carrier = b; waits = c.waits; check = c.check; duplex = c.duplex }

abbrev pub with_duplex : Channel → Bool → Channel
with_duplex c b = record { clock = c.clock; carrier = c.carrier; waits = c.waits; check = c.check; duplex = b }

-- a check pending at n, or none
abbrev pub with_check : Channel → ℕ → Channel
with_check c n = record { clock = c.clock; carrier = c.carrier; waits = true; check = n; duplex = c.duplex }

abbrev pub without_check : Channel → Channel
without_check c = record { clock = c.clock; carrier = c.carrier; waits = false; check = c.check; duplex = c.duplex }

-- ---- the setters: a clock over 2^62 is refused, and one that goes back is accepted

abbrev pub is_set : Result (Unit {0}) ChannelError → Channel → ChannelSet
is_set answer c = record { answer = answer; channel = c }

unfoldable pub clock_set : Channel → ℕ → ChannelSet
clock_set c n = pick (sound_channel c) (pick (leb n LAST) (is_set (Ok tt) (with_clock c n)) (is_set (Err OutOfRange) c)) (is_set (Err OutOfBounds) c)

unfoldable pub carrier_set : Channel → Bool → ChannelSet
carrier_set c b = pick (sound_channel c) (is_set (Ok tt) (with_carrier c b)) (is_set (Err OutOfBounds) c)

unfoldable pub duplex_set : Channel → Bool → ChannelSet
duplex_set c b = pick (sound_channel c) (is_set (Ok tt) (with_duplex c b)) (is_set (Err OutOfBounds) c)

-- ---- access

abbrev pub is_accessed : Result Access ChannelError → Channel → Accessed
is_accessed answer c = record { answer = answer; channel = c }

-- checks at now + 1,920
unfoldable pub check_later : Channel → Accessed
check_later c = is_accessed (Ok Waits) (with_check c (c.clock + SLOT))

-- a pending check: once it is due, sends only if the carrier is off and now mod 4 is 3, and otherwise checks again
unfoldable pub check_due : Channel → Accessed
check_due c =
    pick (ltb c.clock c.check) (is_accessed (Ok Waits) c)
    (pick c.carrier (check_later c) (pick (eqb (c.clock % 4) 3) (is_accessed (Ok Sends) (without_check c)) (check_later c)))

-- full duplex skips all this; with no check pending busy sets one, and clear sends
unfoldable pub accessed : Channel → Accessed
accessed c =
    pick (sound_channel c)
    (pick c.duplex (is_accessed (Ok Sends) c)
    (pick c.waits (check_due c)
    (pick c.carrier (check_later c) (is_accessed (Ok Sends) c))))
    (is_accessed (Err OutOfBounds) c)

-- ---- document 01's numbers for what is refused, and for the answers

abbrev pub channel_number : ChannelError → ℕ
channel_number OutOfRange = 6
channel_number OutOfBounds = 8

abbrev pub set_number : Result (Unit {0}) ChannelError → ℕ
set_number (Ok done) = 0
set_number (Err e) = channel_number e

abbrev pub access_number : Result Access ChannelError → ℕ
access_number (Ok a) = 0
access_number (Err e) = channel_number e
