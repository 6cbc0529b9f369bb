-- `event_open::is_open` meets its contract. Assumes nothing.
use Rattle.std.proofs.Common.{ℕ, ◌≤◌, ◌≡◌, sym, ◌∙◌, rules}
use mathlib.Core.Bool.{Bool, true}
use mathlib.Core.List.{List}
use lib.ListN.{length}
use lib.Seq.{length-take-le}
use Rattle.choice.specs.Pick.{callees}
use Rattle.tnc_core.specs.declared.Tnc.{Tnc}
use Rattle.tnc_core.specs.Tnc.{sound_tnc}
use Rattle.link_ready.specs.Ready.{link_fits}
use Rattle.event_open.specs.Inside.{is_open}
use Rattle.event_open.proofs.Opens.{held_within}
use Rattle.event_open.proofs.is_open.Goals as goal
use Rattle.event_open.proofs.is_open.Goals.{then-not-link_fits-via-then-not-link_fits, then-not-link_fits-via-else-not-link_fits+then-not-is_sound, then-not-link_fits-via-else-not-link_fits+else-not-is_sound+then-not-is_sound-2, then-not-link_fits-via-else-not-link_fits+else-not-is_sound+else-not-is_sound-2+then-buffer}

pub returns-then-not-link_fits : goal.returns-then-not-link_fits
unfolding is_open
returns-then-not-link_fits c =
    elim c.then-not-link_fits.branch [
      | then-not-link_fits-via-then-not-link_fits w ↦ search (rules, callees)
      | then-not-link_fits-via-else-not-link_fits+then-not-is_sound w ↦ search (rules, callees)
      | then-not-link_fits-via-else-not-link_fits+else-not-is_sound+then-not-is_sound-2 w ↦ search (rules, callees)
      | then-not-link_fits-via-else-not-link_fits+else-not-is_sound+else-not-is_sound-2+then-buffer w ↦ search (rules, callees)
    ]

-- the bytes that count stand in the store
kept_in : (t : Tnc) (p q : ℕ) (reader : List ℕ) {e f : Bool}
    → e ≡ link_fits (length reader) p q → e ≡ true → f ≡ sound_tnc t → f ≡ true → t.buffer.filled ≤ length reader
kept_in t p q reader l e s f = held_within t p q reader (sym l ∙ e) (sym s ∙ f)

pub slice_bounds-opened-end : goal.slice_bounds-opened-end
slice_bounds-opened-end c =
    let a = c.args in
    sym (length-take-le _ _ (kept_in a.before.tnc a.packets a.streams a.reader.now c.link_fits.ensures c.if-not-link_fits.false c.is_sound.ensures c.if-not-is_sound.false))

pub returns : goal.returns
unfolding is_open
returns c = search (rules, callees)
