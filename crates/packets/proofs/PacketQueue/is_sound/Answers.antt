-- `packets::PacketQueue::is_sound` meets its contract. Assumes nothing.
use Rattle.std.proofs.Common.{rules, tests, ◌≡◌, ◌∙◌}
use Rattle.std.proofs.lemmas.Iterator.Search.{all_from_yields_List}
use Rattle.std.proofs.lemmas.Iterator.{YieldsList-from_slice}
use mathlib.Core.Bool.{◌&&◌}
use lib.Dec.{leb}
use Rattle.std.specs.List.{list_all}
use Rattle.choice.specs.Pick.{and}
use Rattle.ring.specs.Ring.{sound_ring}
use Rattle.packets.specs.declared.Place.{Place}
use Rattle.packets.specs.Queue.{sound_queue}
use Rattle.packets.proofs.Bounds.{and_is, places_all}
use Rattle.packets.proofs.PacketQueue.is_sound.Goals as goal

pub returns : goal.returns
unfolding sound_queue sound_ring
returns c =
    let all : c.all.result ≡ list_all (λ (p : Place). leb p.sent p.len && leb p.len 825) c.args.self.places =
    all_from_yields_List (λ (p : Place). leb p.sent p.len && leb p.len 825) _ _ c.all.result c.all.ensures.ran (YieldsList-from_slice c.args.self.places cc) (λ x b q k. search (rules, tests)) in
    and_is _ _ ∙ (λ t. and ((all ∙ places_all c.args.self.places) t) (c.is_sound.ensures t))
