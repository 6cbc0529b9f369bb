-- `host_frame::read_setting` meets its contract. Assumes nothing.
use Rattle.std.proofs.Common.{◌∙◌}
use Rattle.choice.specs.Pick.{tests}
use Rattle.std.specs.Prelude.{Err, Ok}
use Rattle.host_frame.specs.Setting.{setting_from}
use Rattle.host_frame.proofs.Settings.{setting_as}
use Rattle.host_frame.proofs.read_setting.Goals as goal

pub returns-in-Ok : goal.returns-in-Ok
unfolding setting_from
returns-in-Ok c = (search tests) ∙ setting_as _ _ (Ok _) c.decode_payload.ensures c.in-Ok.is

pub returns-in_default : goal.returns-in_default
unfolding setting_from
returns-in_default c = (search tests) ∙ setting_as _ _ (Ok _) c.decode_payload.ensures c.in-Ok.is

pub returns-in_default-2 : goal.returns-in_default-2
unfolding setting_from
returns-in_default-2 c = setting_as _ _ (Err _) c.decode_payload.ensures c.in_default.is
