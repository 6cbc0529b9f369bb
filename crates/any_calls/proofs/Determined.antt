-- The promise of specs/Determined.antt is kept. Assumes nothing.
use mathlib.Core.Path.{sym, ◌∙◌}
use Rattle.any_calls.specs.Calls.{write_kiss, read_kiss, handle_lsf, handle_packet, handle_stream, set_data_carrier_detect, set_now, set_tx_end_time, ptt, read_tx_frame}
use Rattle.any_calls.specs.Determined.{Determined}

pub determined : Determined
determined w (write_kiss buf) one another e f = e ∙ sym f
determined w (read_kiss target) one another e f = e ∙ sym f
determined w (handle_lsf lsf) one another e f = e ∙ sym f
determined w (handle_packet frame) one another e f = e ∙ sym f
determined w (handle_stream frame) one another e f = e ∙ sym f
determined w (set_data_carrier_detect dcd) one another e f = e ∙ sym f
determined w (set_now samples) one another e f = e ∙ sym f
determined w (set_tx_end_time samples) one another e f = e ∙ sym f
determined w ptt one another e f = e ∙ sym f
determined w read_tx_frame one another e f = e ∙ sym f
