use Rattle.driver_link.proofs.FrameReads.{reads_once}
use Rattle.machine_laws.proofs.run_laws.a_frame_reads_as_one_send.Goals as goal

pub returns : goal.returns
returns c = reads_once
