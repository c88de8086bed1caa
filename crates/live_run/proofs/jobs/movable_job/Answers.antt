use denote.Param.Send.{sendable}
use Rattle.live_run.proofs.Sent.{job_send}
use Rattle.live_run.proofs.jobs.movable_job.Goals as goal

pub movable-requires-send-T : goal.movable-requires-send-T
movable-requires-send-T g c κs within = search (sendable, job_send)
