use denote.Param.Send.{sendable}
use Rattle.live_run.proofs.Sent.{job_send}
use Rattle.live_run.proofs.run.lead_beside.Goals as goal

pub run_beside-requires-send-J : goal.run_beside-requires-send-J
run_beside-requires-send-J g c κs within = search (sendable, job_send)
