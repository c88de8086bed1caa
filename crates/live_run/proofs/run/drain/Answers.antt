use denote.Param.Send.{sendable}
use Rattle.live_run.proofs.Sent.{job_send}
use Rattle.live_run.proofs.run.drain.Goals as goal

pub outstanding-requires-send-J : goal.outstanding-requires-send-J
outstanding-requires-send-J g c κs within = search (sendable, job_send)

pub collect-requires-send-J : goal.collect-requires-send-J
collect-requires-send-J g c κs within = search (sendable, job_send)
