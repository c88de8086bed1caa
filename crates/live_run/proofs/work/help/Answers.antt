use denote.Param.Send.{sendable}
use Rattle.live_run.proofs.Sent.{job_send}
use Rattle.live_run.proofs.work.help.Goals as goal

pub claim-requires-send-J : goal.claim-requires-send-J
claim-requires-send-J g c κs within = search (sendable, job_send)

pub deposit-requires-send-J : goal.deposit-requires-send-J
deposit-requires-send-J g c κs within = search (sendable, job_send)
