-- A job of a live run can be moved to another thread.
use denote.RattleType.{RattleType}
use denote.Param.Send.{IsSend}
use Rattle.live_run.specs.contracts.jobs.LiveJob.{the_row}
use Rattle.live_run.proofs.jobs.CutJob.TheSendSync.{the_send}

pub job_send : (T H L S : RattleType) (tool : _) (host : _) → IsSend (the_row T H L S tool host)
job_send T H L S tool host = record {
  owned = λ d vs x. ((λ vss. (tt, (the_send.owned x.0.cut vss.0, (((λ uss. (tt, ((λ rss. (tt, tt)), tt))), tt), tt)))), tt);
  leaving = λ k x w. tt;
}
