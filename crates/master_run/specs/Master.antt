-- A run that is cut into jobs, as callers of its master see it.
use Rattle.std.specs.Prelude.{◌≡◌, ℕ, ◌/◌, Bool, List, []}
use Rattle.sp_host.specs.Told.{Told}
use Rattle.guest_model.specs.Machine.{Machine}
use Rattle.guest_model.specs.Runs.{Running}
use Rattle.guest_model.specs.Serial.{Position, run_of, sent_of}
use Rattle.syscall_layer.specs.Serve.{told_after}
use Rattle.syscall_layer.specs.declared.fault.RunFault.{RunFault}
use Rattle.boundary_verify.specs.Cuts.{AreFirstCuts, CutLimits, cut_limits}
use Rattle.master_run.specs.Answers.{HasAnswered, PacerState}
use Rattle.master_run.specs.declared.limits.Limits.{Limits}

-- whether the next job may be made; or the run came to its end, or was refused
pub data Standing : Type 0 where
  Ready : Standing
  Over : Standing
  Refused : (fault : RunFault) → Standing

pub record MasterState : Type 0 where
  pub machine : Machine
  -- how many steps were made, and how many of their calls went on
  pub position : ℕ
  pub calls : ℕ
  -- the positions at which the run was cut, in order
  pub cuts : List ℕ
  pub limits : Limits
  pub standing : Standing

-- before its first step
abbrev pub start_at : Machine → Limits → MasterState
start_at m limits = record { machine = m; position = 0; calls = 0; cuts = []; limits = limits; standing = Ready }

-- what makes its cuts due
abbrev pub limits_of : Limits → CutLimits
limits_of l = cut_limits l.poll l.records l.frames

-- The run from p, which began where this is told and the pacer showed this, was made up to the master's position, and the world
-- and the pacer stand there. The pacer's answers, and the rules that look at the run, make its first cuts due, and no other.
pub record HasRunTo (t : Told) (p : Position) (first : PacerState) (m : MasterState) (told : Told) (now : PacerState) : Type 0 where
  pub position : Position
  pub stands : run_of m.position p ≡ Running position
  pub machine : position.machine ≡ m.machine
  pub calls : position.calls ≡ m.calls
  pub told_is : told ≡ told_after t position.world (sent_of m.position p)
  pub answers : ℕ → Bool
  pub answered : HasAnswered answers (m.position / m.limits.poll) first now
  pub cuts : AreFirstCuts (limits_of m.limits) answers p m.position 0 m.cuts
