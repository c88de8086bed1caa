use Rattle.boundary_verify.specs.Job.{script_of_job}
use Rattle.slice_runner.specs.Checked.{fields_of}
use Rattle.slice_runner.proofs.Trying.{room_for_instruction, tried_fault, tried_next}
use Rattle.slice_runner.proofs.checked.try_turn.Goals as goal

pub step-requires : goal.step-requires
step-requires c = room_for_instruction c.args.guest.now.frames c.args.guest.now.machine c.requires.frames

pub returns-in-Next : goal.returns-in-Next
returns-in-Next c = tried_next (script_of_job (fields_of c.args.draft.now)) c.args.guest.now c.step.new.self c.args.calls.now c.in-Next.ensures

pub returns-in-Fault : goal.returns-in-Fault
returns-in-Fault c = tried_fault (script_of_job (fields_of c.args.draft.now)) c.args.guest.now c.step.new.self c.args.calls.now c.in-Fault.field-0 c.in-Fault.ensures
