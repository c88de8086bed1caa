-- What every answer to a call keeps of a guest.
use Rattle.std.proofs.Common.{◌≡◌, List, ap}
use Rattle.std.specs.Prelude.{Option, None, Some, Result, Ok, Err}
use Rattle.call_record.specs.Record.{Stored}
use Rattle.guest_model.specs.Calls.{Deed, Answers, Takes, Sends, Tells, Maps, Ends}
use Rattle.guest_mem.specs.Frames.{Frames}
use Rattle.rv_machine.specs.Guest.{GuestState}
use Rattle.syscall_layer.specs.Serve.{AnswersCall, FramesAfter}
use Rattle.syscall_layer.specs.declared.fault.CallFault.{CallFault}
use Rattle.syscall_layer.specs.declared.fault.CallFault.TheVariants as faults
use Rattle.syscall_layer.specs.declared.server.Served.{Served}
use Rattle.syscall_layer.specs.declared.server.Served.TheVariants as served

count_after : (deed : Deed) (stored : List Stored) (old new : Frames) → FramesAfter deed stored old new → new.count ≡ old.count
count_after (Maps changed) stored old new after = after.1
count_after (Answers answer) stored old new after = after.count
count_after (Takes into) stored old new after = after.count
count_after (Sends port bytes answer) stored old new after = after.count
count_after (Tells at) stored old new after = after.count
count_after (Ends status) stored old new after = after.count

-- how many frames there are, and the state that the memory came from
pub record IsKept (old new : GuestState) : Type 0 where
  pub count : new.frames.count ≡ old.frames.count
  pub origin : new.origin ≡ old.origin

same_guest : (old new : GuestState) → new ≡ old → IsKept old new
same_guest old new same = record { count = ap (λ (g : GuestState). g.frames.count) same; origin = ap (λ (g : GuestState). g.origin) same }

pub kept_by_call : (deed : Option Deed) (r : Result Served CallFault) (old new : GuestState) → AnswersCall deed r old new → IsKept old new
kept_by_call None r old new answer = same_guest old new answer.1
kept_by_call (Some deed) (Ok (served.Went entry)) old new answer = record { count = count_after deed entry.stored old.frames new.frames answer.frames; origin = answer.origin }
kept_by_call (Some deed) (Ok (served.Exit status)) old new answer = same_guest old new answer.1
kept_by_call (Some deed) (Err (faults.Unsupported number)) old new answer = absurd answer
kept_by_call (Some deed) (Err faults.InputFault) old new answer = same_guest old new answer.1
kept_by_call (Some deed) (Err (faults.OutputFault port)) old new answer = same_guest old new answer.1
kept_by_call (Some deed) (Err faults.NoMemory) old new answer = same_guest old new answer.1
