-- What is known of the system.
use Rattle.std.specs.Prelude.{ℕ, None}
use Rattle.sp_host.specs.Told.{Told}
use Rattle.sp_host.specs.Faults.{Faults}
use Rattle.sp_host.specs.Tally.{Tally}
use Rattle.sp_host.specs.declared.real.StdHost.{StdHost}
use Rattle.sp_host.specs.declared.timed.TimePacer.{TimePacer}

-- Nothing is told of the system.
abbrev pub nothing_told : Told
nothing_told = record {
  files = None;
  input = None;
  moments = None;
  out = None;
  err = None;
  report = None;
}

abbrev pub real_faults : StdHost → Faults
real_faults h = record {
  file = h.file_faults;
  input = h.input_faults;
  out = h.out_faults;
  err = h.err_faults;
  report = h.report_faults;
}

abbrev pub time_period : TimePacer → ℕ
time_period p = p.period

abbrev pub time_tally : TimePacer → Tally
time_tally p = record { asked = p.asked; granted = p.granted }
