-- What a host that never fails tells: no file, its input and its moments.
use Rattle.std.specs.Prelude.{drop, None, Some}
use Rattle.std.specs.FinMap.{empty}
use Rattle.sp_host.specs.Told.{Told, Files}
use Rattle.sp_host.specs.Memory.{tape_left}
use Rattle.sp_host.specs.declared.steady.SteadyHost.{SteadyHost}

abbrev pub no_files : Files
no_files = empty

abbrev pub steady_told : SteadyHost → Told
steady_told h = record {
  files = Some no_files;
  input = Some (tape_left h.input);
  moments = Some (drop h.moments_at h.moments.items);
  out = None;
  err = None;
  report = None;
}
