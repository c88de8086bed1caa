-- The end line of a run, and the lines of refusals.
use Rattle.std.specs.Prelude.{List, ℕ, [], ◌++◌, codes}
use Rattle.std.specs.Fmt.{decimal}
use Rattle.sp_host.specs.declared.host.Port.{Port}
use Rattle.sp_host.specs.declared.host.Port.TheVariants.{Out, Err, Report}
use Rattle.elf_load.specs.declared.fault.ElfFault.{ElfFault}
use Rattle.elf_load.specs.declared.fault.ElfFault.TheVariants as elf
use Rattle.guest_model.specs.Serial.{End, Exit, Signal, Unsupported}
use Rattle.rv_machine.specs.Step.{kind_number}
use Rattle.rv_machine.specs.declared.step.End.{End as GuestEnd}
use Rattle.rv_machine.specs.declared.step.End.TheVariants as ends
use Rattle.sp_report.specs.Digits.{address_text}
use Rattle.sp_report.specs.declared.answer.OptionName.{OptionName}
use Rattle.sp_report.specs.declared.answer.OptionName.TheVariants as option
use Rattle.sp_report.specs.declared.answer.Refusal.{Refusal}
use Rattle.sp_report.specs.declared.answer.Refusal.TheVariants as refusals
use Rattle.sp_report.specs.declared.answer.UsageKind.{UsageKind}
use Rattle.sp_report.specs.declared.answer.UsageKind.TheVariants.{NoCommand, UnknownCommand, Form, BadValue}

-- how a run ends, as a guest tells it
abbrev pub end_by : GuestEnd → End
end_by (ends.Exit status) = Exit status
end_by (ends.Signal kind pc) = Signal (kind_number kind) pc

-- the end line; a run that ends at a call without a row has none
abbrev pub end_text : End → List ℕ
end_text (Exit status) = codes "end exit " ++ (decimal status ++ codes "\n")
end_text (Signal kind pc) = codes "end signal " ++ (decimal kind ++ (codes " at " ++ (address_text pc ++ codes "\n")))
end_text (Unsupported number pc) = []

abbrev pub port_name : Port → List ℕ
port_name Out = codes "Out"
port_name Err = codes "Err"
port_name Report = codes "Report"

-- the number and the name of a file's fault, and what it tells
abbrev pub elf_text : ElfFault → List ℕ
elf_text elf.TooShort = codes "1 TooShort"
elf_text elf.NotElf = codes "2 NotElf"
elf_text elf.NotElf32Little = codes "3 NotElf32Little"
elf_text elf.NotExec = codes "4 NotExec"
elf_text elf.NotRiscv = codes "5 NotRiscv"
elf_text (elf.Flags value) = codes "6 Flags " ++ address_text value
elf_text elf.HeaderSizes = codes "7 HeaderSizes"
elf_text elf.TableOutOfFile = codes "8 TableOutOfFile"
elf_text elf.Interpreter = codes "9 Interpreter"
elf_text (elf.SegmentOutOfFile k) = codes "10 SegmentOutOfFile " ++ decimal k
elf_text (elf.BadSegment k) = codes "11 BadSegment " ++ decimal k
elf_text (elf.SharedPage k) = codes "12 SharedPage " ++ decimal k
elf_text (elf.WritableCode k) = codes "13 WritableCode " ++ decimal k
elf_text (elf.OutsideUser k) = codes "14 OutsideUser " ++ decimal k
elf_text elf.TooManyPages = codes "15 TooManyPages"
elf_text elf.BadEntry = codes "16 BadEntry"
elf_text elf.BadSymbols = codes "17 BadSymbols"
elf_text elf.NoMemory = codes "18 NoMemory"

-- an option as it is written, and the number of `demo`
abbrev pub option_text : OptionName → List ℕ
option_text option.By = codes "--by"
option_text option.Tool = codes "--tool"
option_text option.Budget = codes "--budget"
option_text option.Limit = codes "--limit"
option_text option.Poll = codes "--poll"
option_text option.Msec = codes "--msec"
option_text option.Records = codes "--records"
option_text option.Frames = codes "--frames"
option_text option.Workers = codes "--workers"
option_text option.N = codes "N"

-- why words are no command
abbrev pub usage_text : UsageKind → List ℕ
usage_text NoCommand = codes "no command"
usage_text UnknownCommand = codes "unknown command"
usage_text Form = codes "form"
usage_text (BadValue name) = codes "value of " ++ option_text name

-- the line of a refusal
abbrev pub refusal_line : Refusal → List ℕ
refusal_line (refusals.Usage kind) = codes "superpin: 1 usage " ++ (usage_text kind ++ codes "\n")
refusal_line refusals.FileFault = codes "superpin: 2 file fault\n"
refusal_line refusals.FileTooLarge = codes "superpin: 3 file too large\n"
refusal_line (refusals.Elf fault) = codes "superpin: 4 elf " ++ (elf_text fault ++ codes "\n")
refusal_line (refusals.ArgsTooLong bytes) = codes "superpin: 5 arguments " ++ (decimal bytes ++ codes "\n")
refusal_line (refusals.UnsupportedCall number pc) = codes "superpin: 6 unsupported call " ++ (decimal number ++ (codes " at " ++ (address_text pc ++ codes "\n")))
refusal_line (refusals.BudgetSpent n) = codes "superpin: 7 budget " ++ (decimal n ++ codes " spent\n")
refusal_line refusals.InputFault = codes "superpin: 8 input fault\n"
refusal_line (refusals.OutputFault port) = codes "superpin: 9 output fault " ++ (port_name port ++ codes "\n")
refusal_line refusals.ReportFault = []
refusal_line refusals.NoMemory = codes "superpin: 11 no memory\n"
