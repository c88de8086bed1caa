-- Calls made ready give their events.
use Rattle.std.proofs.Common.{◌≡◌, ℕ, List, [], ◌∷◌, map, ap, refl}
use Rattle.std.specs.Prelude.{Option, None, Some, if◌then◌else◌}
use Rattle.rv_isa.specs.declared.op.Op.{Op}
use Rattle.rv_isa.specs.declared.op.Op.TheVariants.{Jal, Jalr, Beq, Bne, Blt, Bge, Bltu, Bgeu, Lb, Lh, Lw, Lbu, Lhu, Sb, Sh, Sw, LrW, ScW, AmoswapW, AmoaddW, AmoxorW, AmoandW, AmoorW, AmominW, AmomaxW, AmominuW, AmomaxuW}
use Rattle.insert_points.specs.Arguments.{jumps_by, read_address, target_of, value_of, write_address}
use Rattle.insert_points.specs.Calls.{args_of, calls_at}
use Rattle.insert_points.specs.Events.{event_of}
use Rattle.insert_points.specs.Planned.{named_source, any_source, plan_call, plan_calls, read_source, ready_event, source_of, source_value, sources_of, taken_source, target_source, write_source}
use Rattle.insert_points.specs.declared.call.Arg.{Arg}
use Rattle.insert_points.specs.declared.call.Arg.TheVariants.{InstPtr, ReadEa, WriteEa, MemSize, BranchTaken, Target, Reg, Const}
use Rattle.insert_points.specs.declared.call.Call.{Call}
use Rattle.insert_points.specs.declared.call.Point.{Point}
use Rattle.insert_points.specs.declared.operands.Operands.{Operands}

reads : (op : Op) (o : Operands) (registers : List ℕ) → source_value (read_source op) o registers ≡ read_address op o
reads Lb o registers = refl
reads Lh o registers = refl
reads Lw o registers = refl
reads Lbu o registers = refl
reads Lhu o registers = refl
reads LrW o registers = refl
reads AmoswapW o registers = refl
reads AmoaddW o registers = refl
reads AmoxorW o registers = refl
reads AmoandW o registers = refl
reads AmoorW o registers = refl
reads AmominW o registers = refl
reads AmomaxW o registers = refl
reads AmominuW o registers = refl
reads AmomaxuW o registers = refl
reads _ o registers = refl

writes : (op : Op) (o : Operands) (registers : List ℕ) → source_value (write_source op) o registers ≡ write_address op o
writes Sb o registers = refl
writes Sh o registers = refl
writes Sw o registers = refl
writes ScW o registers = refl
writes AmoswapW o registers = refl
writes AmoaddW o registers = refl
writes AmoxorW o registers = refl
writes AmoandW o registers = refl
writes AmoorW o registers = refl
writes AmominW o registers = refl
writes AmomaxW o registers = refl
writes AmominuW o registers = refl
writes AmomaxuW o registers = refl
writes _ o registers = refl

targets : (op : Op) (o : Operands) (registers : List ℕ) → source_value (target_source op) o registers ≡ target_of op o
targets Jal o registers = refl
targets Jalr o registers = refl
targets Beq o registers = refl
targets Bne o registers = refl
targets Blt o registers = refl
targets Bge o registers = refl
targets Bltu o registers = refl
targets Bgeu o registers = refl
targets _ o registers = refl

takes : (op : Op) (o : Operands) (registers : List ℕ) → o.instr.op ≡ op → source_value (taken_source op) o registers ≡ (if jumps_by op o.a o.b then 1 else 0)
takes Jal o registers e = refl
takes Jalr o registers e = refl
takes Beq o registers e = ap (λ (op : Op). if jumps_by op o.a o.b then 1 else 0) e
takes Bne o registers e = ap (λ (op : Op). if jumps_by op o.a o.b then 1 else 0) e
takes Blt o registers e = ap (λ (op : Op). if jumps_by op o.a o.b then 1 else 0) e
takes Bge o registers e = ap (λ (op : Op). if jumps_by op o.a o.b then 1 else 0) e
takes Bltu o registers e = ap (λ (op : Op). if jumps_by op o.a o.b then 1 else 0) e
takes Bgeu o registers e = ap (λ (op : Op). if jumps_by op o.a o.b then 1 else 0) e
takes _ o registers e = refl

named : (arg : Arg) (o : Operands) (registers : List ℕ) → source_value (named_source o.instr.op arg) o registers ≡ value_of arg o registers
named InstPtr o registers = refl
named ReadEa o registers = reads o.instr.op o registers
named WriteEa o registers = writes o.instr.op o registers
named MemSize o registers = refl
named BranchTaken o registers = takes o.instr.op o registers refl
named Target o registers = targets o.instr.op o registers
named (Reg n) o registers = refl
named (Const v) o registers = refl

any : (arg : Arg) (o : Operands) (registers : List ℕ) → source_value (any_source arg) o registers ≡ value_of arg o registers
any InstPtr o registers = refl
any ReadEa o registers = refl
any WriteEa o registers = refl
any MemSize o registers = refl
any BranchTaken o registers = refl
any Target o registers = refl
any (Reg n) o registers = refl
any (Const v) o registers = refl

-- the event of one call, if each argument has its source
ready : (op : Option Op) (o : Operands) (registers : List ℕ) → ((arg : Arg) → source_value (source_of op arg) o registers ≡ value_of arg o registers)
    → (call : Call) → ready_event o registers (plan_call op call) ≡ event_of o registers (plan_call op call)
unfolding sources_of
ready op o registers same call =
    let args = args_of call.args.items in
    rw (same args.first, same args.second, same args.third, same args.fourth) refl

map_ready : (op : Option Op) (o : Operands) (registers : List ℕ) → ((arg : Arg) → source_value (source_of op arg) o registers ≡ value_of arg o registers)
    → (calls : List Call) → map (ready_event o registers) (map (plan_call op) calls) ≡ map (event_of o registers) (map (plan_call op) calls)
map_ready op o registers same [] = refl
map_ready op o registers same (call ∷ calls) = rw (ready op o registers same call, map_ready op o registers same calls) refl

pub ready_named : (o : Operands) (registers : List ℕ) (point : Point) (calls : List Call)
    → map (ready_event o registers) (plan_calls (Some o.instr.op) point calls) ≡ map (event_of o registers) (plan_calls (Some o.instr.op) point calls)
unfolding plan_calls
ready_named o registers point calls = map_ready (Some o.instr.op) o registers (λ arg. named arg o registers) (calls_at point calls)

pub ready_any : (o : Operands) (registers : List ℕ) (point : Point) (calls : List Call)
    → map (ready_event o registers) (plan_calls None point calls) ≡ map (event_of o registers) (plan_calls None point calls)
unfolding plan_calls
ready_any o registers point calls = map_ready None o registers (λ arg. any arg o registers) (calls_at point calls)
