use Rattle.std.proofs.Common.{rules, sym}
use Rattle.std.specs.Prelude.{nat_le}
use Rattle.std.proofs.lemmas.List.Sorted.{IsPartitionPoint-from_clause, IsPartitionedBy-leb}
use Rattle.elf_load.specs.Image.{FunctionFields}
use Rattle.ins_views.proofs.Routines.{count_by-partition, starts_rise}
use Rattle.ins_views.proofs.views.count_started.Goals as goal

pub returns-clause-parts : goal.returns-clause-parts
returns-clause-parts c =
    IsPartitionPoint-from_clause (λ (f : FunctionFields). nat_le f.start c.args.at) c.args.routines.now c.partition_point.result c.partition_point.ensures.partitioned
    (IsPartitionedBy-leb (λ f. f.start) c.args.routines.now c.args.at (starts_rise c.args.routines.now c.requires.rising)) (λ a r f h. search rules)

pub returns-clause-count : goal.returns-clause-count
returns-clause-count c =
    let parts = returns-clause-parts c in
    sym (count_by-partition (λ (f : FunctionFields). nat_le f.start c.args.at) c.args.routines.now c.partition_point.result c.partition_point.ensures.bound parts.0 parts.1)
