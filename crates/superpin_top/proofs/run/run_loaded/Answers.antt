use Rattle.std.proofs.Common.{ℕ, ap, sym, ◌∙◌}
use Rattle.sp_words.specs.declared.asked.ToolName.TheVariants.{Bcount, Blocks, Cache, Calls, Icount, Mix}
use Rattle.superpin_top.proofs.Runs.{named_run}
use Rattle.superpin_top.proofs.run.run_loaded.Goals as goal

pub returns-in-Icount-clause-told : goal.returns-in-Icount-clause-told
returns-in-Icount-clause-told g c = named_run _ _ c.args.how _ _ _ _ _ Icount _ c.in-Icount.is c.run_with.ensures.told

pub returns-in-Bcount-clause-told : goal.returns-in-Bcount-clause-told
returns-in-Bcount-clause-told g c = named_run _ _ c.args.how _ _ _ _ _ Bcount _ c.in-Bcount.is c.run_with-in-Bcount.ensures.told

pub returns-in-Mix-clause-told : goal.returns-in-Mix-clause-told
returns-in-Mix-clause-told g c = named_run _ _ c.args.how _ _ _ _ _ Mix _ c.in-Mix.is c.run_with-in-Mix.ensures.told

pub returns-in-Blocks-clause-told : goal.returns-in-Blocks-clause-told
returns-in-Blocks-clause-told g c = named_run _ _ c.args.how _ _ _ _ _ Blocks _ c.in-Blocks.is c.run_with-in-Blocks.ensures.told

pub returns-in-Calls-clause-told : goal.returns-in-Calls-clause-told
returns-in-Calls-clause-told g c = named_run _ _ c.args.how _ _ _ _ _ Calls _ c.in-Calls.is c.run_with-in-Calls.ensures.told

pub returns-in-Some-clause-told : goal.returns-in-Some-clause-told
returns-in-Some-clause-told g c =
    named_run _ _ c.args.how _ _ _ _ _ (Cache c.in-Some.cache.sets c.in-Some.cache.line) _
    (c.in-Cache.is ∙ ap (λ (n : ℕ). Cache c.in-Cache.sets n) (sym c.in-Some.ensures.line) ∙ ap (λ (n : ℕ). Cache n c.in-Some.cache.line) (sym c.in-Some.ensures.sets)) c.run_with-in-Some.ensures.told
