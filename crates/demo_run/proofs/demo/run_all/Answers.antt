use Rattle.std.proofs.Common.{ℕ, List, ap, ◌∙◌}
use Rattle.cache_tool.specs.Cache.{simulate}
use Rattle.cache_tool.specs.Calls.{cache_calls}
use Rattle.cache_tool.specs.Text.{cache_text}
use Rattle.demo_run.specs.Demo.{tool_text}
use Rattle.demo_run.proofs.demo.run_all.Goals as goal

pub returns : goal.returns
returns g c =
    let text : ℕ → ℕ → List ℕ = λ sets line. tool_text c.args.image.now cache_calls (λ xs. cache_text sets line (simulate sets line xs)) in
    let cache = c.in-Ok-both-2.ensures.2 ∙ ap (λ (sets : ℕ). text sets c.default.result.line) c.default.ensures.0 ∙ ap (λ (line : ℕ). text 64 line) c.default.ensures.1 in
    (c.in-Ok.ensures.2, c.in-Ok-both.ensures.2, cache, c.in-Ok-both-2.ensures.1)
