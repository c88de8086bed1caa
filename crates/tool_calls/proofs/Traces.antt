-- Slices of a trace: the calls of a slice, and a slice settled on the trace of what came before.
use Rattle.std.proofs.Common.{◌≡◌, ◌∙◌, ℕ, ◌+◌, ◌<◌, ◌≤◌, ◌==◌, Bool, true, false, List, [], ◌∷◌, ◌++◌, length, map, get_or, take, sym, ap, arith, append_assoc, slice_index}
use Rattle.std.specs.Prelude.{if◌then◌else◌}
use Rattle.std.proofs.lemmas.List.{map-append, take_more}
use Rattle.insert_points.specs.declared.call.Event.{Event}
use Rattle.tool_parts.proofs.Effects.{all-le, effect_merged}
use Rattle.tool_calls.specs.declared.slice.Called.{Called}
use Rattle.tool_calls.specs.declared.slice.Relative.{Relative}
use Rattle.tool_calls.specs.Trace.{Trace, empty, pop, push, step, trace}
use Rattle.tool_calls.specs.Slice.{IsAny, IsSlice, placed, settled}

-- one more call of a slice is placed
pub added : (d : ℕ) (rs : List Relative) (i : ℕ) (r : Relative) (before was now : List Called) → i < length rs
    → now ≡ was ++ placed d (get_or rs i r) ∷ [] → was ≡ before ++ map (placed d) (take i rs) → now ≡ before ++ map (placed d) (take (i + 1) rs)
added d rs i r before was now within last so_far =
    last ∙ ap (λ l. l ++ placed d (get_or rs i r) ∷ []) so_far ∙ append_assoc before (map (placed d) (take i rs)) (placed d (get_or rs i r) ∷ [])
    ∙ ap (λ l. before ++ l) (sym (map-append (placed d) (take i rs) (get_or rs i r ∷ [])) ∙ ap (map (placed d)) (sym (take_more rs i r within)))

pub Trace-eq : (l l' : List Called) (d d' : ℕ) → l ≡ l' → d ≡ d' → ◌≡◌ {A = Trace} (record { calls = l; depth = d }) (record { calls = l'; depth = d' })
Trace-eq l l' d d' p q = cc

depth-step : (t : Trace) (e : Event) → (step t e).depth ≤ t.depth + 1
depth-step t e = by (e.number == 0) (e.number == 1) (e.number == 2)
  where
    by : (a b c : Bool) → (if a then push t (slice_index e.args 0) (slice_index e.args 1) else if b then pop t else if c then push (pop t) (slice_index e.args 0) (slice_index e.args 1) else t).depth ≤ t.depth + 1
    by true b c = omega arith
    by false true c = omega arith
    by false false true = omega arith
    by false false false = omega arith

module _ (xs ys : List Event) (t : Trace) (is : t ≡ trace xs) where
  pub depth-traced : t.depth ≤ length xs
  depth-traced = omega (arith, all-le step (λ t. t.depth) 1 depth-step empty xs, ap (λ t. t.depth) is)

  -- what a slice says of the trace of xs is the trace of xs and the slice's events
  pub merged : (calls : List Relative) (below above : ℕ) → IsSlice ys calls below above → settled calls below above t ≡ trace (xs ++ ys)
  merged calls below above r = effect_merged step IsAny empty xs ys (settled calls below above) t is tt r.exact
