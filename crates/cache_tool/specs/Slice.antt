-- What a slice keeps, and what a cache becomes by its accesses.
use Rattle.std.specs.Prelude.{◌≡◌, ℕ, ◌+◌, ◌*◌, ◌^◌, ◌<◌, ◌≤◌, if◌then◌else◌, List, length, Option, Some, None}
use Rattle.std.proofs.Props.{props}
use Rattle.insert_points.specs.declared.call.Event.{Event}
use Rattle.tool_parts.specs.Effects.{IsEffect}
use Rattle.tool_parts.specs.Pairs.{sum_zip, zip_with}
use Rattle.cache_tool.specs.declared.slice.CacheSlice.{CacheSlice}
use Rattle.cache_tool.specs.declared.slice.Touched.{Touched}
use Rattle.cache_tool.specs.Cache.{Cache, keeps, step}

-- the line that a set keeps after the slice, by what it kept before
abbrev pub kept_after : Option Touched → Option ℕ → Option ℕ
kept_after None kept = kept
kept_after (Some t) kept = Some t.last

-- whether the slice's first access to a set hits or misses, by what the set kept before
abbrev pub first_hits : Option Touched → Option ℕ → ℕ
first_hits None kept = 0
first_hits (Some t) kept = if keeps kept t.first then 1 else 0

abbrev pub first_misses : Option Touched → Option ℕ → ℕ
first_misses None kept = 0
first_misses (Some t) kept = if keeps kept t.first then 0 else 1

-- what a cache becomes by a slice that touched its sets so: the slice's hits and misses, and those of its first access to each set
abbrev pub settled : List (Option Touched) → ℕ → ℕ → Cache → Cache
settled touched hits misses c = record {
  kept = zip_with kept_after touched c.kept;
  hits = c.hits + hits + sum_zip first_hits touched c.kept;
  misses = c.misses + misses + sum_zip first_misses touched c.kept;
}

abbrev pub HasSets : ℕ → Cache → Type 0
HasSets sets c = length c.kept ≡ sets

-- the slice knows the sizes, and what every cache of that many sets becomes by the events
pub record IsSlice (sets bytes : ℕ) (ys : List Event) (slice : CacheSlice) : Type 0 where
  pub few_bits : slice.line_bits < 32
  pub line_is : 2 ^ slice.line_bits ≡ bytes
  pub mask_is : slice.set_mask + 1 ≡ sets
  pub sized : length slice.touched.items ≡ sets
  pub bounded : slice.hits + slice.misses ≤ 2 * length ys
  pub exact : IsEffect (step sets bytes) (HasSets sets) ys (settled slice.touched.items slice.hits slice.misses)

pub IsSlice-prop : (sets bytes : ℕ) (ys : List Event) (slice : CacheSlice) → IsProp (IsSlice sets bytes ys slice)
IsSlice-prop sets bytes ys slice = hlevel props
