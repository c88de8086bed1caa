-- What a plan calls at each address, and where it keeps that.
use Rattle.std.specs.Prelude.{◌≡◌, ℕ, zero, suc, ◌+◌, ◌*◌, ◌/◌, ◌%◌, ◌^◌, ◌<◌, ◌≤◌, ◌==◌, Bool, not, List, [], length, slice_index, slice_index_or, slice_range, Option, None, Some, All, if◌then◌else◌}
use Rattle.insert_points.specs.Events.{Called}
use Rattle.insert_points.specs.Planned.{plan_calls}
use Rattle.insert_points.specs.declared.call.Call.{Call}
use Rattle.insert_points.specs.declared.call.Point.TheVariants.{Before, After, Taken}
use Rattle.insert_points.specs.declared.call.Thing.{Thing}
use Rattle.insert_points.specs.declared.call.Thing.TheVariants as things
use Rattle.insert_points.specs.declared.index.Site.{Site}
use Rattle.insert_points.specs.declared.plan.Found.{Found}
use Rattle.insert_points.specs.declared.plan.Placing.{Placing}
use Rattle.insert_points.specs.declared.plan.Placing.TheVariants as placings
use Rattle.insert_points.specs.declared.planned.PlannedCall.{PlannedCall}

-- `sites` stand in parts, each for as many addresses one word apart. `table` has the number of each part, counted from 1,
-- or 0 where an address has no site. `calls` are the calls of all sites
pub record PlanFields : Type 0 where
  pub table : List ℕ
  pub sites : List Site
  pub calls : List PlannedCall

-- where nothing is called
abbrev pub no_site : Site
no_site = record { routine = 0; block = 0; instruction = 0; routine_count = 0; block_count = 0; before = 0; after = 0; taken = 0 }

-- how many sites a part has
abbrev pub part_size : ℕ
part_size = 4096

-- addresses that are a multiple of 4 come first, and then the others: their number, part, and place in it
abbrev pub key_of : ℕ → ℕ
key_of a = a % 4 * 2 ^ 30 + a / 4

unfoldable pub part_of : ℕ → ℕ
part_of a = key_of a / part_size

unfoldable pub place_of : ℕ → ℕ
place_of a = key_of a % part_size

abbrev pub site_in_part : List Site → ℕ → ℕ → Site
site_in_part sites zero place = no_site
site_in_part sites (suc part) place = slice_index_or sites (part_size * part + place) no_site

abbrev pub site_at : List ℕ → List Site → ℕ → Site
site_at table sites a = site_in_part sites (slice_index table (part_of a)) (place_of a)

abbrev pub calls_from : List PlannedCall → ℕ → ℕ → List PlannedCall
calls_from calls start count = slice_range calls start (start + count)

-- the calls of a site: those of the instruction stand together
abbrev pub calls_of : List PlannedCall → Site → Called
calls_of calls site = record {
  routine = calls_from calls site.routine site.routine_count;
  block = calls_from calls site.block site.block_count;
  before = calls_from calls site.instruction site.before;
  after = calls_from calls (site.instruction + site.before) site.after;
  taken = calls_from calls (site.instruction + site.before + site.after) site.taken;
}

-- what is called at an address
unfoldable pub called_at : PlanFields → ℕ → Called
called_at plan a = calls_of plan.calls (site_at plan.table plan.sites a)

abbrev pub nothing_called : Called
nothing_called = record { routine = []; block = []; before = []; after = []; taken = [] }

-- something is called
abbrev pub is_called : Called → Bool
is_called called =
    not (length called.routine + length called.block + (length called.before + length called.after + length called.taken) == 0)

abbrev pub address_of : Thing → ℕ
address_of (things.Ins pc instr) = pc
address_of (things.Block block) = block.head
address_of (things.Routine start index) = start

-- what is called at a thing's address, once the thing has these calls: a block or a routine has those at Before alone
abbrev pub with_calls : Thing → List Call → Called → Called
with_calls (things.Ins pc instr) calls called = record called {
  before = plan_calls (Some instr.op) Before calls;
  after = plan_calls (Some instr.op) After calls;
  taken = plan_calls (Some instr.op) Taken calls;
}
with_calls (things.Block block) calls called = record called { block = plan_calls None Before calls }
with_calls (things.Routine start index) calls called = record called { routine = plan_calls None Before calls }

abbrev pub called_after : Thing → List Call → ℕ → Called → Called
called_after thing calls a called = if a == address_of thing then with_calls thing calls called else called

-- the parts of the table stand whole in the sites, and no two addresses share one
pub record IsIndex (table : List ℕ) (sites : List Site) : Type 0 where
  pub whole : length sites % part_size ≡ 0
  pub within : (p : ℕ) → part_size * slice_index table p ≤ length sites
  pub apart : (p q : ℕ) → 0 < slice_index table p → slice_index table p ≡ slice_index table q → p ≡ q

-- the calls of a site stand among n calls, and a thing has at most 8
pub record IsSite (n : ℕ) (site : Site) : Type 0 where
  pub routine : site.routine + site.routine_count ≤ n
  pub block : site.block + site.block_count ≤ n
  pub instruction : site.instruction + site.before + site.after + site.taken ≤ n
  pub few_routine : site.routine_count ≤ 8
  pub few_block : site.block_count ≤ 8
  pub few_instruction : site.before + site.after + site.taken ≤ 8

pub record IsPlan (plan : PlanFields) : Type 0 where
  pub index : IsIndex plan.table plan.sites
  pub sites : All (IsSite (length plan.calls)) plan.sites

-- a list of calls stands among all, from a place on
pub record StandsAt (calls : List PlannedCall) (start : ℕ) (list : List PlannedCall) : Type 0 where
  pub within : start + length list ≤ length calls
  pub there : calls_from calls start (length list) ≡ list

-- what is called at an address, once these calls are put there
abbrev pub called_by : Placing → List PlannedCall → Called → Called
called_by placings.Routine list called = record called { routine = list }
called_by placings.Block list called = record called { block = list }
called_by (placings.Instruction before after taken) list called = record called {
  before = calls_from list 0 before;
  after = calls_from list before after;
  taken = calls_from list (before + after) taken;
}

abbrev pub called_put : ℕ → Placing → List PlannedCall → ℕ → Called → Called
called_put at placing list a called = if a == at then called_by placing list called else called

-- the calls of an instruction are all of the list
abbrev pub Fits : Placing → ℕ → Type 0
Fits placings.Routine n = n ≤ 8
Fits placings.Block n = n ≤ 8
Fits (placings.Instruction before after taken) n = (n ≡ before + after + taken) × (n ≤ 8)

-- a site with calls put there
abbrev pub site_with : Placing → ℕ → ℕ → Site → Site
site_with placings.Routine start n site = record site { routine = start; routine_count = n }
site_with placings.Block start n site = record site { block = start; block_count = n }
site_with (placings.Instruction before after taken) start n site = record site { instruction = start; before = before; after = after; taken = taken }

-- a thing has at most 8 calls
pub record FewCalls (called : Called) : Type 0 where
  pub routine : length called.routine ≤ 8
  pub block : length called.block ≤ 8
  pub instruction : length called.before + length called.after + length called.taken ≤ 8

-- calls that were found at an address
abbrev pub found_calls : Found → Called
found_calls f = calls_of f.calls.now f.site.now

pub record IsFound (called : Called) (f : Found) : Type 0 where
  pub calls : called ≡ found_calls f
  pub site : IsSite (length f.calls.now) f.site.now
  pub few : FewCalls called

-- what a look for the calls at an address found
abbrev pub IsFoundAt : PlanFields → ℕ → Option Found → Type 0
IsFoundAt plan a None = called_at plan a ≡ nothing_called
IsFoundAt plan a (Some f) = IsFound (called_at plan a) f
