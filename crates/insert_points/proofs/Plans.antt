-- What a plan calls, as calls are added and sites are set.
use Rattle.std.proofs.Common.{◌≡◌, ◌≢◌, ◌+◌, ◌-◌, ◌*◌, ◌≤◌, ◌<◌, ◌∙◌, ◌==◌, ℕ, zero, suc, true, false, List, [], length, take, drop, ap, arith, refl, sym, subst, inl, inr, if◌then◌else◌}
use Rattle.std.specs.Prelude.{◌⊎◌, All, Err, Ok, OnErr, Result, slice_index, slice_index_or}
use Rattle.std.proofs.lemmas.Bool.{cases_eq, cases_lt}
use Rattle.std.proofs.lemmas.Bool.Decides.{nat_tests}
use Rattle.std.proofs.lemmas.List.{drop-take, drop-drop, take-take, length-take, get_or_past, drop_all, take_all}
use Rattle.std.proofs.lemmas.List.Elements.{All-get_or, All-weaker}
use Rattle.insert_points.specs.Plan.{Fits, IsSite, PlanFields, StandsAt, called_at, called_by, called_put, calls_from, calls_of, no_site, part_of, part_size, place_of, site_at, site_in_part, site_with}
use Rattle.insert_points.specs.declared.index.Site.{Site}
use Rattle.insert_points.specs.declared.plan.Placing.{Placing}
use Rattle.insert_points.specs.declared.plan.Placing.TheVariants as placings
use Rattle.insert_points.specs.declared.planned.PlannedCall.{PlannedCall}

-- a range of a list that is itself a range
inner : (xs : List PlannedCall) (from n i m : ℕ) → i + m ≤ n → take m (drop i (take n (drop from xs))) ≡ take m (drop (from + i) xs)
inner xs from n i m h =
    let ys = drop from xs in
    let split : n ≡ i + (n - i) = omega arith in
    ap (λ k. take m (drop i (take k ys))) split
    ∙ ap (take m) (drop-take i (n - i) ys)
    ∙ take-take m (n - i) (drop i ys) (omega arith)
    ∙ ap (take m) (drop-drop i from xs)

range : (xs : List PlannedCall) (from n : ℕ) → calls_from xs from n ≡ take n (drop from xs)
range xs from n = let count : from + n - from ≡ n = omega arith in ap (λ k. take k (drop from xs)) count

part_of_list : (xs list : List PlannedCall) (start n i m : ℕ) → calls_from xs start n ≡ list → i + m ≤ n → calls_from xs (start + i) m ≡ calls_from list i m
part_of_list xs list start n i m there h =
    range xs (start + i) m
    ∙ sym (inner xs start n i m h)
    ∙ ap (λ ys. take m (drop i ys)) (sym (range xs start n) ∙ there)
    ∙ sym (range list i m)

first_of_list : (xs list : List PlannedCall) (start n m : ℕ) → calls_from xs start n ≡ list → m ≤ n → calls_from xs start m ≡ calls_from list 0 m
first_of_list xs list start n m there h =
    let same : start ≡ start + 0 = omega arith in
    ap (λ s. calls_from xs s m) same ∙ part_of_list xs list start n 0 m there (omega arith)

-- what stood keeps its place where more is added
kept_range : (old new : List PlannedCall) (from n : ℕ) → take (length old) new ≡ old → from + n ≤ length old → calls_from new from n ≡ calls_from old from n
kept_range old new from n kept h =
    range new from n
    ∙ sym (take-take n (length old - from) (drop from new) (omega arith))
    ∙ ap (take n) (sym (drop-take from (length old - from) new))
    ∙ ap (λ k. take n (drop from (take k new))) (omega arith)
    ∙ ap (λ xs. take n (drop from xs)) kept
    ∙ sym (range old from n)

pub kept_length : (old new : List PlannedCall) → take (length old) new ≡ old → length old ≤ length new
kept_length old new kept = let len = sym (length-take (length old) new) ∙ ap length kept in omega (arith, len)

kept_calls : (old new : List PlannedCall) (site : Site) → take (length old) new ≡ old → IsSite (length old) site → calls_of new site ≡ calls_of old site
kept_calls old new site kept h =
    let routine = kept_range old new site.routine site.routine_count kept h.routine in
    let block = kept_range old new site.block site.block_count kept h.block in
    let before = kept_range old new site.instruction site.before kept (omega (arith, h.instruction)) in
    let after = kept_range old new (site.instruction + site.before) site.after kept (omega (arith, h.instruction)) in
    let taken = kept_range old new (site.instruction + site.before + site.after) site.taken kept (omega (arith, h.instruction)) in
    rw (routine, block, before, after, taken) refl

longer : (m n : ℕ) → m ≤ n → (site : Site) → IsSite m site → IsSite n site
longer m n h site s = record {
  routine = omega (arith, s.routine);
  block = omega (arith, s.block);
  instruction = omega (arith, s.instruction);
  few_routine = s.few_routine;
  few_block = s.few_block;
  few_instruction = s.few_instruction;
}

pub sites_longer : (old new : List PlannedCall) (sites : List Site) → take (length old) new ≡ old → All (IsSite (length old)) sites → All (IsSite (length new)) sites
sites_longer old new sites kept all = All-weaker (IsSite (length old)) (IsSite (length new)) (longer (length old) (length new) (kept_length old new kept)) sites all

no_site_sound : (n : ℕ) → IsSite n no_site
no_site_sound n = record {
  routine = omega arith;
  block = omega arith;
  instruction = omega arith;
  few_routine = omega arith;
  few_block = omega arith;
  few_instruction = omega arith;
}

in_part_sound : (n part place : ℕ) (sites : List Site) → All (IsSite n) sites → IsSite n (site_in_part sites part place)
in_part_sound n zero place sites all = no_site_sound n
in_part_sound n (suc part) place sites all = go (cases_lt (part_size * part + place) (length sites))
  where
    go : (part_size * part + place < length sites) ⊎ (length sites ≤ part_size * part + place) → IsSite n (slice_index_or sites (part_size * part + place) no_site)
    go (inl within) = All-get_or (IsSite n) sites (part_size * part + place) no_site within all
    go (inr past) = subst (IsSite n) (sym (get_or_past sites (part_size * part + place) no_site past)) (no_site_sound n)

pub site_sound : (n : ℕ) (table : List ℕ) (sites : List Site) (a : ℕ) → All (IsSite n) sites → IsSite n (site_at table sites a)
site_sound n table sites a all = in_part_sound n (slice_index table (part_of a)) (place_of a) sites all

abbrev pub plan : List ℕ → List Site → List PlannedCall → PlanFields
plan table sites calls = record { table = table; sites = sites; calls = calls }

-- with the sites as they were, more calls change nothing
pub kept_plan : (table new_table : List ℕ) (sites new_sites : List Site) (calls new_calls : List PlannedCall) (a : ℕ) → All (IsSite (length calls)) sites
    → take (length calls) new_calls ≡ calls → site_at new_table new_sites a ≡ site_at table sites a → called_at (plan new_table new_sites new_calls) a ≡ called_at (plan table sites calls) a
unfolding called_at
kept_plan table new_table sites new_sites calls new_calls a all kept same =
    ap (calls_of new_calls) same ∙ kept_calls calls new_calls (site_at table sites a) kept (site_sound (length calls) table sites a all)

-- a site at which calls were put
put_calls : (old new list : List PlannedCall) (placing : Placing) (start : ℕ) (site : Site) → take (length old) new ≡ old → IsSite (length old) site → StandsAt new start list → Fits placing (length list)
    → calls_of new (site_with placing start (length list) site) ≡ called_by placing list (calls_of old site)
put_calls old new list placings.Routine start site kept h s fits =
    let block = kept_range old new site.block site.block_count kept h.block in
    let before = kept_range old new site.instruction site.before kept (omega (arith, h.instruction)) in
    let after = kept_range old new (site.instruction + site.before) site.after kept (omega (arith, h.instruction)) in
    let taken = kept_range old new (site.instruction + site.before + site.after) site.taken kept (omega (arith, h.instruction)) in
    rw (s.there, block, before, after, taken) refl
put_calls old new list placings.Block start site kept h s fits =
    let routine = kept_range old new site.routine site.routine_count kept h.routine in
    let before = kept_range old new site.instruction site.before kept (omega (arith, h.instruction)) in
    let after = kept_range old new (site.instruction + site.before) site.after kept (omega (arith, h.instruction)) in
    let taken = kept_range old new (site.instruction + site.before + site.after) site.taken kept (omega (arith, h.instruction)) in
    rw (s.there, routine, before, after, taken) refl
put_calls old new list (placings.Instruction before after taken) start site kept h s fits =
    let routine = kept_range old new site.routine site.routine_count kept h.routine in
    let block = kept_range old new site.block site.block_count kept h.block in
    let first = first_of_list new list start (length list) before s.there (omega (arith, fits.0)) in
    let second = part_of_list new list start (length list) before after s.there (omega (arith, fits.0)) in
    let place : start + before + after ≡ start + (before + after) = omega arith in
    let third = ap (λ from. calls_from new from taken) place ∙ part_of_list new list start (length list) (before + after) taken s.there (omega (arith, fits.0)) in
    rw (routine, block, first, second, third) refl

pub put_sound : (start : ℕ) (calls list : List PlannedCall) (placing : Placing) (site : Site) → IsSite (length calls) site → StandsAt calls start list → Fits placing (length list)
    → IsSite (length calls) (site_with placing start (length list) site)
put_sound start calls list placings.Routine site h s fits = record {
  routine = s.within;
  block = h.block;
  instruction = h.instruction;
  few_routine = fits;
  few_block = h.few_block;
  few_instruction = h.few_instruction;
}
put_sound start calls list placings.Block site h s fits = record {
  routine = h.routine;
  block = s.within;
  instruction = h.instruction;
  few_routine = h.few_routine;
  few_block = fits;
  few_instruction = h.few_instruction;
}
put_sound start calls list (placings.Instruction before after taken) site h s fits = record {
  routine = h.routine;
  block = h.block;
  instruction = omega (arith, s.within, fits.0);
  few_routine = h.few_routine;
  few_block = h.few_block;
  few_instruction = omega (arith, fits.0, fits.1);
}

-- calls put at an address are called there, and elsewhere nothing changes
pub put_plan : (table new_table : List ℕ) (sites new_sites : List Site) (calls new_calls list : List PlannedCall) (at : ℕ) (placing : Placing) (start a : ℕ) → All (IsSite (length calls)) sites
    → take (length calls) new_calls ≡ calls → StandsAt new_calls start list → Fits placing (length list)
    → site_at new_table new_sites a ≡ (if a == at then site_with placing start (length list) (site_at table sites at) else site_at table sites a)
    → called_at (plan new_table new_sites new_calls) a ≡ called_put at placing list a (called_at (plan table sites calls) a)
unfolding called_at
put_plan table new_table sites new_sites calls new_calls list at placing start a all kept s fits set = go (cases_eq a at)
  where
    go : (a ≡ at) ⊎ (a ≢ at) → calls_of new_calls (site_at new_table new_sites a) ≡ called_put at placing list a (calls_of calls (site_at table sites a))
    go (inl e) =
        let test : (a == at) ≡ true = grind (arith, nat_tests) in
        let here : site_at new_table new_sites a ≡ site_with placing start (length list) (site_at table sites at) = set ∙ rw test refl in
        ap (calls_of new_calls) here
        ∙ put_calls calls new_calls list placing start (site_at table sites at) kept (site_sound (length calls) table sites at all) s fits
        ∙ ap (λ b. called_by placing list (calls_of calls (site_at table sites b))) (sym e)
        ∙ rw test refl
    go (inr ne) =
        let test : (a == at) ≡ false = grind (arith, nat_tests) in
        let here : site_at new_table new_sites a ≡ site_at table sites a = set ∙ rw test refl in
        ap (calls_of new_calls) here
        ∙ kept_calls calls new_calls (site_at table sites a) kept (site_sound (length calls) table sites a all)
        ∙ rw test refl

nil_range : (i m : ℕ) → calls_from [] i m ≡ []
nil_range i m = ap (take (i + m - i)) (drop_all i [] (omega arith)) ∙ take_all (i + m - i) [] (omega arith)

-- no calls put where nothing is called
none_put : (calls list : List PlannedCall) (placing : Placing) → list ≡ [] → calls_of calls no_site ≡ called_by placing list (calls_of calls no_site)
none_put calls list placings.Routine e = rw e refl
none_put calls list placings.Block e = rw e refl
none_put calls list (placings.Instruction before after taken) e = rw (e, nil_range 0 before, nil_range before after, nil_range (before + after) taken) refl

pub skip_plan : (p : PlanFields) (list : List PlannedCall) (at : ℕ) (placing : Placing) (a : ℕ) → list ≡ [] → site_at p.table p.sites at ≡ no_site
    → called_at p a ≡ called_put at placing list a (called_at p a)
unfolding called_at
skip_plan p list at placing a e none = go (cases_eq a at)
  where
    go : (a ≡ at) ⊎ (a ≢ at) → calls_of p.calls (site_at p.table p.sites a) ≡ called_put at placing list a (calls_of p.calls (site_at p.table p.sites a))
    go (inl same) =
        let test : (a == at) ≡ true = grind (arith, nat_tests) in
        let here : site_at p.table p.sites a ≡ no_site = ap (λ b. site_at p.table p.sites b) same ∙ none in
        rw (test, here) (none_put p.calls list placing e)
    go (inr ne) =
        let test : (a == at) ≡ false = grind (arith, nat_tests) in
        rw test refl

pub on_err : {T E : Type 0} {P : Type 0} (r : Result T E) → P → OnErr r P
on_err (Ok x) p = tt
on_err (Err e) p = p
