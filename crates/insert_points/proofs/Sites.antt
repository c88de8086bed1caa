-- Sites of addresses: as a part gets its sites, and as one is set.
use Rattle.std.proofs.Common.{◌≡◌, ◌≢◌, ◌+◌, ◌-◌, ◌*◌, ◌/◌, ◌%◌, ◌^◌, ◌≤◌, ◌<◌, ◌∙◌, ◌==◌, ◌++◌, ℕ, zero, suc, true, false, List, length, get_or, ap, arith, refl, sym, inl, inr, replicate, if◌then◌else◌, sub-one}
use Rattle.std.specs.Prelude.{◌⊎◌, slice_index, slice_index_or, slice_set}
use Rattle.std.proofs.lemmas.Bool.{cases_lt, cases_eq}
use Rattle.std.proofs.lemmas.Bool.Decides.{nat_tests}
use Rattle.std.proofs.lemmas.List.{get_or_past, get_or_read, get_or-replicate, get_or-append_right, get_or_append_left, get_or-set_same, get_or-set_other, length-replicate}
use Rattle.insert_points.specs.Plan.{IsIndex, no_site, part_of, part_size, place_of, site_at, site_in_part}
use Rattle.insert_points.specs.declared.index.Site.{Site}

place_below : (a : ℕ) → place_of a < part_size
unfolding place_of
place_below a = omega arith

-- an address has a part and a place of its own
only_one : (a b : ℕ) → a < 2 ^ 32 → b < 2 ^ 32 → part_of a ≡ part_of b → place_of a ≡ place_of b → a ≡ b
unfolding part_of place_of
only_one a b ha hb p q = omega arith

-- new sites are empty
new_site : (sites : List Site) (k i : ℕ) → length sites ≤ i → slice_index_or (sites ++ replicate k no_site) i no_site ≡ no_site
new_site sites k i h = get_or-append_right sites (replicate k no_site) (length sites) i no_site refl h ∙ go (cases_lt (i - length sites) k)
  where
    go : ((i - length sites) < k) ⊎ (k ≤ (i - length sites)) → get_or (replicate k no_site) (i - length sites) no_site ≡ no_site
    go (inl less) = get_or-replicate k (i - length sites) no_site no_site less
    go (inr more) = get_or_past (replicate k no_site) (i - length sites) no_site (rw length-replicate more)

old_part : (sites : List Site) (k n place : ℕ) → place < part_size → part_size * n ≤ length sites → site_in_part (sites ++ replicate k no_site) n place ≡ site_in_part sites n place
old_part sites k zero place small within = refl
old_part sites k (suc n) place small within = get_or_append_left sites (replicate k no_site) no_site (part_size * n + place) (omega arith)

new_part : (sites : List Site) (k n number place : ℕ) → length sites % part_size ≡ 0 → number ≡ length sites / part_size + 1 → n ≡ 0
    → site_in_part (sites ++ replicate k no_site) number place ≡ site_in_part sites n place
new_part sites k n zero place whole e f = absurd (omega arith)
new_part sites k n (suc number) place whole e f = new_site sites k (part_size * number + place) (omega arith) ∙ ap (λ m. site_in_part sites m place) (sym f)

pub give_same : (table : List ℕ) (sites : List Site) (part number k : ℕ) → IsIndex table sites → part < length table → slice_index table part ≡ 0
    → number ≡ length sites / part_size + 1 → (a : ℕ) → site_at (slice_set table part number) (sites ++ replicate k no_site) a ≡ site_at table sites a
give_same table sites part number k h within none is a = go (cases_eq (part_of a) part)
  where
    go : (part_of a ≡ part) ⊎ (part_of a ≢ part) → site_at (slice_set table part number) (sites ++ replicate k no_site) a ≡ site_at table sites a
    go (inl e) =
        let set : slice_index (slice_set table part number) (part_of a) ≡ number = rw e (get_or-set_same table part number 0 within) in
        let was : slice_index table (part_of a) ≡ 0 = rw e none in
        ap (λ n. site_in_part (sites ++ replicate k no_site) n (place_of a)) set ∙ new_part sites k (slice_index table (part_of a)) number (place_of a) h.whole is was
    go (inr ne) =
        ap (λ n. site_in_part (sites ++ replicate k no_site) n (place_of a)) (get_or-set_other table part (part_of a) number 0 ne)
        ∙ old_part sites k (slice_index table (part_of a)) (place_of a) (place_below a) (h.within (part_of a))

set_here : (sites : List Site) (n place : ℕ) (site : Site) → 0 < n → place < part_size → part_size * n ≤ length sites
    → site_in_part (slice_set sites (part_size * (n - 1) + place) site) n place ≡ site
set_here sites zero place site some small within = absurd (omega arith)
set_here sites (suc n) place site some small within = rw sub-one (get_or-set_same sites (part_size * n + place) site no_site (omega arith))

set_there : (sites : List Site) (i n place : ℕ) (site : Site) → (0 < n → part_size * (n - 1) + place ≢ i) → site_in_part (slice_set sites i site) n place ≡ site_in_part sites n place
set_there sites i zero place site other = refl
set_there sites i (suc n) place site other =
    let differs : part_size * n + place ≢ i = rw sub-one at (other (omega arith)) in
    get_or-set_other sites i (part_size * n + place) site no_site differs

pub set_site : (table : List ℕ) (sites : List Site) (at : ℕ) (site : Site) → IsIndex table sites → 0 < slice_index table (part_of at) → at < 2 ^ 32
    → (a : ℕ) → a < 2 ^ 32 → site_at table (slice_set sites (part_size * (slice_index table (part_of at) - 1) + place_of at) site) a ≡ (if a == at then site else site_at table sites a)
set_site table sites at site h some at_fits a fits = go (cases_eq a at)
  where
    i : ℕ
    i = part_size * (slice_index table (part_of at) - 1) + place_of at

    differs : a ≢ at → 0 < slice_index table (part_of a) → part_size * (slice_index table (part_of a) - 1) + place_of a ≢ i
    differs ne here e =
        let small = place_below a in
        let small_too = place_below at in
        let same : slice_index table (part_of a) ≡ slice_index table (part_of at) = omega arith in
        let place : place_of a ≡ place_of at = omega arith in
        ne (only_one a at fits at_fits (h.apart (part_of a) (part_of at) here same) place)

    go : (a ≡ at) ⊎ (a ≢ at) → site_at table (slice_set sites i site) a ≡ (if a == at then site else site_at table sites a)
    go (inl e) =
        let test : (a == at) ≡ true = grind (arith, nat_tests) in
        rw (test, e) (set_here sites (slice_index table (part_of at)) (place_of at) site some (place_below at) (h.within (part_of at)))
    go (inr ne) =
        let test : (a == at) ≡ false = grind (arith, nat_tests) in
        rw test (set_there sites i (slice_index table (part_of a)) (place_of a) site (differs ne))

-- what a read of an entry that is not 0 gives
pub read_some : (table : List ℕ) (p r : ℕ) → 0 < slice_index table p → r ≡ get_or table p r → r ≡ slice_index table p
read_some table p r some read = go (cases_lt p (length table))
  where
    go : (p < length table) ⊎ (length table ≤ p) → r ≡ slice_index table p
    go (inl within) = get_or_read table p r within read 0
    go (inr past) = let none = get_or_past table p 0 past in absurd (omega (arith, none))
