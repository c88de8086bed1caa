-- Which addresses the areas of a guest's memory hold, and what may be done there.
use Rattle.std.specs.Prelude.{ℕ, ◌+◌, ◌-◌, ◌*◌, ◌/◌, ◌%◌, ◌^◌, Bool, ◌&&◌, List, nat_lt, nat_le}
use Rattle.std.specs.List.{list_any, list_all, range_with_len}
use Rattle.guest_model.specs.declared.platform.TheConstants.{PAGE_SIZE}
use Rattle.guest_model.specs.declared.Area.{Area}
use Rattle.guest_model.specs.declared.Access.{Access}
use Rattle.guest_model.specs.declared.Access.TheVariants.{Read, Write, Execute}

-- an address is a number modulo 2^32 (RISC-V unprivileged manual, "Memory")
abbrev pub wrap : ℕ → ℕ
wrap a = a % 2 ^ 32

-- an address rounded down, and rounded up, to whole pages
abbrev pub rounded_down : ℕ → ℕ
rounded_down a = a / PAGE_SIZE * PAGE_SIZE

abbrev pub rounded_up : ℕ → ℕ
rounded_up a = (a + (PAGE_SIZE - 1)) / PAGE_SIZE * PAGE_SIZE

-- whether the area holds the address
abbrev pub holds : Area → ℕ → Bool
holds area a = nat_le area.start a && nat_lt a area.end

abbrev pub permits : Access → Area → Bool
permits Read area = area.read
permits Write area = area.write
permits Execute area = area.execute

-- whether the address lies in an area
abbrev pub is_mapped : List Area → ℕ → Bool
is_mapped areas a = list_any (λ area. holds area a) areas

-- whether it lies in an area with the permission
abbrev pub is_permitted : Access → List Area → ℕ → Bool
is_permitted access areas a = list_any (λ area. permits access area && holds area a) areas

-- whether each of the n addresses from a on, modulo 2^32, lies in an area with the permission
unfoldable pub all_permitted : Access → List Area → ℕ → ℕ → Bool
all_permitted access areas a n = list_all (λ i. is_permitted access areas (wrap (a + i))) (range_with_len 0 n)

-- the same of a range that must not pass 2^32, as a call's buffer
unfoldable pub is_range_permitted : Access → List Area → ℕ → ℕ → Bool
is_range_permitted access areas a n = nat_le (a + n) (2 ^ 32) && all_permitted access areas a n
